-- Loading what was saved gives the plan again, but for its kept edits. Assumes nothing.
use Prim.Native.Nat.{ℕ, suc, ◌+◌, ◌-◌, ◌%◌, ◌<◌}
use mathlib.Core.Path.{◌≡◌, refl, ap, ap₂}
use mathlib.Core.Bool.{not, ◌&&◌}
use mathlib.Core.List.{List, [], ◌∷◌, ◌++◌, map, append_assoc, append-nil}
use native.Mathlib.Omega.{arith}
use borrow.Author.Tests.{le-leb, eq-eqb, ne_eqb}
use lib.Dec.{T, eqb}
use lib.IntN.{ℤ, pos}
use lib.ListN.{length, length-append}
use lib.Seq.{take_at}
use Rattle.protocol.specs.Lists.{one_to, neg, within, all}
use Rattle.protocol.specs.Plan.{value_limit, gap_limit, Rule, Plan, in_range}
use Rattle.protocol.specs.Calls.{measure, open_plan, fine, first, first_values, ok, start}
use Rattle.protocol.proofs.Laws.{yes_is, both, and_in, range, pass}
use Rattle.file.specs.Bytes.{two_bytes, four_bytes, complement, two_at, four_at, signed_at, measure_kind, rule_kind, mark, kind_bits, firm_bit, high_bits}
use Rattle.file.specs.Saved.{slot_zero, measure_slot, rule_slot, start_at, slots_from, chains, heading, check_word, file_of, saved}
use Rattle.file.specs.Loaded.{slot_limit, next_limit, slot_in, slots, next_in, mark_in, zero_from, value_in, rule_in, clear_measure, clear_rule, first_slot, measure_chain, rule_chain, met, next_number, sized, balanced, leaves_file, meets_twice, marked, well_marked, misses_slot, clear, numbered, read_checks, drawing, load}
use Rattle.file.specs.Promises.{rising_from, whole_with, without_kept}
use Rattle.file.specs.Savable.{drawable, Savable}
use Rattle.file.proofs.Words.{two_sum, four_sum, short_within, complement_below, signed_back, mark-kind, mark-firm, mark_high}
use Rattle.file.proofs.Sums.{measure_16, rule_16, heading_16, length-slots, file-length, file-total}
use Rattle.file.proofs.Chains.{start_most, rising_add, rising_stays, rising_once, rising_full, Laid, laid, followed, read_back, test_back}
use Rattle.file.proofs.Drawn.{fine-is, rule_call, drawing_goes}

-- ---- what is read from a slot that was written

measure-next : (n : ℕ) (v : ℤ) → n < 65_536 → next_in (measure_slot n v) ≡ n
unfolding measure_slot two_bytes four_bytes two_at
measure-next n v h = two_sum n h

rule-next : (n : ℕ) (r : Rule) → n < 65_536 → next_in (rule_slot n r) ≡ n
unfolding rule_slot two_bytes four_bytes two_at
rule-next n r h = two_sum n h

measure_read : (n : ℕ) (v : ℤ) → T (in_range v) → measure (value_in (measure_slot n v)) ≡ measure v
unfolding measure_slot two_bytes four_bytes two_at four_at signed_at
measure_read n v t =
    let s = short_within value_limit v (omega arith) t in
    rw (four_sum (complement v) (complement_below v s), signed_back v s)

rule_read : (k : ℕ) (n : ℕ) (r : Rule) → k < 65_536 → T (drawable k r) → rule_in (rule_slot n r) ≡ rule_call r
unfolding rule_slot two_bytes four_bytes two_at four_at signed_at drawable
rule_read k n r h t =
    let gap = within (neg gap_limit) (pos gap_limit) r.gap in
    let other = not (eqb r.lower r.upper) in
    let c = both (one_to k r.lower && one_to k r.upper && other) gap t in
    let b = both (one_to k r.lower && one_to k r.upper) other c.0 in
    let a = both (one_to k r.lower) (one_to k r.upper) b.0 in
    let i = range k r.lower a.0 in
    let j = range k r.upper a.1 in
    let s = short_within gap_limit r.gap (omega arith) c.1 in
    let gap_back = four_sum (complement r.gap) (complement_below r.gap s) in
    rw (two_sum r.lower (omega arith), two_sum r.upper (omega arith), gap_back, signed_back r.gap s, mark-firm rule_kind r.firm (omega arith))

measure-marked : (n : ℕ) (v : ℤ) → T (eqb (kind_bits (mark_in (measure_slot n v))) measure_kind)
unfolding measure_slot two_bytes four_bytes kind_bits mark
measure-marked n v = tt

rule-marked : (n : ℕ) (r : Rule) → T (eqb (kind_bits (mark_in (rule_slot n r))) rule_kind)
unfolding rule_slot two_bytes four_bytes
rule-marked n r = rw (mark-kind rule_kind r.firm (omega arith)) tt

measure-clear : (n : ℕ) (v : ℤ) → T (clear_measure (measure_slot n v))
unfolding clear_measure measure_slot two_bytes four_bytes mark high_bits firm_bit
measure-clear n v = tt

rule-clear : (n : ℕ) (r : Rule) → T (clear_rule (rule_slot n r))
unfolding clear_rule rule_slot two_bytes four_bytes
rule-clear n r = rw (mark_high rule_kind r.firm (omega arith)) tt

-- ---- the file of a savable plan

module _ (vs : List ℤ) (rs : List Rule) (next : ℕ) (s : Savable vs rs next) where
  abbrev file : List ℕ
  file = file_of vs rs next

  abbrev count : ℕ
  count = length vs + length rs

  slots-is : slots file ≡ suc count
  slots-is = let e = file-length vs rs next in omega arith

  head-is : first_slot file ≡ heading vs rs next (check_word vs rs next)
  unfolding slot_in file_of
  head-is = take_at (heading vs rs next (check_word vs rs next)) (chains vs rs next) 16 (heading_16 vs rs next (check_word vs rs next))

  -- slot 0, field by field

  first-measure : two_at (first_slot file) 0 ≡ start_at 1 vs
  unfolding slot_zero two_bytes four_bytes two_at
  first-measure = let m = start_most 1 vs in rw head-is (two_sum (start_at 1 vs) (omega arith))

  first-rule : two_at (first_slot file) 2 ≡ start_at (suc (length vs)) rs
  unfolding slot_zero two_bytes four_bytes two_at
  first-rule = let m = start_most (suc (length vs)) rs in rw head-is (two_sum (start_at (suc (length vs)) rs) (omega (arith, s.measures)))

  number_is : next_number file ≡ next
  unfolding slot_zero two_bytes four_bytes two_at four_at
  number_is = let r = range next_limit next s.number in rw head-is (four_sum next (omega arith))

  count-is : two_at (first_slot file) 12 ≡ suc count
  unfolding slot_zero two_bytes four_bytes two_at
  count-is = rw head-is (two_sum (suc count) (omega (arith, s.measures, s.rules)))

  -- the chains

  measures_laid : Laid measure_slot file 1 vs
  unfolding file_of
  measures_laid = laid measure_slot measure_16 file (heading vs rs next (check_word vs rs next)) 1 vs (slots_from rule_slot (suc (length vs)) rs) refl (heading_16 vs rs next (check_word vs rs next))

  rules_laid : Laid rule_slot file (suc (length vs)) rs
  unfolding file_of
  rules_laid =
      let h = heading vs rs next (check_word vs rs next) in
      let m = slots_from measure_slot 1 vs in
      let r = slots_from rule_slot (suc (length vs)) rs in
      let a = length-append h m in
      let b = heading_16 vs rs next (check_word vs rs next) in
      let c = length-slots measure_slot measure_16 1 vs in
      laid rule_slot rule_16 file (h ++ m) (suc (length vs)) rs [] (rw (append-nil r, append_assoc h m r)) (omega arith)

  measures-met : measure_chain file ≡ rising_from 1 (length vs)
  measures-met = rw (slots-is, first-measure) (followed measure_slot measure-next file 1 vs (suc count) measures_laid (omega arith) (omega (arith, s.measures)) (omega arith))

  rules-met : rule_chain file ≡ rising_from (suc (length vs)) (length rs)
  rules-met = rw (slots-is, first-rule) (followed rule_slot rule-next file (suc (length vs)) rs (suc count) rules_laid (omega arith) (omega (arith, s.measures, s.rules)) (omega arith))

  all-met : met file ≡ rising_from 1 count
  all-met = let e : 1 + length vs ≡ suc (length vs) = omega arith in rw (measures-met, rules-met, ← e) (rising_add 1 (length vs) (length rs))

  -- the checks

  is-sized : T (sized file)
  unfolding sized
  is-sized =
      let e = file-length vs rs next in
      let a : length file % 16 ≡ 0 = omega arith in
      rw (slots-is, count-is, a, ne_eqb (length file) 0 (λ z. omega arith), le-leb (suc count) slot_limit (omega (arith, s.measures, s.rules)), eq-eqb (suc count) (suc count) refl) tt

  is-balanced : T (balanced file)
  unfolding balanced
  is-balanced = rw (file-total vs rs next) tt

  not_leaving : T (not (leaves_file file))
  unfolding leaves_file
  not_leaving = rw (all-met, slots-is, rising_stays (suc count) 1 count (omega arith)) tt

  not_twice : T (not (meets_twice file))
  unfolding meets_twice
  not_twice = rw (all-met, rising_once 1 count) tt

  is-marked : T (well_marked file)
  unfolding well_marked
  is-marked = rw (measures-met, rules-met) (and_in (marked file measure_kind (rising_from 1 (length vs))) _
      (test_back measure_slot (λ t. eqb (kind_bits (mark_in t)) measure_kind) measure-marked file 1 vs measures_laid)
      (test_back rule_slot (λ t. eqb (kind_bits (mark_in t)) rule_kind) rule-marked file (suc (length vs)) rs rules_laid))

  not-missing : T (not (misses_slot file))
  unfolding misses_slot
  not-missing = let e : suc count - 1 ≡ count = omega arith in rw (all-met, slots-is, e, rising_full count) tt

  head_clear : T (zero_from (first_slot file) 14)
  unfolding slot_zero two_bytes four_bytes
  head_clear = rw head-is tt

  is-clear : T (clear file)
  unfolding clear
  is-clear = rw (measures-met, rules-met, yes_is (zero_from (first_slot file) 14) head_clear) (and_in (all (λ k. clear_measure (slot_in file k)) (rising_from 1 (length vs))) _
      (test_back measure_slot clear_measure measure-clear file 1 vs measures_laid)
      (test_back rule_slot clear_rule rule-clear file (suc (length vs)) rs rules_laid))

  is-numbered : T (numbered file)
  unfolding numbered
  is-numbered = rw number_is s.number

  reads : first (read_checks file start) ≡ fine
  unfolding read_checks
  reads = fine-is (first (read_checks file start)) (pass (read_checks file start) (tt, (is-sized, (is-balanced, (not_leaving, (not_twice, (is-marked, (not-missing, (is-clear, (is-numbered, tt))))))))))

  -- the drawing

  measures_read : map (λ k. measure (value_in (slot_in file k))) (measure_chain file) ≡ map measure vs
  measures_read = rw measures-met (read_back measure_slot (λ t. measure (value_in t)) measure in_range measure_read file 1 vs s.ranged measures_laid)

  rules_read : map (λ k. rule_in (slot_in file k)) (rule_chain file) ≡ map rule_call rs
  rules_read = rw rules-met
      (read_back rule_slot rule_in rule_call (drawable (length vs)) (λ n r t. rule_read (length vs) n r (omega (arith, s.measures)) t) file (suc (length vs)) rs s.formed rules_laid)

  drawing-is : drawing file ≡ map measure vs ++ (map rule_call rs ++ (open_plan ∷ []))
  unfolding drawing
  drawing-is = ap₂ (λ ms ns. ms ++ (ns ++ (open_plan ∷ []))) measures_read rules_read

  pub file_loads : load file start ≡ record { answer = ok []; plan = whole_with vs rs next }
  unfolding load
  file_loads =
      let g = drawing_goes vs rs next s in
      rw (reads, drawing-is, g.0, drawing-is, g.1) (ap (λ n. record { answer = ok []; plan = whole_with vs rs n }) number_is)

-- Of a plan that can be saved: loading what was saved is accepted and gives its values, rules and next number again.
pub round_trip : (p : Plan) → Savable (first_values p.content) p.content.rules p.content.next → load (saved p) start ≡ record { answer = ok []; plan = without_kept p }
unfolding saved
round_trip p s = file_loads (first_values p.content) p.content.rules p.content.next s
