-- A file from its slots, written one behind the other; and what the call gives by its tests. Assumes nothing.
use Rattle.std.proofs.Common.{◌≡◌, ℕ, zero, suc, ◌+◌, ◌*◌, ◌/◌, ◌<◌, ◌≤◌, min, true, false, List, [], ◌∷◌, ◌++◌, length, get_or, map, take, drop, ℤ, pos, sym, refl, ap, ◌∙◌, ap₂, append_assoc, arith, length-append, take_all, take_at, drop_at, le-leb}
use borrow.Author.Tests.{lt-leb}
use lib.Seq.{sets}
use Rattle.protocol.specs.Plan as model
use Rattle.protocol.specs.Plan.{whole, is}
use Rattle.protocol.specs.Calls.{ok}
use Rattle.protocol.specs.declared.refusal.Refusal.TheVariants.{WrongMode, NoRoom}
use Rattle.file.specs.Bytes.{total, balancing}
use Rattle.file.specs.Saved.{measure_slot, rule_slot, slots_from, chains, heading, check_word, file_of, saved, save_checks, save, save_into}
use Rattle.file.proofs.Sums.{length-slots, measure_16, rule_16, heading_16, file-length}
use Rattle.format.specs.Sheets.{in_front}
use Rattle.format.proofs.Fronts.{sets_front}
use Rattle.heads.specs.Heads.{mode_of, measures_in}
use lib.Seq.{drop-cons}
use Rattle.rows.specs.Rows.{row, span}
use Rattle.rows.proofs.Spans.{length-span, span_same}
use Rattle.rules.specs.declared.Rule.{Rule}
use Rattle.rules.proofs.Table.{none, at_lower, at_gap, at_upper, at_firm}
use Rattle.slots.proofs.Words.{sets_both}
use Rattle.state.specs.declared.State.{State}
use Rattle.state.specs.Meets.{refusal, number}
use Rattle.state.specs.Spread.{spread}
use Rattle.state.specs.View.{view}
use Rattle.state.proofs.View.{first-row, row-length}
use Rattle.save.specs.Parts.{head_of, rule_of, rules_of, MeetsSave}
use Rattle.save.proofs.Slots.{start_link}

-- ---- the first rules of a table, as the protocol has them

module _ (table : List Rule) where
  rules_from : (i n : ℕ) → i + n ≤ length table → map rule_of (take n (drop i table)) ≡ span i n (λ k. rule_of (get_or table k none))
  rules_from i zero h = refl
  rules_from i (suc n) h =
      ap (λ rs. map rule_of (take (suc n) rs)) (drop-cons table i none (omega arith))
      ∙ ap {B = List model.Rule} (λ rs. rule_of (get_or table i none) ∷ rs) (rules_from (suc i) n (omega arith))

  pub rules-are : (m : ℕ) → m ≤ length table → map rule_of (take m table) ≡ rules_of table m
  rules-are m h =
      rules_from 0 m (omega arith)
      ∙ span_same 0 m _ _ (λ k a b j. record { lower = sym (at_lower table k) j; gap = sym (at_gap table k) j; upper = sym (at_upper table k) j; firm = sym (at_firm table k) j })

-- ---- the front of an area

-- a part of it written anew
front_anew : (area old new rest : List ℕ) → length new ≡ length old → length (old ++ rest) ≤ length area → sets (in_front (old ++ rest) area) 0 new ≡ in_front (new ++ rest) area
front_anew area old new rest e h =
    let tail = drop (length (old ++ rest)) area in
    let a = length-append old rest in
    let b = length-append new rest in
    let c = length-append (old ++ rest) tail in
    let same : length (old ++ rest) ≡ length (new ++ rest) = omega arith in
    sets_front (old ++ rest ++ tail) new (omega arith)
    ∙ ap (λ xs. new ++ drop (length new) xs) (append_assoc old rest tail)
    ∙ ap (λ xs. new ++ xs) (drop_at old (rest ++ tail) (length new) (sym e))
    ∙ sym (append_assoc new rest tail)
    ∙ ap (λ n. new ++ rest ++ drop n area) same

-- ---- the file of a plan with n measures and m rules

module _ (vs : List ℤ) (rs : List model.Rule) (next n m : ℕ) (p : length vs ≡ n) (q : length rs ≡ m) where
  head-is : (check : ℕ) → head_of n m next check ≡ heading vs rs next check
  head-is check =
      let e : suc (length vs) ≡ 1 + n = omega arith in
      let d : suc (length vs + length rs) ≡ 1 + n + m = omega arith in
      sym (rw (start_link 1 n vs p, start_link (suc (length vs)) m rs q, e, d))

  chains-length : length (chains vs rs next) ≡ 16 * (n + m)
  chains-length =
      let a = length-append (slots_from measure_slot 1 vs) (slots_from rule_slot (suc (length vs)) rs) in
      let b = length-slots measure_slot measure_16 1 vs in
      let c = length-slots rule_slot rule_16 (suc (length vs)) rs in
      omega arith

  front_length : (check : ℕ) → length (heading vs rs next check ++ chains vs rs next) ≡ 16 * (1 + n + m)
  front_length check =
      let a = length-append (heading vs rs next check) (chains vs rs next) in
      let b = heading_16 vs rs next check in
      let c = chains-length in
      omega arith

  module _ (area a b c : List ℕ) (h : 16 * (1 + n + m) ≤ length area) (x : a ≡ sets area 0 (head_of n m next 0)) (y : b ≡ sets a 16 (slots_from measure_slot 1 vs))
      (z : c ≡ sets b (16 * (1 + n)) (slots_from rule_slot (1 + n) rs)) where
    -- the slots, with 0 for the check word
    slots_are : c ≡ in_front (heading vs rs next 0 ++ chains vs rs next) area
    slots_are =
        let head = heading vs rs next 0 in
        let ms = slots_from measure_slot 1 vs in
        let e : 1 + n ≡ suc (length vs) = omega arith in
        let i : 16 ≡ 0 + length head = sym (heading_16 vs rs next 0) ∙ omega arith in
        let l = length-slots measure_slot measure_16 1 vs in
        let g = length-append head ms in
        let s = heading_16 vs rs next 0 in
        let t = front_length 0 in
        let j : 16 * (1 + n) ≡ 0 + length (head ++ ms) = omega arith in
        let front : b ≡ sets area 0 (head ++ ms) =
        y ∙ ap₂ (λ xs k. sets xs k ms) (x ∙ ap (sets area 0) (head-is 0)) i ∙ sets_both head ms area 0 in
        z ∙ ap₂ (λ xs k. sets xs (16 * (1 + n)) (slots_from rule_slot k rs)) front e
        ∙ ap (λ k. sets (sets area 0 (head ++ ms)) k (slots_from rule_slot (suc (length vs)) rs)) j
        ∙ sets_both (head ++ ms) (slots_from rule_slot (suc (length vs)) rs) area 0
        ∙ ap (sets area 0) (append_assoc head ms (slots_from rule_slot (suc (length vs)) rs))
        ∙ sets_front area (head ++ chains vs rs next) (omega arith)

    -- the check word reckoned over them
    check_is : (f : List ℕ) (check : ℕ) → f ≡ take (16 * (1 + n + m)) c → check ≡ balancing (total (take (16 * (length f / 16)) f)) → check ≡ check_word vs rs next
    unfolding check_word
    check_is f check e r =
        let t = front_length 0 in
        let g : f ≡ heading vs rs next 0 ++ chains vs rs next = e ∙ ap (take (16 * (1 + n + m))) slots_are ∙ take_at (heading vs rs next 0 ++ chains vs rs next) _ (16 * (1 + n + m)) t in
        let l = ap length g in
        r ∙ ap (λ xs. balancing (total xs)) (take_all (16 * (length f / 16)) f (omega arith) ∙ g)

    -- and the file, once it is written
    pub file-is : (f d : List ℕ) (check : ℕ) → f ≡ take (16 * (1 + n + m)) c → check ≡ balancing (total (take (16 * (length f / 16)) f)) → d ≡ sets c 0 (head_of n m next check)
        → d ≡ in_front (file_of vs rs next) area
    unfolding file_of
    file-is f d check e r w =
        let t = front_length 0 in
        let u = check_is f check e r in
        w ∙ ap₂ (λ xs k. sets xs 0 k) slots_are (head-is check ∙ ap (heading vs rs next) u)
        ∙ front_anew area (heading vs rs next 0) (heading vs rs next (check_word vs rs next)) (chains vs rs next)
        (heading_16 vs rs next (check_word vs rs next) ∙ sym (heading_16 vs rs next 0)) (omega arith)

-- ---- the call

module _ (p : State) where
  abbrev pub values : List ℤ
  values = row p.values 0 (measures_in p.head)

  abbrev pub rules : List model.Rule
  rules = rules_of p.table (min p.head.rules 64)

  -- what is saved, from the state's parts
  pub saved-is : saved (view p) ≡ file_of values rules p.head.next
  unfolding saved
  saved-is = ap (λ vs. file_of vs rules p.head.next) (first-row (spread p))

  pub saved-size : length (saved (view p)) ≡ 16 * (1 + measures_in p.head + min p.head.rules 64)
  saved-size =
      let a = row-length p.values 0 (measures_in p.head) in
      let b : length rules ≡ min p.head.rules 64 = length-span 0 (min p.head.rules 64) _ in
      let c = file-length values rules p.head.next in
      ap length saved-is ∙ omega arith

  -- refused, which leaves the area
  pub save_31 : (area : List ℕ) → is whole (mode_of p.head.mode) ≡ false → MeetsSave (view p) area (refusal WrongMode) area
  unfolding save save_into save_checks
  save_31 area e = rw e (refl, refl)

  module _ (area : List ℕ) (size : ℕ) (e : is whole (mode_of p.head.mode) ≡ true) (s : size ≡ length (saved (view p))) where
    pub save_41 : length area < size → MeetsSave (view p) area (refusal NoRoom) area
    unfolding save save_into save_checks
    save_41 h = rw (e, lt-leb (length (saved (view p))) (length area) (omega arith)) (refl, refl)

    pub save-fine : size ≤ length area → MeetsSave (view p) area (number size) (in_front (file_of values rules p.head.next) area)
    unfolding save save_into save_checks
    save-fine h =
        rw (e, le-leb (length (saved (view p))) (length area) (omega arith)) (ap (λ n. ok (pos n ∷ [])) s, sym (ap (λ bs. in_front bs area) saved-is))
