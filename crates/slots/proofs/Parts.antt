-- The parts of a slot's words are the slot's. Assumes nothing.
use Rattle.std.proofs.Common.{◌≡◌, ℕ, ◌+◌, ◌*◌, ◌/◌, ◌%◌, ◌<◌, ◌≤◌, Bool, true, false, cond, not, ◌&&◌, eqb, List, [], length, get_or, take, drop, sym, refl, ap, ◌∙◌, ap₂, arith, eqb→eq, length-drop, drop_of_length-le, length-take, eq-eqb, ne_eqb}
use mathlib.Core.Bool.{and-true}
use Rattle.protocol.specs.Lists.{is_none, all}
use Rattle.protocol.proofs.Laws.{cases, is_yes}
use Rattle.file.specs.Bytes.{byte_at, two_at, four_at, kind_bits, firm_bit, high_bits, measure_kind}
use Rattle.file.specs.Loaded.{slot_in, zero_from, clear_measure, clear_rule, mark_in, next_in}
use Rattle.file.specs.Walked.{as_measure}
use Rattle.file.proofs.Cells.{cells_of}
use Rattle.slots.specs.declared.Slot.{Slot}
use Rattle.slots.specs.Words.{words_of, Parted}
use Rattle.slots.specs.Parts.{mark_part, rest_part, fits_kind}

-- ---- halves and bytes

module _ (s : List ℕ) (p : Parted s) where
  pub next_part : next_in s ≡ (words_of s).first % 65_536
  unfolding four_at
  next_part = let h = p.next in omega arith

  pub second_part : two_at s 2 ≡ (words_of s).first / 65_536
  unfolding four_at
  second_part = let h = p.next in omega arith

  pub mark_part_lem : mark_in s ≡ mark_part (words_of s)
  unfolding two_at
  mark_part_lem = let h = p.mark in let e : byte_at s 2 ≡ two_at s 2 % 256 = omega arith in e ∙ ap (λ n. n % 256) second_part

  pub rest_part_lem : byte_at s 3 ≡ rest_part (words_of s)
  unfolding two_at
  rest_part_lem =
      let h = p.mark in
      let e : byte_at s 3 ≡ two_at s 2 / 256 = omega arith in
      let d : (words_of s).first / 65_536 / 256 ≡ (words_of s).first / 16_777_216 = omega arith in
      e ∙ ap (λ n. n / 256) second_part ∙ d

  pub lower_part : two_at s 4 ≡ (words_of s).second % 65_536
  unfolding four_at
  lower_part = let h = p.lower in omega arith

  pub upper_part : two_at s 6 ≡ (words_of s).second / 65_536
  unfolding four_at
  upper_part = let h = p.lower in omega arith

  pub count_part : two_at s 12 ≡ (words_of s).fourth % 65_536
  unfolding four_at
  count_part = let h = p.count in omega arith

-- ---- bytes that are nought, by words

nought_two : (a b : ℕ) (t : Bool) → (is_none a && (is_none b && t)) ≡ (is_none (a + 256 * b) && t)
nought_two a b t = cases (eqb a 0)
    (λ e.
    let x = eqb→eq a 0 (is_yes e) in
    cases (eqb b 0)
    (λ g. let y = eqb→eq b 0 (is_yes g) in rw (e, g, eq-eqb (a + 256 * b) 0 (omega arith)))
    (λ g. rw (e, g, ne_eqb (a + 256 * b) 0 (λ z. false_yes (sym g ∙ eq-eqb b 0 (omega arith))))))
    (λ e. rw (e, ne_eqb (a + 256 * b) 0 (λ z. false_yes (sym e ∙ eq-eqb a 0 (omega arith)))))
  where
    false_yes : {A : Type 0} → false ≡ true → A
    false_yes e = absurd (is_yes e)

nought_four : (a b c d : ℕ) (t : Bool) → (is_none a && (is_none b && (is_none c && (is_none d && t)))) ≡ (is_none (a + 256 * b + 65_536 * (c + 256 * d)) && t)
nought_four a b c d t =
    let e : a + 256 * b + 65_536 * (c + 256 * d) ≡ a + 256 * b + 256 * (256 * (c + 256 * d)) = omega arith in
    let z : is_none (256 * (c + 256 * d)) ≡ is_none (c + 256 * d) = scaled (c + 256 * d) in
    ap (λ u. is_none a && (is_none b && u)) (nought_two c d t) ∙ nought_two a b (is_none (c + 256 * d) && t) ∙ ap (λ u. is_none (a + 256 * b) && (u && t)) (sym z)
    ∙ nought_two (a + 256 * b) (256 * (c + 256 * d)) t ∙ ap (λ n. is_none n && t) (sym e)
  where
    scaled : (n : ℕ) → is_none (256 * n) ≡ is_none n
    scaled n = cases (eqb n 0)
        (λ e. let x = eqb→eq n 0 (is_yes e) in rw e (eq-eqb (256 * n) 0 (omega arith)))
        (λ e. rw e (ne_eqb (256 * n) 0 (λ z. absurd (is_yes (sym e ∙ eq-eqb n 0 (omega arith))))))

module _ (s : List ℕ) (l : length s ≡ 16) where
  pub zero_8 : zero_from s 8 ≡ (is_none (four_at s 8) && (is_none (four_at s 12) && true))
  unfolding four_at two_at
  zero_8 =
      ap (all is_none) (cells_of 8 8 s l) ∙ nought_four (get_or s 8 0) (get_or s 9 0) (get_or s 10 0) (get_or s 11 0) _
      ∙ ap (λ t. is_none (four_at s 8) && t) (nought_four (get_or s 12 0) (get_or s 13 0) (get_or s 14 0) (get_or s 15 0) true)

  pub zero_12 : zero_from s 12 ≡ (is_none (four_at s 12) && true)
  unfolding four_at two_at
  zero_12 = ap (all is_none) (cells_of 4 12 s l) ∙ nought_four (get_or s 12 0) (get_or s 13 0) (get_or s 14 0) (get_or s 15 0) true

  pub zero_14 : Parted s → zero_from s 14 ≡ is_none ((words_of s).fourth / 65_536)
  unfolding four_at two_at
  zero_14 p =
      let h = p.count in
      let e : two_at s 14 ≡ four_at s 12 / 65_536 = omega arith in
      ap (all is_none) (cells_of 2 14 s l) ∙ nought_two (get_or s 14 0) (get_or s 15 0) true ∙ and-true (is_none (two_at s 14)) ∙ ap is_none e

-- ---- the test of a slot, by its words

measure_order : (h f r t u : Bool) → (h && f && r && (t && (u && true))) ≡ (h && (r && (u && (f && t))))
measure_order false f r t u = refl
measure_order true false false t u = refl
measure_order true false true t false = refl
measure_order true false true t true = refl
measure_order true true false t u = refl
measure_order true true true false false = refl
measure_order true true true false true = refl
measure_order true true true true false = refl
measure_order true true true true true = refl

rule_order : (h r u : Bool) → (h && r && (u && true)) ≡ (h && (r && (u && true)))
rule_order false r u = refl
rule_order true r u = refl

module _ (s : List ℕ) (l : length s ≡ 16) (p : Parted s) where
  abbrev w : Slot
  w = words_of s

  pub measure-fits : as_measure s ≡ fits_kind measure_kind w
  unfolding clear_measure
  measure-fits =
      ap (λ t. eqb (kind_bits (mark_in s)) measure_kind && (is_none (high_bits (mark_in s)) && not (firm_bit (mark_in s)) && is_none (byte_at s 3) && t)) (zero_8 s l)
      ∙ ap (λ t. eqb (kind_bits (mark_in s)) measure_kind && t) (measure_order (is_none (high_bits (mark_in s))) (not (firm_bit (mark_in s))) (is_none (byte_at s 3)) (is_none w.third) (is_none w.fourth))
      ∙ ap₂ (λ m r. eqb (kind_bits m) measure_kind && (is_none (high_bits m) && (is_none r && (is_none w.fourth && (not (firm_bit m) && is_none w.third))))) (mark_part_lem s p) (rest_part_lem s p)

  -- of another kind, as of a rule
  pub rule_fits : (kind : ℕ) → eqb kind measure_kind ≡ false → (eqb (kind_bits (mark_in s)) kind && clear_rule s) ≡ fits_kind kind w
  unfolding clear_rule
  rule_fits kind e =
      ap (λ t. eqb (kind_bits (mark_in s)) kind && (is_none (high_bits (mark_in s)) && is_none (byte_at s 3) && t)) (zero_12 s l)
      ∙ ap (λ t. eqb (kind_bits (mark_in s)) kind && t) (rule_order (is_none (high_bits (mark_in s))) (is_none (byte_at s 3)) (is_none w.fourth))
      ∙ ap₂ (λ m r. eqb (kind_bits m) kind && (is_none (high_bits m) && (is_none r && (is_none w.fourth && true)))) (mark_part_lem s p) (rest_part_lem s p)
      ∙ ap (λ b. eqb (kind_bits (mark_part w)) kind
      && (is_none (high_bits (mark_part w)) && (is_none (rest_part w) && (is_none w.fourth && cond b (not (firm_bit (mark_part w)) && is_none w.third) true)))) (sym e)

-- a slot of the file has all its bytes
pub slot_whole : (f : List ℕ) (k : ℕ) → k < length f / 16 → length (slot_in f k) ≡ 16
unfolding slot_in
slot_whole f k h = let d = length-drop (16 * k) f in let t = length-take 16 (drop (16 * k) f) in omega arith

-- one behind its end has none, where the file has whole slots
pub slot-none : (f : List ℕ) (k : ℕ) → length f % 16 ≡ 0 → length f / 16 ≤ k → slot_in f k ≡ []
unfolding slot_in
slot-none f k e h = ap (take 16) (drop_of_length-le f {i = 16 * k} (omega arith))
