-- Slots read and written again: the same bytes. Assumes nothing.
use Prim.Native.Nat.{ℕ, zero, suc, ◌+◌, ◌*◌, ◌-◌, ◌/◌, ◌%◌, ◌<◌}
use mathlib.Core.Path.{◌≡◌, refl, sym, ap, subst, ◌∙◌}
use mathlib.Core.Bool.{Bool, false, not, ◌&&◌}
use mathlib.Core.List.{List, [], ◌∷◌}
use native.Mathlib.Omega.{arith}
use borrow.Author.Tests.{ltb-false}
use lib.Dec.{T, eqb, ltb, ltb→lt, eqb→eq}
use lib.ListN.{length, get_or, drop}
use lib.Seq.{get_or-drop}
use Rattle.protocol.specs.Lists.{is_none, neg, all}
use Rattle.protocol.proofs.Laws.{cases, both, no-is}
use Rattle.file.specs.Bytes.{word_size, byte_at, two_bytes, four_bytes, complement, two_at, four_at, signed, signed_at, mark, kind_bits, firm_bit, high_bits, measure_kind, rule_kind}
use Rattle.file.specs.Saved.{slot_zero, measure_slot, rule_slot}
use Rattle.file.specs.Loaded.{next_in, mark_in, value_in, zero_from, clear_measure, clear_rule}
use Rattle.file.specs.Promises.{is_byte, rule_from}
use Rattle.file.proofs.Words.{mark-parts, mark-firm}
use Rattle.file.proofs.Cells.{cells_of}
use Rattle.file.proofs.Drawn.{firm_bit_lem}

-- ---- words

low : (a n : ℕ) → a < 256 → (a + 256 * n) % 256 ≡ a
low a n h = omega arith

high : (a n : ℕ) → a < 256 → (a + 256 * n) / 256 ≡ n
high a n h = omega arith

two_write : (a b : ℕ) → a < 256 → b < 256 → two_bytes (a + 256 * b) ≡ a ∷ b ∷ []
unfolding two_bytes
two_write a b p q =
    let y : b % 256 ≡ b = omega arith in
    rw (low a b p, high a b p, y)

four_write : (a b c d : ℕ) → a < 256 → b < 256 → c < 256 → d < 256 → four_bytes (a + 256 * b + 65_536 * (c + 256 * d)) ≡ a ∷ b ∷ c ∷ d ∷ []
unfolding four_bytes
four_write a b c d p q r s =
    let n = a + 256 * b + 65_536 * (c + 256 * d) in
    let e : n ≡ a + 256 * (b + 256 * (c + 256 * d)) = omega arith in
    let w : n % 256 ≡ a = rw e (low a (b + 256 * (c + 256 * d)) p) in
    let x : n / 256 ≡ b + 256 * (c + 256 * d) = rw e (high a (b + 256 * (c + 256 * d)) p) in
    let y : n / 65_536 ≡ c + 256 * d = omega arith in
    let z : n / 16_777_216 ≡ d = omega arith in
    let l : d % 256 ≡ d = omega arith in
    rw (w, x, y, z, low b (c + 256 * d) q, low c d r, l)

neg-complement : (n : ℕ) → n < word_size → 0 < n → complement (neg n) ≡ word_size - n
unfolding complement
neg-complement zero h p = absurd (omega arith)
neg-complement (suc n) h p = refl

complement-signed : (w : ℕ) → w < word_size → complement (signed w) ≡ w
unfolding complement signed
complement-signed w h = cases (ltb w 2_147_483_648)
    (λ e. rw e)
    (λ e. let l = ltb-false w 2_147_483_648 e in rw e (neg-complement (word_size - w) (omega arith) (omega arith) ∙ back w h))
  where
    back : (w : ℕ) → w < word_size → word_size - (word_size - w) ≡ w
    back w h = omega arith

-- ---- the bytes of a list, one by one

pub below : (s : List ℕ) → T (all is_byte s) → (i : ℕ) → get_or s i 0 < 256
below [] t i = omega arith
below (b ∷ s) t zero = ltb→lt b 256 (both (is_byte b) (all is_byte s) t).0
below (b ∷ s) t (suc i) = below s (both (is_byte b) (all is_byte s) t).1 i

nought : (s : List ℕ) → T (all is_none s) → (i : ℕ) → get_or s i 0 ≡ 0
nought [] t i = refl
nought (b ∷ s) t zero = eqb→eq b 0 (both (is_none b) (all is_none s) t).0
nought (b ∷ s) t (suc i) = nought s (both (is_none b) (all is_none s) t).1 i

nought-from : (s : List ℕ) (i : ℕ) → T (zero_from s i) → (j : ℕ) → get_or s (i + j) 0 ≡ 0
nought-from s i t j = sym (get_or-drop i s j 0) ∙ nought (drop i s) t j

-- ---- slots, byte by byte

word_below : (a b c d : ℕ) → a < 256 → b < 256 → c < 256 → d < 256 → a + 256 * b + 65_536 * (c + 256 * d) < word_size
word_below a b c d p q r s = omega arith

abbrev zero_list : (a b c d e f g h i j k l m n : ℕ) → List ℕ
zero_list a b c d e f g h i j k l m n = a ∷ b ∷ c ∷ d ∷ e ∷ f ∷ g ∷ h ∷ i ∷ j ∷ k ∷ l ∷ m ∷ n ∷ 0 ∷ 0 ∷ []

zero_list_lem : (a b c d e f g h i j k l m n : ℕ) → a < 256 → b < 256 → c < 256 → d < 256 → e < 256 → f < 256 → g < 256 → h < 256 → i < 256 → j < 256 → k < 256 → l < 256 → m < 256 → n < 256
    → let s = zero_list a b c d e f g h i j k l m n in slot_zero (two_at s 0) (two_at s 2) (four_at s 4) (four_at s 8) (two_at s 12) ≡ s
unfolding slot_zero two_at four_at
zero_list_lem a b c d e f g h i j k l m n pa pb pc pd pe pf pg ph pi pj pk pl pm pn =
    rw (two_write a b pa pb, two_write c d pc pd, four_write e f g h pe pf pg ph, four_write i j k l pi pj pk pl, two_write m n pm pn)

abbrev measure_list : (a b c d e f : ℕ) → List ℕ
measure_list a b c d e f = a ∷ b ∷ mark measure_kind false ∷ 0 ∷ c ∷ d ∷ e ∷ f ∷ 0 ∷ 0 ∷ 0 ∷ 0 ∷ 0 ∷ 0 ∷ 0 ∷ 0 ∷ []

measure_list_lem : (a b c d e f : ℕ) → a < 256 → b < 256 → c < 256 → d < 256 → e < 256 → f < 256 → let s = measure_list a b c d e f in measure_slot (next_in s) (value_in s) ≡ s
unfolding measure_slot two_at signed_at four_at
measure_list_lem a b c d e f pa pb pc pd pe pf =
    rw (two_write a b pa pb, complement-signed (c + 256 * d + 65_536 * (e + 256 * f)) (word_below c d e f pc pd pe pf), four_write c d e f pc pd pe pf)

abbrev rule_list : (firm : Bool) (a b c d e f g h i j : ℕ) → List ℕ
rule_list firm a b c d e f g h i j = a ∷ b ∷ mark rule_kind firm ∷ 0 ∷ c ∷ d ∷ e ∷ f ∷ g ∷ h ∷ i ∷ j ∷ 0 ∷ 0 ∷ 0 ∷ 0 ∷ []

rule_list_lem : (firm : Bool) (a b c d e f g h i j : ℕ) → a < 256 → b < 256 → c < 256 → d < 256 → e < 256 → f < 256 → g < 256 → h < 256 → i < 256 → j < 256
    → let s = rule_list firm a b c d e f g h i j in rule_slot (next_in s) (rule_from s) ≡ s
unfolding rule_slot two_at signed_at four_at
rule_list_lem firm a b c d e f g h i j pa pb pc pd pe pf pg ph pi pj =
    rw (
      mark-firm rule_kind firm (omega arith),
      (firm_bit_lem firm).0,
      two_write a b pa pb,
      two_write c d pc pd,
      two_write e f pe pf,
      complement-signed (g + 256 * h + 65_536 * (i + 256 * j)) (word_below g h i j pg ph pi pj),
      four_write g h i j pg ph pi pj,
    )

-- ---- any slot that passes its tests

module _ (s : List ℕ) (len : length s ≡ 16) (bytes : T (all is_byte s)) where
  pub zero_back : T (zero_from s 14) → slot_zero (two_at s 0) (two_at s 2) (four_at s 4) (four_at s 8) (two_at s 12) ≡ s
  zero_back z =
      let at : ℕ → ℕ = λ i. get_or s i 0 in
      let o = below s bytes in
      let e : s ≡ zero_list (at 0) (at 1) (at 2) (at 3) (at 4) (at 5) (at 6) (at 7) (at 8) (at 9) (at 10) (at 11) (at 12) (at 13) =
      cells_of 16 0 s len ∙ rw (nought-from s 14 z 0, nought-from s 14 z 1) in
      subst (λ (t : List ℕ). slot_zero (two_at t 0) (two_at t 2) (four_at t 4) (four_at t 8) (two_at t 12) ≡ t) (sym e)
      (zero_list_lem (at 0) (at 1) (at 2) (at 3) (at 4) (at 5) (at 6) (at 7) (at 8) (at 9) (at 10) (at 11) (at 12) (at 13)
      (o 0) (o 1) (o 2) (o 3) (o 4) (o 5) (o 6) (o 7) (o 8) (o 9) (o 10) (o 11) (o 12) (o 13))

  pub measure_back : T (eqb (kind_bits (mark_in s)) measure_kind) → T (clear_measure s) → measure_slot (next_in s) (value_in s) ≡ s
  unfolding clear_measure
  measure_back k c =
      let at : ℕ → ℕ = λ i. get_or s i 0 in
      let o = below s bytes in
      let x = both (is_none (high_bits (mark_in s)) && not (firm_bit (mark_in s)) && is_none (byte_at s 3)) (zero_from s 8) c in
      let y = both (is_none (high_bits (mark_in s)) && not (firm_bit (mark_in s))) (is_none (byte_at s 3)) x.0 in
      let w = both (is_none (high_bits (mark_in s))) (not (firm_bit (mark_in s))) y.0 in
      let m : mark_in s ≡ mark measure_kind false = sym (mark-parts (mark_in s) (eqb→eq (high_bits (mark_in s)) 0 w.0))
      ∙ rw (eqb→eq (kind_bits (mark_in s)) measure_kind k, no-is (firm_bit (mark_in s)) w.1) in
      let n = nought-from s 8 x.1 in
      let e : s ≡ measure_list (at 0) (at 1) (at 4) (at 5) (at 6) (at 7) = cells_of 16 0 s len ∙ rw (m, eqb→eq (byte_at s 3) 0 y.1, n 0, n 1, n 2, n 3, n 4, n 5, n 6, n 7) in
      subst (λ (t : List ℕ). measure_slot (next_in t) (value_in t) ≡ t) (sym e) (measure_list_lem (at 0) (at 1) (at 4) (at 5) (at 6) (at 7) (o 0) (o 1) (o 4) (o 5) (o 6) (o 7))

  rule_back_firm : (firm : Bool) → mark_in s ≡ mark rule_kind firm → byte_at s 3 ≡ 0 → T (zero_from s 12) → rule_slot (next_in s) (rule_from s) ≡ s
  rule_back_firm firm m b z =
      let at : ℕ → ℕ = λ i. get_or s i 0 in
      let o = below s bytes in
      let n = nought-from s 12 z in
      let e : s ≡ rule_list firm (at 0) (at 1) (at 4) (at 5) (at 6) (at 7) (at 8) (at 9) (at 10) (at 11) = cells_of 16 0 s len ∙ rw (m, b, n 0, n 1, n 2, n 3) in
      subst (λ (t : List ℕ). rule_slot (next_in t) (rule_from t) ≡ t) (sym e)
      (rule_list_lem firm (at 0) (at 1) (at 4) (at 5) (at 6) (at 7) (at 8) (at 9) (at 10) (at 11) (o 0) (o 1) (o 4) (o 5) (o 6) (o 7) (o 8) (o 9) (o 10) (o 11))

  pub rule_back : T (eqb (kind_bits (mark_in s)) rule_kind) → T (clear_rule s) → rule_slot (next_in s) (rule_from s) ≡ s
  unfolding clear_rule
  rule_back k c =
      let x = both (is_none (high_bits (mark_in s)) && is_none (byte_at s 3)) (zero_from s 12) c in
      let y = both (is_none (high_bits (mark_in s))) (is_none (byte_at s 3)) x.0 in
      let m = sym (mark-parts (mark_in s) (eqb→eq (high_bits (mark_in s)) 0 y.0)) ∙ ap (λ (q : ℕ). mark q (firm_bit (mark_in s))) (eqb→eq (kind_bits (mark_in s)) rule_kind k) in
      rule_back_firm (firm_bit (mark_in s)) m (eqb→eq (byte_at s 3) 0 y.1) x.1
