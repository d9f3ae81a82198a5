-- Reading and writing are inverse. Assumes nothing.
use Prim.Native.Nat.{ℕ, zero, suc, ◌+◌, ◌*◌, ◌-◌, ◌/◌, ◌%◌, ◌<◌, ◌≤◌}
use native.Mathlib.Omega.{arith}
use native.Mathlib.Nat.{pow-le-pow_right}
use mathlib.Core.Bool.{Bool, true, false, not, ◌&&◌, ◌||◌}
use mathlib.Core.Path.{◌≡◌, refl, sym, ap, ◌∙◌}
use mathlib.Core.List.{List, [], ◌∷◌}
use mathlib.Core.Option.{Option, none, some}
use borrow.Author.Tests.{eqb-true, eqb-false, ne_eqb, leb-true, le-leb, not-true}
use lib.Dec.{leb, eqb}
use lib.IntN.{ℤ, pos, negsuc}
use lib.ListN.{length}
use Rattle.protocol.specs.Lists.{all, snoc, neg, within}
use Rattle.protocol.proofs.Laws.{cases}
use Rattle.format.specs.Numbers.{minus, nought, is_digit, decimal, is_magnitude, is_nought, number, digits, written}
use Rattle.format.proofs.Digits.{by_digits, digits_one, digits_more, digits_decimal, decimal-digits, decimal_below, decimal_grows, digit_range, length_most, and_true}

-- ---- digits are a magnitude

abbrev leads : List ℕ → Bool
leads [] = false
leads (b ∷ bs) = not (eqb b nought)

leads_snoc : (ds : List ℕ) (d : ℕ) → leads ds ≡ true → leads (snoc ds d) ≡ true
leads_snoc [] d e = let z : ◌≡◌ {A = Bool} false true = e in cc
leads_snoc (b ∷ bs) d e = e

all_snoc : (p : ℕ → Bool) (ds : List ℕ) (d : ℕ) → all p ds ≡ true → p d ≡ true → all p (snoc ds d) ≡ true
all_snoc p [] d e f = rw f
all_snoc p (b ∷ bs) d e f = let h = and_true (p b) (all p bs) e in rw h.0 (all_snoc p bs d h.1 f)

digit : (n : ℕ) → n < 10 → is_digit (nought + n) ≡ true
digit n h = rw (le-leb 48 (48 + n) (omega arith), le-leb (48 + n) 57 (omega arith))

digits_lead : (n : ℕ) → 0 < n → leads (digits n) ≡ true
digits_lead = by_digits (λ n. 0 < n → leads (digits n) ≡ true)
    (λ n h p. rw (digits_one n h, ne_eqb (nought + n) nought (λ e. omega arith)))
    (λ n h i p. rw (digits_more n h) (leads_snoc (digits (n / 10)) (nought + n % 10) (i (omega arith))))

pub digits-all : (n : ℕ) → all is_digit (digits n) ≡ true
digits-all = by_digits (λ n. all is_digit (digits n) ≡ true)
    (λ n h. rw (digits_one n h, digit n h))
    (λ n h i. rw (digits_more n h) (all_snoc is_digit (digits (n / 10)) (nought + n % 10) i (digit (n % 10) (omega arith))))

magnitude_parts : (w : List ℕ) → is_magnitude w ≡ (leads w && all is_digit w && leb (length w) 9)
magnitude_parts [] = refl
magnitude_parts (b ∷ bs) = refl

pub digits_magnitude : (n : ℕ) → 0 < n → n ≤ 999999999 → is_magnitude (digits n) ≡ true
digits_magnitude n p q =
    rw (magnitude_parts (digits n), digits_lead n p, digits-all n, le-leb (length (digits n)) 9 (length_most 8 n (omega arith)))

-- what a magnitude is, part by part
pub record Magnitude (b : ℕ) (bs : List ℕ) : Type 0 where
  pub leading : b ≡ nought → ⊥
  pub first : is_digit b ≡ true
  pub others : all is_digit bs ≡ true
  pub short : length bs ≤ 8

pub magnitude : (b : ℕ) (bs : List ℕ) → is_magnitude (b ∷ bs) ≡ true → Magnitude b bs
magnitude b bs e =
    let h = and_true (not (eqb b nought) && all is_digit (b ∷ bs)) (leb (suc (length bs)) 9) e in
    let k = and_true (not (eqb b nought)) (all is_digit (b ∷ bs)) h.0 in
    let d = and_true (is_digit b) (all is_digit bs) k.1 in
    let l = leb-true (suc (length bs)) 9 h.1 in
    record { leading = eqb-false b nought (not-true (eqb b nought) k.0); first = d.0; others = d.1; short = omega arith }

pub no_magnitude : ◌≡◌ {A = Bool} false true → ⊥
no_magnitude z = let o : ◌≡◌ {A = ℕ} 0 1 = cc in omega arith

pub decimal-first : (b : ℕ) (bs : List ℕ) → decimal 0 (b ∷ bs) ≡ decimal (b - nought) bs
decimal-first b bs = let e : 10 * 0 + (b - nought) ≡ b - nought = omega arith in ap (λ n. decimal n bs) e

pub magnitude_below : (w : List ℕ) → is_magnitude w ≡ true → decimal 0 w < 1000000000
magnitude_below [] e = absurd (no_magnitude e)
magnitude_below (b ∷ bs) e =
    let m = magnitude b bs e in
    let r = digit_range b m.first in
    let l = decimal_below 1 (b - nought) bs (omega arith) m.others in
    let p = pow-le-pow_right {n = 10} (omega arith) {i = 1 + length bs} {j = 9} (omega (arith, m.short)) in
    rw (decimal-first b bs) (omega arith)

-- ---- what was written is read

-- where the number is not 0
pub number_magnitude : (w : List ℕ) → is_magnitude w ≡ true → number w ≡ some (pos (decimal 0 w))
unfolding number
number_magnitude [] e = absurd (no_magnitude e)
number_magnitude (b ∷ bs) e =
    let r = digit_range b (magnitude b bs e).first in
    rw (ne_eqb b minus (λ z. omega arith), e, or_true (is_nought (b ∷ bs)))
  where
    or_true : (a : Bool) → (a || true) ≡ true
    or_true true = refl
    or_true false = refl

pub read_written : (x : ℤ) → within (neg 999999999) (pos 999999999) x ≡ true → number (written x) ≡ some x
unfolding written digits number within
read_written (pos zero) e = refl
read_written (pos (suc n)) e =
    number_magnitude (digits (suc n)) (digits_magnitude (suc n) (omega arith) (leb-true (suc n) 999999999 e)) ∙ ap (λ m. some (pos m)) (decimal-digits (suc n))
read_written (negsuc n) e =
    let h = and_true (leb n 999999998) true e in
    let l = leb-true n 999999998 h.0 in
    rw (digits_magnitude (suc n) (omega arith) (omega arith), decimal-digits (suc n))

-- ---- what was read is written

digits_read : (w : List ℕ) → is_magnitude w ≡ true → (digits (decimal 0 w) ≡ w) × (0 < decimal 0 w)
digits_read [] e = absurd (no_magnitude e)
digits_read (b ∷ bs) e =
    let m = magnitude b bs e in
    let r = digit_range b m.first in
    let p = above b r.0 m.leading in
    let s : nought + (b - nought) ≡ b = omega arith in
    let g = decimal_grows (b - nought) bs in
    rw (decimal-first b bs) (digits_decimal (b - nought) bs p m.others ∙ rw (digits_one (b - nought) (omega arith), s), omega arith)
  where
    above : (b : ℕ) → 48 ≤ b → (b ≡ 48 → ⊥) → 0 < b - 48
    above b p q = omega arith

written-neg : (n : ℕ) → 0 < n → written (neg n) ≡ minus ∷ digits n
unfolding written
written-neg zero h = absurd (omega arith)
written-neg (suc n) h = refl

pub nought-is : (b : ℕ) (bs : List ℕ) → is_nought (b ∷ bs) ≡ true → b ∷ bs ≡ nought ∷ []
nought-is b [] e = let h = and_true (eqb b nought) true e in rw (eqb-true b nought h.0)
nought-is b (d ∷ bs) e =
    let h = and_true (eqb b nought) (eqb (suc (length bs)) 0) e in
    let z = eqb-true (suc (length bs)) 0 h.1 in
    absurd (omega arith)

pub written_read : (w : List ℕ) (x : ℤ) → number w ≡ some x → written x ≡ w
unfolding number written digits
written_read [] x e = absurd (never e)
  where
    never : ◌≡◌ {A = Option ℤ} none (some x) → ⊥
    never z = let o : ◌≡◌ {A = ℕ} 0 1 = cc in omega arith
written_read (b ∷ bs) x e = cases (eqb b minus)
    (λ t. cases (is_magnitude bs)
    (λ m.
    let f : some (neg (decimal 0 bs)) ≡ some x = rw (t, m) at e in
    let r = digits_read bs m in
    let y : neg (decimal 0 bs) ≡ x = cc in
    ap written (sym y) ∙ written-neg (decimal 0 bs) r.1 ∙ rw (r.0, eqb-true b minus t))
    (λ m. absurd (never (rw (t, m) at e))))
    (λ t. cases (is_nought (b ∷ bs))
    (λ z.
    let q = nought-is b bs z in
    let f : some (pos (decimal 0 (b ∷ bs))) ≡ some x = rw (t, z) at e in
    let y : x ≡ pos 0 = let y : pos (decimal 0 (b ∷ bs)) ≡ x = cc in sym y ∙ ap (λ w. pos (decimal 0 w)) q in
    rw (y, q))
    (λ z. cases (is_magnitude (b ∷ bs))
    (λ m.
    let f : some (pos (decimal 0 (b ∷ bs))) ≡ some x = rw (t, z, m) at e in
    let y : pos (decimal 0 (b ∷ bs)) ≡ x = cc in
    ap written (sym y) ∙ (digits_read (b ∷ bs) m).0)
    (λ m. absurd (never (rw (t, z, m) at e)))))
  where
    never : ◌≡◌ {A = Option ℤ} none (some x) → ⊥
    never z = let o : ◌≡◌ {A = ℕ} 0 1 = cc in omega arith
