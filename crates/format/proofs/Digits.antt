-- Laws of decimal digits: how many a number has, and the number that they write. Assumes nothing.
use Prim.Native.Nat.{ℕ, zero, suc, ◌+◌, ◌*◌, ◌-◌, ◌/◌, ◌%◌, ◌^◌, ◌<◌, ◌≤◌}
use native.Mathlib.Omega.{arith}
use native.Mathlib.Nat.{pow-le-pow_right, add-zero}
use mathlib.Core.Bool.{Bool, true, false, ◌&&◌}
use mathlib.Core.Path.{◌≡◌, refl, sym, ap, ◌∙◌}
use mathlib.Core.List.{List, [], ◌∷◌, ◌++◌, append-nil, append_assoc}
use borrow.Author.Tests.{lt-ltb, le-ltb, ltb-true, ltb-false, leb-true}
use lib.Dec.{leb, ltb}
use lib.ListN.{length, length-append}
use Rattle.protocol.specs.Lists.{all, snoc}
use Rattle.protocol.proofs.Laws.{cases}
use Rattle.format.specs.Numbers.{nought, is_digit, decimal, digits_by, digits}

-- ---- the digits of n / 10, and one more

-- any number above n will do
same_digits : (j k n : ℕ) → n < j → n < k → digits_by j n ≡ digits_by k n
same_digits zero k n p q = absurd (omega arith)
same_digits (suc j) zero n p q = absurd (omega arith)
same_digits (suc j) (suc k) n p q =
    let ih = same_digits j k (n / 10) in
    cases (ltb n 10) (λ t. rw t) (λ t. let h = ltb-false n 10 t in rw t (ap (λ ds. snoc ds (nought + n % 10)) (ih (omega arith) (omega arith))))

pub digits_one : (n : ℕ) → n < 10 → digits n ≡ (nought + n) ∷ []
unfolding digits
digits_one n h = rw (lt-ltb n 10 h)

pub digits_more : (n : ℕ) → 10 ≤ n → digits n ≡ snoc (digits (n / 10)) (nought + n % 10)
unfolding digits
digits_more n h =
    rw (le-ltb n 10 h) (ap (λ ds. snoc ds (nought + n % 10)) (same_digits n (suc (n / 10)) (n / 10) (omega arith) (omega arith)))

-- what holds of one digit, and of n where it holds of n / 10, holds of every number
pub by_digits : (P : ℕ → Type 0) → ((n : ℕ) → n < 10 → P n) → ((n : ℕ) → 10 ≤ n → P (n / 10) → P n) → (n : ℕ) → P n
by_digits P one more n = go (suc n) n (omega arith)
  where
    go : (k n : ℕ) → n < k → P n
    go zero n h = absurd (omega arith)
    go (suc k) n h =
        let ih = go k (n / 10) in
        cases (ltb n 10) (λ t. one n (ltb-true n 10 t)) (λ t. let l = ltb-false n 10 t in more n l (ih (omega arith)))

-- ---- how many

ten : (k : ℕ) → 10 ^ suc k ≡ 10 * 10 ^ k
ten k = omega arith

length-snoc : {A : Type 0} (xs : List A) (x : A) → length (snoc xs x) ≡ suc (length xs)
length-snoc xs x = let e = length-append xs (x ∷ []) in omega arith

pub length_more : (n : ℕ) → 10 ≤ n → length (digits n) ≡ suc (length (digits (n / 10)))
length_more n h = ap length (digits_more n h) ∙ length-snoc (digits (n / 10)) (nought + n % 10)

pub length_one : (n : ℕ) → n < 10 → length (digits n) ≡ 1
length_one n h = ap length (digits_one n h)

pub length_some : (n : ℕ) → 0 < length (digits n)
length_some = by_digits (λ n. 0 < length (digits n)) (λ n h. let e = length_one n h in omega arith) (λ n h i. let e = length_more n h in omega arith)

pub length_most : (k n : ℕ) → n < 10 ^ suc k → length (digits n) ≤ suc k
length_most zero n h = let e = length_one n (omega arith) in omega arith
length_most (suc k) n h =
    let t = ten (suc k) in
    let ih = length_most k (n / 10) in
    cases (ltb n 10)
    (λ l. let e = length_one n (ltb-true n 10 l) in omega arith)
    (λ l. let e = length_more n (ltb-false n 10 l) in let i = ih (omega arith) in omega arith)

length-least : (k n : ℕ) → 10 ^ suc k ≤ n → suc (suc k) ≤ length (digits n)
length-least zero n h =
    let e = length_more n h in
    let p = length_some (n / 10) in
    omega arith
length-least (suc k) n h =
    let t = ten (suc k) in
    let l : 10 ≤ n = let p = pow-le-pow_right {n = 10} (omega arith) {i = 1} {j = suc (suc k)} (omega arith) in omega arith in
    let e = length_more n l in
    let i = length-least k (n / 10) (omega arith) in
    omega arith

-- the count of digits, between powers of ten
pub length_digits : (k n : ℕ) → 10 ^ suc k ≤ n → n < 10 ^ suc (suc k) → length (digits n) ≡ suc (suc k)
length_digits k n l h = let a = length-least k n l in let b = length_most (suc k) n h in omega arith

-- ---- the number that digits write

pub decimal-snoc : (n : ℕ) (ds : List ℕ) (d : ℕ) → decimal n (snoc ds d) ≡ 10 * decimal n ds + (d - nought)
decimal-snoc n [] d = refl
decimal-snoc n (b ∷ bs) d = decimal-snoc (10 * n + (b - nought)) bs d

pub decimal-digits : (n : ℕ) → decimal 0 (digits n) ≡ n
decimal-digits = by_digits (λ n. decimal 0 (digits n) ≡ n)
    (λ n h. ap (decimal 0) (digits_one n h) ∙ one n)
    (λ n h i. ap (decimal 0) (digits_more n h) ∙ decimal-snoc 0 (digits (n / 10)) (nought + n % 10) ∙ more n (decimal 0 (digits (n / 10))) i)
  where
    one : (n : ℕ) → 10 * 0 + (nought + n - nought) ≡ n
    one n = omega arith

    more : (n m : ℕ) → m ≡ n / 10 → 10 * m + (nought + n % 10 - nought) ≡ n
    more n m e = omega arith

pub and_true : (a b : Bool) → (a && b) ≡ true → (a ≡ true) × (b ≡ true)
and_true true b e = (refl, e)
and_true false b e = let z : ◌≡◌ {A = Bool} false true = e in (cc, cc)

pub digit_range : (b : ℕ) → is_digit b ≡ true → (48 ≤ b) × (b ≤ 57)
digit_range b e = let h = and_true (leb 48 b) (leb b 57) e in (leb-true 48 b h.0, leb-true b 57 h.1)

-- a digit behind those of n
digits-next : (n b : ℕ) → 0 < n → is_digit b ≡ true → digits (10 * n + (b - nought)) ≡ snoc (digits n) b
digits-next n b p e =
    let r = digit_range b e in
    let q : (10 * n + (b - nought)) / 10 ≡ n = omega arith in
    let m : nought + (10 * n + (b - nought)) % 10 ≡ b = omega arith in
    digits_more (10 * n + (b - nought)) (omega arith) ∙ rw (q, m)

pub digits_decimal : (n : ℕ) (bs : List ℕ) → 0 < n → all is_digit bs ≡ true → digits (decimal n bs) ≡ digits n ++ bs
digits_decimal n [] p e = sym (append-nil (digits n))
digits_decimal n (b ∷ bs) p e =
    let h = and_true (is_digit b) (all is_digit bs) e in
    digits_decimal (10 * n + (b - nought)) bs (omega arith) h.1
    ∙ ap (λ ds. ds ++ bs) (digits-next n b p h.0)
    ∙ append_assoc (digits n) (b ∷ []) bs

-- n is below a power of ten, and each digit adds one to the power
pub decimal_below : (k n : ℕ) (bs : List ℕ) → n < 10 ^ k → all is_digit bs ≡ true → decimal n bs < 10 ^ (k + length bs)
decimal_below k n [] p e = rw (add-zero k) p
decimal_below k n (b ∷ bs) p e =
    let h = and_true (is_digit b) (all is_digit bs) e in
    let r = digit_range b h.0 in
    let t = ten k in
    let m : k + suc (length bs) ≡ suc k + length bs = omega arith in
    rw m (decimal_below (suc k) (10 * n + (b - nought)) bs (omega arith) h.1)

pub decimal_grows : (n : ℕ) (bs : List ℕ) → n ≤ decimal n bs
decimal_grows n [] = omega arith
decimal_grows n (b ∷ bs) = let i = decimal_grows (10 * n + (b - nought)) bs in omega arith
