-- Believed: numbers as bytes, read and written (01, "The sheet program"). Assumes nothing.
use Rattle.std.specs.Prelude.{ℕ, zero, suc, ◌+◌, ◌*◌, ◌-◌, ◌/◌, ◌%◌, Bool, false, not, cond, ◌&&◌, ◌||◌, List, [], ◌∷◌, eqb, leb, ltb, ℤ, pos, negsuc, length}
use Rattle.std.proofs.Math.Option.{Option, none, some}
use Rattle.protocol.specs.Lists.{all, snoc, neg}

-- ---- bytes

abbrev pub minus : ℕ
minus = 45

abbrev pub nought : ℕ
nought = 48

abbrev pub is_digit : ℕ → Bool
is_digit b = leb 48 b && leb b 57

-- ---- reading

-- the number that digits write behind those already read
abbrev pub decimal : ℕ → List ℕ → ℕ
decimal n [] = n
decimal n (b ∷ bs) = decimal (10 * n + (b - nought)) bs

-- 1 to 9 digits of which the first is not 0
abbrev pub is_magnitude : List ℕ → Bool
is_magnitude [] = false
is_magnitude (b ∷ bs) = not (eqb b nought) && all is_digit (b ∷ bs) && leb (length (b ∷ bs)) 9

abbrev pub is_nought : List ℕ → Bool
is_nought [] = false
is_nought (b ∷ bs) = eqb b nought && eqb (length bs) 0

-- a number is 0, or an optional minus and 1 to 9 digits of which the first is not 0
unfoldable pub number : List ℕ → Option ℤ
number [] = none
number (b ∷ bs) =
    cond (eqb b minus) (cond (is_magnitude bs) (some (neg (decimal 0 bs))) none)
    (cond (is_nought (b ∷ bs) || is_magnitude (b ∷ bs)) (some (pos (decimal 0 (b ∷ bs)))) none)

-- ---- writing

-- the decimal digits of n, the highest first; k is any number above n
abbrev pub digits_by : ℕ → ℕ → List ℕ
digits_by zero n = []
digits_by (suc k) n = cond (ltb n 10) ((nought + n) ∷ []) (snoc (digits_by k (n / 10)) (nought + n % 10))

unfoldable pub digits : ℕ → List ℕ
digits n = digits_by (suc n) n

unfoldable pub written : ℤ → List ℕ
unfolding digits
written (pos n) = digits n
written (negsuc n) = minus ∷ digits (suc n)
