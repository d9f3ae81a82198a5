-- Believed: counting, looking up and changing, over any list; ranges of whole numbers. Assumes nothing.
use Rattle.std.specs.Prelude.{ℕ, zero, suc, ◌+◌, Bool, true, false, cond, ◌&&◌, ◌||◌, List, [], ◌∷◌, ◌++◌, get_or, eqb, leb, ltb, ℤ, pos, negsuc, neg_ℤ}
use Rattle.std.specs.Int.Signed.{le_z}

abbrev pub bit : Bool → ℕ
bit true = 1
bit false = 0

abbrev pub is_none : ℕ → Bool
is_none n = eqb n 0

-- n is one of 1 .. k
abbrev pub one_to : ℕ → ℕ → Bool
one_to k n = ltb 0 n && leb n k

-- how many of 1 .. n pass the test
abbrev pub count_to : (ℕ → Bool) → ℕ → ℕ
count_to f zero = 0
count_to f (suc n) = bit (f (suc n)) + count_to f n

-- minus n
abbrev pub neg : ℕ → ℤ
neg n = neg_ℤ (pos n)

-- x is one of lo .. hi
unfoldable pub within : ℤ → ℤ → ℤ → Bool
within lo hi x = le_z lo x && le_z x hi

-- a call's number as the number of a side, measure, kind or edit: these count from 1, so a negative one names nothing, as 0 does
abbrev pub natural : ℤ → ℕ
natural (pos n) = n
natural (negsuc n) = 0

abbrev pub is_zero : ℤ → Bool
is_zero (pos n) = is_none n
is_zero (negsuc n) = false

module _ {A : Type 0} where
  abbrev pub count : (A → Bool) → List A → ℕ
  count p [] = 0
  count p (x ∷ xs) = bit (p x) + count p xs

  abbrev pub all : (A → Bool) → List A → Bool
  all p [] = true
  all p (x ∷ xs) = p x && all p xs

  abbrev pub any : (A → Bool) → List A → Bool
  any p [] = false
  any p (x ∷ xs) = p x || any p xs

  -- what passes a test, in order
  abbrev pub passing : (A → Bool) → List A → List A
  passing p [] = []
  passing p (x ∷ xs) = cond (p x) (x ∷ passing p xs) (passing p xs)

  -- the number of the first that fails a test; 0 if none does
  abbrev pub first_not : (A → Bool) → (A → ℕ) → List A → ℕ
  first_not p number [] = 0
  first_not p number (x ∷ xs) = cond (p x) (first_not p number xs) (number x)

  -- the list with one element more
  abbrev pub snoc : List A → A → List A
  snoc xs x = xs ++ (x ∷ [])

  -- the element numbered n, from 1; d where there is none
  abbrev pub nth : A → List A → ℕ → A
  nth d xs n = get_or (d ∷ xs) n d

  -- the list with element n, from 1, changed by f
  abbrev pub modify : ℕ → (A → A) → List A → List A
  modify zero f xs = xs
  modify (suc k) f [] = []
  modify (suc zero) f (x ∷ xs) = f x ∷ xs
  modify (suc (suc k)) f (x ∷ xs) = x ∷ modify (suc k) f xs
