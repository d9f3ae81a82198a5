-- Believed: rows of values in an array, and rows copied. Assumes nothing.
use Rattle.std.specs.Prelude.{ℕ, zero, suc, ◌+◌, ◌-◌, min, List, [], ◌∷◌, ℤ, pos, length, get_or, set}

-- f i, f (i + 1), and on: n of them
abbrev pub span : {A : Type 0} → ℕ → ℕ → (ℕ → A) → List A
span i zero f = []
span i (suc n) f = f i ∷ span (suc i) n f

-- the n values of an array from a place on
abbrev pub row : List ℤ → ℕ → ℕ → List ℤ
row vs at n = span at n (λ i. get_or vs i (pos 0))

-- n values of one array copied into another, from a place to a place; and the same as far as both arrays have the places
unfoldable pub copied : List ℤ → List ℤ → ℕ → ℕ → ℕ → List ℤ
copied into values from to zero = into
copied into values from to (suc n) = set (copied into values from to n) (to + n) (get_or values (from + n) (pos 0))

abbrev pub copied_in : List ℤ → List ℤ → ℕ → ℕ → ℕ → List ℤ
copied_in into values from to n = copied into values from to (min n (min (length into - to) (length values - from)))
