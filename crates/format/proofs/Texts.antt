-- Laws of an answer's bytes. Assumes nothing.
use Prim.Native.Nat.{ℕ, suc}
use mathlib.Core.Path.{◌≡◌, refl}
use mathlib.Core.List.{List, [], ◌∷◌, ◌++◌}
use lib.IntN.{ℤ, pos, negsuc}
use Rattle.protocol.specs.Calls.{no, ok}
use Rattle.format.specs.Numbers.{minus, nought, digits, written}
use Rattle.format.specs.Lines.{line_feed, space}
use Rattle.format.specs.Sheets.{spaced, text}

pub written_pos : (n : ℕ) → written (pos n) ≡ digits n
unfolding written
written_pos n = refl

pub written_below : (n : ℕ) → written (negsuc n) ≡ minus ∷ digits (suc n)
unfolding written
written_below n = refl

pub spaced-none : spaced [] ≡ []
unfolding written
spaced-none = refl

pub spaced_more : (x : ℤ) (xs : List ℤ) → spaced (x ∷ xs) ≡ space ∷ written x ++ spaced xs
unfolding written
spaced_more x xs = refl

pub text-no : (k : ℕ) → text (no k) ≡ 110 ∷ 111 ∷ space ∷ digits k ++ (line_feed ∷ [])
unfolding text
text-no k = refl

pub text-ok : (x : ℤ) (xs : List ℤ) → text (ok (x ∷ xs)) ≡ 111 ∷ 107 ∷ spaced (x ∷ xs) ++ (line_feed ∷ [])
unfolding text written
text-ok x xs = refl

pub text-done : text (ok []) ≡ 111 ∷ 107 ∷ space ∷ nought ∷ line_feed ∷ []
unfolding text
text-done = refl
