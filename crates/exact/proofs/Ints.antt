-- Laws of signed numbers: the size of a sum, and what a test on a local's bits says of the number. Assumes nothing.
use Prim.Native.Nat.{ℕ, suc, ◌+◌, ◌-◌, ◌<◌, ◌≤◌}
use native.Mathlib.Omega.{arith}
use mathlib.Core.Bool.{Bool, true, false, cond}
use mathlib.Core.Path.{◌≡◌, refl}
use lib.Dec.{ltb}
use lib.IntN.{ℤ, pos, negsuc, sub_ℕ, ◌+ℤ◌}
use lib.Signed.{mag, lt_z}
use mir.Syntax.{Width, w32, w64}
use mir.Val.{SFits, to_z, of_z}
use mir.Facts.{to_z-of_z, sfits_widen}

mag_sub : (a b : ℕ) → mag (sub_ℕ a b) ≤ a + b
mag_sub a b = at (ltb a b) refl
  where
    at : (t : Bool) → ltb a b ≡ t → mag (cond t (negsuc (b - suc a)) (pos (a - b))) ≤ a + b
    at true e = omega arith
    at false e = omega arith

-- the size of a sum
pub mag_add : (a b : ℤ) → mag (a +ℤ b) ≤ suc (mag a + mag b)
mag_add (pos a) (pos b) = omega arith
mag_add (pos a) (negsuc b) = omega (arith, mag_sub a (suc b))
mag_add (negsuc a) (pos b) = omega (arith, mag_sub b (suc a))
mag_add (negsuc a) (negsuc b) = omega arith

-- what a test on a signed local says of the number
pub flag : {w : Width} {x : ℤ} (y : ℤ) {t : Bool} → SFits w x → lt_z (to_z w (of_z w x)) y ≡ t → lt_z x y ≡ t
flag y p e = rw (to_z-of_z p) at e

-- an i32 that was cast to an i64 is the number
pub wide : {a : ℤ} → SFits w32 a → to_z w64 (of_z w64 (to_z w32 (of_z w32 a))) ≡ a
wide p = rw (to_z-of_z p, to_z-of_z (sfits_widen {w' = w64} tt p))

pub fits32 : (z : ℤ) → mag z < 2147483648 → SFits w32 z
fits32 z p = record { sfits = p }

pub fits64 : (z : ℤ) → mag z < 9223372036854775808 → SFits w64 z
fits64 z p = record { sfits = p }
