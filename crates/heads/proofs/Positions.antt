-- Laws of positions, from 1, and the places that they name. Assumes nothing.
use Prim.Native.Nat.{ℕ, zero, suc, ◌<◌}
use native.Mathlib.Omega.{arith}
use mathlib.Core.Path.{◌≡◌, ap}
use Rattle.std.specs.Prelude.{Option, None, Some}
use Rattle.std.proofs.lemmas.Option.{none-some}
use Rattle.heads.specs.Heads.{seat, slot_at}

-- a position's edit stands at its place
pub slot_suc : (i : ℕ) → i < 256 → slot_at (suc i) ≡ i
slot_suc i h = omega arith

abbrev or_zero : Option ℕ → ℕ
or_zero None = 0
or_zero (Some i) = i

-- the position that has a place, and the one that has none
pub seat_some : (p i : ℕ) → seat p ≡ Some i → p ≡ suc i
seat_some zero i e = absurd (none-some i e)
seat_some (suc j) i e = ap suc (ap or_zero e)
