-- Bytes stored in front of a buffer. Assumes nothing.
use Prim.Native.Nat.{ℕ, ◌+◌, ◌≤◌}
use native.Mathlib.Omega.{arith}
use mathlib.Core.Path.{◌≡◌, ap, ◌∙◌}
use mathlib.Core.List.{List, ◌++◌}
use lib.ListN.{length, drop}
use lib.Seq.{sets, sets-eq}
use Rattle.format.specs.Sheets.{in_front}

pub sets_front : (area xs : List ℕ) → length xs ≤ length area → sets area 0 xs ≡ in_front xs area
sets_front area xs h = let e : 0 + length xs ≡ length xs = omega arith in sets-eq xs area 0 (omega arith) ∙ ap (λ n. xs ++ drop n area) e
