use Prim.Native.Nat.{ℕ, ◌+◌, ◌-◌, ◌≤◌, min}
use native.Mathlib.Omega.{arith}
use mathlib.Core.List.{List}
use mathlib.Core.Path.{◌≡◌, ap, ◌∙◌}
use lib.IntN.{ℤ}
use lib.ListN.{length, take, drop}
use mir.Facts.{to_z-of_z}
use Rattle.rows.specs.Rows.{row}
use Rattle.rows.proofs.Spans.{lent_row, row_most}
use Rattle.rules.specs.Rules.{numbered}
use Rattle.rules.proofs.Namings.{asked_index, asked-none}
use Rattle.rules.proofs.broken.Goals as goal

-- the part of the array is the row
part : (vs : List ℤ) (at n start end : ℕ) → at + min n 32 ≤ length vs → start ≡ at → end ≡ at + min n 32 → take (end - start) (drop start vs) ≡ row vs at (min n 32)
part vs at n start end h s e =
    let w : end - start ≡ at + min n 32 - at = omega arith in
    (λ j. take (w j) (drop (s j) vs)) ∙ lent_row vs at (min n 32) h

pub returns-in-Some : goal.returns-in-Some
returns-in-Some g c h = let a = c.args in
    let vs = a.values.now in
    let row-is = part vs a.at a.n c.min.result c.min-end.result (omega (arith, h, c.told-values)) (omega (arith, h, g.N.fits)) (omega (arith, h, g.N.fits)) in
    rw c.in-Some.is (c.broken_by_index.ensures ∙ ap numbered (asked_index a.m _ _ _ _ (to_z-of_z c.ranges.x) row-is c.in-Some.index.now (row_most vs a.at a.n 32)))

pub returns-in-None : goal.returns-in-None
returns-in-None g c h = let a = c.args in
    let vs = a.values.now in
    let row-is = part vs a.at a.n c.min.result c.min-end.result (omega (arith, h, c.told-values)) (omega (arith, h, g.N.fits)) (omega (arith, h, g.N.fits)) in
    rw c.in-None.is (c.broken_of_all.ensures ∙ ap numbered (asked-none a.m _ _ _ _ (to_z-of_z c.ranges.x) row-is))
