use native.Mathlib.Omega.{arith}
use mathlib.Core.Path.{◌≡◌, sym, ap, ap₂, ◌∙◌}
use borrow.Author.Rules.{rules}
use lib.ListN.{length}
use Rattle.rows.specs.Rows.{row}
use Rattle.rows.proofs.Spans.{lent_row}
use Rattle.calls.specs.Makes.{row_told}
use Rattle.run.proofs.shown.Goals as goal

pub returns-in-Some : goal.returns-in-Some
returns-in-Some c = let p = c.args.p.now in
    let l : length p.values ≡ 256 = search rules in
    let s = c.offset-at.ensures in
    let w = c.capped.ensures in
    lent_row p.values c.offset-at.result c.capped.result (omega (arith, l, s.1, w)) ∙ ap₂ (row p.values) s.0 w ∙ sym (ap (row_told p) c.in-Some.is)
