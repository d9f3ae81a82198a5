use mathlib.Core.Path.{◌≡◌, ap, ◌∙◌}
use lib.IntN.{ℤ}
use mir.Facts.{to_z-of_z}
use Rattle.protocol.specs.Lists.{natural}
use Rattle.protocol.specs.Plan.{measure_limit}
use Rattle.protocol.specs.Calls.{Verdict, first}
use Rattle.heads.specs.declared.Head.{Head}
use Rattle.query.specs.Reads.{show_checks}
use Rattle.state.specs.Meets.{answer_of}
use Rattle.writer.specs.Writes.{with_row}
use Rattle.calls.specs.declared.Told.{Told}
use Rattle.calls.specs.Makes.{row_told}
use Rattle.calls.proofs.Making.{show-fine, show-refused}
use Rattle.calls.proofs.show.Goals as goal

-- what was asked of a side's number
found : (h : Head) {s z : ℤ} {v : Verdict} → z ≡ s → v ≡ first (show_checks h (natural z) measure_limit) → v ≡ first (show_checks h (natural s) measure_limit)
found h side e = e ∙ ap (λ m. first (show_checks h (natural m) measure_limit)) side

pub returns-in-Ok : goal.returns-in-Ok
returns-in-Ok c =
    let a = c.args in
    let z = to_z-of_z c.ranges.s in
    show-fine a.p.now a.s _ (c.in-Ok.ensures.1 ∙ ap natural z) (found a.p.now.head z c.in-Ok.ensures.0)

pub returns-in-Err : goal.returns-in-Err
returns-in-Err c =
    let a = c.args in
    let z = to_z-of_z c.ranges.s in
    ap (λ (r : Told). with_row (answer_of r.answer) (row_told a.p.now r.shown)) c.refused.ensures ∙ show-refused a.p.now a.s _ (found a.p.now.head z c.in-Err.ensures.0)
