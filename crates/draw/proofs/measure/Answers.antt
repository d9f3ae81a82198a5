use mathlib.Core.Path.{◌≡◌, ap, ◌∙◌}
use lib.ListN.{length}
use mir.Facts.{to_z-of_z}
use Rattle.std.proofs.Common.{rules, Err}
use Rattle.protocol.specs.Calls.{first}
use Rattle.draw.specs.Draw.{measure_checks}
use Rattle.draw.proofs.Draw.{measure_refused, measure_drawn}
use Rattle.draw.proofs.measure.Goals as goal

pub returns-in_err-check_measure-clause-makes : goal.returns-in_err-check_measure-clause-makes
returns-in_err-check_measure-clause-makes c =
    let p = c.args.p.now in
    let r : c.from_residual.result ≡ Err c.in_err-check_measure.field-0.0 = search rules in
    rw r (measure_refused p c.args.v (c.in_err-check_measure.ensures.verdict ∙ ap (λ v. first (measure_checks p.head v)) (to_z-of_z c.ranges.v)))

pub returns-clause-makes : goal.returns-clause-makes
returns-clause-makes c =
    let p = c.args.p.now in
    let l : length p.values ≡ 256 = search rules in
    let checked = c.in_ok-check_measure.ensures in
    rw (to_z-of_z c.ranges.v) (measure_drawn p c.args.v l checked.room (checked.verdict ∙ ap (λ v. first (measure_checks p.head v)) (to_z-of_z c.ranges.v)))
