use mathlib.Core.Path.{◌≡◌}
use Rattle.std.proofs.Common.{rules, Err}
use Rattle.draw.proofs.Draw.{open_refused, open_drawn}
use Rattle.draw.proofs.open_plan.Goals as goal

pub returns-in_err-check_open-clause-makes : goal.returns-in_err-check_open-clause-makes
returns-in_err-check_open-clause-makes c =
    let x : c.from_residual.result ≡ Err c.in_err-check_open.field-0.0 = search rules in
    rw x (open_refused c.args.p.now c.in_err-check_open.ensures)

pub returns-clause-makes : goal.returns-clause-makes
returns-clause-makes c = open_drawn c.args.p.now c.in_ok-check_open.ensures
