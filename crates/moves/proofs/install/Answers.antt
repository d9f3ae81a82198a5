use Rattle.std.proofs.Common.{rules, length, ◌≡◌}
use Rattle.state.specs.Spread.{spread}
use Rattle.moves.proofs.Makes.{refused_by}
use Rattle.state.proofs.Steps.{given_makes}
use Rattle.moves.proofs.Moves.{install_checked, install-accepts}
use Rattle.moves.proofs.install.Goals as goal

pub returns-in_err-turn_check-clause-step : goal.returns-in_err-turn_check-clause-step
returns-in_err-turn_check-clause-step c =
    λ known. refused_by (install_checked (spread c.args.p.now) known c.unset-missing.ensures.0) (search rules) c.in_err-turn_check.ensures

pub returns-clause-step : goal.returns-clause-step
returns-clause-step c =
    let p = spread c.args.p.now in
    let draft : length p.draft ≡ 32 = search rules in
    let values : length p.values ≡ 256 = search rules in
    let arrived : length p.arrived ≡ 8 = search rules in
    let confirmed : length p.confirmed ≡ 8 = search rules in
    λ known. rw c.copy.ensures (given_makes (install-accepts p (install_checked p known c.unset-missing.ensures.0) draft values arrived confirmed c.in_ok-turn_check.ensures))
