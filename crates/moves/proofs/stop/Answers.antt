use Rattle.std.proofs.Common.{rules}
use Rattle.state.specs.Spread.{spread}
use Rattle.moves.proofs.Makes.{refused_by}
use Rattle.state.proofs.Steps.{given_makes}
use Rattle.moves.proofs.Moves.{stop_checked, stop-accepts}
use Rattle.moves.proofs.stop.Goals as goal

pub returns-in_err-turn_check-clause-step : goal.returns-in_err-turn_check-clause-step
returns-in_err-turn_check-clause-step c =
    λ known. refused_by (stop_checked (spread c.args.p.now) known c.unset-missing.ensures.0) (search rules) c.in_err-turn_check.ensures

pub returns-clause-step : goal.returns-clause-step
returns-clause-step c =
    λ known. given_makes (stop-accepts (spread c.args.p.now) (stop_checked (spread c.args.p.now) known c.unset-missing.ensures.0) c.in_ok-turn_check.ensures)
