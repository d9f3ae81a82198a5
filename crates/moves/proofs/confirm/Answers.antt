use Rattle.std.proofs.Common.{rules, length, ◌≡◌}
use Rattle.protocol.specs.Lists.{natural}
use Rattle.state.specs.Spread.{spread}
use Rattle.moves.proofs.Makes.{refused_by}
use Rattle.state.proofs.Steps.{given_makes}
use Rattle.moves.proofs.Moves.{Named, confirm_checked, confirm-accepts}
use Rattle.moves.proofs.confirm.Goals.{After-confirm_check}
use Rattle.moves.proofs.confirm.Goals as goal

pub returns-in_err-confirm_check-clause-step : goal.returns-in_err-confirm_check-clause-step
returns-in_err-confirm_check-clause-step c = let a = c.args in
    let number : c.number-side.result ≡ natural a.s = search rules in
    let place = c.index-place.ensures.0 in
    λ known. refused_by (confirm_checked (spread a.p.now) a.s (record { number = number; place = place; unsent = known })) (search rules) c.in_err-confirm_check.ensures

pub returns-clause-step : goal.returns-clause-step
returns-clause-step c = let a = c.args in
    let long : length a.p.now.confirmed ≡ 8 = search rules in
    let number : c.number-side.result ≡ natural a.s = search rules in
    let place = c.index-place.ensures.0 in
    λ known.
    let w : Named (spread a.p.now) a.s c.number-side.result c.index-place.result a.unsent = record { number = number; place = place; unsent = known } in
    given_makes (confirm-accepts (spread a.p.now) a.s w (confirm_checked (spread a.p.now) a.s w) long c.in_ok-confirm_check.ensures)
