use Rattle.std.proofs.Common.{rules, length, ◌≡◌}
use Rattle.protocol.specs.Lists.{natural}
use Rattle.state.specs.Spread.{spread}
use Rattle.moves.proofs.Makes.{refused_by}
use Rattle.state.proofs.Steps.{given_makes}
use Rattle.moves.proofs.Moves.{Named, send_checked, send-accepts}
use Rattle.moves.proofs.send.Goals as goal

pub returns-in_err-send_check-clause-step : goal.returns-in_err-send_check-clause-step
returns-in_err-send_check-clause-step c = let a = c.args in
    let number : c.number-side.result ≡ natural a.s = search rules in
    let place = c.index-place.ensures.0 in
    λ known. refused_by (send_checked (spread a.p.now) a.s (record { number = number; place = place; unsent = known })) (search rules) c.in_err-send_check.ensures

pub returns-clause-step : goal.returns-clause-step
returns-clause-step c = let a = c.args in
    let long : length a.p.now.arrived ≡ 8 = search rules in
    let number : c.number-side.result ≡ natural a.s = search rules in
    let place = c.index-place.ensures.0 in
    λ known.
    let w : Named (spread a.p.now) a.s c.number-side.result c.index-place.result a.unsent = record { number = number; place = place; unsent = known } in
    given_makes (send-accepts (spread a.p.now) a.s w (send_checked (spread a.p.now) a.s w) c.mark.new.edits c.mark.ensures long c.in_ok-send_check.ensures)
