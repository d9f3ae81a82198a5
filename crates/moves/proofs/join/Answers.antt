use Rattle.std.proofs.Common.{rules, ◌≡◌, false, refl}
use Rattle.heads.specs.Heads.{mode_of}
use Rattle.protocol.specs.Plan.{is, split}
use Rattle.state.specs.Spread.{spread}
use Rattle.moves.proofs.Parting.{join_refuses, join-accepts}
use Rattle.state.proofs.Steps.{given_makes, refused_makes}
use Rattle.moves.proofs.join.Goals as goal

pub returns-then-ne-clause-step : goal.returns-then-ne-clause-step
returns-then-ne-clause-step c = let p = spread c.args.p.now in
    let e : is split (mode_of p.head.mode) ≡ false = search rules in
    refused_makes refl (join_refuses p e)

pub returns-clause-step : goal.returns-clause-step
returns-clause-step c = let p = spread c.args.p.now in
    let e : mode_of p.head.mode ≡ split = search rules in
    given_makes (join-accepts p e)
