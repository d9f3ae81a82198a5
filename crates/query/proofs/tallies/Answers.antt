use Prim.Native.Nat.{min}
use mathlib.Core.Path.{ap, ◌∙◌}
use Rattle.state.specs.Spread.{spread}
use Rattle.query.specs.Reads.{left_number}
use Rattle.query.proofs.Readings.{tallies_right}
use Rattle.query.proofs.tallies.Goals as goal

pub returns-clause-left : goal.returns-clause-left
returns-clause-left c =
    let p = c.args.p.now in
    c.left_number.ensures ∙ ap (λ k. left_number p.head p.arrived p.confirmed c.unsent_counts-unsent.result (min k 256)) c.unsettled-unsettled.ensures.0

pub returns-clause-tallied : goal.returns-clause-tallied
returns-clause-tallied c =
    let p = c.args.p.now in
    tallies_right (spread p) _ c.unsent_counts-unsent.ensures c.count-waiting.ensures.0 c.count-settled.ensures.0 (returns-clause-left c) c.unset.ensures.0
