use mathlib.Core.Path.{sym, ap, ◌∙◌}
use Rattle.protocol.specs.Plan.{fate_is}
use Rattle.records.specs.Records.{looked, fate_of}
use Rattle.replay.proofs.Checks.{found_named, no_fate}
use Rattle.replay.proofs.earlier_is.Goals as goal

pub returns-in_default-2 : goal.returns-in_default-2
returns-in_default-2 c =
    let a = c.args in
    let found = found_named a.p.now a.e.now.earlier c.position.ensures.0 c.position.ensures.1 c.find.ensures in
    λ kept. no_fate a.fate kept ∙ ap (λ e. fate_is (fate_of a.fate) (fate_of e.fate)) (ap looked (sym c.in_default.is) ∙ found)
