use Rattle.moves.proofs.Sends.{marked_over}
use Rattle.moves.proofs.mark.Goals as goal

pub returns : goal.returns
returns c = marked_over c.args.s c.args.h.now c.args.edits.now c.loop-e.e-items _ c.capped-kept.result c.loop-e.e-index c.capped-kept.ensures c.told-edits c.loop-e.auto.e-items c.loop-e-test.false c.loop-e.invariant
