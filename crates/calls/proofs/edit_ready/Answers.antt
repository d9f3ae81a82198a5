use Rattle.protocol.specs.declared.call.Call.TheVariants.{Edit}
use mathlib.Core.Path.{refl}
use Rattle.calls.proofs.Making.{readied, edit-trusted}
use Rattle.calls.proofs.edit_ready.Goals as goal

pub returns : goal.returns
returns c = λ w.
    let e = c.args.e in
    readied (Edit e) refl c.ready.ensures (c.edit.ensures.step (edit-trusted c.ready.ensures c.asked.ensures w.held w.indexed e)) c.edit.ensures.rules
