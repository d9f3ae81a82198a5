use mathlib.Core.Bool.{Bool}
use mathlib.Core.Path.{◌≡◌, refl, subst}
use Rattle.protocol.specs.declared.call.Call.TheVariants.{Edit}
use Rattle.protocol.proofs.Laws.{is_yes}
use Rattle.counts.specs.Tallies.{noted}
use Rattle.calls.proofs.Making.{made_accepted}
use Rattle.calls.proofs.edited.Goals as goal

pub returns : goal.returns
returns c = λ k.
    let a = c.args in
    made_accepted (Edit a.e) (c.in_ok-given.ensures k) refl (record {
      counts = subst (λ (b : Bool). c.note.new.self ≡ noted (Edit a.e) a.p.now.head b c.edit_ready.new.beside.counts) c.has_log-arrived.ensures c.note.ensures;
      sound = refl;
      stale = λ e. absurd (is_yes e);
      index = λ e. refl;
    })
