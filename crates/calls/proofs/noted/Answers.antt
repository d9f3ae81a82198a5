use mathlib.Core.Bool.{Bool}
use mathlib.Core.Path.{sym, ◌∙◌, subst}
use Rattle.calls.specs.Makes.{Noted}
use Rattle.calls.proofs.Making.{made_accepted, made-refused}
use Rattle.calls.proofs.noted.Goals as goal

pub returns-then-is_ok : goal.returns-then-is_ok
returns-then-is_ok c k =
    let a = c.args in
    made_accepted a.call (c.changed-answer.ensures k) (sym c.is_ok.ensures.value ∙ c.if-is_ok.true)
    (subst (λ (b : Bool). Noted a.call a.p.now.head b c.changed-answer.new.beside c.note.new.self) c.has_log-arrived.ensures c.note.ensures)

pub returns-else-is_ok : goal.returns-else-is_ok
returns-else-is_ok c k = made-refused c.args.call (c.changed-answer.ensures k) (sym c.is_ok.ensures.value ∙ c.if-is_ok.false)
