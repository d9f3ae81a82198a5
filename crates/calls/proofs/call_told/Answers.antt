use borrow.Author.Rules.{rules}
use mathlib.Core.Path.{◌≡◌, subst}
use mir.Syntax.{w32}
use mir.Val.{to_z, of_z}
use Rattle.calls.specs.Makes.{Shows}
use Rattle.calls.proofs.Making.{showed}
use Rattle.calls.proofs.call_told.Goals as goal

pub returns-in-Show : goal.returns-in-Show
returns-in-Show c k =
    let p = c.args.p.now in
    let s = c.in-Show.s in
    let z : to_z w32 (of_z w32 s) ≡ s = search rules in
    rw c.in-Show.is (showed p c.args.beside.now s c.show.result (subst (λ x. Shows p x c.show.result) z c.show.ensures))
