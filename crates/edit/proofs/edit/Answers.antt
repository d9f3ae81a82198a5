use mathlib.Core.Path.{◌≡◌, refl, sym, ◌∙◌}
use borrow.Author.Rules.{rules}
use lib.ListN.{length}
use Rattle.std.specs.Prelude.{Ok, Err, option_copied}
use Rattle.edit.proofs.Edits.{edit_refuses, edit_names, edit_accepts}
use Rattle.edit.proofs.edit.Goals as goal

pub returns-in_err-granted-clause-step : goal.returns-in_err-granted-clause-step
returns-in_err-granted-clause-step c = let a = c.args in
    let r = c.in_err-granted.field-0.0 in
    let e : c.from_residual.result ≡ Err r = search rules in
    λ t. rw e (edit_refuses (option_copied a.index) a.p.now a.e t r c.in_err-granted.ensures)

pub returns-in_err-granted-clause-rule : goal.returns-in_err-granted-clause-rule
returns-in_err-granted-clause-rule c = let a = c.args in
    let r = c.in_err-granted.field-0.0 in
    let e : c.from_residual.result ≡ Err r = search rules in
    λ t k q. edit_names (option_copied a.index) a.p.now a.e t r c.in_err-granted.ensures k (sym e ∙ q)

pub returns-clause-step : goal.returns-clause-step
returns-clause-step c = let a = c.args in
    let long : length a.p.now.values ≡ 256 = search rules in
    λ t. rw c.store.ensures.0 (edit_accepts (option_copied a.index) a.p.now a.e t c.in_ok-granted.granted c.in_ok-granted.ensures long c.store.ensures.1)

pub returns-in_err-granted-clause-exact : goal.returns-in_err-granted-clause-exact
returns-in_err-granted-clause-exact c =
    let r = c.in_err-granted.field-0.0 in
    let e : c.from_residual.result ≡ Err r = search rules in
    record { decided = Err r; ruled = c.in_err-granted.ensures; carried = (e, refl) }

pub returns-clause-exact : goal.returns-clause-exact
returns-clause-exact c = record { decided = Ok c.in_ok-granted.granted; ruled = c.in_ok-granted.ensures; carried = (refl, c.store.ensures.0) }
