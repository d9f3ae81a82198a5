use borrow.Author.Rules.{rules}
use mathlib.Core.Path.{◌≡◌, ap, ◌∙◌}
use Rattle.std.specs.Prelude.{Err}
use Rattle.state.specs.View.{view}
use Rattle.sheet.specs.Served.{outcome_of}
use Rattle.sheet.proofs.Entries.{saved_refused, saved_given}
use Rattle.sheet.proofs.save_plan.Goals as goal

pub returns-in_err-given-clause-outcome : goal.returns-in_err-given-clause-outcome
returns-in_err-given-clause-outcome c = let a = c.args in
    let e : c.from_residual.result ≡ Err c.in_err-given.field-0.0 = search rules in
    ap (λ r. outcome_of r c.save_in.new.area) e ∙ saved_refused (view a.p.now) a.area.now c.save_in.new.area c.save_in.ensures.1 _ c.in_err-given.ensures.0

pub returns-clause-outcome : goal.returns-clause-outcome
returns-clause-outcome c = let a = c.args in
    rw c.size.ensures.0 (saved_given (view a.p.now) a.area.now c.save_in.new.area c.save_in.ensures.1 _ c.in_ok-given.ensures.0)
