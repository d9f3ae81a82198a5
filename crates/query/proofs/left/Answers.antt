use mathlib.Core.Path.{ap, ◌∙◌}
use Rattle.state.specs.Meets.{answer_of, number}
use Rattle.state.specs.View.{view}
use Rattle.query.proofs.Readings.{left_given}
use Rattle.query.proofs.left.Goals as goal

pub returns-clause-step : goal.returns-clause-step
returns-clause-step c h = ap (λ n. answer_of (number n)) c.steps_left.ensures ∙ left_given (view c.args.p.now) c.args.counts.now h
