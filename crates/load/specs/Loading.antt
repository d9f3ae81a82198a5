-- Believed: what loading promises: the answer and the plan of the definition, and a refusal that hands back the state as it was. Assumes nothing.
use Rattle.std.specs.Prelude.{ℕ, ◌≡◌, List}
use Rattle.file.specs.Loaded.{load}
use Rattle.state.specs.declared.State.{State}
use Rattle.state.specs.declared.Answered.{Answered}
use Rattle.state.specs.View.{view}
use Rattle.state.specs.Meets.{answer_of, IfRefused}

pub record MeetsLoad (f : List ℕ) (p : State) (r : Answered) : Type 0 where
  pub answer : answer_of r.answer ≡ (load f (view p)).answer
  pub plan : view r.state ≡ (load f (view p)).plan
  pub same : IfRefused r.answer (r.state ≡ p)
