-- A call made in place, from what its check found and its law over the state's lists. Assumes nothing.
use mathlib.Core.Path.{◌≡◌, sym, ◌∙◌}
use mathlib.Core.List.{List}
use Rattle.std.specs.Prelude.{Err}
use Rattle.protocol.specs.Asked.{number_of}
use Rattle.protocol.specs.Calls.{Call, Check, refused, first, checks}
use Rattle.protocol.specs.declared.refusal.Refusal.{Refusal}
use Rattle.state.specs.declared.State.{State}
use Rattle.state.specs.Meets.{Answer, Makes}
use Rattle.state.specs.Spread.{Spread, spread, plan_of}
use Rattle.state.proofs.Steps.{refuses, refused_makes}

-- What a call's check found is what the protocol's checks find; cs is what both come to, in the plan's terms.
pub record Checked (c : Call) (p : Spread) (cs found : List Check) : Type 0 where
  pub same : first (checks c (plan_of p)) ≡ first cs
  pub finds : first found ≡ first cs

pub refused_by : {c : Call} {p : State} {a : Answer} {r : Refusal} {cs found : List Check} → Checked c (spread p) cs found → a ≡ Err r → refused (number_of r) ≡ first found → Makes c p a p
refused_by {c = c} {p = p} {r = r} {cs = cs} k e f = refused_makes e (refuses {c = c} {p = spread p} cs r k.same (sym (f ∙ k.finds)))
