-- Scaffolding: a file drawn by the program, slot by slot, and loaded. Assumes nothing.
use Rattle.std.specs.Prelude.{ℕ, ◌≡◌, List, [], map, Result, Ok, Err, OnOk}
use Rattle.protocol.specs.Asked.{number_of, verdict_of}
use Rattle.protocol.specs.Calls as model
use Rattle.protocol.specs.Calls.{Call, measure, no, ok, end, Stepped}
use Rattle.protocol.specs.declared.refusal.Refusal.{Refusal}
use Rattle.file.specs.Loaded.{slot_in, slots, value_in, rule_in, chain, first_refusal, load}
use Rattle.slots.specs.declared.Kind.{Kind}
use Rattle.slots.specs.declared.Kind.TheVariants.{Measure, Rule}
use Rattle.state.specs.declared.State.{State}
use Rattle.state.specs.View.{view}
use Rattle.draw.specs.Draw.{LeavesRest}

-- the call that a slot asks for: a measure's, or a rule's
abbrev pub slot_call : Kind → List ℕ → Call
slot_call Measure s = measure (value_in s)
slot_call Rule s = rule_in s

-- those of a chain
abbrev pub slot_calls : Kind → List ℕ → List ℕ → List Call
slot_calls kind f ks = map (λ k. slot_call kind (slot_in f k)) ks

abbrev pub chain_calls : Kind → List ℕ → ℕ → List Call
chain_calls kind f start = slot_calls kind f (chain f (slots f) start)

-- nothing is given where calls are accepted, else why one is refused
abbrev pub Outcome : Type 0
Outcome = Result (Unit {0}) Refusal

-- Calls made one after the other, up to the first that is refused. What drawing does not change stays as it was, also where one is refused.
pub record Drew (cs : List Call) (p : State) (r : Outcome) (q : State) : Type 0 where
  pub verdict : first_refusal cs (view p) ≡ verdict_of r
  pub plan : OnOk r (view q ≡ end cs (view p))
  pub rest : LeavesRest p q

-- what loading answers
abbrev pub load_answer : Outcome → model.Answer
load_answer (Ok u) = ok []
load_answer (Err r) = no (number_of r)

-- A file loaded, with the plan where it is accepted. What drawing does not change stays as it was, also where it is refused.
pub record LoadedAs (s : Stepped) (p : State) (r : Outcome) (q : State) : Type 0 where
  pub answer : s.answer ≡ load_answer r
  pub plan : OnOk r (view q ≡ s.plan)
  pub rest : LeavesRest p q

abbrev pub LoadedFrom : List ℕ → State → Outcome → State → Type 0
LoadedFrom f p r q = LoadedAs (load f (view p)) p r q
