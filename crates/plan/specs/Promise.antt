-- Believed: Condition 3 for the program: what holds of every state that calls, loads and saves made as their contracts say lead to. Assumes nothing.
use Rattle.std.specs.Prelude.{ℕ, cond, ◌≡◌, List, eqb, ℤ, length}
use Rattle.protocol.specs.Calls as model
use Rattle.protocol.specs.Calls.{Call, show, no, ok, shown}
use Rattle.protocol.specs.History.{History, empty, recorded}
use Rattle.file.specs.Saved.{save, save_into}
use Rattle.file.specs.Loaded.{drawing}
use Rattle.acts.specs.Acts.{done_by, entered_as}
use Rattle.acts.specs.Acting.{GuaranteeActs}
use Rattle.state.specs.Meets.{Answer, answer_of, Meets}
use Rattle.state.specs.declared.State.{State}
use Rattle.state.specs.View.{view, blank_state}
use Rattle.state.specs.declared.Answered.{Answered}
use Rattle.load.specs.Loading.{MeetsLoad}

-- what show answers, by the refusal number and the part that it hands back
abbrev pub shown_answer : ℕ → List ℤ → model.Answer
shown_answer refusal part = cond (eqb refusal 0) (ok part) (no refusal)

-- a state that calls, loads and saves lead to from the blank plan, with the history of these
pub data Reached : State → History → Type 0 where
  begun : Reached blank_state empty
  called : {p : State} {h : History} → Reached p h → (c : Call) (r : Answered) → Meets c p r → Reached r.state (recorded c (answer_of r.answer) h)
  showed : {p : State} {h : History} → Reached p h → (s : ℤ) (buffer : List ℤ) (refusal : ℕ) (part : List ℤ) → refusal ≡ (shown s (view p) buffer).refusal → part ≡ (shown s (view p) buffer).front
      → Reached p (recorded (show s (length buffer)) (shown_answer refusal part) h)
  -- An accepted load is entered as the calls that draw the file, a refused one is not entered.
  loaded : {p : State} {h : History} → Reached p h → (f : List ℕ) (r : Answered) → MeetsLoad f p r
      → Reached r.state (entered_as (done_by (answer_of r.answer) (drawing f)) (view p) h)
  -- A save, accepted or refused, leaves state and history.
  saved : {p : State} {h : History} → Reached p h → (buffer after : List ℕ) (a : Answer) → answer_of a ≡ (save (length buffer) (view p)).answer → after ≡ save_into (view p) buffer
      → Reached p h

-- the theorem (proofs/Promise: `promised`); what is guaranteed of lists of calls is its field `calls`
abbrev pub Promised : Type 0
Promised = (p : State) (h : History) → Reached p h → GuaranteeActs (view p) h
