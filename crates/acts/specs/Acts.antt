-- Believed: acts (02, S-1): the calls, loading and saving, made one after the other, and how the history enters them. Assumes nothing.
use Rattle.std.specs.Prelude.{ℕ, ◌+◌, ◌≡◌, Bool, true, false, ◌&&◌, ◌||◌, List, [], ◌∷◌, ◌++◌, eqb}
use Rattle.protocol.specs.Lists.{any}
use Rattle.protocol.specs.Plan.{Plan}
use Rattle.protocol.specs.Calls.{Call, is_refusal, Answer, no, ok, Stepped, step, start}
use Rattle.protocol.specs.History.{History, empty}
use Rattle.guarantee.specs.Runs.{closes, edits, reads, is_ok, quiet, closings, Run, run}
use Rattle.file.specs.Saved.{save}
use Rattle.file.specs.Loaded.{file_refusals, drawing, load}

-- one of the fourteen calls; a file loaded; the plan saved into a buffer of that length
pub data Act : Type 0 where
  call : (c : Call) → Act
  loading : (file : List ℕ) → Act
  saving : (room : ℕ) → Act

-- ---- sorts of acts: a load is no closing move and no edit, a save only reads

abbrev pub closes_act : Act → Bool
closes_act (call c) = closes c
closes_act (loading f) = false
closes_act (saving room) = false

abbrev pub edits_act : Act → Bool
edits_act (call c) = edits c
edits_act (loading f) = false
edits_act (saving room) = false

abbrev pub reads_act : Act → Bool
reads_act (call c) = reads c
reads_act (loading f) = false
reads_act (saving room) = true

-- a load or a save
abbrev pub of_file : Act → Bool
of_file (call c) = false
of_file (loading f) = true
of_file (saving room) = true

-- the agreed list, with loading's own
abbrev pub is_act_refusal : ℕ → Bool
is_act_refusal k = is_refusal k || any (eqb k) file_refusals

-- ---- an act made on a plan

abbrev pub act_step : Act → Plan → Stepped
act_step (call c) p = step c p
act_step (loading f) p = load f p
act_step (saving room) p = save room p

abbrev pub takes : Plan → Act → Bool
takes p a = is_ok (act_step a p).answer

abbrev pub following_act : Plan → Act → Plan
following_act p a = (act_step a p).plan

-- ---- the history: an accepted act is entered as the calls whose work it does, with the answers that they would give (01, "The book behind demand 3")

abbrev pub work : Act → List Call
work (call c) = c ∷ []
work (loading f) = drawing f
work (saving room) = []

-- a refused act does none
abbrev pub done_by : Answer → List Call → List Call
done_by (no k) cs = []
done_by (ok xs) cs = cs

abbrev pub work_of : Act → Plan → List Call
work_of a p = done_by (act_step a p).answer (work a)

abbrev pub entered_as : List Call → Plan → History → History
entered_as cs p h = (run cs (record { plan = p; history = h })).history

abbrev pub noting_act : Plan → History → Act → History
noting_act p h a = entered_as (work_of a p) p h

-- ---- a list of acts

abbrev pub end_acts : List Act → Plan → Plan
end_acts [] p = p
end_acts (a ∷ acts) p = end_acts acts (following_act p a)

-- no edit of the list is accepted
abbrev pub quiet_acts : List Act → Plan → Bool
quiet_acts [] p = true
quiet_acts (a ∷ acts) p = quiet (work_of a p) p && quiet_acts acts (following_act p a)

-- how many closing moves of the list are accepted, counted by the calls whose work is done
abbrev pub closings_acts : List Act → Plan → ℕ
closings_acts [] p = 0
closings_acts (a ∷ acts) p = closings (work_of a p) p + closings_acts acts (following_act p a)

-- the calls whose work the list does
abbrev pub done_acts : List Act → Plan → List Call
done_acts [] p = []
done_acts (a ∷ acts) p = work_of a p ++ done_acts acts (following_act p a)

-- from a blank plan, with the history kept beside it

abbrev pub run_acts : List Act → Run → Run
run_acts [] r = r
run_acts (a ∷ acts) r = run_acts acts (record { plan = following_act r.plan a; history = noting_act r.plan r.history a })

abbrev pub from_blank_acts : List Act → Run
from_blank_acts acts = run_acts acts (record { plan = start; history = empty })

-- Values of any type that show a plan, changed by acts of which each meets two equations: its answer and the plan after it are those of `act_step`.
module _ {S : Type 0} (view : S → Plan) where
  pub data ActTrace : S → History → Type 0 where
    begun : (s : S) → view s ≡ start → ActTrace s empty
    acted : {s : S} {h : History} → ActTrace s h → (a : Act) (r : S) (x : Answer) → x ≡ (act_step a (view s)).answer → view r ≡ (act_step a (view s)).plan
        → ActTrace r (entered_as (done_by x (work a)) (view s) h)
