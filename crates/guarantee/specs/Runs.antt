-- Believed: what the guarantee speaks of: lists of calls made one after the other, and the sorts of calls. Assumes nothing.
use Rattle.std.specs.Prelude.{ℕ, ◌+◌, ◌≡◌, Bool, true, false, not, cond, ◌&&◌, List, [], ◌∷◌, eqb}
use Rattle.protocol.specs.Lists.{bit}
use Rattle.protocol.specs.Plan.{Plan}
use Rattle.protocol.specs.Calls.{Call, measure, rule, open_plan, split-side, edit, join, send, replay, stop, confirm, install, show, fate_of_edit, left, Answer, no, ok, step, following, start}
use Rattle.protocol.specs.History.{History, empty, recorded}

-- ---- sorts of calls: closing moves, edits, reading calls, others

pub data Sort : Type 0 where
  closing editing reading other : Sort

abbrev pub sort_of : Call → Sort
sort_of (measure v) = other
sort_of (rule a c b f) = other
sort_of open_plan = other
sort_of (split-side s) = other
sort_of (edit s client n m kind k) = editing
sort_of join = other
sort_of (send s) = closing
sort_of (replay n) = closing
sort_of stop = closing
sort_of (confirm s) = closing
sort_of install = closing
sort_of (show s room) = reading
sort_of (fate_of_edit n) = reading
sort_of left = reading

abbrev sort_number : Sort → ℕ
sort_number closing = 1
sort_number editing = 2
sort_number reading = 3
sort_number other = 4

abbrev pub closes : Call → Bool
closes c = eqb (sort_number (sort_of c)) 1

abbrev pub edits : Call → Bool
edits c = eqb (sort_number (sort_of c)) 2

abbrev pub reads : Call → Bool
reads c = eqb (sort_number (sort_of c)) 3

-- ---- a call, and a list of calls, made on a plan

abbrev pub is_ok : Answer → Bool
is_ok (no k) = false
is_ok (ok xs) = true

abbrev pub accepts : Plan → Call → Bool
accepts p c = is_ok (step c p).answer

-- the history that a call leaves
abbrev pub noting : Plan → History → Call → History
noting p h c = recorded c (step c p).answer h

-- no edit of the list is accepted
abbrev pub quiet : List Call → Plan → Bool
quiet [] p = true
quiet (c ∷ cs) p = not (edits c && accepts p c) && quiet cs (following p c)

-- how many closing moves of the list are accepted
abbrev pub closings : List Call → Plan → ℕ
closings [] p = 0
closings (c ∷ cs) p = bit (closes c && accepts p c) + closings cs (following p c)

-- the calls of the list that are accepted
abbrev pub taken : List Call → Plan → List Call
taken [] p = []
taken (c ∷ cs) p = cond (accepts p c) (c ∷ taken cs (following p c)) (taken cs (following p c))

-- ---- from a blank plan, with the history kept beside it

pub record Run : Type 0 where
  pub plan : Plan
  pub history : History

abbrev pub run : List Call → Run → Run
run [] r = r
run (c ∷ cs) r = run cs (record { plan = following r.plan c; history = noting r.plan r.history c })

abbrev pub from_blank : List Call → Run
from_blank cs = run cs (record { plan = start; history = empty })

-- Values of any type that show a plan, changed by calls of which each meets two equations: its answer and the plan after it are those of `step`.
module _ {S : Type 0} (view : S → Plan) where
  pub data Trace : S → History → Type 0 where
    begun : (s : S) → view s ≡ start → Trace s empty
    called : {s : S} {h : History} → Trace s h → (c : Call) (r : S) (a : Answer) → a ≡ (step c (view s)).answer → view r ≡ (step c (view s)).plan → Trace r (recorded c a h)
