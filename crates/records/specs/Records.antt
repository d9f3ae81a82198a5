-- Believed: kept edits as the protocol has them. Assumes nothing.
use Rattle.std.specs.Prelude.{ℕ, ◌-◌, Bool, false, cond, ◌&&◌, List, pos, eqb, get_or, Option, None, Some, slice_get}
use Rattle.protocol.specs.Plan as model
use Rattle.change.specs.Change.{view_change}
use Rattle.change.specs.declared.Change.TheVariants.{Set}
use Rattle.rows.specs.Rows.{span}
use Rattle.records.specs.declared.Fate.{Fate}
use Rattle.records.specs.declared.Fate.TheVariants.{Unsent, Waiting, Accepted, Revoked}
use Rattle.records.specs.declared.EditRecord.{EditRecord}
use Rattle.heads.specs.declared.Head.{Head}
use Rattle.records.specs.declared.Test.{Test}
use Rattle.records.specs.declared.Test.TheVariants.{UnsentOf, Waiting, Open, Settled}
use Rattle.heads.specs.Heads.{end_in, kept_in}

abbrev pub fate_of : Fate → model.Fate
fate_of Unsent = model.unsent
fate_of Waiting = model.waiting
fate_of Accepted = model.accepted
fate_of Revoked = model.revoked

-- what an array of edits reads past its end
abbrev pub no_record : EditRecord
no_record = record { change = Set (pos 0); fate = Unsent; side = 0; client = 0; earlier = 0; measure = 0; place = 0; replied = false }

abbrev pub kept_at : ℕ → EditRecord → model.Kept
kept_at n e =
    record {
      edit = record { number = n; side = e.side; client = e.client; earlier = e.earlier; measure = e.measure; change = view_change e.change };
      fate = fate_of e.fate;
      replied = e.replied;
      place = e.place;
    }

-- the first k edits, of which the last is numbered one below the end
abbrev pub log_of : ℕ → ℕ → List EditRecord → List model.Kept
log_of end k es = span 0 k (λ i. kept_at (end - (k - i)) (get_or es i no_record))

abbrev pub kept_of : Head → List EditRecord → List model.Kept
kept_of h es = log_of (end_in h) (kept_in h) es

abbrev pub test_of : Test → model.Kept → Bool
test_of (UnsentOf s) k = model.is_unsent k && eqb k.edit.side s
test_of Waiting k = model.is_waiting k
test_of Open k = model.is_open k
test_of Settled k = model.is_settled k

-- the edit found at a position from 1; position 0 is none
abbrev pub record_of : ℕ → EditRecord → EditRecord
record_of i e = cond (eqb i 0) no_record e

-- the edit at a place, if there is one, and no edit where there is none
abbrev pub found_at : List EditRecord → Option ℕ → Option EditRecord
found_at es None = None
found_at es (Some i) = slice_get es i

abbrev pub looked : Option EditRecord → EditRecord
looked None = no_record
looked (Some e) = e
