-- Believed: modes and counts as the protocol has them, and where sides and kept edits stand. Assumes nothing.
use Rattle.std.specs.Prelude.{ℕ, zero, suc, ◌+◌, ◌*◌, ◌-◌, ◌%◌, min, Bool, false, cond, not, ◌&&◌, List, ltb, eqb, leb, get_or, ℤ, Option, None, Some}
use Rattle.protocol.specs.Plan as model
use Rattle.heads.specs.declared.Mode.{Mode}
use Rattle.heads.specs.declared.Mode.TheVariants.{Blank, Whole, Split, Joining, Closing}
use Rattle.heads.specs.declared.Head.{Head}
use Rattle.protocol.specs.Lists.{count_to, natural}
use Rattle.protocol.specs.Plan.{measure_limit, kept_limit}
use Rattle.protocol.specs.Sizes.{last_side, last_edit}

abbrev pub mode_of : Mode → model.Mode
mode_of Blank = model.blank
mode_of Whole = model.whole
mode_of Split = model.split
mode_of Joining = model.joining
mode_of Closing = model.closing

-- ---- sides

-- a blank or whole plan has one side
abbrev pub single : Head → Bool
single h = ltb (model.mode_number (mode_of h.mode)) 2

abbrev pub sides_in : Head → ℕ
sides_in h = cond (single h) 1 (suc (min h.added last_side))

abbrev pub index_of : ℕ → ℕ
index_of s = min (s - 1) last_side

abbrev pub offset_of : ℕ → ℕ
offset_of s = measure_limit * index_of s

abbrev pub measures_in : Head → ℕ
measures_in h = min h.measures measure_limit

-- ---- kept edits: their numbers are consecutive, and end below the next number or, in a blank or whole plan, the mark

abbrev pub end_in : Head → ℕ
end_in h = cond (single h) h.mark h.next

abbrev pub kept_in : Head → ℕ
kept_in h = min h.kept kept_limit

-- the position, from 1, of number n among k consecutive numbers that end below e; 0: none
unfoldable pub position_of : ℕ → ℕ → ℕ → ℕ
position_of e k n = cond (eqb n 0) (cond (ltb 0 k && leb e k) 1 0) (cond (ltb n e && leb (e - n) k) (suc (k - (e - n))) 0)

-- the place, from 0, of a position from 1; position 0 is none
abbrev pub seat : ℕ → Option ℕ
seat zero = None
seat (suc i) = Some i

-- the slot in which the edit at a position from 1 stands; position 0, which is none, has the last
abbrev pub slot_at : ℕ → ℕ
slot_at i = (i + last_edit) % kept_limit

-- the position, from 1, of the kept edit that a call's number names, and where it stands
abbrev pub named_at : Head → ℤ → ℕ
named_at h n = position_of (end_in h) (kept_in h) (natural n)

abbrev pub named_slot : Head → ℤ → ℕ
named_slot h n = slot_at (named_at h n)

-- ---- flags

-- how many of n sides have a flag that is not set
abbrev pub unset_in : List Bool → ℕ → ℕ
unset_in flags n = count_to (λ s. not (get_or flags (index_of s) false)) n
