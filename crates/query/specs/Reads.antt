-- Scaffolding: what the reading calls compute from what is lent to them. Assumes nothing.
use Rattle.std.specs.Prelude.{ℕ, zero, suc, ◌+◌, Bool, false, not, cond, ◌||◌, List, [], ◌∷◌, leb, ltb, get_or, set, replicate, Option, None, Some}
use Rattle.protocol.specs.Lists.{bit, one_to, count_to}
use Rattle.protocol.specs.Plan.{fate_number, blank, joining, is, active, unsent_of, side_limit}
use Rattle.protocol.specs.Calls.{Check, ◌unless◌}
use Rattle.records.specs.declared.EditRecord.{EditRecord}
use Rattle.heads.specs.declared.Head.{Head}
use Rattle.heads.specs.Heads.{mode_of, sides_in, index_of, measures_in, unset_in}
use Rattle.records.specs.Records.{fate_of, kept_of}
use Rattle.state.specs.Meets.{Answer, pair}

abbrev pub fate_answer : Option EditRecord → Answer
fate_answer None = pair 0 0
fate_answer (Some e) = pair (fate_number (fate_of e.fate)) e.place

abbrev pub show_checks : Head → ℕ → ℕ → List Check
show_checks h s room = (31 unless not (is blank (mode_of h.mode))) ∷ (21 unless one_to (sides_in h) s) ∷ (41 unless leb (measures_in h) room) ∷ []

-- how many of n sides have no first log yet or unsent edits
abbrev pub pending_in : List Bool → List ℕ → ℕ → ℕ
pending_in arrived unsent n = count_to (λ s. not (get_or arrived (index_of s) false) || ltb 0 (get_or unsent (index_of s) 0)) n

-- how many edits each of the first n sides has unsent, in an array for all sides
unfoldable pub unsent_counts : Head → List EditRecord → ℕ → List ℕ
unsent_counts h es zero = replicate side_limit 0
unsent_counts h es (suc n) = set (unsent_counts h es n) n (unsent_of (suc n) (kept_of h es))

abbrev pub left_number : Head → List Bool → List Bool → List ℕ → ℕ → ℕ
left_number h arrived confirmed unsent unsettled =
    cond (active (mode_of h.mode))
    (pending_in arrived unsent (sides_in h) + unsettled + unset_in confirmed (sides_in h) + bit (is joining (mode_of h.mode)) + 1) 0
