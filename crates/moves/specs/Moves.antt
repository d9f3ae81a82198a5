-- Scaffolding: the checks of the calls that part a plan and join it again, the heads that they leave, the kept edits as a send goes over them, and what the
-- plan's owner has counted. Assumes nothing.
use Rattle.std.specs.Prelude.{ℕ, ◌<◌, ◌≤◌, Bool, not, cond, ◌||◌, List, [], ◌∷◌, eqb, ltb, get_or, take, T, ◌≡◌, ℤ}
use Rattle.protocol.specs.Lists.{count, is_none, one_to}
use Rattle.protocol.specs.Plan.{whole, split, closing, mode_number, is, active, is_waiting, unsent_of, side_limit, measure_limit}
use Rattle.protocol.specs.Calls.{Check, ◌unless◌, ◌when◌, mark_sent}
use Rattle.heads.specs.declared.Head.{Head}
use Rattle.heads.specs.declared.Mode.TheVariants.{Whole, Split, Joining}
use Rattle.heads.specs.Heads.{mode_of, sides_in}
use Rattle.records.specs.declared.EditRecord.{EditRecord}
use Rattle.records.specs.Records.{kept_at, kept_of, no_record}
use Rattle.state.specs.declared.State.{State}

-- ---- what the plan's owner has counted

-- how many of its kept edits wait
abbrev pub Waiting : State → ℕ → Type 0
Waiting p n = n ≡ count is_waiting (kept_of p.head p.edits)

-- how many a side, if there is such a side, has unsent
abbrev pub Unsent : State → ℕ → ℕ → Type 0
Unsent p s n = T (one_to (sides_in p.head) s) → n ≡ unsent_of s (kept_of p.head p.edits)

-- ---- checks

abbrev pub split_checks : Head → ℕ → List Check
split_checks h s =
    (31 unless (is whole (mode_of h.mode) || is split (mode_of h.mode))) ∷ (21 unless one_to (sides_in h) s) ∷ (32 unless ltb (sides_in h) side_limit) ∷ []

abbrev pub send_checks : Head → ℕ → Bool → ℕ → List Check
send_checks h s arrived unsent = (31 unless active (mode_of h.mode)) ∷ (21 unless one_to (sides_in h) s) ∷ (33 unless (not arrived || ltb 0 unsent)) ∷ []

-- what stop and install share: the mode by its number, k if a flag is missing, the edits that wait
abbrev pub turn_checks : Head → ℕ → ℕ → ℕ → ℕ → List Check
turn_checks h m k missing waiting = (31 unless eqb (mode_number (mode_of h.mode)) m) ∷ (k unless is_none missing) ∷ (37 unless is_none waiting) ∷ []

abbrev pub confirm_checks : Head → ℕ → Bool → ℕ → List Check
confirm_checks h s confirmed unsent =
    (31 unless is closing (mode_of h.mode)) ∷ (21 unless one_to (sides_in h) s) ∷ (39 when confirmed) ∷ (38 unless is_none unsent) ∷ []

-- ---- kept edits

-- The first i edits are sent where they are unsent and side s's; the rest are as before.
pub record Marked (s : ℕ) (before next : List EditRecord) (i : ℕ) : Type 0 where
  pub done : (j : ℕ) → j < i → (n : ℕ) → kept_at n (get_or next j no_record) ≡ mark_sent s (kept_at n (get_or before j no_record))
  pub rest : (j : ℕ) → i ≤ j → get_or next j no_record ≡ get_or before j no_record

-- ---- heads

-- the first split of a whole plan drops the kept edits, and side 1's measures are its base
abbrev pub first_head : Head → Head
first_head h = record h { kept = cond (is whole (mode_of h.mode)) 0 h.kept; based = cond (is whole (mode_of h.mode)) h.measures h.based }

abbrev pub split_head : Head → Head
split_head h = record (first_head h) { mode = Split; added = sides_in h }

abbrev pub join_head : Head → Head
join_head h = record h { mode = Joining; drafted = h.based }

abbrev pub install_head : Head → Head
install_head h = record h { mode = Whole; measures = h.drafted; mark = h.next }

-- ---- rows

-- the base: the first split of a whole plan makes side 1's row the base
abbrev pub split_base : Head → List ℤ → List ℤ → List ℤ
split_base h base values = cond (is whole (mode_of h.mode)) (take measure_limit values) base
