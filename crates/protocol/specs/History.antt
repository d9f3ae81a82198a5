-- Believed: the history (01's "book"), kept of a list of calls from their numbers and answers alone. Assumes nothing.
use Rattle.std.specs.Prelude.{ℕ, suc, ◌+◌, Bool, true, false, not, cond, ◌&&◌, ◌||◌, List, [], ◌∷◌, length, T, eqb, ℤ, nat_abs}
use Rattle.protocol.specs.Lists.{natural, count, snoc}
use Rattle.protocol.specs.Plan.{Rule, Edit, Mode, blank, whole, split, joining, closing, is, holds, made, absent_edit}
use Rattle.protocol.specs.Calls.{Call, measure, rule, open_plan, split-side, edit, join, send, replay, stop, confirm, install, show, fate_of_edit, left, rule_of, edit_of, Answer, no, ok}

-- an edit kept since the split, and whether it is late
pub record Entry : Type 0 where
  pub edit : Edit
  pub late : Bool

-- an edit that was replayed, and the number that the replay gave
pub record Settling : Type 0 where
  pub edit : Edit
  pub given : ℕ

-- what was accepted since the join: an edit or a send on a side, or another closing move
pub data Move : Type 0 where
  edited sent : ℕ → Move
  other : Move

-- settlings and moves stand newest first
pub record History : Type 0 where
  pub mode : Mode
  pub values : List ℤ
  pub rules : List Rule
  pub sides : ℕ
  pub kept : List Entry
  pub settlings : List Settling
  pub moves : List Move

abbrev pub empty : History
empty = record { mode = blank; values = []; rules = []; sides = 0; kept = []; settlings = []; moves = [] }

-- ---- what it says

-- the last send or edit accepted on side s since the join was a send
abbrev pub last_sent : ℕ → List Move → Bool
last_sent s [] = false
last_sent s (edited x ∷ ms) = cond (eqb s x) false (last_sent s ms)
last_sent s (sent x ∷ ms) = cond (eqb s x) true (last_sent s ms)
last_sent s (other ∷ ms) = last_sent s ms

abbrev pub is_closing : Move → Bool
is_closing (edited s) = false
is_closing (sent s) = true
is_closing other = true

-- the closing moves accepted since the join
abbrev pub closed : History → ℕ
closed h = count is_closing h.moves

-- an edit accepted on side s now is late
abbrev pub is_late : ℕ → History → Bool
is_late s h = is joining h.mode && last_sent s h.moves

-- what the number left starts from: 2, twice the sides, the edits kept since the split, the late ones once more
abbrev pub budget : History → ℕ
budget h = 2 + (h.sides + h.sides) + length h.kept + count (λ e. e.late) h.kept

-- edit n is kept since the split
abbrev pub listed : ℕ → List Entry → Bool
listed n [] = false
listed n (e ∷ es) = eqb n e.edit.number || listed n es

abbrev pub edit_in : ℕ → List Entry → Edit
edit_in n [] = absent_edit.edit
edit_in n (e ∷ es) = cond (eqb n e.edit.number) e.edit (edit_in n es)

abbrev pub was_accepted : Settling → Bool
was_accepted x = eqb x.given 3

-- how often n was settled; what its replay gave, and its place: 1, 2, 3 and on
abbrev pub times : ℕ → List Settling → ℕ
times n [] = 0
times n (x ∷ xs) = cond (eqb n x.edit.number) (suc (times n xs)) (times n xs)

abbrev pub settled_as : ℕ → List Settling → ℕ × ℕ
settled_as n [] = (0, 0)
settled_as n (x ∷ xs) = cond (eqb n x.edit.number) (x.given, suc (length xs)) (settled_as n xs)

-- the values with the changes settled as accepted made in order of settling
abbrev pub replayed : List Settling → List ℤ → List ℤ
replayed [] vs = vs
replayed (x ∷ xs) vs = cond (was_accepted x) (made x.edit.measure x.edit.change (replayed xs vs)) (replayed xs vs)

-- every rule holds after each of them
abbrev pub EachHolds : List Rule → List Settling → List ℤ → Type 0
EachHolds rs [] vs = Unit {0}
EachHolds rs (x ∷ xs) vs = T (not (was_accepted x) || holds rs (replayed (x ∷ xs) vs)) × EachHolds rs xs vs

-- ---- how it is kept

abbrev in_mode : Mode → History → History
in_mode m h = record { mode = m; values = h.values; rules = h.rules; sides = h.sides; kept = h.kept; settlings = h.settlings; moves = h.moves }

abbrev with_values : List ℤ → History → History
with_values vs h = record { mode = h.mode; values = vs; rules = h.rules; sides = h.sides; kept = h.kept; settlings = h.settlings; moves = h.moves }

abbrev with_rules : List Rule → History → History
with_rules rs h = record { mode = h.mode; values = h.values; rules = rs; sides = h.sides; kept = h.kept; settlings = h.settlings; moves = h.moves }

abbrev with_sides : ℕ → History → History
with_sides n h = record { mode = h.mode; values = h.values; rules = h.rules; sides = n; kept = h.kept; settlings = h.settlings; moves = h.moves }

abbrev with_kept : List Entry → History → History
with_kept es h = record { mode = h.mode; values = h.values; rules = h.rules; sides = h.sides; kept = es; settlings = h.settlings; moves = h.moves }

abbrev with_settlings : List Settling → History → History
with_settlings xs h = record { mode = h.mode; values = h.values; rules = h.rules; sides = h.sides; kept = h.kept; settlings = xs; moves = h.moves }

abbrev with_moves : List Move → History → History
with_moves ms h = record { mode = h.mode; values = h.values; rules = h.rules; sides = h.sides; kept = h.kept; settlings = h.settlings; moves = ms }

abbrev noted : Move → History → History
noted x h = with_moves (x ∷ h.moves) h

-- the first number that a call gave
abbrev pub first_of : List ℤ → ℕ
first_of [] = 0
first_of (x ∷ xs) = nat_abs x

-- an accepted call, with the numbers that it gave
unfoldable pub entered : Call → List ℤ → History → History
entered (measure v) xs h = with_values (snoc h.values v) h
entered (rule a c b f) xs h = with_rules (snoc h.rules (rule_of a c b f)) h
entered open_plan xs h = in_mode whole (with_sides 1 h)
entered (split-side s) xs h = in_mode split (with_sides (suc h.sides) (cond (is whole h.mode) (with_kept [] (with_settlings [] h)) h))
entered (edit s client n m kind k) xs h =
    let e = edit_of (first_of xs) s client n m kind k in
    cond (is whole h.mode)
    (with_values (made e.measure e.change h.values) h)
    (noted (edited e.side) (with_kept (snoc h.kept (record { edit = e; late = is_late e.side h })) h))
entered join xs h = in_mode joining (with_moves [] h)
entered (send s) xs h = noted (sent (natural s)) h
entered (replay n) xs h = noted other (with_settlings (record { edit = edit_in (natural n) h.kept; given = first_of xs } ∷ h.settlings) h)
entered stop xs h = in_mode closing (noted other h)
entered (confirm s) xs h = noted other h
entered install xs h = in_mode whole (with_sides 1 (with_values (replayed h.settlings h.values) (noted other h)))
entered (show s room) xs h = h
entered (fate_of_edit n) xs h = h
entered left xs h = h

abbrev pub recorded : Call → Answer → History → History
recorded c (no k) h = h
recorded c (ok xs) h = entered c xs h
