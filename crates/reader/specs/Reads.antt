-- Scaffolding: what the reader answers, in the terms of the sheet. Assumes nothing.
use Rattle.std.specs.Prelude.{ℕ, zero, suc, ◌+◌, ◌≤◌, Bool, cond, ◌&&◌, ◌||◌, List, [], ◌∷◌, ◌≡◌, eqb, leb, ℤ, pos, length, get_or, drop, Option, None, Some, Result, Ok, Err}
use Rattle.std.proofs.Math.Option as math
use Rattle.std.proofs.Math.Option.{none, some}
use Rattle.protocol.specs.Lists.{all}
use Rattle.protocol.specs.Plan.{measure_limit}
use Rattle.protocol.specs.Calls as model
use Rattle.protocol.specs.Asked.{asked}
use Rattle.protocol.specs.declared.call.Call.{Call}
use Rattle.format.specs.Numbers.{is_digit, decimal, is_magnitude, number}
use Rattle.format.specs.Lines.{space, line_feed, Shape, complete, takes, Form, forms, same_bytes, line_call}
use Rattle.reader.specs.declared.Found.{Found}
use Rattle.reader.specs.declared.Op.{Op}
use Rattle.reader.specs.declared.Op.TheVariants.{Measure, Rule, Open, Split, Edit, Join, Send, Replay, Stop, Confirm, Install, Show, Fate, Left}
use Rattle.reader.specs.declared.Line.{Line}
use Rattle.reader.specs.Cut.{up_to}

-- ---- a number

-- the word that begins at a place of a line
abbrev pub word_at : List ℕ → ℕ → List ℕ
word_at line at = up_to space (drop at line)

-- a value with the place behind it
abbrev pub behind_it : {A : Type 0} → A → ℕ → Option (Found A)
behind_it x next = Some (record { value = x; next = next })

abbrev pub found : math.Option ℤ → ℕ → Option (Found ℤ)
found none next = None
found (some x) next = behind_it x next

unfoldable pub number_at : List ℕ → ℕ → Option (Found ℤ)
unfolding number
number_at line at = found (number (word_at line at)) (at + length (word_at line at))

unfoldable pub magnitude_at : List ℕ → ℕ → Option (Found ℕ)
magnitude_at line at = cond (is_magnitude (word_at line at)) (behind_it (decimal 0 (word_at line at)) (at + length (word_at line at))) None

-- a magnitude whose digits write n so far, k of them behind the first: the digits of bs follow, which begins at a place
unfoldable pub followed : ℕ → ℕ → ℕ → List ℕ → Option (Found ℕ)
followed k n at bs = cond (all is_digit bs && leb (k + length bs) 8) (behind_it (decimal n bs) (at + length bs)) None

-- whether a word ends before the byte
abbrev pub is_end : ℕ → Bool
is_end b = eqb b space || eqb b line_feed

-- digits that write n end before the byte, or do not
abbrev pub ending : ℕ → ℕ → ℕ → Option (Found ℕ)
ending b n at = cond (is_end b) (behind_it n at) None

-- ---- a name

abbrev pub next : ℕ → ℕ
next zero = 0
next (suc n) = suc (suc n)

-- which form, from 1, has the name; 0: none
abbrev pub place : List ℕ → List Form → ℕ
place name [] = 0
place name (f ∷ fs) = cond (same_bytes name f.name) 1 (next (place name fs))

-- which call has the name, from 1; 0: none
unfoldable pub op_of : List ℕ → ℕ
op_of name = place name forms

-- the place of a call's form among the forms, from 1
abbrev pub place_of : Op → ℕ
place_of Measure = 1
place_of Rule = 2
place_of Open = 3
place_of Split = 4
place_of Edit = 5
place_of Join = 6
place_of Send = 7
place_of Replay = 8
place_of Stop = 9
place_of Confirm = 10
place_of Install = 11
place_of Show = 12
place_of Fate = 13
place_of Left = 14

abbrev pub place_in : Option Op → ℕ
place_in None = 0
place_in (Some op) = place_of op

abbrev pub shape_nth : ℕ → List Form → math.Option Shape
shape_nth n [] = none
shape_nth zero (f ∷ fs) = none
shape_nth (suc zero) (f ∷ fs) = some f.shape
shape_nth (suc (suc n)) (f ∷ fs) = shape_nth (suc n) fs

-- how many numbers a shape takes
abbrev pub arity : Shape → ℕ
arity (complete c) = 0
arity (takes f) = suc (arity (f (pos 0)))

abbrev pub arity_of : math.Option Shape → ℕ
arity_of none = 0
arity_of (some s) = arity s

-- what the call numbered op takes, and how many numbers that is
unfoldable pub shape_at : ℕ → math.Option Shape
shape_at op = shape_nth op forms

unfoldable pub taken_by : ℕ → ℕ
unfolding shape_at
taken_by op = arity_of (shape_at op)

-- the first word is a call's name, read to its end, or none's
abbrev pub Named : List ℕ → Option (Found Op) → Type 0
Named line None = op_of (word_at line 0) ≡ 0
Named line (Some name) = (place_of name.value ≡ op_of (word_at line 0)) × (name.next ≡ length (word_at line 0))

-- ---- a line

-- a call with as many of the numbers as it takes
abbrev pub call_from : Op → List ℤ → model.Call
call_from Measure xs = model.measure (get_or xs 0 (pos 0))
call_from Rule xs = model.rule (get_or xs 0 (pos 0)) (get_or xs 1 (pos 0)) (get_or xs 2 (pos 0)) (get_or xs 3 (pos 0))
call_from Open xs = model.open_plan
call_from Split xs = model.split-side (get_or xs 0 (pos 0))
call_from Edit xs = model.edit (get_or xs 0 (pos 0)) (get_or xs 1 (pos 0)) (get_or xs 2 (pos 0)) (get_or xs 3 (pos 0)) (get_or xs 4 (pos 0)) (get_or xs 5 (pos 0))
call_from Join xs = model.join
call_from Send xs = model.send (get_or xs 0 (pos 0))
call_from Replay xs = model.replay (get_or xs 0 (pos 0))
call_from Stop xs = model.stop
call_from Confirm xs = model.confirm (get_or xs 0 (pos 0))
call_from Install xs = model.install
call_from Show xs = model.show (get_or xs 0 (pos 0)) measure_limit
call_from Fate xs = model.fate_of_edit (get_or xs 0 (pos 0))
call_from Left xs = model.left

-- the call of the definitions; none: the line cannot be read
abbrev pub called : Option Call → math.Option model.Call
called None = none
called (Some c) = some (asked c)

-- the call of a line that was read
abbrev pub line_in : Line → math.Option model.Call
line_in l = called l.call

-- a line was read to its end, or up to a place at which it is no call's
abbrev pub Taken : List ℕ → Result (Found Call) ℕ → Type 0
Taken line (Ok read) = (some (asked read.value) ≡ line_call line) × (read.next ≡ length line)
Taken line (Err at) = (none ≡ line_call line) × (at ≤ length line)
