-- Believed: the answers to a sheet, and the buffer that they are put into (01, "The sheet program"). Assumes nothing.
use Rattle.std.specs.Prelude.{ℕ, ◌+◌, ◌*◌, ◌-◌, Bool, true, false, cond, ◌||◌, List, [], ◌∷◌, ◌++◌, eqb, leb, ltb, ℤ, length, drop}
use Rattle.std.proofs.Math.Option.{Option, none, some}
use Rattle.protocol.specs.Lists.{bit}
use Rattle.protocol.specs.Plan.{Plan}
use Rattle.protocol.specs.Calls.{Call, is_refusal, Answer, no, ok, Stepped, step}
use Rattle.format.specs.Numbers.{digits, written, nought}
use Rattle.format.specs.Lines.{line_feed, space, lines, line_call}

-- ---- an answer's bytes: `ok` and the numbers given, or `ok 0`; `no` and the refusal

abbrev pub spaced : List ℤ → List ℕ
unfolding written
spaced [] = []
spaced (x ∷ xs) = space ∷ written x ++ spaced xs

abbrev pub numbers_text : List ℤ → List ℕ
numbers_text [] = space ∷ nought ∷ []
numbers_text (x ∷ xs) = spaced (x ∷ xs)

unfoldable pub text : Answer → List ℕ
unfolding digits written
text (no k) = 110 ∷ 111 ∷ space ∷ digits k ++ (line_feed ∷ [])
text (ok xs) = 111 ∷ 107 ∷ numbers_text xs ++ (line_feed ∷ [])

-- ---- a line made on a plan

abbrev pub step_of : Option Call → Plan → Stepped
step_of none p = record { answer = no 51; plan = p }
step_of (some c) p = step c p

unfoldable pub line_step : List ℕ → Plan → Stepped
line_step l p = step_of (line_call l) p

-- the agreed list of refusals, with the sheet's own
abbrev pub is_sheet_refusal : ℕ → Bool
is_sheet_refusal k = is_refusal k || (eqb k 51 || eqb k 52)

-- one answer for each line
unfoldable pub answer_lines : Plan → List (List ℕ) → List (List ℕ)
unfolding line_step text
answer_lines p [] = []
answer_lines p (l ∷ ls) = let r = line_step l p in text r.answer ∷ answer_lines r.plan ls

-- the plan that lines leave
abbrev pub leaves : Plan → List (List ℕ) → Plan
leaves p [] = p
leaves p (l ∷ ls) = leaves (line_step l p).plan ls

-- ---- the answers to a sheet, on a plan: a run begins with the blank one

abbrev pub sheet_limit : ℕ
sheet_limit = 65536

abbrev pub too_long : List ℕ → Bool
too_long sheet = ltb sheet_limit (length sheet)

unfoldable pub replies : Plan → List ℕ → List (List ℕ)
unfolding text answer_lines lines
replies p sheet = cond (too_long sheet) (text (no 52) ∷ []) (answer_lines p (lines sheet))

-- ---- the buffer

-- what goes in, and whether an answer did not fit
pub record Fitted : Type 0 where
  pub bytes : List ℕ
  pub ended : Bool

abbrev pub behind : List ℕ → Fitted → Fitted
behind t f = record { bytes = t ++ f.bytes; ended = f.ended }

-- each answer goes in whole; the first that does not fit ends the run
unfoldable pub fitted : ℕ → List (List ℕ) → Fitted
fitted room [] = record { bytes = []; ended = false }
fitted room (t ∷ ts) = cond (leb (length t) room) (behind t (fitted (room - length t) ts)) (record { bytes = []; ended = true })

-- bytes in front of a buffer, the rest as it was
abbrev pub in_front : List ℕ → List ℕ → List ℕ
in_front bs buffer = bs ++ drop (length bs) buffer

-- the number handed back, and the buffer
pub record Screened : Type 0 where
  pub number : ℕ
  pub buffer : List ℕ

abbrev pub screened : Fitted → List ℕ → Screened
screened f buffer = record { number = 2 * length f.bytes + bit f.ended; buffer = in_front f.bytes buffer }

unfoldable pub screen : Plan → List ℕ → List ℕ → Screened
unfolding fitted replies
screen p sheet buffer = screened (fitted (length buffer) (replies p sheet)) buffer
