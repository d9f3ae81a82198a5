-- Every refusal of a line is on the agreed list. Assumes nothing.
use Prim.Native.Nat.{ℕ}
use mathlib.Core.Path.{◌≡◌, subst}
use mathlib.Core.List.{List}
use mathlib.Core.Option.{Option, none, some}
use mathlib.Core.Bool.{◌||◌}
use lib.Dec.{T, eqb}
use Rattle.protocol.specs.Plan.{Plan}
use Rattle.protocol.specs.Calls.{Call, is_refusal, Answer, no, ok, step}
use Rattle.protocol.proofs.Laws.{or_left}
use Rattle.protocol.proofs.Refusals.{AnswerAgreed, answer-agreed}
use Rattle.format.specs.Lines.{line_call}
use Rattle.format.specs.Sheets.{step_of, line_step, is_sheet_refusal}

abbrev LineAgreed : Answer → Type 0
LineAgreed (no k) = T (is_sheet_refusal k)
LineAgreed (ok xs) = Unit {0}

wider : (a : Answer) → AnswerAgreed a → LineAgreed a
wider (no k) t = or_left (is_refusal k) (eqb k 51 || eqb k 52) t
wider (ok xs) t = tt

pub line_agreed : (l : List ℕ) (p : Plan) (k : ℕ) → (line_step l p).answer ≡ no k → T (is_sheet_refusal k)
unfolding line_step
line_agreed l p k e = subst LineAgreed e (by (line_call l))
  where
    by : (c : Option Call) → LineAgreed (step_of c p).answer
    by none = tt
    by (some c) = wider (step c p).answer (answer-agreed c p)
