-- Scaffolding: a run that goes on as long as there is room, as an owner makes it piece by piece. Assumes nothing.
use Rattle.std.specs.Prelude.{ℕ, ◌-◌, ◌≡◌, Bool, true, false, cond, List, [], ◌∷◌, ◌++◌, leb, ltb, length, drop}
use Rattle.protocol.specs.Plan.{Plan}
use Rattle.format.specs.Lines.{lines}
use Rattle.format.specs.Sheets.{text, line_step, in_front}

-- the answers written, the lines that are left, the plan, and whether the last answer did not fit
pub record Ran : Type 0 where
  pub bytes : List ℕ
  pub rest : List (List ℕ)
  pub plan : Plan
  pub ended : Bool

abbrev pub behind_ran : List ℕ → Ran → Ran
behind_ran t r = record { bytes = t ++ r.bytes; rest = r.rest; plan = r.plan; ended = r.ended }

-- A line is begun only where `reserve` bytes are free. An answer that does not fit ends the run, and the plan is then dropped; or, where the run is to go on, it is
-- dropped itself.
unfoldable pub ran : Bool → ℕ → ℕ → Plan → List (List ℕ) → Ran
unfolding line_step text
ran on reserve room p [] = record { bytes = []; rest = []; plan = p; ended = false }
ran on reserve room p (l ∷ ls) =
    let r = line_step l p in
    let t = text r.answer in
    let further : Ran = cond on (ran on reserve room r.plan ls) (record { bytes = []; rest = ls; plan = r.plan; ended = true }) in
    cond (ltb room reserve) (record { bytes = []; rest = l ∷ ls; plan = p; ended = false })
    (cond (leb (length t) room) (behind_ran t (ran on reserve (room - length t) r.plan ls)) further)

-- what a run from a place of the sheet on leaves, from a plan and what was lent
pub record Advanced (on : Bool) (reserve : ℕ) (sheet : List ℕ) (from : ℕ) (p : Plan) (lent : List ℕ) (q : Plan) (next written : ℕ) (ended : Bool) (after : List ℕ) : Type 0 where
  pub plan : q ≡ (ran on reserve (length lent) p (lines (drop from sheet))).plan
  pub rest : lines (drop next sheet) ≡ (ran on reserve (length lent) p (lines (drop from sheet))).rest
  pub put : written ≡ length (ran on reserve (length lent) p (lines (drop from sheet))).bytes
  pub over : ended ≡ (ran on reserve (length lent) p (lines (drop from sheet))).ended
  pub buffer : after ≡ in_front (ran on reserve (length lent) p (lines (drop from sheet))).bytes lent
