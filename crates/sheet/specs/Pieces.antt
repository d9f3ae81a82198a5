-- Believed: a sheet answered piece by piece: the answer lines that are due from a place of it on, and what a piece writes of them. Assumes nothing.
use Rattle.std.specs.Prelude.{ℕ, ◌<◌, ◌≤◌, ◌≡◌, false, cond, List, [], ◌∷◌, ◌++◌, ltb, length, take, drop}
use Rattle.protocol.specs.Plan.{Plan}
use Rattle.protocol.specs.Calls.{no}
use Rattle.format.specs.Lines.{lines}
use Rattle.format.specs.Sheets.{text, answer_lines, leaves, too_long, in_front}
use Rattle.format.specs.Longest.{longest_answer}
use Rattle.state.specs.declared.State.{State}
use Rattle.state.specs.View.{view}
use Rattle.sheet.specs.declared.Piece.{Piece}

-- lines one behind the other
abbrev pub flat : List (List ℕ) → List ℕ
flat [] = []
flat (t ∷ ts) = t ++ flat ts

-- The answer lines that are due from a place of the sheet on, where the lines before it left plan p. From its beginning on, with a blank plan, these are the
-- sheet's `replies` (proofs/Pieces: `due-whole`).
abbrev pub due : List ℕ → ℕ → Plan → List (List ℕ)
due sheet from p = cond (too_long sheet) (cond (ltb from (length sheet)) (text (no 52) ∷ []) []) (answer_lines p (lines (drop from sheet)))

-- What holds of a piece. How many lines it answers is free, but for `further`.
pub record Pieced (sheet : List ℕ) (from : ℕ) (p : State) (lent : List ℕ) (r : Piece) (after : List ℕ) : Type 0 where
  -- the answer lines that it writes,
  pub told : List (List ℕ)
  -- which are the first of those due; the others are due from where it ends on;
  pub parts : due sheet from (view p) ≡ told ++ due sheet r.next (view r.state)
  -- the plan is the one that as many lines leave
  pub plan : too_long sheet ≡ false → view r.state ≡ leaves (view p) (take (length told) (lines (drop from sheet)))
  -- and the others are left
  pub rest : too_long sheet ≡ false → lines (drop r.next sheet) ≡ drop (length told) (lines (drop from sheet))
  -- they stand in front of the buffer, and the rest of it is as it was
  pub written : r.written ≡ length (flat told)
  pub room : r.written ≤ length lent
  pub buffer : after ≡ in_front (flat told) lent
  -- where the longest answer has room, at least one line is answered if one is left
  pub further : longest_answer ≤ length lent → from < length sheet → from < r.next

-- A sheet answered from a place on by pieces, each beginning where the one before it ended, until its end: the bytes that each wrote.
pub data Pieces (sheet : List ℕ) : ℕ → State → List (List ℕ) → Type 0 where
  over : (from : ℕ) (p : State) → length sheet ≤ from → Pieces sheet from p []
  piece : {from : ℕ} {p : State} (lent : List ℕ) (r : Piece) (after : List ℕ) {ts : List (List ℕ)} → Pieced sheet from p lent r after → Pieces sheet r.next r.state ts
      → Pieces sheet from p (take r.written after ∷ ts)
