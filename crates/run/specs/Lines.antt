-- Scaffolding: one line made on a plan and answered. Assumes nothing.
use Rattle.std.specs.Prelude.{ℕ, ◌≡◌, ◌≤◌, Option, IfSome, List, length}
use Rattle.format.specs.Sheets.{text, line_step}
use Rattle.reader.specs.Cut.{first_line}
use Rattle.writer.specs.Writes.{put_in, put_count}
use Rattle.state.specs.declared.State.{State}
use Rattle.state.specs.View.{view}
use Rattle.calls.specs.Makes.{Kept}
use Rattle.calls.specs.declared.Beside.{Beside}

-- how long the first line of a sheet's rest is
abbrev pub first_length : List ℕ → ℕ
first_length rest = length (first_line rest)

-- whatever is put into a room has room in it, and the room is as long as it was
abbrev pub PutSome : List ℕ → Option ℕ → List ℕ → Type 0
PutSome room put room' = (length room' ≡ length room) × IfSome put (λ n. n ≤ length room)

-- the plan is the one that the first line leaves, its answer is put into the room if it fits, and what is kept beside the plan stays true
pub record AnsweredLine (rest : List ℕ) (p : State) (room : List ℕ) (put : Option ℕ) (q : State) (b : Beside) (room' : List ℕ) : Type 0 where
  pub plan : view q ≡ (line_step (first_line rest) (view p)).plan
  pub count : put ≡ put_count (text (line_step (first_line rest) (view p)).answer) room
  pub buffer : room' ≡ put_in (text (line_step (first_line rest) (view p)).answer) room
  pub kept : Kept b q
