-- A line's call made on a plan and told answers the line. Assumes nothing.
use mathlib.Core.Path.{◌≡◌, sym, ap, subst, ◌∙◌}
use mathlib.Core.List.{List}
use Prim.Native.Nat.{ℕ}
use Rattle.std.specs.Prelude.{Option, Some, None}
use Rattle.protocol.specs.Calls.{Stepped}
use Rattle.protocol.specs.declared.call.Call.{Call}
use Rattle.format.specs.Lines.{line_call}
use Rattle.format.specs.Sheets.{text, step_of, line_step}
use Rattle.reader.specs.Cut.{first_line}
use Rattle.reader.specs.Reads.{called}
use Rattle.writer.specs.Writes.{line_of, put_in, put_count}
use Rattle.state.specs.declared.State.{State}
use Rattle.state.specs.Spread.{spread}
use Rattle.state.specs.View.{view}
use Rattle.calls.specs.Makes.{SoundIn, Kept, KnownIf, Made, row_told}
use Rattle.calls.specs.declared.Beside.{Beside}
use Rattle.calls.specs.declared.Told.{Told}
use Rattle.calls.proofs.Making.{sound_made}
use Rattle.run.specs.Lines.{AnsweredLine}

-- what is kept beside a plan is all that a call asks
pub known : (c : Option Call) {b : Beside} {p : State} → Kept b p → KnownIf c b p
known None k = tt
known (Some c) k = record { tallied = λ e. k.tallied; held = k.held; indexed = λ e. k.indexed }

module _ (c : Option Call) (rest : List ℕ) (read : called c ≡ line_call (first_line rest)) {p q : State} {b b' : Beside} {r : Told} (k : Kept b p) (m : Made c p b r q b') where
  step-is : step_of (called c) (view p) ≡ line_step (first_line rest) (view p)
  unfolding line_step
  step-is = ap (λ o. step_of o (view p)) read

  told-is : line_of r.answer (row_told q r.shown) ≡ text (line_step (first_line rest) (view p)).answer
  unfolding line_of
  told-is = ap text (m.answer ∙ ap (λ (s : Stepped). s.answer) step-is)

  pub answered : {room room' : List ℕ} {put : Option ℕ} → room' ≡ put_in (line_of r.answer (row_told q r.shown)) room → put ≡ put_count (line_of r.answer (row_told q r.shown)) room
      → AnsweredLine rest p room put q b' room'
  answered {room = room} e f = record {
    plan = m.plan ∙ ap (λ (s : Stepped). s.plan) step-is;
    count = f ∙ ap (λ bs. put_count bs room) told-is;
    buffer = e ∙ ap (λ bs. put_in bs room) told-is;
    kept = record {
      tallied = m.tallied k.tallied;
      held = subst (λ s. SoundIn s (spread q)) (sym m.sound) (sound_made m k.held);
      indexed = m.indexed k.indexed;
    };
  }
