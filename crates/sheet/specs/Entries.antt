-- Believed: the entries of saved plans (02, S-1): each is a function of what it is lent, and hands back one number and the buffer. Assumes nothing.
use Rattle.std.specs.Prelude.{ℕ, ◌*◌, cond, List, length}
use Rattle.protocol.specs.Plan.{Plan}
use Rattle.protocol.specs.Calls.{Answer, no, ok, Stepped, start}
use Rattle.format.specs.Lines.{lines}
use Rattle.format.specs.Sheets.{leaves, too_long, Screened, screen}
use Rattle.file.specs.Saved.{saved, save, save_into}
use Rattle.file.specs.Loaded.{load}

-- The number is the refusal, or 256 times the value. A refusal leaves the buffer.
abbrev pub refused_with : ℕ → List ℕ → Screened
refused_with k buffer = record { number = k; buffer = buffer }

abbrev pub giving : Screened → Screened
giving s = record { number = 256 * s.number; buffer = s.buffer }

-- what an entry does on the plan that a file stands for; the loading's refusals come first
abbrev pub on_loaded : Stepped → List ℕ → (Plan → Screened) → Screened
on_loaded l buffer f = by l.answer
  where
    by : Answer → Screened
    by (no k) = refused_with k buffer
    by (ok xs) = f l.plan

-- ---- a file is loaded into a blank plan, then a sheet is run on it

unfoldable pub load_entry : List ℕ → List ℕ → List ℕ → Screened
load_entry file sheet buffer = on_loaded (load file start) buffer (λ p. giving (screen p sheet buffer))

-- ---- the plan of a sheet is saved: the one that its lines leave, the answers dropped

abbrev pub plan_of : Plan → List ℕ → Plan
plan_of p sheet = leaves p (lines sheet)

-- the value is the count of bytes written
abbrev pub saved_by : Answer → Plan → List ℕ → Screened
saved_by (no k) p buffer = refused_with k buffer
saved_by (ok xs) p buffer = giving (record { number = length (saved p); buffer = save_into p buffer })

unfoldable pub save_from : Plan → List ℕ → List ℕ → Screened
save_from p sheet buffer = cond (too_long sheet) (refused_with 52 buffer) (let q = plan_of p sheet in saved_by (save (length buffer) q).answer q buffer)

unfoldable pub save_entry : List ℕ → List ℕ → Screened
unfolding save_from
save_entry sheet buffer = save_from start sheet buffer

unfoldable pub save_on_entry : List ℕ → List ℕ → List ℕ → Screened
unfolding save_from
save_on_entry file sheet buffer = on_loaded (load file start) buffer (λ p. save_from p sheet buffer)
