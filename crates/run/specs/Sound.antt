-- Scaffolding: what the program tests of a plan that it is handed, so that it knows that every rule holds. Assumes nothing.
use Rattle.std.specs.Prelude.{ℕ, min, Bool, true, false, cond, List, ℤ}
use Rattle.protocol.specs.Plan.{blank, whole, is, rule_limit}
use Rattle.rows.specs.Rows.{row}
use Rattle.rules.specs.Rules.{holds_in}
use Rattle.heads.specs.declared.Head.{Head}
use Rattle.heads.specs.Heads.{mode_of, measures_in}

abbrev pub sound_in : Head → List ℕ → List ℤ → List ℕ → List ℤ → Bool
sound_in h lower gap upper values =
    cond (is blank (mode_of h.mode)) true (cond (is whole (mode_of h.mode)) (holds_in lower gap upper (min h.rules rule_limit) (row values 0 (measures_in h))) false)
