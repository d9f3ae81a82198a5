-- Scaffolding: the checks of a file, by what they read of the state. Assumes nothing.
use Rattle.std.specs.Prelude.{ℕ, Bool, ◌&&◌, List, ◌∷◌}
use Rattle.protocol.specs.Lists.{is_none}
use Rattle.protocol.specs.Plan.{blank, is}
use Rattle.protocol.specs.Calls.{Check, ◌unless◌}
use Rattle.file.specs.Loaded.{file_checks}
use Rattle.heads.specs.declared.Head.{Head}
use Rattle.heads.specs.Heads.{mode_of}

-- blank with nothing drawn
abbrev pub untouched_in : Head → Bool
untouched_in h = is blank (mode_of h.mode) && is_none h.measures && is_none h.rules

abbrev pub head_checks : List ℕ → Head → List Check
head_checks f h = (31 unless untouched_in h) ∷ file_checks f
