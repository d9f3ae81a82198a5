-- Scaffolding: the bytes up to a mark. Assumes nothing.
use Rattle.std.specs.Prelude.{ℕ, cond, List, [], ◌∷◌, eqb}
use Rattle.format.specs.Lines.{line_feed}

-- the bytes before the first b, or all
abbrev pub up_to : ℕ → List ℕ → List ℕ
up_to b [] = []
up_to b (x ∷ xs) = cond (eqb x b) [] (x ∷ up_to b xs)

-- the first line of a sheet
abbrev pub first_line : List ℕ → List ℕ
first_line bs = up_to line_feed bs
