-- Computed: samples of the definitions: the edges of numbers and lines. Assumes nothing.
use Rattle.std.specs.Prelude.{◌≡◌, refl, [], ◌∷◌, map, pos}
use Rattle.std.proofs.Math.Option.{none, some}
use Rattle.protocol.specs.Lists.{neg}
use Rattle.protocol.specs.Calls.{left, rule}
use Rattle.format.specs.Numbers.{number, written}
use Rattle.format.specs.Lines.{lines, line_call}

-- 0, -0, 00, 07, -7, 999999999, ten digits, nothing, a minus, 1 and a carriage return
pub numbers_read : map number
    ((48 ∷ []) ∷ (45 ∷ 48 ∷ []) ∷ (48 ∷ 48 ∷ []) ∷ (48 ∷ 55 ∷ []) ∷ (45 ∷ 55 ∷ []) ∷ (57 ∷ 57 ∷ 57 ∷ 57 ∷ 57 ∷ 57 ∷ 57 ∷ 57 ∷ 57 ∷ []) ∷ (49 ∷ 48 ∷ 48 ∷ 48 ∷ 48 ∷ 48 ∷ 48 ∷ 48 ∷ 48 ∷ 48 ∷ []) ∷ [] ∷
    (45 ∷ []) ∷ (49 ∷ 13 ∷ []) ∷ [])
    ≡ (some (pos 0) ∷ none ∷ none ∷ none ∷ some (neg 7) ∷ some (pos 999999999) ∷ none ∷ none ∷ none ∷ none ∷ [])
unfolding number
numbers_read = refl

pub numbers-written : map written (pos 0 ∷ pos 7 ∷ neg 10 ∷ pos 305 ∷ []) ≡ ((48 ∷ []) ∷ (55 ∷ []) ∷ (45 ∷ 49 ∷ 48 ∷ []) ∷ (51 ∷ 48 ∷ 53 ∷ []) ∷ [])
unfolding written
numbers-written = refl

-- "left LF" is one line, "LF" an empty one, "left LF left" two, nothing none
pub lines_cut : map lines ((108 ∷ 10 ∷ []) ∷ (10 ∷ []) ∷ (108 ∷ 10 ∷ 109 ∷ []) ∷ [] ∷ []) ≡ (((108 ∷ []) ∷ []) ∷ ([] ∷ []) ∷ ((108 ∷ []) ∷ (109 ∷ []) ∷ []) ∷ [] ∷ [])
unfolding lines
lines_cut = refl

-- left; left and a space; left 1; rule 1 0 2 0; an empty line
pub lines_read : map line_call
    ((108 ∷ 101 ∷ 102 ∷ 116 ∷ []) ∷ (108 ∷ 101 ∷ 102 ∷ 116 ∷ 32 ∷ []) ∷ (108 ∷ 101 ∷ 102 ∷ 116 ∷ 32 ∷ 49 ∷ []) ∷ (114 ∷ 117 ∷ 108 ∷ 101 ∷ 32 ∷ 49 ∷ 32 ∷ 48 ∷ 32 ∷ 50 ∷ 32 ∷ 48 ∷ []) ∷ [] ∷ [])
    ≡ (some left ∷ none ∷ none ∷ some (rule (pos 1) (pos 0) (pos 2) (pos 0)) ∷ none ∷ [])
unfolding line_call
lines_read = refl
