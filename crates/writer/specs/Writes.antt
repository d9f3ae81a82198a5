-- Scaffolding: the line of an answer, and the area that it is put into. Assumes nothing.
use Rattle.std.specs.Prelude.{ℕ, ◌+◌, ◌/◌, ◌%◌, Bool, cond, Option, Some, None, List, [], ◌∷◌, ◌++◌, leb, ℤ, length, get_or}
use Rattle.protocol.specs.Calls as model
use Rattle.format.specs.Numbers.{digits}
use Rattle.format.specs.Lines.{space, line_feed}
use Rattle.format.specs.Sheets.{spaced, text, in_front}
use Rattle.state.specs.declared.Given.{Given}
use Rattle.state.specs.declared.Given.TheVariants.{Nothing, One, Two, Three}
use Rattle.state.specs.Meets.{Answer, answer_of}

-- the numbers given, and those of a row behind them
abbrev pub with_row : model.Answer → List ℤ → model.Answer
with_row (model.no k) row = model.no k
with_row (model.ok xs) row = model.ok (xs ++ row)

-- the bytes of the answer line
unfoldable pub line_of : Answer → List ℤ → List ℕ
unfolding text
line_of answer row = text (with_row (answer_of answer) row)

-- a line goes in whole, in front, or not at all
abbrev pub fits : List ℕ → List ℕ → Bool
fits line area = leb (length line) (length area)

abbrev pub put_in : List ℕ → List ℕ → List ℕ
put_in line area = cond (fits line area) (in_front line area) area

-- how many bytes that is
abbrev pub put_count : List ℕ → List ℕ → Option ℕ
put_count line area = cond (fits line area) (Some (length line)) None

-- ---- the parts of a line

-- a number below 100 in two digits
abbrev pub two_digits : ℕ → List ℕ
two_digits n = (48 + n / 10) ∷ (48 + n % 10) ∷ []

abbrev pub told : ℕ → List ℕ
told n = space ∷ digits n

-- the numbers given, each behind a space
abbrev pub numbers_told : Given → List ℕ
numbers_told Nothing = []
numbers_told (One a) = told a
numbers_told (Two a b) = told a ++ told b
numbers_told (Three a b c) = told a ++ (told b ++ told c)

-- two letters, and the numbers given
abbrev pub head_of : List ℕ → Given → List ℕ
head_of letters given = get_or letters 0 0 ∷ get_or letters 1 0 ∷ numbers_told given

abbrev pub ended : List ℕ → List ℕ
ended bs = bs ++ (line_feed ∷ [])

abbrev pub ok_letters : List ℕ
ok_letters = 111 ∷ 107 ∷ []

abbrev pub no_letters : List ℕ
no_letters = 110 ∷ 111 ∷ []

-- `ok`, the numbers given, and a row
abbrev pub parts_of : Given → List ℤ → List ℕ
parts_of given row = ended (head_of ok_letters given ++ spaced row)

-- `no 51`, the answer to every line that cannot be read
abbrev pub unreadable : List ℕ
unreadable = 110 ∷ 111 ∷ 32 ∷ 53 ∷ 49 ∷ 10 ∷ []
