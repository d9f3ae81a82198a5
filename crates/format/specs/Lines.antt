-- Believed: lines and the calls that they ask for (01, "The sheet program"). Assumes nothing.
use Rattle.std.specs.Prelude.{ℕ, Bool, true, false, cond, ◌&&◌, List, [], ◌∷◌, eqb, ℤ}
use Rattle.std.proofs.Math.Option.{Option, none, some}
use Rattle.protocol.specs.Plan.{measure_limit}
use Rattle.protocol.specs.Calls.{Call, measure, rule, open_plan, split-side, edit, join, send, replay, stop, confirm, install, show, fate_of_edit, left}
use Rattle.format.specs.Numbers.{number}

-- ---- cutting

abbrev pub line_feed : ℕ
line_feed = 10

abbrev pub space : ℕ
space = 32

-- a byte in front of the first piece
abbrev pub grow : ℕ → List (List ℕ) → List (List ℕ)
grow b [] = (b ∷ []) ∷ []
grow b (w ∷ ws) = (b ∷ w) ∷ ws

-- a line feed ends a line and begins none, so a last line without one counts
unfoldable pub lines : List ℕ → List (List ℕ)
lines [] = []
lines (b ∷ bs) = cond (eqb b line_feed) ([] ∷ lines bs) (grow b (lines bs))

-- the words of a line, with one space between
unfoldable pub words : List ℕ → List (List ℕ)
words [] = [] ∷ []
words (b ∷ bs) = cond (eqb b space) ([] ∷ words bs) (grow b (words bs))

-- ---- names and their numbers

-- a call that still takes numbers, one at a time
pub data Shape : Type 0 where
  complete : Call → Shape
  takes : (ℤ → Shape) → Shape

-- the call with exactly the numbers that it takes
abbrev pub filled : Shape → List ℤ → Option Call
filled (complete c) [] = some c
filled (complete c) (x ∷ xs) = none
filled (takes f) [] = none
filled (takes f) (x ∷ xs) = filled (f x) xs

pub record Form : Type 0 where
  pub name : List ℕ
  pub shape : Shape

infix 20 ◌asks◌
abbrev pub ◌asks◌ : List ℕ → Shape → Form
n asks s = record { name = n; shape = s }

-- The fourteen calls, named by their bytes: measure, rule, open, split, edit, join, send, replay, stop, confirm, install, show, fate, left.
-- A sheet's show always has room for every measure.
abbrev pub forms : List Form
forms =
    ((109 ∷ 101 ∷ 97 ∷ 115 ∷ 117 ∷ 114 ∷ 101 ∷ []) asks takes (λ v. complete (measure v)))
    ∷ ((114 ∷ 117 ∷ 108 ∷ 101 ∷ []) asks takes (λ a. takes (λ c. takes (λ b. takes (λ f. complete (rule a c b f))))))
    ∷ ((111 ∷ 112 ∷ 101 ∷ 110 ∷ []) asks complete open_plan)
    ∷ ((115 ∷ 112 ∷ 108 ∷ 105 ∷ 116 ∷ []) asks takes (λ s. complete (split-side s)))
    ∷ ((101 ∷ 100 ∷ 105 ∷ 116 ∷ []) asks takes (λ s. takes (λ client. takes (λ n. takes (λ m. takes (λ kind. takes (λ k. complete (edit s client n m kind k))))))))
    ∷ ((106 ∷ 111 ∷ 105 ∷ 110 ∷ []) asks complete join)
    ∷ ((115 ∷ 101 ∷ 110 ∷ 100 ∷ []) asks takes (λ s. complete (send s)))
    ∷ ((114 ∷ 101 ∷ 112 ∷ 108 ∷ 97 ∷ 121 ∷ []) asks takes (λ n. complete (replay n)))
    ∷ ((115 ∷ 116 ∷ 111 ∷ 112 ∷ []) asks complete stop)
    ∷ ((99 ∷ 111 ∷ 110 ∷ 102 ∷ 105 ∷ 114 ∷ 109 ∷ []) asks takes (λ s. complete (confirm s)))
    ∷ ((105 ∷ 110 ∷ 115 ∷ 116 ∷ 97 ∷ 108 ∷ 108 ∷ []) asks complete install)
    ∷ ((115 ∷ 104 ∷ 111 ∷ 119 ∷ []) asks takes (λ s. complete (show s measure_limit)))
    ∷ ((102 ∷ 97 ∷ 116 ∷ 101 ∷ []) asks takes (λ n. complete (fate_of_edit n)))
    ∷ ((108 ∷ 101 ∷ 102 ∷ 116 ∷ []) asks complete left)
    ∷ []

-- ---- reading

abbrev pub same_bytes : List ℕ → List ℕ → Bool
same_bytes [] [] = true
same_bytes [] (b ∷ bs) = false
same_bytes (x ∷ xs) [] = false
same_bytes (x ∷ xs) (b ∷ bs) = eqb x b && same_bytes xs bs

abbrev pub shape_of : List ℕ → List Form → Option Shape
shape_of name [] = none
shape_of name (f ∷ fs) = cond (same_bytes name f.name) (some f.shape) (shape_of name fs)

abbrev pub joined : Option ℤ → Option (List ℤ) → Option (List ℤ)
joined none xs = none
joined (some x) none = none
joined (some x) (some xs) = some (x ∷ xs)

abbrev pub numbers : List (List ℕ) → Option (List ℤ)
numbers [] = some []
numbers (w ∷ ws) = joined (number w) (numbers ws)

abbrev pub asked : Option Shape → Option (List ℤ) → Option Call
asked none xs = none
asked (some s) none = none
asked (some s) (some xs) = filled s xs

abbrev pub call_of : List (List ℕ) → Option Call
call_of [] = none
call_of (name ∷ ws) = asked (shape_of name forms) (numbers ws)

-- the call that a line asks for; none: the line cannot be read
unfoldable pub line_call : List ℕ → Option Call
unfolding words number
line_call line = call_of (words line)
