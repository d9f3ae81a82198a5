-- Scaffolding: the index: from a measure to the rules that name it, as namings put one behind another; and the tests that use it. Assumes nothing.
use Rattle.std.specs.Prelude.{ℕ, suc, ◌+◌, ◌-◌, ◌<◌, ◌≤◌, min, max, Bool, false, cond, List, map, reverse, Option, Some, None, ◌≡◌, eqb, leb, ℤ, pos, ◌+ℤ◌, length, get_or}
use Rattle.std.specs.Int.Signed.{lt_z}
use Rattle.std.specs.List.{fold}
use Rattle.protocol.specs.Lists.{one_to, count, passing, first_not}
use Rattle.protocol.specs.Plan as model
use Rattle.protocol.specs.Plan.{measure_limit}
use Rattle.rows.specs.Rows.{span}
use Rattle.rules.specs.declared.Rule.{Rule}
use Rattle.rules.specs.declared.Other.{Other}
use Rattle.rules.specs.declared.Other.TheVariants.{Above, Below}
use Rattle.rules.specs.declared.Naming.{Naming}
use Rattle.rules.specs.declared.Index.{Index}
use Rattle.rules.specs.Rules.{with_value, names_at, due_at, RuleTest, tested_in, firm_in}

-- ---- a rule as it stands at a measure that it names

-- the highest measure that rules name
abbrev pub top_of : List Rule → ℕ
top_of rules = fold (λ top r. max (max top r.lower) r.upper) 0 rules

-- where a measure's value stands in a row, from 0; 32 if it is none of 32, and 33 for measure m, whose value is not the row's
abbrev pub place_of : ℕ → ℕ → ℕ
place_of m k = cond (eqb k m) 33 (cond (one_to measure_limit k) (k - 1) 32)

-- the place of the upper measure, above m, where m is the lower one; else that of the lower one, below m
abbrev pub other_of : ℕ → ℕ → ℕ → Other
other_of m a b = cond (eqb a m) (Above (place_of m b)) (Below (place_of m a))

abbrev pub naming_of : List ℕ → List ℤ → List ℕ → ℕ → ℕ → Naming
naming_of lower gap upper m i = record { rule = i; other = other_of m (get_or lower i 0) (get_or upper i 0); gap = get_or gap i (pos 0) }

-- the rules of three arrays, the first n, that are due for a test when measure m changes
unfoldable pub namings_of : List ℕ → List ℤ → List ℕ → ℕ → ℕ → List Naming
namings_of lower gap upper n m = map (naming_of lower gap upper m) (passing (due_at lower upper m) (span 0 n (λ i. i)))

-- the value at a place, where f gives a measure's value in the row and the measure itself counts as y
abbrev pub other_at : (ℕ → ℤ) → ℤ → ℕ → ℤ
other_at f y p = cond (eqb p 33) y (f (p + 1))

-- it holds
abbrev pub side_holds : (ℕ → ℤ) → ℤ → Other → ℤ → Bool
side_holds f y (Above p) g = lt_z (y +ℤ g) (other_at f y p)
side_holds f y (Below p) g = lt_z (other_at f y p +ℤ g) y

abbrev pub naming_holds : (ℕ → ℤ) → ℤ → Naming → Bool
naming_holds f y k = side_holds f y k.other k.gap

-- the rule's number, from 1
abbrev pub number_of : Naming → ℕ
number_of k = suc k.rule

-- ---- the index as it stands

abbrev pub no_naming : Naming
no_naming = record { rule = 0; other = Above 0; gap = pos 0 }

abbrev pub naming_at : List Naming → ℕ → Naming
naming_at namings k = get_or namings k no_naming

-- where the namings of a measure begin and end
abbrev pub first_at : Index → ℕ → ℕ
first_at index m = get_or index.ends m 0

abbrev pub last_at : Index → ℕ → ℕ
last_at index m = min (get_or index.ends (m + 1) 0) 128

unfoldable pub namings_in : Index → ℕ → List Naming
namings_in index m = span (first_at index m) (last_at index m - first_at index m) (naming_at index.namings)

-- whether a firm rule names it
unfoldable pub flag_in : Index → ℕ → Bool
flag_in index m = get_or index.firm m false

-- the index of the first n rules
pub record Indexed (index : Index) (lower : List ℕ) (gap : List ℤ) (upper : List ℕ) (firm : List Bool) (n : ℕ) : Type 0 where
  pub named : (m : ℕ) → m ≤ measure_limit → namings_in index m ≡ namings_of lower gap upper n m
  pub firmly : (m : ℕ) → 0 < m → m ≤ measure_limit → flag_in index m ≡ firm_in lower upper firm n m

-- if there is one, it is theirs
abbrev pub IndexedIfSome : Option Index → List ℕ → List ℤ → List ℕ → List Bool → ℕ → Type 0
IndexedIfSome o lower gap upper firm n = (index : Index) → o ≡ Some index → Indexed index lower gap upper firm n

-- ---- namings put one behind another

-- no measure of the first rules is above top
abbrev pub NoneAbove : List ℕ → List ℕ → ℕ → ℕ → Type 0
NoneAbove lower upper end top = (i : ℕ) → i < end → (get_or lower i 0 ≤ top) × (get_or upper i 0 ≤ top)

-- those of measure m, from place n to the next, in an array that had others below
pub record Added (lower : List ℕ) (gap : List ℤ) (upper : List ℕ) (end m n next : ℕ) (before after : List Naming) : Type 0 where
  pub long : length after ≡ 128
  pub counted : next ≡ n + count (names_at lower upper m) (span 0 end (λ i. i))
  pub namings : span n (next - n) (naming_at after) ≡ map (naming_of lower gap upper m) (passing (names_at lower upper m) (span 0 end (λ i. i)))
  pub others : (j : ℕ) → j < n → naming_at after j ≡ naming_at before j

-- ---- the tests

-- measures are indexed from 1 to 32; 0 stands for any other
abbrev pub listed_as : ℕ → ℕ
listed_as m = cond (leb m measure_limit) m 0

-- the rules that the index has for measure m, tested in the protocol's order: last drawn first
unfoldable pub indexed_in : Index → ℕ → ℤ → List ℤ → ℕ
unfolding model.value
indexed_in index m x vs = first_not (naming_holds (model.value vs) (model.value (with_value m x vs) m)) number_of (reverse (namings_in index (listed_as m)))

-- What is tested with the index that is asked, be it the rules' own or not: what it has for the measure; where none is asked, all rules.
unfoldable pub tested_with : Option Index → RuleTest
tested_with (Some index) m lower gap upper n x vs = indexed_in index m x vs
tested_with None m lower gap upper n x vs = tested_in false m lower gap upper n x vs

-- whether a firm rule of three arrays, among the first n, names measure m; and what is found with the index that is asked, if one is
abbrev pub FirmTest : Type 0
FirmTest = List ℕ → List ℕ → List Bool → ℕ → ℕ → Bool

unfoldable pub firm_with : Option Index → FirmTest
firm_with (Some index) lower upper firm n m = flag_in index (listed_as m)
firm_with None lower upper firm n m = firm_in lower upper firm n m
