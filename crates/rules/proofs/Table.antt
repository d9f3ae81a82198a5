-- What stands in a rule table. Assumes nothing.
use Prim.Native.Nat.{ℕ, zero, suc, ◌+◌, ◌<◌, ◌≤◌, max}
use native.Mathlib.Omega.{arith}
use mathlib.Core.Bool.{false, ◌&&◌, ◌||◌}
use mathlib.Core.Path.{◌≡◌, refl, sym, ap, ap₂, ◌∙◌}
use mathlib.Core.List.{List, [], ◌∷◌}
use lib.IntN.{pos}
use lib.ListN.{get_or, length, take, drop, get_or-map}
use lib.Seq.{drop-cons}
use Rattle.std.specs.List.{fold, list_any}
use Rattle.std.proofs.lemmas.List.{length-map}
use Rattle.rules.specs.declared.Rule.{Rule}
use Rattle.protocol.specs.Lists.{any}
use Rattle.rows.specs.Rows.{span}
use Rattle.rules.specs.Index.{top_of}
use Rattle.rules.specs.Table.{lowers, gaps, uppers, firms}
use Rattle.rules.specs.Rules.{names_pair, names_firmly, firm_at, firm_in}
use Rattle.rules.specs.Index.{NoneAbove}

-- a place that no table has
abbrev pub none : Rule
none = record { lower = 0; gap = pos 0; upper = 0; firm = false }

module _ (table : List Rule) where
  pub at_lower : (i : ℕ) → get_or (lowers table) i 0 ≡ (get_or table i none).lower
  unfolding lowers
  at_lower i = get_or-map (λ r. r.lower) table i none

  pub at_gap : (i : ℕ) → get_or (gaps table) i (pos 0) ≡ (get_or table i none).gap
  unfolding gaps
  at_gap i = get_or-map (λ r. r.gap) table i none

  pub at_upper : (i : ℕ) → get_or (uppers table) i 0 ≡ (get_or table i none).upper
  unfolding uppers
  at_upper i = get_or-map (λ r. r.upper) table i none

  pub at_firm : (i : ℕ) → get_or (firms table) i false ≡ (get_or table i none).firm
  unfolding firms
  at_firm i = get_or-map (λ r. r.firm) table i none

  module _ (l : length table ≡ 64) where
    pub lowers-length : length (lowers table) ≡ 64
    unfolding lowers
    lowers-length = length-map table (λ r. r.lower) ∙ l

    pub gaps-length : length (gaps table) ≡ 64
    unfolding gaps
    gaps-length = length-map table (λ r. r.gap) ∙ l

    pub uppers-length : length (uppers table) ≡ 64
    unfolding uppers
    uppers-length = length-map table (λ r. r.upper) ∙ l

    pub firms-length : length (firms table) ≡ 64
    unfolding firms
    firms-length = length-map table (λ r. r.firm) ∙ l

-- ---- the first rules of a table

abbrev higher : ℕ → Rule → ℕ
higher a r = max (max a r.lower) r.upper

top_least : (n a : ℕ) (rules : List Rule) → a ≤ fold higher a (take n rules)
top_least zero a rules = omega arith
top_least (suc n) a [] = omega arith
top_least (suc n) a (r ∷ rules) = let l = top_least n (higher a r) rules in omega arith

top_from : (n i a : ℕ) (rules : List Rule) → i < n → ((get_or rules i none).lower ≤ fold higher a (take n rules)) × ((get_or rules i none).upper ≤ fold higher a (take n rules))
top_from zero i a rules h = absurd (omega arith)
top_from (suc n) i a [] h = (omega arith, omega arith)
top_from (suc n) zero a (r ∷ rules) h = let l = top_least n (higher a r) rules in (omega arith, omega arith)
top_from (suc n) (suc i) a (r ∷ rules) h = top_from n i (higher a r) rules (omega arith)

-- no measure is above the highest
pub top_is : (table : List Rule) (end : ℕ) → NoneAbove (lowers table) (uppers table) end (top_of (take end table))
top_is table end i h = rw (at_lower table i, at_upper table i) (top_from end i 0 table h)

module _ (table : List Rule) (m : ℕ) where
  named_from : (i n : ℕ) → i + n ≤ length table → list_any (names_firmly m) (take n (drop i table)) ≡ any (firm_at (lowers table) (uppers table) (firms table) m) (span i n (λ k. k))
  named_from i zero h = refl
  named_from i (suc n) h =
      ap (λ rules. list_any (names_firmly m) (take (suc n) rules)) (drop-cons table i none (omega arith))
      ∙ ap₂ (λ a b. a || b) (sym (λ j. at_firm table i j && names_pair (at_lower table i j) (at_upper table i j) m)) (named_from (suc i) n (omega arith))

  -- one of them is firm and names the measure
  pub named_is : (n : ℕ) → n ≤ length table → list_any (names_firmly m) (take n table) ≡ firm_in (lowers table) (uppers table) (firms table) n m
  unfolding firm_in
  named_is n h = named_from 0 n (omega arith)
