-- Believed: which rule is broken (02, S-3): the order in which the rules are tested, the number that the test gives, and what that number is. Assumes nothing.
use Rattle.std.specs.Prelude.{ℕ, zero, suc, ◌<◌, ◌≤◌, true, false, List, [], ◌∷◌, ◌≡◌, ℤ, pos, length}
use Rattle.protocol.specs.Lists.{is_none, nth, first_not}
use Rattle.protocol.specs.Plan.{Rule, rule_holds, holds}

-- what stands for a number that no rule has
abbrev pub absent_rule : Rule
absent_rule = record { lower = 0; gap = pos 0; upper = 0; firm = false }

-- the rule numbered k, from 1 in the order of drawing
abbrev pub rule_at : List Rule → ℕ → Rule
rule_at rs k = nth absent_rule rs k

-- The rules are tested last drawn first: the numbers n, n - 1, and on to 1.
abbrev pub last_first : ℕ → List ℕ
last_first zero = []
last_first (suc n) = suc n ∷ last_first n

-- A walk over the rules of these numbers, one after the other, up to the first that is broken: its number, or 0 if none is.
unfoldable pub first_broken : List Rule → List ℤ → List ℕ → ℕ
first_broken rs vs ks = first_not (λ k. rule_holds vs (rule_at rs k)) (λ k. k) ks

-- what the test of all rules gives
unfoldable pub broken_rule : List Rule → List ℤ → ℕ
unfolding first_broken
broken_rule rs vs = first_broken rs vs (last_first (length rs))

-- k is the highest number of a broken rule, or 0, and that means that none is broken
pub record HighestBroken (rs : List Rule) (vs : List ℤ) (k : ℕ) : Type 0 where
  pub none : is_none k ≡ holds rs vs
  pub broken : 0 < k → (k ≤ length rs) × (rule_holds vs (rule_at rs k) ≡ false)
  pub highest : (j : ℕ) → k < j → j ≤ length rs → rule_holds vs (rule_at rs j) ≡ true
