-- Believed: the rules of a plan as the lists that the rules' tests speak of. Assumes nothing.
use Rattle.std.specs.Prelude.{ℕ, Bool, false, List, map, ℤ, pos, get_or, set}
use Rattle.protocol.specs.Plan as model
use Rattle.rows.specs.Rows.{span}
use Rattle.rules.specs.declared.Rule.{Rule}

unfoldable pub lowers : List Rule → List ℕ
lowers table = map (λ r. r.lower) table

unfoldable pub gaps : List Rule → List ℤ
gaps table = map (λ r. r.gap) table

unfoldable pub uppers : List Rule → List ℕ
uppers table = map (λ r. r.upper) table

unfoldable pub firms : List Rule → List Bool
firms table = map (λ r. r.firm) table

-- rule i written anew
abbrev pub with_rule : List Rule → ℕ → Rule → List Rule
with_rule table i rule = set table i rule

-- the rules as the protocol has them
abbrev pub rules_in : List ℕ → List ℤ → List ℕ → List Bool → ℕ → List model.Rule
rules_in lower gap upper firm n =
    span 0 n (λ i. record { lower = get_or lower i 0; gap = get_or gap i (pos 0); upper = get_or upper i 0; firm = get_or firm i false })
