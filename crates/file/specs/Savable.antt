-- Scaffolding: what every whole plan that calls and loads lead to has, so that it can be saved and loaded. Assumes nothing.
use Rattle.std.specs.Prelude.{ℕ, ◌<◌, ◌≤◌, Bool, not, ◌&&◌, List, T, eqb, ℤ, pos, length}
use Rattle.protocol.specs.Lists.{one_to, neg, within, all}
use Rattle.protocol.specs.Plan.{measure_limit, rule_limit, gap_limit, Rule, in_range, holds}
use Rattle.file.specs.Loaded.{next_limit}

-- a rule that can be drawn over n measures
unfoldable pub drawable : ℕ → Rule → Bool
drawable n r = one_to n r.lower && one_to n r.upper && not (eqb r.lower r.upper) && within (neg gap_limit) (pos gap_limit) r.gap

pub record Savable (vs : List ℤ) (rs : List Rule) (next : ℕ) : Type 0 where
  pub some : 0 < length vs
  pub measures : length vs ≤ measure_limit
  pub rules : length rs ≤ rule_limit
  pub ranged : T (all in_range vs)
  pub formed : T (all (drawable (length vs)) rs)
  pub hold : T (holds rs vs)
  pub number : T (one_to next_limit next)
