-- Scaffolding: the lengths of a state's lists. Assumes nothing.
use Rattle.std.specs.Prelude.{◌≡◌, length}
use Rattle.protocol.specs.Plan.{measure_limit, rule_limit, side_limit, kept_limit}
use Rattle.protocol.specs.Sizes.{all_values}
use Rattle.state.specs.Spread.{Spread}

pub record Sized (p : Spread) : Type 0 where
  pub base : length p.base ≡ measure_limit
  pub draft : length p.draft ≡ measure_limit
  pub values : length p.values ≡ all_values
  pub arrived : length p.arrived ≡ side_limit
  pub confirmed : length p.confirmed ≡ side_limit
  pub lower : length p.lower ≡ rule_limit
  pub gap : length p.gap ≡ rule_limit
  pub upper : length p.upper ≡ rule_limit
  pub firm : length p.firm ≡ rule_limit
  pub edits : length p.edits ≡ kept_limit
