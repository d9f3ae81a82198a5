-- Scaffolding: that the rules hold in a plan, whatever history led to it. Assumes nothing.
use Rattle.std.specs.Prelude.{◌≡◌, not, ◌||◌, length, T}
use Rattle.protocol.specs.Lists.{all}
use Rattle.protocol.specs.Plan.{Mode, blank, whole, split, is, active, Content, holds}

-- From open on every rule holds on every side, and on the base and the draft for as long as there is one. A blank or whole plan has one side.
pub record Holding (m : Mode) (d : Content) : Type 0 where
  pub alone : T (is blank m || is whole m) → length d.sides ≡ 1
  pub sides : T (not (is blank m)) → T (all (λ x. holds d.rules x.values) d.sides)
  pub base : T (is split m || active m) → T (holds d.rules d.base)
  pub draft : T (active m) → T (holds d.rules d.draft)
