use Prim.Native.Nat.{◌-◌}
use mathlib.Core.List.{reverse}
use mathlib.Core.Path.{◌≡◌}
use Rattle.protocol.specs.Lists.{first_not}
use Rattle.protocol.specs.Plan.{value}
use Rattle.rows.specs.Rows.{span}
use Rattle.rules.specs.Rules.{with_value}
use Rattle.rules.specs.Index.{naming_holds, number_of, naming_at, indexed_in}
use Rattle.rules.proofs.broken_by_index.Given as goal

abbrev pub invariant-loop-k : goal.invariant-loop-k
invariant-loop-k l = indexed_in l.index l.m l.x l.row
    ≡ first_not (naming_holds (value l.row) (value (with_value l.m l.x l.row) l.m)) number_of (reverse (span l.first (l.k - l.first) (naming_at l.index.namings)))
