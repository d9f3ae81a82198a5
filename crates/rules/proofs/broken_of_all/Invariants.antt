use Rattle.std.proofs.Common.{◌≡◌, min}
use mathlib.Core.Bool.{false}
use Rattle.protocol.specs.Lists.{first_not}
use Rattle.protocol.specs.Broken.{last_first}
use Rattle.rules.specs.Table.{lowers, gaps, uppers}
use Rattle.rules.specs.Rules.{with_value, tested_in}
use Rattle.rules.proofs.Rules.{held_at}
use Rattle.rules.proofs.broken_of_all.Given as goal

abbrev pub invariant-loop-i : goal.invariant-loop-i
invariant-loop-i l = tested_in false l.m (lowers l.table) (gaps l.table) (uppers l.table) (min l.k 64) l.x l.row
    ≡ first_not (held_at (lowers l.table) (gaps l.table) (uppers l.table) (min l.k 64) (with_value l.m l.x l.row)) (λ j. j) (last_first l.i)
