use Prim.Native.Nat.{min}
use Rattle.std.proofs.lemmas.Bool.{lt-leb}
use native.Mathlib.Omega.{arith}
use mathlib.Core.Path.{◌∙◌}
use Rattle.rules.specs.Table.{lowers, uppers, firms}
use Rattle.rules.proofs.Table.{named_is}
use Rattle.rules.proofs.Making.{none-firm}
use Rattle.rules.proofs.firm_below.Goals as goal

pub returns-then-m-top : goal.returns-then-m-top
returns-then-m-top c = let a = c.args in
    c.firm_named.ensures ∙ named_is a.table.now a.m (min a.k 64) (omega arith)

pub returns-else-m-top : goal.returns-else-m-top
returns-else-m-top c = let a = c.args in
    lt-leb a.m a.top c.if-m-top.false ∙ none-firm (lowers a.table.now) (uppers a.table.now) (min a.k 64) a.top a.m c.requires (omega arith) (firms a.table.now)
