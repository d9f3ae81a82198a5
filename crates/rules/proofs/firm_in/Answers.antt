use Prim.Native.Nat.{min}
use native.Mathlib.Omega.{arith}
use mathlib.Core.Bool.{false}
use mathlib.Core.Path.{ap, ◌∙◌}
use lib.ListN.{get_or}
use Rattle.rules.specs.Index.{firm_with, flag_in}
use Rattle.rules.proofs.Table.{named_is}
use Rattle.rules.proofs.firm_in.Goals as goal

pub returns-in-Some : goal.returns-in-Some
unfolding firm_with flag_in
returns-in-Some c = let i = c.in-Some.index.now in rw c.in-Some.is (ap (λ k. get_or i.firm k false) c.listed.ensures.0)

pub returns-in-None : goal.returns-in-None
unfolding firm_with
returns-in-None c = let a = c.args in rw c.in-None.is (c.firm_named.ensures ∙ named_is a.table.now a.m (min a.k 64) (omega arith))
