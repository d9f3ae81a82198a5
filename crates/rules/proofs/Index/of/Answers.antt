use Prim.Native.Nat.{min}
use native.Mathlib.Omega.{arith}
use mathlib.Core.Path.{sym, ap, subst, ◌∙◌}
use lib.ListN.{take}
use Rattle.rules.specs.Index.{top_of}
use Rattle.rules.specs.Table.{lowers, gaps, uppers, firms}
use Rattle.rules.specs.Rules.{firm_in}
use Rattle.rules.specs.Index.{NoneAbove, Indexed}
use Rattle.rules.proofs.Table.{top_is}
use Rattle.rules.proofs.Making.{indexing_begin, indexing_over, indexing_room, indexing_few, indexing_next}
use Rattle.rules.proofs.Index.of.Goals as goal

pub loop-m-init : goal.loop-m-init
loop-m-init c = indexing_begin _ _ _ _ _

pub add_namings-n-requires : goal.add_namings-n-requires
add_namings-n-requires c = (
  c.loop-m.invariant.long.0,
  omega arith,
  subst (NoneAbove (lowers c.args.table.now) (uppers c.args.table.now) c.capped-rules.result) (sym c.highest-top.ensures) (top_is c.args.table.now c.capped-rules.result),
  indexing_room _ _ _ _ _ _ _ _ c.loop-m.invariant (omega arith) (omega arith),
)

pub overflow_cast-index : goal.overflow_cast-index
overflow_cast-index c = let f = indexing_few _ _ _ _ _ _ _ _ c.loop-m.invariant (omega arith) (omega arith) _ _ c.add_namings-n.ensures in omega arith

pub firm_below-requires : goal.firm_below-requires
firm_below-requires c = let n = c.capped-rules.ensures in
    subst (NoneAbove (lowers c.args.table.now) (uppers c.args.table.now) (min c.args.k 64)) (sym c.highest-top.ensures)
    (subst (λ n. NoneAbove (lowers c.args.table.now) (uppers c.args.table.now) n (top_of (take c.capped-rules.result c.args.table.now))) n (top_is c.args.table.now c.capped-rules.result))

pub loop-m-preserved : goal.loop-m-preserved
loop-m-preserved c = let a = c.args in
    indexing_next _ _ _ _ _ _ _ _ c.loop-m.invariant (omega arith) (omega arith) _ _ c.add_namings-n.ensures c.firm_below.result
    (c.firm_below.ensures ∙ ap (λ n. firm_in (lowers a.table.now) (uppers a.table.now) (firms a.table.now) n c.loop-m.m) (sym c.capped-rules.ensures))

pub returns : goal.returns
returns c = let a = c.args in
    subst (Indexed c.loop-m.index (lowers a.table.now) (gaps a.table.now) (uppers a.table.now) (firms a.table.now)) c.capped-rules.ensures
    (indexing_over _ _ _ _ _ _ _ _ c.loop-m.invariant (omega arith))
