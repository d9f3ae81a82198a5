use Rattle.std.proofs.Common.{sym, ◌∙◌, arith}
use Rattle.load.proofs.Reading.{sized-parts, tail_set, no-measures, no-rules, all-met}
use Rattle.load.proofs.is_chained.Goals as goal

pub returns-then-high-ne0 : goal.returns-then-high-ne0
returns-then-high-ne0 c = tail_set c.args.f.now c.requires _ c.read-w.ensures.0 c.read-w.ensures.1 _ c.high.ensures c.if-high-ne0.true

pub walk-requires : goal.walk-requires
walk-requires c = let g = sized-parts c.args.f.now c.requires in (g.2, omega arith)

pub returns-in_default : goal.returns-in_default
returns-in_default c = no-measures c.args.f.now c.requires _ c.read-w.ensures.0 c.read-w.ensures.1 _ c.low.ensures _ _ c.walk.ensures.walks c.in_default.is

pub walk-requires-2 : goal.walk-requires-2
walk-requires-2 c = let g = sized-parts c.args.f.now c.requires in (g.2, c.in-Some.ensures.few)

pub returns-in_default-walk : goal.returns-in_default-walk
returns-in_default-walk c = no-rules c.args.f.now c.requires _ c.read-w.ensures.0 c.read-w.ensures.1 _ c.low.ensures _ _ c.walk.ensures.walks _ c.in-Some.is
    (sym c.high.ensures ∙ c.if-high-ne0.false) _ c.high-2.ensures _ _ c.walk-2.ensures.walks c.in_default-walk.is

pub returns : goal.returns
returns c = all-met c.args.f.now c.requires _ c.read-w.ensures.0 c.read-w.ensures.1 _ c.low.ensures _ _ c.walk.ensures.walks _ c.in-Some.is
    (sym c.high.ensures ∙ c.if-high-ne0.false) _ c.high-2.ensures _ _ c.walk-2.ensures.walks _ c.in-Some-walk.is
