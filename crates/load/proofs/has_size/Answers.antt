use Rattle.std.proofs.Common.{sym, ◌∙◌}
use Rattle.load.proofs.Reading.{sized_by, unsized}
use Rattle.load.proofs.has_size.Goals as goal

pub returns-then-has_slots : goal.returns-then-has_slots
returns-then-has_slots c = sized_by c.args.f.now _ _ (sym c.has_slots.ensures ∙ c.if-has_slots.true) c.read.ensures.0 c.read.ensures.1 c.low.ensures

pub returns-else-has_slots : goal.returns-else-has_slots
returns-else-has_slots c = c.if-has_slots.false ∙ unsized c.args.f.now (sym c.has_slots.ensures ∙ c.if-has_slots.false)
