use mathlib.Core.Path.{◌∙◌}
use Rattle.query.proofs.Readings.{filled}
use Rattle.query.proofs.fill.Goals as goal

pub returns : goal.returns
returns c = c.copy.ensures ∙ filled c.args.values.now c.args.at c.args.n c.args.buffer.now c.requires.0 c.requires.1
