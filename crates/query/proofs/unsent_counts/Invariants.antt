use mathlib.Core.Path.{◌≡◌}
use Rattle.query.specs.Reads.{unsent_counts}
use Rattle.query.proofs.unsent_counts.Given as goal

abbrev pub invariant-loop-i : goal.invariant-loop-i
invariant-loop-i l = l.unsent ≡ unsent_counts l.h l.edits l.i
