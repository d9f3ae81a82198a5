use Rattle.moves.specs.Moves.{Marked}
use Rattle.moves.proofs.mark.Given as goal

abbrev pub invariant-loop-e : goal.invariant-loop-e
invariant-loop-e l = Marked l.s l.initial.e-items l.e-items l.e-index
