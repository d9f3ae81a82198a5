use Rattle.writer.proofs.Widths.{Read}
use Rattle.writer.proofs.row_most.Given as goal

abbrev pub invariant-loop-x : goal.invariant-loop-x
invariant-loop-x l = Read l.row l.x-index
