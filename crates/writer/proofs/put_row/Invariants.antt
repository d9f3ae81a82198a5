use Rattle.writer.proofs.Writes.{Rowing}
use Rattle.writer.proofs.put_row.Given as goal

abbrev pub invariant-loop-x : goal.invariant-loop-x
invariant-loop-x l = Rowing l.row l.at l.initial.area l.area l.end l.x-index
