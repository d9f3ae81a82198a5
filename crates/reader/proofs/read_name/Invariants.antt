use Rattle.reader.proofs.Names.{Reaching}
use Rattle.reader.proofs.read_name.Given as goal

abbrev pub invariant-loop-next : goal.invariant-loop-next
invariant-loop-next l = Reaching l.sheet l.next
