use Rattle.reader.specs.Cut.{first_line}
use Rattle.reader.proofs.Scans.{Reading}
use Rattle.reader.proofs.further.Given as goal

abbrev pub invariant-loop-i : goal.invariant-loop-i
invariant-loop-i l = Reading (first_line l.sheet) l.from l.first l.n l.i
