use Rattle.load.proofs.Walking.{Walks}
use Rattle.load.proofs.walk.Given as goal

abbrev pub invariant-loop-i : goal.invariant-loop-i
invariant-loop-i l = Walks l.f l.kind l.start l.met l.initial.seen l.seen l.k l.i
