use Rattle.load.proofs.Drawing.{Along}
use Rattle.load.proofs.draw_chain.Given as goal

abbrev pub invariant-loop : goal.invariant-loop
invariant-loop l = Along l.f l.kind l.start l.initial.p l.p l.k l.counter
