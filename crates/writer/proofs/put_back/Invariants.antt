use Rattle.std.proofs.Common.{◌-◌, length}
use Rattle.format.specs.Numbers.{digits}
use Rattle.writer.proofs.Writes.{Writing}
use Rattle.writer.proofs.put_back.Given as goal

abbrev pub invariant-loop-m : goal.invariant-loop-m
invariant-loop-m l = Writing l.n (l.end - length (digits l.n)) l.initial.area l.area l.m l.i

abbrev pub decreases-loop-m : goal.decreases-loop-m
decreases-loop-m l = l.m
