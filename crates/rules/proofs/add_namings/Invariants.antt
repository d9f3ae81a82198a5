use Rattle.rules.specs.Table.{lowers, gaps, uppers}
use Rattle.rules.proofs.Making.{Adding}
use Rattle.rules.proofs.add_namings.Given as goal

abbrev pub invariant-loop-i : goal.invariant-loop-i
invariant-loop-i l = Adding (lowers l.table) (gaps l.table) (uppers l.table) l.end l.m l.n l.initial.namings l.namings l.next l.i
