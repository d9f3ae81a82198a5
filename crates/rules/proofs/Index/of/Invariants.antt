use Rattle.rules.specs.Table.{lowers, gaps, uppers, firms}
use Rattle.rules.proofs.Making.{Indexing}
use Rattle.rules.proofs.Index.of.Given as goal

abbrev pub invariant-loop-m : goal.invariant-loop-m
invariant-loop-m l = Indexing (lowers l.table) (gaps l.table) (uppers l.table) (firms l.table) l.rules l.index l.n l.m
