use Rattle.std.proofs.Common.{arith}
use Rattle.writer.proofs.Writes.{writing_begin, writing_next, writing_last, writing_last_two}
use Rattle.writer.proofs.put_back.Goals as goal

pub loop-m-init : goal.loop-m-init
loop-m-init c = writing_begin _ _ _ _ (omega (arith, c.requires))

pub loop-m-preserved : goal.loop-m-preserved
loop-m-preserved c = writing_next c.loop-m.invariant (omega arith) _ c.put_two.ensures

pub returns-then-m-ge10 : goal.returns-then-m-ge10
returns-then-m-ge10 c =
    let last = writing_last_two c.loop-m.invariant (omega arith) (omega arith) _ c.put_two-then-m-ge10.ensures in
    (last.0, omega (arith, last.1, c.requires))

pub returns : goal.returns
returns c = let last = writing_last c.loop-m.invariant (omega arith) in (last.0, omega (arith, last.1, c.requires))
