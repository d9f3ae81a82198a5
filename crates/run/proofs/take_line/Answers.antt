use Rattle.reader.proofs.Cut.{up_to-length}
use Rattle.format.specs.Lines.{line_feed}
use native.Mathlib.Omega.{arith}
use Rattle.run.proofs.Taking.{known, answered}
use Rattle.run.proofs.take_line.Goals as goal

pub returns-clause-end : goal.returns-clause-end
returns-clause-end c = let e = c.read_line-line.ensures.end in let l = up_to-length line_feed c.args.rest.now in (e, omega (arith, e, l))

pub returns-clause-line : goal.returns-clause-line
returns-clause-line c k = let l = c.read_line-line in
    answered l.result.call c.args.rest.now l.ensures.call k (c.make-told.ensures (known l.result.call k)) c.tell.ensures.0 c.tell.ensures.1
