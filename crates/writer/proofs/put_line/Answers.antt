use Rattle.std.proofs.Common.{arith}
use Rattle.writer.specs.Writes.{head_of, ok_letters}
use Rattle.writer.proofs.Parts.{is-ended}
use Rattle.writer.proofs.put_line.Goals as goal

pub returns : goal.returns
returns c = is-ended (head_of ok_letters c.args.given) c.args.area.now _ _ c.put_head.ensures (omega (arith, c.numbers_width-w.ensures)) (omega arith)
