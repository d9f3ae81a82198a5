use Rattle.reader.proofs.Cut.{up_to-length}
use Rattle.trials.proofs.read.Goals as goal

pub returns : goal.returns
returns c = rw c.read_line.ensures.end (up_to-length 10 c.args.text.now)
