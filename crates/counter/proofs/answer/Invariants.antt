use Rattle.std.proofs.Common.{◌-◌, length}
use Rattle.counter.proofs.answer.Given as goal

abbrev pub decreases-loop-piece : goal.decreases-loop-piece
decreases-loop-piece g l = length l.sheet - l.piece.next
