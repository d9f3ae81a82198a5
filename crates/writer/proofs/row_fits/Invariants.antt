use Rattle.writer.proofs.Widths.{Fitting}
use Rattle.writer.proofs.row_fits.Given as goal

abbrev pub invariant-loop-x : goal.invariant-loop-x
invariant-loop-x l = Fitting l.row l.room l.left l.x-index
