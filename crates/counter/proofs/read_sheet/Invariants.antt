use Rattle.std.proofs.Common.{◌≤◌, length}
use Rattle.counter.proofs.read_sheet.Given as goal

abbrev pub invariant-loop : goal.invariant-loop
invariant-loop g l = l.done ≤ length l.sheet
