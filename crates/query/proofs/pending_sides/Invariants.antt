use Prim.Native.Nat.{◌≤◌}
use mathlib.Core.Path.{◌≡◌}
use Rattle.query.specs.Reads.{pending_in}
use Rattle.query.proofs.pending_sides.Given as goal

abbrev pub invariant-loop-i : goal.invariant-loop-i
invariant-loop-i l = (l.pending ≤ l.i) × (l.pending ≡ pending_in l.arrived l.unsent l.i)
