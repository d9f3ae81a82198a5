use lib.ListN.{length}
use Prim.Native.Nat.{◌≤◌}
use Rattle.reader.specs.Cut.{first_line}
use Rattle.reader.proofs.Calls.{Listing}
use Rattle.reader.specs.Reads.{place_of}
use Rattle.reader.proofs.read_call.Given as goal

abbrev pub invariant-loop-k : goal.invariant-loop-k
invariant-loop-k l = (l.at ≤ length (first_line l.sheet)) × Listing (first_line l.sheet) (place_of l.op) l.k l.numbers l.at
