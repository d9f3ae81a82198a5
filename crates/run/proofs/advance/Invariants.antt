use Prim.Native.Nat.{◌-◌, ◌≤◌}
use mathlib.Core.Path.{◌≡◌}
use lib.ListN.{length}
use Rattle.state.specs.Spread.{spread}
use Rattle.state.specs.View.{view}
use Rattle.calls.specs.Makes.{SoundIn}
use Rattle.run.proofs.Running.{Course}
use Rattle.run.proofs.advance.Given as goal

abbrev pub invariant-loop-ended : goal.invariant-loop-ended
invariant-loop-ended l = let a = l.initial in
    (length l.area ≡ length a.area) × (l.written ≤ length l.area)
    × (SoundIn l.way.sound (spread a.p) → Course l.way.on l.way.reserve l.sheet l.way.from a.area (view a.p) l.area l.p l.beside l.written l.next l.ended)

abbrev pub decreases-loop-ended : goal.decreases-loop-ended
decreases-loop-ended l = length l.sheet - l.next
