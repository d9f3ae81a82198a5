use Rattle.std.proofs.Common.{◌≡◌, length}
use lib.Seq.{sets}
use Rattle.file.specs.Saved.{measure_slot, slots_from}
use Rattle.save.proofs.Slots.{full}
use Rattle.save.proofs.put_measures.Given as goal

abbrev pub invariant-loop-i : goal.invariant-loop-i
invariant-loop-i l = (length l.area ≡ length l.initial.area) × (full measure_slot 1 l.values l.area l.i ≡ sets l.initial.area 16 (slots_from measure_slot 1 l.values))
