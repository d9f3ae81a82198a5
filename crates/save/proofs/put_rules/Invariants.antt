use Rattle.std.proofs.Common.{◌≡◌, ◌*◌, length, map}
use lib.Seq.{sets}
use Rattle.file.specs.Saved.{rule_slot, slots_from}
use Rattle.save.specs.Parts.{rule_of}
use Rattle.save.proofs.Slots.{full}
use Rattle.save.proofs.put_rules.Given as goal

abbrev pub invariant-loop-i : goal.invariant-loop-i
invariant-loop-i l = (length l.area ≡ length l.initial.area) × (full rule_slot l.k (map rule_of l.rules) l.area l.i ≡ sets l.initial.area (16 * l.k) (slots_from rule_slot l.k (map rule_of l.rules)))
