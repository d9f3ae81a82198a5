-- Scaffolding: the parts of a slot, from its words; and that nothing is set in it that must be nought. Assumes nothing.
use Rattle.std.specs.Prelude.{ℕ, ◌/◌, ◌%◌, Bool, true, cond, not, ◌&&◌, ◌==◌}
use Rattle.protocol.specs.Lists.{is_none}
use Rattle.file.specs.Bytes.{measure_kind, rule_kind, kind_bits, firm_bit, high_bits}
use Rattle.slots.specs.declared.Kind.{Kind}
use Rattle.slots.specs.declared.Kind.TheVariants.{Measure, Rule}
use Rattle.slots.specs.declared.Slot.{Slot}

-- a kind's number
abbrev pub kind_number : Kind → ℕ
kind_number Measure = measure_kind
kind_number Rule = rule_kind

-- the mark byte
abbrev pub mark_part : Slot → ℕ
mark_part w = w.first / 65_536 % 256

-- the byte behind it
abbrev pub rest_part : Slot → ℕ
rest_part w = w.first / 16_777_216

-- The slot is of a kind, with the zero byte and the last word nought; of a measure also the third bit of the mark and the word before it.
abbrev pub fits_kind : ℕ → Slot → Bool
fits_kind kind w =
    let m = mark_part w in
    let bare = cond (kind == measure_kind) (not (firm_bit m) && is_none w.third) true in
    (kind_bits m == kind) && (is_none (high_bits m) && (is_none (rest_part w) && (is_none w.fourth && bare)))
