-- Believed: the last place in a row of measures, among the rules, the sides, the kept edits, by 01's limits; and how many values all sides have. Assumes nothing.
use Rattle.std.specs.Prelude.{ℕ}

abbrev pub last_measure : ℕ
last_measure = 31

abbrev pub last_rule : ℕ
last_rule = 63

abbrev pub last_side : ℕ
last_side = 7

abbrev pub last_edit : ℕ
last_edit = 255

abbrev pub all_values : ℕ
all_values = 256
