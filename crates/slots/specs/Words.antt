-- Scaffolding: a slot as four words, read and written. Assumes nothing.
use Rattle.std.specs.Prelude.{ℕ, ◌+◌, ◌*◌, ◌%◌, ◌<◌, cond, List, ◌++◌, nat_lt}
use Rattle.std.proofs.lemmas.List.Edits.{sets}
use Rattle.file.specs.Bytes.{byte_at, two_at, four_at, four_bytes}
use Rattle.file.specs.Loaded.{slot_in, slots}
use Rattle.slots.specs.declared.Slot.{Slot}

abbrev pub words_of : List ℕ → Slot
words_of s = record { first = four_at s 0; second = four_at s 4; third = four_at s 8; fourth = four_at s 12 }

abbrev pub no_words : Slot
no_words = record { first = 0; second = 0; third = 0; fourth = 0 }

-- slot k of a file
abbrev pub words_in : List ℕ → ℕ → Slot
words_in f k = cond (nat_lt k (slots f)) (words_of (slot_in f k)) no_words

-- what is known of a slot's bytes, so that the words' parts are the slot's
pub record Parted (s : List ℕ) : Type 0 where
  pub next : two_at s 0 < 65_536
  pub mark : byte_at s 2 < 256
  pub lower : two_at s 4 < 65_536
  pub count : two_at s 12 < 65_536

abbrev pub sum_of : Slot → ℕ
sum_of w = w.first + w.second + (w.third + w.fourth)

abbrev pub joined_word : ℕ → ℕ → ℕ
joined_word a b = a % 65_536 + 65_536 * (b % 65_536)

abbrev pub bytes_of : Slot → List ℕ
bytes_of w = four_bytes w.first ++ (four_bytes w.second ++ (four_bytes w.third ++ four_bytes w.fourth))

-- slot k of an area, written anew
abbrev pub put_in : List ℕ → ℕ → Slot → List ℕ
put_in area k w = cond (nat_lt k (slots area)) (sets area (16 * k) (bytes_of w)) area
