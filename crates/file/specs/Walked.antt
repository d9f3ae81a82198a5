-- Scaffolding: a chain followed as a loop follows it, with the slots seen so far: what the tests of 46 come to (proofs/Walks). Assumes nothing.
use Rattle.std.specs.Prelude.{ℕ, zero, suc, Bool, not, cond, ◌&&◌, List, ◌∷◌, T, eqb, ltb}
use Rattle.protocol.specs.Lists.{is_none}
use Rattle.file.specs.Bytes.{measure_kind, rule_kind, kind_bits}
use Rattle.file.specs.Loaded.{slot_in, slots, next_in, mark_in, clear_measure, clear_rule, elem, leaves_file, meets_twice, well_marked, misses_slot, clear}

-- stopped at a bad slot, or ended, with all slots seen
pub data Walked : Type 0 where
  stopped : Walked
  ended : List ℕ → Walked

module _ (f : List ℕ) (test : List ℕ → Bool) where
  -- slot k is in the file, not seen before, and passes the test
  abbrev pub good : ℕ → List ℕ → Bool
  good k seen = ltb k (slots f) && not (elem k seen) && test (slot_in f k)

  abbrev pub walk : ℕ → ℕ → List ℕ → Walked
  walk zero k seen = cond (is_none k) (ended seen) stopped
  walk (suc n) k seen =
      let rest : Walked = walk n (next_in (slot_in f k)) (k ∷ seen) in
      let next : Walked = cond (good k seen) rest stopped in
      cond (is_none k) (ended seen) next

-- the mark and the reserved bytes and bits of a slot
abbrev pub as_measure : List ℕ → Bool
as_measure s = eqb (kind_bits (mark_in s)) measure_kind && clear_measure s

abbrev pub as_rule : List ℕ → Bool
as_rule s = eqb (kind_bits (mark_in s)) rule_kind && clear_rule s

-- the five tests of 46 that speak of slots
pub record Sound46 (f : List ℕ) : Type 0 where
  pub stays : T (not (leaves_file f))
  pub once : T (not (meets_twice f))
  pub marked_well : T (well_marked f)
  pub full : T (not (misses_slot f))
  pub clean : T (clear f)
