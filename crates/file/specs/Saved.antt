-- Believed: a whole plan saved (02, S-1): slots of 16 bytes, linked by a next slot number, where 0 ends the chain. Assumes nothing.
use Rattle.std.specs.Prelude.{ℕ, suc, ◌+◌, false, List, [], ◌∷◌, ◌++◌, length, ℤ, pos, leb}
use Rattle.protocol.specs.Plan.{Rule, Plan, whole, is}
use Rattle.protocol.specs.Calls.{Check, ◌unless◌, Verdict, fine, refused, first, first_values, Answer, no, ok, Stepped}
use Rattle.format.specs.Sheets.{in_front}
use Rattle.file.specs.Bytes.{two_bytes, four_bytes, complement, measure_kind, rule_kind, mark, total, balancing}

-- ---- the slots

-- first measure slot, first rule slot, next edit number, check word, count of slots, two zero bytes
unfoldable pub slot_zero : (measures rules next check count : ℕ) → List ℕ
slot_zero measures rules next check count = two_bytes measures ++ two_bytes rules ++ four_bytes next ++ four_bytes check ++ two_bytes count ++ (0 ∷ 0 ∷ [])

-- next, a mark byte, a zero byte, value, eight zero bytes
unfoldable pub measure_slot : ℕ → ℤ → List ℕ
measure_slot next v = two_bytes next ++ (mark measure_kind false ∷ 0 ∷ four_bytes (complement v)) ++ (0 ∷ 0 ∷ 0 ∷ 0 ∷ 0 ∷ 0 ∷ 0 ∷ 0 ∷ [])

-- next, mark byte, a zero byte, a and b, c, four zero bytes
unfoldable pub rule_slot : ℕ → Rule → List ℕ
rule_slot next r =
    two_bytes next ++ (mark rule_kind r.firm ∷ 0 ∷ two_bytes r.lower) ++ two_bytes r.upper ++ four_bytes (complement r.gap) ++ (0 ∷ 0 ∷ 0 ∷ 0 ∷ [])

-- ---- the writer uses rising slots, measures first

module _ {A : Type 0} where
  -- the first slot of a chain that lies in slots k, k + 1 and on
  abbrev pub start_at : ℕ → List A → ℕ
  start_at k [] = 0
  start_at k (x ∷ xs) = k

  abbrev pub slots_from : (ℕ → A → List ℕ) → ℕ → List A → List ℕ
  slots_from slot k [] = []
  slots_from slot k (x ∷ xs) = slot (start_at (suc k) xs) x ++ slots_from slot (suc k) xs

module _ (vs : List ℤ) (rs : List Rule) (next : ℕ) where
  abbrev pub chains : List ℕ
  chains = slots_from measure_slot 1 vs ++ slots_from rule_slot (suc (length vs)) rs

  abbrev pub heading : ℕ → List ℕ
  heading check = slot_zero (start_at 1 vs) (start_at (suc (length vs)) rs) next check (suc (length vs + length rs))

  -- the check word, as the other words demand it
  unfoldable pub check_word : ℕ
  check_word = balancing (total (heading 0 ++ chains))

  unfoldable pub file_of : List ℕ
  file_of = heading check_word ++ chains

unfoldable pub saved : Plan → List ℕ
saved p = file_of (first_values p.content) p.content.rules p.content.next

-- ---- the call: 31 when the plan is not whole, then 41; it gives the length, and leaves the plan as it was

unfoldable pub save_checks : ℕ → Plan → List Check
save_checks room p = (31 unless is whole p.mode) ∷ (41 unless leb (length (saved p)) room) ∷ []

abbrev pub save_by : Verdict → Plan → Stepped
save_by fine p = record { answer = ok (pos (length (saved p)) ∷ []); plan = p }
save_by (refused k) p = record { answer = no k; plan = p }

unfoldable pub save : ℕ → Plan → Stepped
save room p = save_by (first (save_checks room p)) p

-- The buffer that it is lent: what is written fills its front, the rest is untouched; a refusal leaves it.
abbrev pub filled_by : Answer → List ℕ → List ℕ → List ℕ
filled_by (no k) bs buffer = buffer
filled_by (ok xs) bs buffer = in_front bs buffer

unfoldable pub save_into : Plan → List ℕ → List ℕ
save_into p buffer = filled_by (save (length buffer) p).answer (saved p) buffer
