-- Believed: a saved plan loaded (02, S-1). Assumes nothing.
use Rattle.std.specs.Prelude.{ℕ, zero, suc, ◌*◌, ◌-◌, ◌/◌, ◌%◌, Bool, false, not, cond, ◌&&◌, ◌||◌, List, [], ◌∷◌, ◌++◌, map, eqb, leb, ltb, ℤ, pos, length, take, drop}
use Rattle.protocol.specs.Lists.{bit, is_none, one_to, count_to, all, any}
use Rattle.protocol.specs.Plan.{Plan, blank, is}
use Rattle.protocol.specs.Calls.{Call, measure, rule, open_plan, Check, ◌unless◌, ◌when◌, Verdict, fine, refused, first, first_values, with_next, checks, following, end, Stepped, no, ok}
use Rattle.file.specs.Bytes.{word_size, byte_at, two_at, four_at, signed_at, measure_kind, rule_kind, kind_bits, firm_bit, high_bits, total}

-- slots of a file, slot 0 with them
abbrev pub slot_limit : ℕ
slot_limit = 97

-- the next number where the last one, 999,999, has been given
abbrev pub next_limit : ℕ
next_limit = 1_000_000

-- ---- slots

-- the 16 bytes of slot k
unfoldable pub slot_in : List ℕ → ℕ → List ℕ
slot_in f k = take 16 (drop (16 * k) f)

-- the count of slots
abbrev pub slots : List ℕ → ℕ
slots f = length f / 16

module _ (s : List ℕ) where
  abbrev pub next_in : ℕ
  next_in = two_at s 0

  abbrev pub mark_in : ℕ
  mark_in = byte_at s 2

  -- every byte from place i on is 0
  abbrev pub zero_from : ℕ → Bool
  zero_from i = all is_none (drop i s)

  abbrev pub value_in : ℤ
  value_in = signed_at s 4

  -- the rule that it asks for
  abbrev pub rule_in : Call
  rule_in = rule (pos (two_at s 4)) (signed_at s 8) (pos (two_at s 6)) (pos (bit (firm_bit mark_in)))

  -- the bits of the mark that must be nought, the zero byte and the zero bytes at the end
  unfoldable pub clear_measure : Bool
  clear_measure = is_none (high_bits mark_in) && not (firm_bit mark_in) && is_none (byte_at s 3) && zero_from 8

  unfoldable pub clear_rule : Bool
  clear_rule = is_none (high_bits mark_in) && is_none (byte_at s 3) && zero_from 12

-- ---- chains

-- The slots that a chain meets from slot k on, followed for at most n slots. In a file of n slots that is enough: a chain that goes on has met a slot twice
-- (proofs/Enough).
abbrev pub chain : List ℕ → ℕ → ℕ → List ℕ
chain f zero k = []
chain f (suc n) k = let on : List ℕ = k ∷ chain f n (next_in (slot_in f k)) in cond (is_none k) [] on

module _ (f : List ℕ) where
  abbrev pub first_slot : List ℕ
  first_slot = slot_in f 0

  abbrev pub measure_chain : List ℕ
  measure_chain = chain f (slots f) (two_at first_slot 0)

  abbrev pub rule_chain : List ℕ
  rule_chain = chain f (slots f) (two_at first_slot 2)

  abbrev pub met : List ℕ
  met = measure_chain ++ rule_chain

  abbrev pub next_number : ℕ
  next_number = four_at first_slot 4

abbrev pub elem : ℕ → List ℕ → Bool
elem k ks = any (eqb k) ks

abbrev pub repeats : List ℕ → Bool
repeats [] = false
repeats (k ∷ ks) = elem k ks || repeats ks

-- ---- what can be wrong with a file

module _ (f : List ℕ) where
  -- 44 when the length is no multiple of 16, is 0, is over 97 slots or differs from the count
  unfoldable pub sized : Bool
  sized = is_none (length f % 16) && not (is_none (length f)) && leb (slots f) slot_limit && eqb (slots f) (two_at (first_slot f) 12)

  -- 45 when the sum is not 0
  unfoldable pub balanced : Bool
  balanced = is_none (total f % word_size)

  -- 46 when a chain leaves the file,
  unfoldable pub leaves_file : Bool
  leaves_file = any (λ k. leb (slots f) k) (met f)

  -- meets a slot twice,
  unfoldable pub meets_twice : Bool
  meets_twice = repeats (met f)

  -- meets a wrong mark
  abbrev pub marked : ℕ → List ℕ → Bool
  marked kind ks = all (λ k. eqb (kind_bits (mark_in (slot_in f k))) kind) ks

  unfoldable pub well_marked : Bool
  well_marked = marked measure_kind (measure_chain f) && marked rule_kind (rule_chain f)

  -- or misses a slot,
  unfoldable pub misses_slot : Bool
  misses_slot = ltb 0 (count_to (λ k. not (elem k (met f))) (slots f - 1))

  -- when a zero byte or bit is set,
  unfoldable pub clear : Bool
  clear = zero_from (first_slot f) 14 && all (λ k. clear_measure (slot_in f k)) (measure_chain f) && all (λ k. clear_rule (slot_in f k)) (rule_chain f)

  -- or when the next number is not 1 to 1,000,000
  unfoldable pub numbered : Bool
  numbered = one_to next_limit (next_number f)

-- blank with nothing drawn
abbrev pub untouched : Plan → Bool
untouched p = is blank p.mode && is_none (length (first_values p.content)) && is_none (length p.content.rules)

-- those of the file, in their order
abbrev pub file_checks : List ℕ → List Check
file_checks f =
    (44 unless sized f) ∷ (45 unless balanced f)
    ∷ (46 when leaves_file f) ∷ (46 when meets_twice f) ∷ (46 unless well_marked f) ∷ (46 when misses_slot f) ∷ (46 unless clear f) ∷ (46 unless numbered f) ∷ []

unfoldable pub read_checks : List ℕ → Plan → List Check
read_checks f p = (31 unless untouched p) ∷ file_checks f

-- the refusals that are loading's own, beside the agreed list of the calls
abbrev pub file_refusals : List ℕ
file_refusals = 44 ∷ 45 ∷ 46 ∷ []

-- ---- drawing it by hand: measure by measure, then rule by rule, then open

unfoldable pub drawing : List ℕ → List Call
drawing f = map (λ k. measure (value_in (slot_in f k))) (measure_chain f) ++ (map (λ k. rule_in (slot_in f k)) (rule_chain f) ++ (open_plan ∷ []))

abbrev pub or_else : Verdict → Verdict → Verdict
or_else fine w = w
or_else (refused k) w = refused k

-- the first refusal that calls meet, made one after the other
unfoldable pub first_refusal : List Call → Plan → Verdict
first_refusal [] p = fine
first_refusal (c ∷ cs) p = or_else (first (checks c p)) (first_refusal cs (following p c))

-- ---- the call. What it gives is left free: it gives nothing, as open does.

abbrev pub load_verdict : List ℕ → Plan → Verdict
load_verdict f p = or_else (first (read_checks f p)) (first_refusal (drawing f) p)

abbrev pub renumbered : ℕ → Plan → Plan
renumbered n p = record { mode = p.mode; content = with_next n p.content }

-- the plan drawn, with the file's next number
abbrev pub load_by : Verdict → List ℕ → Plan → Stepped
load_by fine f p = record { answer = ok []; plan = renumbered (next_number f) (end (drawing f) p) }
load_by (refused k) f p = record { answer = no k; plan = p }

unfoldable pub load : List ℕ → Plan → Stepped
load f p = load_by (load_verdict f p) f p
