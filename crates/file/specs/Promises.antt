-- Believed: what is promised of saved plans (02, S-1): what is saved loads again, what loads is saved again, and chains end. Assumes nothing.
use Rattle.std.specs.Prelude.{ℕ, zero, suc, ◌+◌, ◌*◌, ◌%◌, ◌<◌, ◌≤◌, ◌≡◌, Bool, not, List, [], ◌∷◌, map, T, eqb, ltb, ℤ, pos, length}
use Rattle.protocol.specs.Lists.{bit, count, all}
use Rattle.protocol.specs.Plan.{Rule, Plan, whole}
use Rattle.protocol.specs.Calls.{first_values, rule_of, fresh_side, ok, start}
use Rattle.file.specs.Bytes.{word_size, two_at, signed_at, firm_bit, total}
use Rattle.file.specs.Saved.{saved}
use Rattle.file.specs.Loaded.{slot_in, slots, mark_in, value_in, chain, first_slot, measure_chain, rule_chain, met, next_number, leaves_file, meets_twice, misses_slot, load}

abbrev pub is_byte : ℕ → Bool
is_byte b = ltb b 256

-- ---- the plan that a file stands for

-- a whole plan with these values and rules and this next number, and with no kept edits
abbrev pub whole_with : List ℤ → List Rule → ℕ → Plan
whole_with vs rs next = record { mode = whole; content = record { rules = rs; next = next; base = []; draft = []; sides = fresh_side vs ∷ []; kept = [] } }

-- what is saved of a whole plan: its values, rules and next number
abbrev pub without_kept : Plan → Plan
without_kept p = whole_with (first_values p.content) p.content.rules p.content.next

-- the rule of a slot
abbrev pub rule_from : List ℕ → Rule
rule_from s = rule_of (pos (two_at s 4)) (signed_at s 8) (pos (two_at s 6)) (pos (bit (firm_bit (mark_in s))))

-- measures and rules are numbered as the chains meet them
abbrev pub values_of : List ℕ → List ℤ
values_of f = map (λ k. value_in (slot_in f k)) (measure_chain f)

abbrev pub rules_of : List ℕ → List Rule
rules_of f = map (λ k. rule_from (slot_in f k)) (rule_chain f)

-- ---- what is saved

-- Whatever the plan holds, what is saved of it is bytes, one slot of 16 for the plan, each measure and each rule, and all four-byte words add up to 0 modulo 2^32.
pub record Saves (p : Plan) : Type 0 where
  pub bytes : T (all is_byte (saved p))
  pub size : length (saved p) ≡ 16 * (1 + length (first_values p.content) + length p.content.rules)
  pub sum : total (saved p) % word_size ≡ 0

-- the theorem (proofs/Sums: `saves`)
abbrev pub ForEveryPlan : Type 0
ForEveryPlan = (p : Plan) → Saves p

-- ---- a file that loads

-- k, k + 1 and on, n of them
abbrev pub rising_from : ℕ → ℕ → List ℕ
rising_from k zero = []
rising_from k (suc n) = k ∷ rising_from (suc k) n

-- its slots rise, measures first
abbrev pub Rises : List ℕ → Type 0
Rises f = met f ≡ rising_from 1 (length (met f))

pub record Loads (f : List ℕ) : Type 0 where
  -- The plan has the values and rules of the file's chains, in their order, and the file's next number.
  pub plan : (load f start).plan ≡ whole_with (values_of f) (rules_of f) (next_number f)
  -- Saved again it loads to the same plan,
  pub same-plan : load (saved (load f start).plan) start ≡ record { answer = ok []; plan = (load f start).plan }
  -- has as many bytes,
  pub same_length : length (saved (load f start).plan) ≡ length f
  -- and is the file itself where the file's slots rise, measures first, and its bytes are bytes.
  pub same-file : T (all is_byte f) → Rises f → saved (load f start).plan ≡ f

-- the theorem (proofs/Rising: `loads`)
abbrev pub ForEveryFile : Type 0
ForEveryFile = (f : List ℕ) (xs : List ℤ) → (load f start).answer ≡ ok xs → Loads f

-- ---- chains

-- A file whose chains do not leave it, meet no slot twice and miss none.
pub record Chained (f : List ℕ) : Type 0 where
  -- Each slot but slot 0 is met exactly once.
  pub once : (k : ℕ) → 0 < k → k < slots f → count (eqb k) (met f) ≡ 1
  -- Followed further, the chains are the same.
  pub enough : (m : ℕ) → (chain f (m + slots f) (two_at (first_slot f) 0) ≡ measure_chain f) × (chain f (m + slots f) (two_at (first_slot f) 2) ≡ rule_chain f)

-- Whatever the file, circles included, following a chain ends (proofs/Enough: `chain_most`).
abbrev pub ChainsEnd : Type 0
ChainsEnd = (f : List ℕ) (n k : ℕ) → length (chain f n k) ≤ n

-- the theorem (proofs/Enough: `chained`)
abbrev pub ForEveryChain : Type 0
ForEveryChain = (f : List ℕ) → 0 < slots f → T (not (leaves_file f)) → T (not (meets_twice f)) → T (not (misses_slot f)) → Chained f
