-- Laws of the plan_of of a state: lengths, sides, kept edits, the whole. Assumes nothing.
use Prim.Native.Nat.{ℕ, zero, suc, ◌+◌, ◌<◌, ◌≤◌, min}
use native.Mathlib.Omega.{arith}
use mathlib.Core.Bool.{Bool, true, false, not, cond}
use mathlib.Core.Path.{◌≡◌, sym, ap, ap₂, ◌∙◌}
use mathlib.Core.Logic.{◌≢◌}
use mathlib.Core.List.{List}
use lib.Dec.{eqb, ltb}
use lib.IntN.{ℤ, pos}
use lib.ListN.{length, get_or, set}
use Rattle.protocol.specs.Lists.{count_to, modify, snoc}
use Rattle.protocol.specs.Plan.{Side, Mode, mode_number, Content, Plan, absent_side, side_at, sides_that, lookup}
use Rattle.protocol.proofs.Laws.{count_to-same}
use Rattle.rows.specs.Rows.{span, row}
use Rattle.rows.proofs.Spans.{length-span, span_same, span-snoc, nth-span, modify-span, get_d_set, get_or-other}
use Rattle.heads.specs.declared.Head.{Head}
use Rattle.state.specs.Spread.{Spread}
use Rattle.heads.specs.Heads.{mode_of, sides_in, index_of, measures_in, end_in, kept_in, position_of, unset_in}
use Rattle.records.specs.Records.{kept_at}
use Rattle.state.specs.Spread.{plan_of, side_of}
use Rattle.state.specs.Spread.{named_in}
use Rattle.records.proofs.Records.{lookup_record}

-- ---- a plan from its parts

pub plan-same : {m m' : Mode} {d d' : Content} → m ≡ m' → d.rules ≡ d'.rules → d.next ≡ d'.next → d.base ≡ d'.base → d.draft ≡ d'.draft → d.sides ≡ d'.sides → d.kept ≡ d'.kept
    → ◌≡◌ {A = Plan} (record { mode = m; content = d }) (record { mode = m'; content = d' })
plan-same m r n b d s k =
    λ i. record { mode = m i; content = record { rules = r i; next = n i; base = b i; draft = d i; sides = s i; kept = k i } }

-- ---- sides

pub sides_most : (h : Head) → sides_in h ≤ 8
sides_most h = by (ltb (mode_number (mode_of h.mode)) 2)
  where
    by : (b : Bool) → cond b 1 (suc (min h.added 7)) ≤ 8
    by true = omega arith
    by false = omega arith

pub sides-length : (p : Spread) → length (plan_of p).content.sides ≡ sides_in p.head
sides-length p = length-span 1 (sides_in p.head) (side_of p)

pub side_at_lem : (p : Spread) (s : ℕ) → 0 < s → s ≤ sides_in p.head → side_at (plan_of p).content s ≡ side_of p s
side_at_lem p zero h k = absurd (omega arith)
side_at_lem p (suc s) h k = nth-span absent_side 1 (sides_in p.head) (side_of p) s (omega arith) ∙ (let e : 1 + s ≡ suc s = omega arith in ap (side_of p) e)

-- one side changed
pub sides-modify : (s n : ℕ) (g : Side → Side) (f f' : ℕ → Side) → 0 < s → s ≤ n → f' s ≡ g (f s) → ((k : ℕ) → 0 < k → k ≤ n → k ≢ s → f' k ≡ f k) → span 1 n f' ≡ modify s g (span 1 n f)
sides-modify zero n g f f' p q same other = absurd (omega arith)
sides-modify (suc s) n g f f' p q same other =
    let e : 1 + s ≡ suc s = omega arith in
    modify-span 1 n s g f f' (omega arith) (rw e same) (λ k a b ne. other k (omega arith) (omega arith) (λ z. ne (z ∙ sym e)))

-- two sides have different places
pub index_other : (s k : ℕ) → 0 < s → s ≤ 8 → 0 < k → k ≤ 8 → k ≢ s → index_of k ≢ index_of s
index_other s k a b c d ne e = ne (omega arith)

pub sides-least : (h : Head) → 1 ≤ sides_in h
sides-least h = by (ltb (mode_number (mode_of h.mode)) 2)
  where
    by : (b : Bool) → 1 ≤ cond b 1 (suc (min h.added 7))
    by true = omega arith
    by false = omega arith

-- side 1's values, where a blank plan has its measures
pub first-row : (p : Spread) → (side_at (plan_of p).content 1).values ≡ row p.values 0 (measures_in p.head)
first-row p = ap (λ x. x.values) (side_at_lem p 1 (omega arith) (sides-least p.head))

-- one value more in a row
pub row_snoc : (vs : List ℤ) (at n : ℕ) (v : ℤ) → at + n < length vs → row (set vs (at + n) v) at (suc n) ≡ snoc (row vs at n) v
row_snoc vs at n v h =
    span-snoc at n (λ i. get_or (set vs (at + n) v) i (pos 0))
    ∙ ap₂ (λ xs x. snoc xs x) (span_same at n _ _ (λ k a b. get_or-other vs (at + n) k v (pos 0) (λ e. omega arith))) (get_d_set vs (at + n) v (pos 0) h)

-- how many sides have a flag that is not set, as the protocol counts them
pub flags_unset : (p : Spread) (flag : Side → Bool) (flags : List Bool) → ((s : ℕ) → flag (side_of p s) ≡ get_or flags (index_of s) false) → sides_that (λ s. not (flag (side_at (plan_of p).content s)))
    (plan_of p).content ≡ unset_in flags (sides_in p.head)
flags_unset p flag flags h =
    ap (count_to (λ s. not (flag (side_at (plan_of p).content s)))) (sides-length p)
    ∙ count_to-same _ _ (sides_in p.head) (λ s a b. ap (λ x. not (flag x)) (side_at_lem p s a b) ∙ ap not (h s))

-- the edit that a number names, as the protocol finds it
pub lookup-named : (p : Spread) (n : ℕ) → lookup n (plan_of p).content.kept ≡ kept_at (cond (eqb (position_of (end_in p.head) (kept_in p.head) n) 0) 0 n) (named_in p n)
lookup-named p n = lookup_record (end_in p.head) (kept_in p.head) n p.edits (omega arith)

pub row-length : (vs : List ℤ) (at n : ℕ) → length (row vs at n) ≡ n
row-length vs at n = length-span at n (λ i. get_or vs i (pos 0))
