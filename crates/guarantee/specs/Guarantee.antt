-- Believed: Condition 3, and condition 2's order: one claim about every list of calls. Each field is one of its clauses. Assumes nothing.
use Rattle.std.specs.Prelude.{ℕ, zero, suc, ◌+◌, ◌<◌, ◌≤◌, ◌≡◌, ◌⊎◌, not, cond, ◌||◌, List, [], ◌∷◌, ◌++◌, length, T, leb, ℤ, pos}
use Rattle.protocol.specs.Lists.{bit, one_to, natural, all, snoc}
use Rattle.protocol.specs.Plan.{Plan, blank, whole, split, is, active, holds, side_at}
use Rattle.protocol.specs.Calls.{Call, is_refusal, edit, install, show, fate_of_edit, left, no, ok, left_in, step, following, end}
use Rattle.protocol.specs.History.{History, Entry, Settling, closed, budget, is_late, listed, edit_in, times, settled_as, replayed, EachHolds}
use Rattle.guarantee.specs.Runs.{closes, edits, reads, accepts, noting, quiet, closings, taken, from_blank, Trace}

-- Each settled edit names 0 or an edit settled before it (settlings stand newest first).
abbrev pub InOrder : List Settling → Type 0
InOrder [] = Unit {0}
InOrder (x ∷ xs) = ((x.edit.earlier ≡ 0) ⊎ (0 < times x.edit.earlier xs)) × InOrder xs

-- The edit that is k steps before n along its chain of earlier edits: the one that n names, the one that this names, and on; 0 where the chain has ended.
abbrev pub earlier_by : ℕ → ℕ → List Entry → ℕ
earlier_by zero n es = n
earlier_by (suc k) zero es = zero
earlier_by (suc k) (suc n) es = earlier_by k (edit_in (suc n) es).earlier es

-- some closing move is accepted
abbrev pub Able : Plan → Type 0
Able p = (c : Call) × T (closes c) × T (accepts p c)

-- no closing move is accepted
abbrev pub Stuck : Plan → Type 0
Stuck p = (c : Call) → T (closes c) → T (not (accepts p c))

-- The list leaves the join under way: its accepted closing moves are what the number left has fallen by, and some closing move is accepted.
pub record Underway (cs : List Call) (p : Plan) : Type 0 where
  pub active_still : T (active (end cs p).mode)
  pub fallen : closings cs p + left_in (end cs p) ≡ left_in p
  pub able_still : Able (end cs p)

-- The list completes the join: before, install, rest. The install is accepted, the join was under way until then, and with it
-- the accepted closing moves are exactly as many as the number left.
pub record Completed (cs : List Call) (p : Plan) : Type 0 where
  pub before : List Call
  pub rest : List Call
  pub parts : cs ≡ before ++ (install ∷ rest)
  pub active_until : T (active (end before p).mode)
  pub taken_then : T (accepts (end before p) install)
  pub exact : suc (closings before p) ≡ left_in p

-- Just after an install; h is the history before it.
pub record Installed (p : Plan) (h : History) : Type 0 where
  -- The plan is whole.
  pub whole_now : p.mode ≡ whole
  -- Every edit kept since the split was settled exactly once,
  pub once : (n : ℕ) → T (listed n h.kept) → times n h.settlings ≡ 1
  -- as accepted (3) or revoked (4),
  pub judged : (n : ℕ) → T (listed n h.kept) → ((settled_as n h.settlings).0 ≡ 3) ⊎ ((settled_as n h.settlings).0 ≡ 4)
  -- as fate says, and at the place that it says;
  pub as_fate : (n : ℕ) → T (listed n h.kept) → (step (fate_of_edit (pos n)) p).answer ≡ ok (pos (settled_as n h.settlings).0 ∷ pos (settled_as n h.settlings).1 ∷ [])
  -- and nothing else was settled.
  pub no_more : length h.settlings ≡ length h.kept
  -- The values are the last whole plan's with the accepted changes made in order of settling,
  pub values : (side_at p.content 1).values ≡ replayed h.settlings h.values
  -- every rule holding after each.
  pub each : EachHolds h.rules h.settlings h.values

-- What holds of a plan and of the history that led to it.
pub record Guarantee (p : Plan) (h : History) : Type 0 where
  -- The plan's mode and rules are the history's.
  pub mode : p.mode ≡ h.mode
  pub rules : p.content.rules ≡ h.rules
  -- A whole plan's values are the history's,
  pub whole-values : T (is whole p.mode) → (side_at p.content 1).values ≡ h.values
  -- and show 1 gives them unless 41 refuses it.
  pub whole-shown : T (is whole p.mode) → (room : ℕ) → (step (show (pos 1) room) p).answer ≡ cond (leb (length h.values) room) (ok h.values) (no 41)
  -- A refused call leaves plan and history, and so does one that only reads.
  pub refused_keeps : (c : Call) → T (not (accepts p c)) → (following p c ≡ p) × (noting p h c ≡ h)
  pub reading_keeps : (c : Call) → T (reads c) → (following p c ≡ p) × (noting p h c ≡ h)
  -- A refusal is on the agreed list (condition 1).
  pub agreed : (c : Call) (k : ℕ) → (step c p).answer ≡ no k → T (is_refusal k)
  -- The call left gives the number left.
  pub told-left : (step left p).answer ≡ ok (pos (left_in p) ∷ [])
  -- While the plan is joining or closing, some closing move is accepted.
  pub able : T (active p.mode) → Able p
  -- The number left is 2, plus twice the sides, plus the edits kept since the split, plus the late ones once more,
  -- less the closing moves accepted since the join.
  pub number : T (active p.mode) → left_in p + closed h ≡ budget h
  -- Each accepted closing move lowers it by exactly one.
  pub lowers : T (active p.mode) → (c : Call) → T (closes c) → T (accepts p c) → left_in p ≡ suc (left_in (following p c))
  -- An edit accepted while joining raises it by one, or by two exactly if it is late.
  pub raises : T (active p.mode) → (s client n m kind k : ℤ) → T (accepts p (edit s client n m kind k))
      → left_in (following p (edit s client n m kind k)) ≡ suc (bit (is_late (natural s) h) + left_in p)
  -- No other call moves it.
  pub stays : T (active p.mode) → (c : Call) → T (not (closes c)) → T (not (edits c)) → left_in (following p c) ≡ left_in p
  -- Carried on without an accepted edit, whatever is refused or read in between, the join is still under way or was completed.
  pub carried : T (active p.mode) → (cs : List Call) → T (quiet cs p) → Underway cs p ⊎ Completed cs p
  -- Closing moves carried on for as long as one is accepted: the accepted ones are exactly as many as the number left, and install is the last.
  pub exhausted : T (active p.mode) → (cs : List Call) → T (all closes cs) → Stuck (end cs p) → (length (taken cs p) ≡ left_in p) × ((before : List Call) × (taken cs p ≡ snoc before install))
  -- What holds just after an install.
  pub installed : T (accepts p install) → Installed (following p install) h
  -- At all times: no edit is settled twice,
  pub once : (n : ℕ) → times n h.settlings ≤ 1
  -- and none that is not kept,
  pub kept : (n : ℕ) → 0 < times n h.settlings → T (listed n h.kept)
  -- fate says of a settled edit what its replay gave, and its place,
  pub told-fate : (n : ℕ) → 0 < times n h.settlings → (step (fate_of_edit (pos n)) p).answer ≡ ok (pos (settled_as n h.settlings).0 ∷ pos (settled_as n h.settlings).1 ∷ [])
  -- and no edit is settled before the one that it names as earlier (condition 2).
  pub ordered : InOrder h.settlings
  -- A settled edit whose earlier edit was revoked is itself revoked (02, S-2);
  pub passed_on : (n : ℕ) → 0 < times n h.settlings → (settled_as (edit_in n h.kept).earlier h.settlings).0 ≡ 4 → (settled_as n h.settlings).0 ≡ 4
  -- so an accepted edit has only accepted ones before it along its chain of earlier edits.
  pub chain-accepted : (k n : ℕ) → (settled_as n h.settlings).0 ≡ 3
      → (earlier_by k n h.kept ≡ 0) ⊎ ((settled_as (earlier_by k n h.kept) h.settlings).0 ≡ 3)
  -- From open on every rule holds on every side, and on the base and the draft for as long as there is one.
  pub sides-hold : T (not (is blank p.mode)) → (s : ℕ) → T (one_to (length p.content.sides) s) → T (holds p.content.rules (side_at p.content s).values)
  pub base-holds : T (is split p.mode || active p.mode) → T (holds p.content.rules p.content.base)
  pub draft-holds : T (active p.mode) → T (holds p.content.rules p.content.draft)

-- the theorem (proofs/Guaranteed: `guarantee`)
abbrev pub ForEveryList : Type 0
ForEveryList = (cs : List Call) → Guarantee (from_blank cs).plan (from_blank cs).history

-- and the same for the program's own states (`guarantee_traced`)
abbrev pub ForEveryTrace : {S : Type 0} → (S → Plan) → Type 0
ForEveryTrace {S} view = (s : S) (h : History) → Trace view s h → Guarantee (view s) h
