-- Believed: the calls (01, "The calls" and "Who can be told no, and why"): when each is refused, what it gives, the plan after it. Assumes nothing.
use Rattle.std.specs.Prelude.{ℕ, suc, ◌+◌, Bool, true, false, not, cond, ◌&&◌, ◌||◌, List, [], ◌∷◌, ◌++◌, map, length, drop, eqb, leb, ltb, ℤ, pos}
use Rattle.protocol.specs.Lists.{bit, is_none, one_to, neg, within, natural, is_zero, count, any, snoc, modify}
use Rattle.protocol.specs.Plan.{measure_limit, rule_limit, gap_limit, side_limit, kept_limit, client_limit, number_limit, Rule, Change, kind_of, Edit, Fate, unsent, waiting, accepted, revoked, fate_number, is_unsent, is_waiting, is_revoked, is_open, is_settled, Kept, Side, Mode, blank, whole, split, joining, closing, is, active, Content, Plan, in_range, holds, firmly_named, allowed, made, fits, effective, side_at, lookup, unsent_of, pending, sides_that}

-- ---- the fourteen calls with their numbers, which may be any whole numbers; show also has the length of the lent buffer

pub data Call : Type 0 where
  measure : (v : ℤ) → Call
  rule : (a c b f : ℤ) → Call
  open_plan : Call
  split-side : (s : ℤ) → Call
  edit : (s client after m kind const : ℤ) → Call
  join : Call
  send : (s : ℤ) → Call
  replay : (n : ℤ) → Call
  stop : Call
  confirm : (s : ℤ) → Call
  install : Call
  show : (s : ℤ) (room : ℕ) → Call
  fate_of_edit : (n : ℤ) → Call
  left : Call

-- ---- who can be told no

-- a check: whether it passes, and the number that it refuses with
pub record Check : Type 0 where
  pub passes : Bool
  pub number : ℕ

infix 20 ◌unless◌ ◌when◌
abbrev pub ◌unless◌ : ℕ → Bool → Check
n unless b = record { passes = b; number = n }

abbrev pub ◌when◌ : ℕ → Bool → Check
n when b = record { passes = not b; number = n }

-- whoever draws up the plan; a blank plan has its measures on side 1

abbrev pub first_values : Content → List ℤ
first_values d = (side_at d 1).values

-- the measure numbered m is among the values
abbrev pub has_measure : List ℤ → ℤ → Bool
has_measure vs m = one_to (length vs) (natural m)

abbrev pub no11 : ℤ → Check
no11 v = 11 unless in_range v

abbrev pub no12 : List ℤ → Check
no12 vs = 12 unless ltb (length vs) measure_limit

abbrev pub no13 : List Rule → Check
no13 rs = 13 unless ltb (length rs) rule_limit

abbrev pub no14 : List ℤ → ℤ → ℤ → Check
no14 vs a b = 14 unless (has_measure vs a && has_measure vs b && not (eqb (natural a) (natural b)))

abbrev pub no15 : ℤ → ℤ → Check
no15 c f = 15 unless (within (neg gap_limit) (pos gap_limit) c && within (pos 0) (pos 1) f)

abbrev pub no16 : List ℤ → Check
no16 vs = 16 when is_none (length vs)

abbrev pub no17 : List Rule → List ℤ → Check
no17 rs vs = 17 unless holds rs vs

-- whoever names a side

abbrev pub no21 : List Side → ℤ → Check
no21 xs s = 21 unless one_to (length xs) (natural s)

-- whoever enters an edit

-- split or joining
abbrev pub apart : Mode → Bool
apart m = is split m || is joining m

abbrev pub no22 : ℤ → Check
no22 client = 22 unless within (pos 1) (pos client_limit) client

abbrev pub no23 : List ℤ → ℤ → Check
no23 vs m = 23 unless has_measure vs m

abbrev pub no24 : Change → Check
no24 ch = 24 unless allowed ch

-- the earlier edit, numbered n, is 0 or a kept, replied edit of the same client
abbrev pub no25 : Kept → ℤ → ℤ → Check
no25 named client n = 25 unless (is_zero n || (named.replied && eqb named.edit.client (natural client)))

abbrev pub no26 : Mode → List Rule → ℕ → Check
no26 mode rs m = 26 when (apart mode && firmly_named rs m)

abbrev pub no27 : Mode → List Kept → Check
no27 mode ks = 27 when (apart mode && leb kept_limit (length ks))

-- the next number is past the last that may be given
abbrev pub no30 : ℕ → Check
no30 next = 30 when ltb number_limit next

abbrev pub no28 : List ℤ → ℕ → Change → Check
no28 vs m ch = 28 unless fits m ch vs

abbrev pub no29 : List Rule → List ℤ → ℕ → Change → Check
no29 rs vs m ch = 29 unless holds rs (made m ch vs)

-- whoever runs the join

abbrev pub no32 : List Side → Check
no32 xs = 32 unless ltb (length xs) side_limit

abbrev pub no33 : Content → ℕ → Check
no33 d s = 33 unless pending d s

abbrev pub no34 : Content → Check
no34 d = 34 unless is_none (sides_that (λ s. not (side_at d s).arrived) d)

abbrev pub no35 : List Kept → ℕ → Check
no35 ks n = 35 unless is_waiting (lookup n ks)

abbrev pub no36 : List Kept → ℕ → Check
no36 ks n = 36 when is_waiting (lookup (lookup n ks).edit.earlier ks)

abbrev pub no37 : List Kept → Check
no37 ks = 37 unless is_none (count is_waiting ks)

abbrev pub no38 : List Kept → ℕ → Check
no38 ks s = 38 unless is_none (unsent_of s ks)

abbrev pub no39 : Content → ℕ → Check
no39 d s = 39 when (side_at d s).confirmed

abbrev pub no40 : Content → Check
no40 d = 40 unless is_none (sides_that (λ s. not (side_at d s).confirmed) d)

-- the host program

abbrev pub no41 : List ℤ → ℕ → Check
no41 vs room = 41 unless leb (length vs) room

-- the agreed list; 51 and 52 are the sheet's own

abbrev pub refusals : List ℕ
refusals =
    11 ∷ 12 ∷ 13 ∷ 14 ∷ 15 ∷ 16 ∷ 17
    ∷ 21
    ∷ 22 ∷ 23 ∷ 24 ∷ 25 ∷ 26 ∷ 27 ∷ 30 ∷ 28 ∷ 29
    ∷ 31 ∷ 32 ∷ 33 ∷ 34 ∷ 35 ∷ 36 ∷ 37 ∷ 38 ∷ 39 ∷ 40
    ∷ 41 ∷ []

abbrev pub is_refusal : ℕ → Bool
is_refusal k = any (eqb k) refusals

-- ---- the checks of each call, in their order

-- the modes that a call belongs to
abbrev pub belongs : Call → Mode → Bool
belongs (measure v) m = is blank m
belongs (rule a c b f) m = is blank m
belongs open_plan m = is blank m
belongs (split-side s) m = is whole m || is split m
belongs (edit s client n m kind k) mode = is whole mode || apart mode
belongs join m = is split m
belongs (send s) m = active m
belongs (replay n) m = active m
belongs stop m = is joining m
belongs (confirm s) m = is closing m
belongs install m = is closing m
belongs (show s room) m = not (is blank m)
belongs (fate_of_edit n) m = true
belongs left m = true

abbrev pub change_of : ℤ → ℤ → Change
change_of kind k = record { kind = kind_of (natural kind); constant = k }

-- the edit that a call asks for, once it has its number
abbrev pub edit_of : ℕ → (s client n m kind k : ℤ) → Edit
edit_of number s client n m kind k =
    record { number = number; side = natural s; client = natural client; earlier = natural n; measure = natural m; change = change_of kind k }

abbrev pub rule_of : (a c b f : ℤ) → Rule
rule_of a c b f = record { lower = natural a; gap = c; upper = natural b; firm = eqb (natural f) 1 }

unfoldable pub further : Call → Mode → Content → List Check
further (measure v) m d = no12 (first_values d) ∷ no11 v ∷ []
further (rule a c b f) m d = no13 d.rules ∷ no14 (first_values d) a b ∷ no15 c f ∷ []
further open_plan m d = no16 (first_values d) ∷ no17 d.rules (first_values d) ∷ []
further (split-side s) m d = no21 d.sides s ∷ no32 d.sides ∷ []
further (edit s client n m kind k) mode d =
    let vs = (side_at d (natural s)).values in
    let ch = change_of kind k in
    no21 d.sides s ∷ no22 client ∷ no23 vs m ∷ no24 ch ∷ no25 (lookup (natural n) d.kept) client n
    ∷ no26 mode d.rules (natural m) ∷ no27 mode d.kept ∷ no30 d.next ∷ no28 vs (natural m) ch ∷ no29 d.rules vs (natural m) ch ∷ []
further join m d = []
further (send s) m d = no21 d.sides s ∷ no33 d (natural s) ∷ []
further (replay n) m d = no34 d ∷ no35 d.kept (natural n) ∷ no36 d.kept (natural n) ∷ []
further stop m d = no34 d ∷ no37 d.kept ∷ []
further (confirm s) m d = no21 d.sides s ∷ no39 d (natural s) ∷ no38 d.kept (natural s) ∷ []
further install m d = no40 d ∷ no37 d.kept ∷ []
further (show s room) m d = no21 d.sides s ∷ no41 (side_at d (natural s)).values room ∷ []
further (fate_of_edit n) m d = []
further left m d = []

-- 31, the call does not belong to this mode, always comes first
unfoldable pub checks : Call → Plan → List Check
unfolding further
checks c p = (31 unless belongs c p.mode) ∷ further c p.mode p.content

pub data Verdict : Type 0 where
  fine : Verdict
  refused : ℕ → Verdict

-- the first that fails
abbrev pub first : List Check → Verdict
first [] = fine
first (c ∷ cs) = cond c.passes (first cs) (refused c.number)

-- ---- parts of a plan changed

abbrev pub with_rules : List Rule → Content → Content
with_rules rs d = record { rules = rs; next = d.next; base = d.base; draft = d.draft; sides = d.sides; kept = d.kept }

abbrev pub with_next : ℕ → Content → Content
with_next n d = record { rules = d.rules; next = n; base = d.base; draft = d.draft; sides = d.sides; kept = d.kept }

abbrev pub with_base : List ℤ → Content → Content
with_base vs d = record { rules = d.rules; next = d.next; base = vs; draft = d.draft; sides = d.sides; kept = d.kept }

abbrev pub with_draft : List ℤ → Content → Content
with_draft vs d = record { rules = d.rules; next = d.next; base = d.base; draft = vs; sides = d.sides; kept = d.kept }

abbrev pub on_sides : (List Side → List Side) → Content → Content
on_sides f d = record { rules = d.rules; next = d.next; base = d.base; draft = d.draft; sides = f d.sides; kept = d.kept }

abbrev pub on_kept : (List Kept → List Kept) → Content → Content
on_kept f d = record { rules = d.rules; next = d.next; base = d.base; draft = d.draft; sides = d.sides; kept = f d.kept }

-- a side with these values that has neither sent nor confirmed anything
abbrev pub fresh_side : List ℤ → Side
fresh_side vs = record { values = vs; arrived = false; confirmed = false }

abbrev pub reset : Side → Side
reset x = fresh_side x.values

abbrev pub on_values : (List ℤ → List ℤ) → Side → Side
on_values f x = record { values = f x.values; arrived = x.arrived; confirmed = x.confirmed }

abbrev pub has_arrived : Side → Side
has_arrived x = record { values = x.values; arrived = true; confirmed = x.confirmed }

abbrev pub has_confirmed : Side → Side
has_confirmed x = record { values = x.values; arrived = x.arrived; confirmed = true }

-- an unsent edit of side s becomes waiting and replied
abbrev pub mark_sent : ℕ → Kept → Kept
mark_sent s k = cond (is_unsent k && eqb k.edit.side s) (record { edit = k.edit; fate = waiting; replied = true; place = k.place }) k

-- the earlier edit of the kept edit numbered n was revoked
abbrev pub built_on_revoked : Content → ℕ → Bool
built_on_revoked d n = is_revoked (lookup (lookup n d.kept).edit.earlier d.kept)

-- what a replay decides: whether the kept edit takes effect on the draft; one built on a revoked edit does not, untested (02, S-2)
unfoldable pub replayable : Content → ℕ → Bool
unfolding effective
replayable d n = let e = (lookup n d.kept).edit in not (built_on_revoked d n) && effective d.rules e.measure e.change d.draft

abbrev pub outcome : Bool → Fate
outcome true = accepted
outcome false = revoked

abbrev pub settled : Bool → ℕ → Kept → Kept
settled b place k = record { edit = k.edit; fate = outcome b; replied = k.replied; place = place }

-- the kept edits with the one numbered n changed by f
abbrev pub update : ℕ → (Kept → Kept) → List Kept → List Kept
update n f [] = []
update n f (k ∷ ks) = cond (eqb n k.edit.number) (f k ∷ ks) (k ∷ update n f ks)

-- places are given as 1, 2, 3 and on
abbrev pub next_place : List Kept → ℕ
next_place ks = suc (count is_settled ks)

-- ---- the plan after a call that is accepted

unfoldable pub after : Call → Mode → Content → Plan
after (measure v) m d = record { mode = m; content = on_sides (modify 1 (on_values (λ vs. snoc vs v))) d }
after (rule a c b f) m d = record { mode = m; content = with_rules (snoc d.rules (rule_of a c b f)) d }
after open_plan m d = record { mode = whole; content = with_next 1 d }
after (split-side s) m d =
    let e : Content = cond (is whole m) (with_base (first_values d) (on_kept (λ ks. []) d)) d in
    record { mode = split; content = on_sides (λ xs. snoc xs (fresh_side (side_at d (natural s)).values)) e }
after (edit s client n m kind k) mode d =
    record {
      mode = mode;
      content =
          with_next (suc d.next)
          (on_sides (modify (natural s) (on_values (made (natural m) (change_of kind k))))
          (on_kept (λ ks. cond (is whole mode) ks (snoc ks (record { edit = edit_of d.next s client n m kind k; fate = unsent; replied = is split mode; place = 0 }))) d));
    }
after join m d = record { mode = joining; content = with_draft d.base (on_sides (map reset) d) }
after (send s) m d = record { mode = m; content = on_sides (modify (natural s) has_arrived) (on_kept (map (mark_sent (natural s))) d) }
after (replay n) m d =
    let e = (lookup (natural n) d.kept).edit in
    let b = replayable d (natural n) in
    record {
      mode = m;
      content =
          with_draft (cond b (made e.measure e.change d.draft) d.draft)
          (on_kept (update (natural n) (settled b (next_place d.kept))) d);
    }
after stop m d = record { mode = closing; content = d }
after (confirm s) m d = record { mode = m; content = on_sides (modify (natural s) has_confirmed) d }
after install m d = record { mode = whole; content = on_sides (λ xs. fresh_side d.draft ∷ []) d }
after (show s room) m d = record { mode = m; content = d }
after (fate_of_edit n) m d = record { mode = m; content = d }
after left m d = record { mode = m; content = d }

-- ---- the numbers that an accepted call gives

-- the number left: the termination measure
abbrev pub left_of : Mode → Content → ℕ
left_of m d = sides_that (pending d) d + count is_open d.kept + sides_that (λ s. not (side_at d s).confirmed) d + bit (is joining m) + 1

abbrev pub left_in : Plan → ℕ
left_in p = cond (active p.mode) (left_of p.mode p.content) 0

-- fate and place of edit n; 0 0 if it is not kept
abbrev pub fate_in : ℕ → List Kept → List ℤ
fate_in n [] = pos 0 ∷ pos 0 ∷ []
fate_in n (k ∷ ks) = cond (eqb n k.edit.number) (pos (fate_number k.fate) ∷ pos k.place ∷ []) (fate_in n ks)

unfoldable pub gives : Call → Mode → Content → List ℤ
gives (measure v) m d = pos (suc (length (first_values d))) ∷ []
gives (rule a c b f) m d = pos (suc (length d.rules)) ∷ []
gives open_plan m d = []
gives (split-side s) m d = pos (suc (length d.sides)) ∷ []
gives (edit s client n m kind k) mode d = pos d.next ∷ []
gives join m d = []
gives (send s) m d = pos (unsent_of (natural s) d.kept) ∷ []
gives (replay n) m d = pos (fate_number (outcome (replayable d (natural n)))) ∷ []
gives stop m d = []
gives (confirm s) m d = []
gives install m d = []
gives (show s room) m d = (side_at d (natural s)).values
gives (fate_of_edit n) m d = fate_in (natural n) d.kept
gives left m d = pos (left_in (record { mode = m; content = d })) ∷ []

-- ---- a call made on a plan

pub data Answer : Type 0 where
  no : ℕ → Answer
  ok : List ℤ → Answer

pub record Stepped : Type 0 where
  pub answer : Answer
  pub plan : Plan

abbrev pub step_by : Verdict → Call → Plan → Stepped
step_by fine c p = record { answer = ok (gives c p.mode p.content); plan = after c p.mode p.content }
step_by (refused k) c p = record { answer = no k; plan = p }

unfoldable pub step : Call → Plan → Stepped
unfolding checks
step c p = step_by (first (checks c p)) c p

-- the plan that a call leaves, and a list of calls made one after the other
abbrev pub following : Plan → Call → Plan
following p c = (step c p).plan

abbrev pub end : List Call → Plan → Plan
end [] p = p
end (c ∷ cs) p = end cs (following p c)

-- the blank plan with nothing drawn
abbrev pub start : Plan
start = record { mode = blank; content = record { rules = []; next = 1; base = []; draft = []; sides = fresh_side [] ∷ []; kept = [] } }

-- ---- show, and the buffer that it is lent

-- the refusal number or 0, the part handed back, and the whole buffer after the call
pub record Shown : Type 0 where
  pub refusal : ℕ
  pub front : List ℤ
  pub buffer : List ℤ

abbrev pub shown_by : Answer → List ℤ → Shown
shown_by (no k) buffer = record { refusal = k; front = []; buffer = buffer }
shown_by (ok vs) buffer = record { refusal = 0; front = vs; buffer = vs ++ drop (length vs) buffer }

unfoldable pub shown : ℤ → Plan → List ℤ → Shown
unfolding step
shown s p buffer = shown_by (step (show s (length buffer)) p).answer buffer
