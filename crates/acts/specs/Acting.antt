-- Believed: condition 3 for loaded plans too (02, S-1): one claim about every list of acts. Each field is one of its clauses. Assumes nothing.
use Rattle.std.specs.Prelude.{ℕ, suc, ◌+◌, ◌≡◌, ◌⊎◌, not, ◌||◌, List, [], ◌∷◌, ◌++◌, length, T, ℤ, pos}
use Rattle.protocol.specs.Lists.{all, snoc}
use Rattle.protocol.specs.Plan.{Plan, blank, whole, is, active}
use Rattle.protocol.specs.Calls.{Call, edit, install, show, no, ok, left_in, step}
use Rattle.protocol.specs.History.{History}
use Rattle.guarantee.specs.Guarantee.{Able, Stuck, Guarantee}
use Rattle.file.specs.Saved.{saved}
use Rattle.file.specs.Loaded.{next_number, untouched, load}
use Rattle.file.specs.Promises.{whole_with, without_kept, values_of, rules_of}
use Rattle.acts.specs.Acts.{Act, call, loading, closes_act, edits_act, reads_act, of_file, is_act_refusal, act_step, takes, following_act, noting_act, end_acts, quiet_acts, closings_acts, done_acts, from_blank_acts, ActTrace}

-- The list leaves the join under way: its accepted closing moves are what the number left has fallen by, and some closing move is accepted.
pub record UnderwayActs (acts : List Act) (p : Plan) : Type 0 where
  pub active_still : T (active (end_acts acts p).mode)
  pub fallen : closings_acts acts p + left_in (end_acts acts p) ≡ left_in p
  pub able_still : Able (end_acts acts p)

-- The list completes the join: before, install, rest. The install is accepted, the join was under way until then, and with it
-- the accepted closing moves are exactly as many as the number left.
pub record CompletedActs (acts : List Act) (p : Plan) : Type 0 where
  pub before : List Act
  pub rest : List Act
  pub parts : acts ≡ before ++ (call install ∷ rest)
  pub active_until : T (active (end_acts before p).mode)
  pub taken_then : T (takes (end_acts before p) (call install))
  pub exact : suc (closings_acts before p) ≡ left_in p

-- Just after file f was loaded.
pub record Loaded (f : List ℕ) (p : Plan) (h : History) : Type 0 where
  -- The plan is whole, has the values and rules of the file's chains in their order, and its next number; no edits are kept.
  pub plan : p ≡ whole_with (values_of f) (rules_of f) (next_number f)
  -- The history is one of a plan drawn and opened by hand.
  pub history : h ≡ record { mode = whole; values = values_of f; rules = rules_of f; sides = 1; kept = []; settlings = []; moves = [] }
  -- An edit accepted next gives the file's number.
  pub number : (s client n m kind k : ℤ) (xs : List ℤ) → (step (edit s client n m kind k) p).answer ≡ ok xs → xs ≡ pos (next_number f) ∷ []

-- What holds of a plan and of the history that led to it.
pub record GuaranteeActs (p : Plan) (h : History) : Type 0 where
  -- All that is guaranteed of lists of calls.
  pub calls : Guarantee p h
  -- A refused act leaves plan and history, and so does one that only reads.
  pub refused_keeps : (a : Act) → T (not (takes p a)) → (following_act p a ≡ p) × (noting_act p h a ≡ h)
  pub reading_keeps : (a : Act) → T (reads_act a) → (following_act p a ≡ p) × (noting_act p h a ≡ h)
  -- A refusal is on the agreed list, or is one of loading's own (condition 1).
  pub agreed : (a : Act) (k : ℕ) → (act_step a p).answer ≡ no k → T (is_act_refusal k)
  -- Each accepted closing move lowers the number left by exactly one.
  pub lowers : T (active p.mode) → (a : Act) → T (closes_act a) → T (takes p a) → left_in p ≡ suc (left_in (following_act p a))
  -- No act but closing moves and edits moves it: no load and no save.
  pub stays : T (active p.mode) → (a : Act) → T (not (closes_act a)) → T (not (edits_act a)) → left_in (following_act p a) ≡ left_in p
  -- Carried on without an accepted edit, whatever is refused, read, loaded or saved in between, the join is still under way or was completed.
  pub carried : T (active p.mode) → (acts : List Act) → T (quiet_acts acts p) → UnderwayActs acts p ⊎ CompletedActs acts p
  -- Closing moves, with loads and saves among them, carried on for as long as a closing move is accepted: the accepted ones are exactly as many as
  -- the number left, and install is the last.
  pub exhausted : T (active p.mode) → (acts : List Act) → T (all (λ a. closes_act a || of_file a) acts) → Stuck (end_acts acts p)
      → (length (done_acts acts p) ≡ left_in p) × ((before : List Call) × (done_acts acts p ≡ snoc before install))
  -- What holds just after a load.
  pub loaded : (f : List ℕ) → T (takes p (loading f)) → Loaded f (following_act p (loading f)) (noting_act p h (loading f))
  -- From open on every load is refused with 31.
  pub shut : T (not (is blank p.mode)) → (f : List ℕ) → (load f p).answer ≡ no 31
  -- Loading what is saved of a whole plan, wherever a list of acts has drawn nothing yet, is accepted and gives the plan again, but for its kept edits;
  pub saved-same : T (is whole p.mode) → (acts : List Act) → T (untouched (from_blank_acts acts).plan)
      → load (saved p) (from_blank_acts acts).plan ≡ record { answer = ok []; plan = without_kept p }
  -- and show answers on it as on the plan.
  pub shows_same : T (is whole p.mode) → (s : ℤ) (room : ℕ) → (step (show s room) (without_kept p)).answer ≡ (step (show s room) p).answer

-- the theorem (proofs/Acting: `guarantee_acts`)
abbrev pub ForEveryActs : Type 0
ForEveryActs = (acts : List Act) → GuaranteeActs (from_blank_acts acts).plan (from_blank_acts acts).history

-- and the same for the program's own states (`guarantee_acts_traced`)
abbrev pub ForEveryActTrace : {S : Type 0} → (S → Plan) → Type 0
ForEveryActTrace {S} view = (s : S) (h : History) → ActTrace view s h → GuaranteeActs (view s) h
