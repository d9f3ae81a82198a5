-- A call made on a plan: what an acceptance says, the counts after it, the index, and that every rule goes on holding. Assumes nothing.
use Prim.Native.Nat.{ℕ, ◌-◌, ◌≤◌, min}
use native.Mathlib.Omega.{arith}
use mathlib.Core.Path.{◌≡◌, refl, sym, ap, ◌∙◌, subst}
use mathlib.Core.Bool.{Bool, true, false, not, cond}
use mathlib.Core.List.{List, [], append-nil}
use lib.Dec.{T}
use lib.IntN.{ℤ}
use lib.ListN.{length, get_or}
use Rattle.std.specs.Prelude.{Option, Some, None, IsSome, Ok, Err, is_ok}
use Rattle.protocol.specs.Lists.{natural, one_to}
use Rattle.protocol.specs.Plan.{Plan, is, blank, holds, absent_side, side_at, measure_limit}
use Rattle.protocol.specs.Calls as model
use Rattle.protocol.specs.Calls.{Verdict, fine, refused, first, checks, further, gives, after, rule, show, step, step_by, no, ok}
use Rattle.protocol.specs.Asked.{asked}
use Rattle.protocol.specs.declared.call.Call.{Call}
use Rattle.protocol.specs.declared.call.Call.TheVariants.{Measure, Rule, Open, Split, Edit, Join, Send, Replay, Stop, Confirm, Install, Show, Fate, Left}
use Rattle.protocol.proofs.Laws.{cases, Pass, passed, is_yes, yes_is, range, all-nth}
use Rattle.guarantee.specs.Holding.{Holding}
use Rattle.guarantee.proofs.Holding.{holding_step}
use Rattle.format.specs.Sheets.{step_of}
use Rattle.rows.specs.Rows.{row}
use Rattle.rows.proofs.Spans.{length-span}
use Rattle.rules.specs.declared.Index.{Index}
use Rattle.rules.specs.Index.{IndexedIfSome}
use Rattle.heads.specs.Heads.{mode_of, sides_in, index_of, offset_of, measures_in, kept_in, end_in}
use Rattle.records.specs.Records.{kept_at, no_record}
use Rattle.state.specs.declared.State.{State}
use Rattle.state.specs.Spread.{Spread, spread, plan_of, rules_of}
use Rattle.state.specs.View.{view}
use Rattle.state.specs.Meets.{Answer, answer_of, numbers_of, IfRefused, Makes, SameRules}
use Rattle.state.proofs.View.{sides-length, sides_most, side_at_lem}
use Rattle.state.proofs.Meets.{fine_pass}
use Rattle.counts.specs.declared.Tallies.{Tallies}
use Rattle.counts.specs.Tallies.{Tallied, unsent_in, noted}
use Rattle.moves.specs.Moves.{Unsent}
use Rattle.counts.proofs.Counting.{tally_after, tallied-after, missing_unset}
use Rattle.edit.specs.Edits as edits
use Rattle.replay.specs.Replays as replays
use Rattle.protocol.specs.declared.call.Edit.{Edit as Edited}
use Rattle.query.specs.Reads.{show_checks}
use Rattle.query.proofs.Readings.{show_checks_lem, shown-row}
use Rattle.reader.specs.Reads.{called}
use Rattle.writer.specs.Writes.{with_row}
use Rattle.calls.specs.declared.Beside.{Beside}
use Rattle.calls.specs.declared.Told.{Told}
use Rattle.calls.specs.Makes.{SoundIn, ReadyIn, Readied, Changes, Noted, Made, Shows, is_draw, asks_index, log_before}

-- ---- an answer

-- an answer with no values besides
pub alone-row : (a : Answer) → with_row (answer_of a) [] ≡ answer_of a
alone-row (Err r) = refl
alone-row (Ok g) = ap ok (append-nil (numbers_of g))

refused-answer : (a : Answer) (k : ℕ) → answer_of a ≡ no k → is_ok a ≡ false
refused-answer (Err r) k e = refl
refused-answer (Ok g) k e = cc

accepted-answer : (a : Answer) (xs : List ℤ) → answer_of a ≡ ok xs → is_ok a ≡ true
accepted-answer (Err r) xs e = cc
accepted-answer (Ok g) xs e = refl

module _ {c : model.Call} {p q : State} {a : Answer} (m : Makes c p a q) where
  -- a call that was accepted passed its checks
  pub if_accepted : is_ok a ≡ true → Pass (checks c (view p)) × (view q ≡ after c (view p).mode (view p).content)
  unfolding step
  if_accepted y = by (first (checks c (view p))) refl m.answer m.plan
    where
      by : (w : Verdict) → first (checks c (view p)) ≡ w → answer_of a ≡ (step_by w c (view p)).answer → view q ≡ (step_by w c (view p)).plan
          → Pass (checks c (view p)) × (view q ≡ after c (view p).mode (view p).content)
      by fine f e v = (passed (checks c (view p)) (rw f tt), v)
      by (refused k) f e v = absurd (is_yes (sym (refused-answer a k e) ∙ y))

  pub if_refused : is_ok a ≡ false → view q ≡ view p
  unfolding step
  if_refused n = by (first (checks c (view p))) m.answer m.plan
    where
      by : (w : Verdict) → answer_of a ≡ (step_by w c (view p)).answer → view q ≡ (step_by w c (view p)).plan → view q ≡ view p
      by fine e v = absurd (is_yes (sym n ∙ accepted-answer a _ e))
      by (refused k) e v = v

-- ---- the counts after it

kept-length : (p : Spread) → length (plan_of p).content.kept ≡ kept_in p.head
kept-length p = length-span 0 (kept_in p.head) (λ i. kept_at (end_in p.head - (kept_in p.head - i)) (get_or p.edits i no_record))

kept_most : (p : Spread) → length (plan_of p).content.kept ≤ 256
kept_most p = let l = kept-length p in omega arith

-- the first log's flag of a side that the plan has
flag_is : (p : State) (s : ℕ) → T (one_to (length (view p).content.sides) s) → get_or p.arrived (index_of s) false ≡ (side_at (view p).content s).arrived
flag_is p s t =
    let r = range (length (view p).content.sides) s t in
    let l = sides-length (spread p) in
    sym (ap (λ x. x.arrived) (side_at_lem (spread p) s r.0 (omega (arith, l, r.1))))

-- what is noted is what the call makes of the counts
noted-after : (c : Call) (p : State) (t : Tallies) → Pass (checks (asked c) (view p)) → noted c p.head (log_before p c) t ≡ tally_after (asked c) (view p) t
unfolding checks further
noted-after (Measure v) p t g = refl
noted-after (Rule r) p t g = refl
noted-after Open p t g = refl
noted-after (Split s) p t g = refl
noted-after (Edit e) p t g = rw (flag_is p (natural e.side) g.1.0)
noted-after Join p t g = rw (sides-length (spread p), kept-length (spread p))
noted-after (Send s) p t g = rw (flag_is p (natural s) g.1.0)
noted-after (Replay n) p t g = refl
noted-after Stop p t g = refl
noted-after (Confirm s) p t g = refl
noted-after Install p t g = refl
noted-after (Show s) p t g = refl
noted-after (Fate n) p t g = refl
noted-after Left p t g = refl

module _ (c : Call) {p q : State} {a : Answer} (m : Makes (asked c) p a q) (t : Tallies) (h : Tallied t (view p)) where
  pub tallied-accepted : is_ok a ≡ true → Tallied (noted c p.head (log_before p c) t) (view q)
  tallied-accepted y =
      let s = if_accepted m y in
      let few : length (view p).content.sides ≤ 8 = (let l = sides-length (spread p) in let n = sides_most p.head in omega arith) in
      subst (λ u. Tallied u (view q)) (sym (noted-after c p t s.0))
      (subst (Tallied (tally_after (asked c) (view p) t)) (sym s.1) (tallied-after t (view p) (kept_most (spread p)) few h (asked c) s.0))

  pub tallied-refused : is_ok a ≡ false → Tallied t (view q)
  tallied-refused n = subst (Tallied t) (sym (if_refused m n)) h

-- ---- the index

-- where the rules stay, an index that was made is still theirs
pub ready_still : {index : Option Index} (p q : State) → q.table ≡ p.table → q.head.rules ≡ p.head.rules → ReadyIn (spread p) index → ReadyIn (spread q) index
ready_still p q same n w = rw (same, n) w

-- a refusal leaves everything
pub refused-same : (a : Answer) {A : Type 0} → is_ok a ≡ false → IfRefused a A → A
refused-same (Err r) e x = x
refused-same (Ok g) e x = absurd (is_yes (sym e))

kept_same : (a : Answer) {A : Type 0} → A → IfRefused a A
kept_same (Err r) x = x
kept_same (Ok g) x = tt

accepted-same : (a : Answer) (A : Type 0) → is_ok a ≡ true → IfRefused a A
accepted-same (Ok g) A e = tt
accepted-same (Err r) A e = absurd (is_yes e)

-- ---- where every rule holds, testing those that name the measure is enough

pub side_holds : (p : State) → Holding (view p).mode (view p).content → (s : ℕ) → T (not (is blank (mode_of p.head.mode))) → T (one_to (sides_in p.head) s)
    → holds (rules_of (spread p)) (row p.values (offset_of s) (measures_in p.head)) ≡ true
side_holds p h s drawn o =
    let r = range (sides_in p.head) s o in
    let n = sides-length (spread p) in
    yes_is _ (subst (λ x. T (holds (rules_of (spread p)) x.values)) (side_at_lem (spread p) s r.0 r.1)
    (all-nth (λ x. holds (rules_of (spread p)) x.values) absent_side (view p).content.sides s (h.sides drawn) r.0 (omega (arith, r.1, n))))

-- a blank plan says nothing of its rules
pub blank-holds : (p : Spread) → mode_of p.head.mode ≡ blank → Holding (plan_of p).mode (plan_of p).content
blank-holds p e = record { alone = λ w. sides-length p ∙ rw e; sides = λ w. absurd (rw e at w); base = λ w. absurd (rw e at w); draft = λ w. absurd (rw e at w) }

-- and every line keeps it so
pub sound_made : {c : Option Call} {p q : State} {b b' : Beside} {r : Told} {sound : Bool} → Made c p b r q b' → SoundIn sound (spread p) → SoundIn sound (spread q)
sound_made {c = c} {p = p} m h e = subst (λ x. Holding x.mode x.content) (sym m.plan) (by c (h e))
  where
    by : (c : Option Call) → Holding (view p).mode (view p).content → Holding (step_of (called c) (view p)).plan.mode (step_of (called c) (view p)).plan.content
    by None g = g
    by (Some c) g = holding_step (asked c) (view p) g

-- ---- a sheet's show

pub show-fine : (p : State) (s : ℤ) (n : ℕ) → n ≡ natural s → fine ≡ first (show_checks p.head (natural s) measure_limit)
    → with_row (ok []) (row p.values (offset_of n) (measures_in p.head)) ≡ (step (show s measure_limit) (view p)).answer
unfolding step gives
show-fine p s n e f =
    let g = fine_pass (show_checks p.head (natural s) measure_limit) (sym f) in
    rw (show_checks_lem (spread p) s measure_limit ∙ sym f) (ap ok (ap (λ k. row p.values (offset_of k) (measures_in p.head)) e ∙ sym (shown-row (spread p) s (yes_is _ g.1.0))))

pub show-refused : (p : State) (s : ℤ) (k : ℕ) → refused k ≡ first (show_checks p.head (natural s) measure_limit) → no k ≡ (step (show s measure_limit) (view p)).answer
unfolding step
show-refused p s k f = rw (show_checks_lem (spread p) s measure_limit ∙ sym f)

-- ---- the calls

-- with what is kept as it was
module _ {p q : State} {a : Answer} (b : Beside) where
  pub drawn : (c : Call) → Makes (asked c) p a q → is_draw c ≡ true → Changes c p b a q b
  drawn c m d = record { makes = m; rules = λ e. absurd (is_yes (sym e ∙ d)); counts = refl; sound = refl; indexed = λ x. x; stays = λ x. refl }

  pub moved : (c : Call) → Makes (asked c) p a q → SameRules p q → Changes c p b a q b
  moved c m r = record { makes = m; rules = λ e. r; counts = refl; sound = refl; indexed = λ x. x; stays = λ x. refl }

-- how many the side that a call names has unsent
pub unsent_is : (p : State) (t : Tallies) → Tallied t (view p) → (s : ℕ) {n : ℕ} → n ≡ unsent_in t s → Unsent p s n
unsent_is p t h s e x =
    let r = range (sides_in p.head) s x in
    let m = sides_most p.head in
    e ∙ h.counted.unsent s r.0 (omega (arith, r.1, m))

-- a call that only reads
pub read : {c : model.Call} {p : State} {a : Answer} → answer_of a ≡ (step c (view p)).answer → is_ok a ≡ true → (step c (view p)).plan ≡ view p → Makes c p a p
read {a = a} e o s = record { answer = e; plan = sym s; same = accepted-same a _ o }

pub fate-plan : (p : Plan) (n : ℤ) → (step (model.fate_of_edit n) p).plan ≡ p
unfolding step checks further after
fate-plan p n = refl

pub left_plan : (p : Plan) → (step model.left p).plan ≡ p
unfolding step checks further after
left_plan p = refl

-- ---- and what is kept beside the plan

no-index : {A : Type 0} {index : Index} → None ≡ Some index → A
no-index e = cc

module _ (c : Call) {p q : State} {a : Answer} {b b' : Beside} (w : Changes c p b a q b') where
  pub made_accepted : {b'' : Beside} → is_ok a ≡ true → Noted c p.head (log_before p c) b' b''
      → Made (Some c) p b (record { answer = a; shown = None }) q b''
  unfolding step
  made_accepted y n = record {
    answer = alone-row a ∙ w.makes.answer;
    plan = w.makes.plan;
    bare = λ e. refl;
    same = w.makes.same;
    tallied = λ h. subst (λ t. Tallied t (view q)) (sym (n.counts ∙ ap (noted c p.head (log_before p c)) w.counts))
        (tallied-accepted c w.makes b.counts h y);
    indexed = λ x. cases (is_draw c)
        (λ d index made. no-index (sym (n.stale d) ∙ made))
        (λ d. let r = w.rules d in subst (ReadyIn (spread q)) (sym (n.index d)) (ready_still p q r.0 r.1 (w.indexed x)));
    sound = n.sound ∙ w.sound;
    uncounted = accepted-same a _ y;
    stays = accepted-same a _ y;
  }

  pub made-refused : is_ok a ≡ false → Made (Some c) p b (record { answer = a; shown = None }) q b'
  unfolding step
  made-refused n = record {
    answer = alone-row a ∙ w.makes.answer;
    plan = w.makes.plan;
    bare = λ e. refl;
    same = w.makes.same;
    tallied = λ h. subst (λ t. Tallied t (view q)) (sym w.counts) (tallied-refused c w.makes b.counts h n);
    indexed = λ x. subst (λ z. ReadyIn (spread z) b'.index) (sym (refused-same a n w.makes.same)) (w.indexed x);
    sound = w.sound;
    uncounted = kept_same a w.counts;
    stays = kept_same a w.stays;
  }

-- ---- a call that leaves the plan

show_plan : (p : Plan) (s : ℤ) (room : ℕ) → (step (show s room) p).plan ≡ p
unfolding step after
show_plan p s room = by (first (checks (show s room) p))
  where
    by : (v : Verdict) → (step_by v (show s room) p).plan ≡ p
    by fine = refl
    by (refused k) = refl

pub showed : (p : State) (b : Beside) (s : ℤ) (r : Told) → Shows p s r → Made (Some (Show s)) p b r p b
showed p b s r e = record {
  answer = e;
  plan = sym (show_plan (view p) s measure_limit);
  bare = λ y. absurd (is_yes (sym y));
  same = kept_same r.answer refl;
  tallied = λ h. h;
  indexed = λ h. h;
  sound = refl;
  uncounted = kept_same r.answer refl;
  stays = kept_same r.answer (λ e. refl);
}

-- ---- edit and replay, with the index made ready

pub readied : (c : Call) {p q : State} {a : Answer} {b b' : Beside} → asks_index c ≡ true → Readied p b b' → Makes (asked c) p a q → SameRules p q → Changes c p b a q b'
readied c y r m s = record { makes = m; rules = λ e. s; counts = r.counts; sound = r.sound; indexed = r.still; stays = λ e. r.stays (rw y at e) }

-- the index that is asked, if one is
abbrev pub asked_of : Beside → Option Index
asked_of b = cond b.sound b.index None

asks : (t : Bool) (index : Option Index) → IsSome (cond t index None) → t ≡ true
asks true index e = refl
asks false index e = absurd (is_yes e)

module _ {p : State} {b b' : Beside} (r : Readied p b b') where
  -- it is the rules' own
  theirs : (b.sound ≡ true → ReadyIn (spread p) b.index) → IndexedIfSome (asked_of b') (spread p).lower (spread p).gap (spread p).upper (spread p).firm (min p.head.rules 64)
  theirs i = by b'.sound refl
    where
      by : (t : Bool) → b'.sound ≡ t → IndexedIfSome (cond t b'.index None) (spread p).lower (spread p).gap (spread p).upper (spread p).firm (min p.head.rules 64)
      by true y = r.still (i (sym r.sound ∙ y))
      by false y = λ index e. no-index e

  -- and every rule is known to hold
  holding : SoundIn b.sound (spread p) → IsSome (asked_of b') → Holding (view p).mode (view p).content
  holding h y = h (sym r.sound ∙ asks b'.sound b'.index y)

  module _ {asked : Option Index} (a-is : asked ≡ asked_of b') (h : SoundIn b.sound (spread p)) (i : b.sound ≡ true → ReadyIn (spread p) b.index) where
    pub edit-trusted : (e : Edited) → edits.Trusted asked p e
    edit-trusted e = rw a-is (record { indexed = λ d. theirs i; held = λ y. side_holds p (holding h y) (natural e.side) })

    pub replay-trusted : Tallied b.counts (view p) → replays.Trusted p b'.counts.missing b'.counts.settled asked
    replay-trusted t = rw a-is (record {
      missing = λ a. ap (λ u. u.missing) r.counts ∙ missing_unset (spread p) b.counts t a;
      settled = λ a. ap (λ u. u.settled) r.counts ∙ t.counted.settled;
      indexed = λ a. theirs i;
      held = λ y a. yes_is _ ((holding h y).draft a);
    })
