-- A replay's decision, carried out, is the protocol's step. Assumes nothing.
use Prim.Native.Nat.{ℕ, zero, suc, min, ◌+◌, ◌-◌, ◌≤◌, ◌<◌}
use native.Mathlib.Omega.{arith}
use mathlib.Core.Bool.{Bool, true, false, not, cond, ◌&&◌}
use mathlib.Core.Path.{◌≡◌, refl, sym, ap, ◌∙◌, subst}
use mathlib.Core.Logic.{inl, inr}
use mathlib.Core.List.{List, [], ◌∷◌}
use lib.Dec.{T, eqb-suc-zero}
use lib.IntN.{ℤ, pos}
use lib.ListN.{length, get_or, set}
use lib.Seq.{set-get_or}
use Rattle.std.specs.Prelude.{Option, None, Some, is_some, Result, Ok, Err}
use Rattle.protocol.specs.Asked.{number_of}
use Rattle.protocol.specs.Lists.{is_none, natural, one_to, count, modify}
use Rattle.protocol.specs.Plan as model
use Rattle.protocol.specs.Plan.{active, holds, is_revoked, is_settled, fate_number, fits, made, applied, value, effective, lookup}
use Rattle.protocol.specs.Calls.{Call, replay, fine, refused, first, checks, further, replayable, settled, outcome, update, next_place, after, gives, ok}
use Rattle.protocol.specs.declared.refusal.Refusal.{Refusal}
use Rattle.protocol.proofs.Laws.{cases, is_yes, range, count_most}
use Rattle.change.specs.Change.{view_change}
use Rattle.rows.specs.Rows.{row}
use Rattle.rows.proofs.Spans.{length-span, row_most}
use Rattle.rules.specs.Rules.{RuleTest, tested_in, numbered}
use Rattle.rules.specs.declared.Index.{Index}
use Rattle.rules.specs.Index.{tested_with}
use Rattle.rules.proofs.Rules.{made_with, modify_out, tested_all, tested_none, tested_sound, row-set}
use Rattle.rules.proofs.Namings.{tested_indexed}
use Rattle.records.specs.declared.EditRecord.{EditRecord}
use Rattle.records.specs.declared.Fate.{Fate}
use Rattle.heads.specs.declared.Head.{Head}
use Rattle.heads.specs.Heads.{mode_of, sides_in, kept_in, end_in, named_at, seat, unset_in}
use Rattle.heads.proofs.Positions.{seat_some}
use Rattle.records.specs.Records.{fate_of, kept_at, kept_of, no_record}
use Rattle.records.proofs.Records.{Placed, placed, log_modify}
use Rattle.state.specs.declared.State.{State}
use Rattle.state.specs.Spread.{Spread, spread, plan_of, rules_of, named_in, MeetsSpread}
use Rattle.state.specs.Meets.{Answer, Makes, number}
use Rattle.state.proofs.View.{plan-same, flags_unset, lookup-named}
use Rattle.state.proofs.Meets.{fine_pass}
use Rattle.state.proofs.Steps.{refuses, accepts, refused_makes, given_makes}
use Rattle.replay.specs.declared.Outcome.{Outcome}
use Rattle.replay.specs.declared.Outcome.TheVariants.{Accepted, Revoked}
use Rattle.replay.proofs.Checks.{named_at_place}
use Rattle.replay.specs.Replays.{checks_in, draft_in, point_of, effective_in, broken_in, amount_of, tried_of, outcome_of, outcome_in, outcome_fate, outcome_rule, settled_record, draft_after, settled_in, Decided, broken_of, rule_if_settled, NamesRule, Trusted}

-- a draft has 32 values at most
draft-length : (p : Spread) → length (draft_in p.head p.draft) ≤ 32
draft-length p = row_most p.draft 0 p.head.drafted 32

-- two tests that find the same of what an edit makes make the same of it
outcome_same : (test test' : RuleTest) (p : Spread) (e : EditRecord)
    → (let vs = draft_in p.head p.draft in let x = applied (view_change e.change) (value vs e.measure) in
    test e.measure p.lower p.gap p.upper (min p.head.rules 64) x vs ≡ test' e.measure p.lower p.gap p.upper (min p.head.rules 64) x vs)
    → outcome_of test p e ≡ outcome_of test' p e
unfolding tried_of effective_in broken_in
outcome_same test test' p e h =
    let vs = draft_in p.head p.draft in
    ap (λ y. cond (is_revoked (kept_at 0 (named_in p e.earlier))) (Revoked None)
    (cond (fits e.measure (view_change e.change) vs && is_none y) (Accepted (amount_of p e)) (Revoked (numbered (cond (fits e.measure (view_change e.change) vs) y 0))))) h

-- and the same decision
decision_same : (test test' : RuleTest) (p : Spread) (n : ℤ) {missing : ℕ} (r : Result Outcome Refusal)
    → (let e = named_in p (natural n) in let vs = draft_in p.head p.draft in let x = applied (view_change e.change) (value vs e.measure) in
    T (active (mode_of p.head.mode)) → test e.measure p.lower p.gap p.upper (min p.head.rules 64) x vs ≡ test' e.measure p.lower p.gap p.upper (min p.head.rules 64) x vs)
    → Decided test p n missing r → Decided test' p n missing r
decision_same test test' p n (Err e) h d = record { verdict = d.verdict; outcome = tt }
decision_same test test' p n {missing = missing} (Ok o) h d =
    record { verdict = d.verdict; outcome = d.outcome ∙ outcome_same test test' p (named_in p (natural n)) (h (fine_pass (checks_in p missing n) (sym d.verdict)).0) }

-- what a refusal decides
pub decided_refused : (test : RuleTest) (p : Spread) (n : ℤ) {missing : ℕ} {r : Refusal} {a : Result Outcome Refusal} → a ≡ Err r → refused (number_of r) ≡ first (checks_in p missing n)
    → Decided test p n missing a
decided_refused test p n {missing = missing} e f = subst (Decided test p n missing) (sym e) (record { verdict = f; outcome = tt })

-- where all rules held on the draft, it is enough to test those that name the measure: what is decided is the same
pub replay_sound : (p : Spread) (n : ℤ) {missing : ℕ} (r : Result Outcome Refusal) → (T (active (mode_of p.head.mode)) → holds (rules_of p) (draft_in p.head p.draft) ≡ true)
    → (Decided (tested_in true) p n missing r → Decided (tested_in false) p n missing r) × (Decided (tested_in false) p n missing r → Decided (tested_in true) p n missing r)
replay_sound p n r held = (decision_same (tested_in true) (tested_in false) p n r same, decision_same (tested_in false) (tested_in true) p n r (λ t. sym (same t)))
  where
    e : EditRecord
    e = named_in p (natural n)

    same : T (active (mode_of p.head.mode)) → let vs = draft_in p.head p.draft in let x = applied (view_change e.change) (value vs e.measure) in
        tested_in true e.measure p.lower p.gap p.upper (min p.head.rules 64) x vs ≡ tested_in false e.measure p.lower p.gap p.upper (min p.head.rules 64) x vs
    same t = tested_sound p.lower p.gap p.upper p.firm (min p.head.rules 64) e.measure _ _ (draft-length p) (held t)

-- what the code tests, with the rules' own index, finds what the test of all rules finds
tested-decided : (p : State) {missing settled : ℕ} {asked : Option Index} → Trusted p missing settled asked → T (active (mode_of p.head.mode)) → (m : ℕ) (x : ℤ)
    → (let q = spread p in let vs = draft_in q.head q.draft in
    tested_with asked m q.lower q.gap q.upper (min q.head.rules 64) x vs ≡ tested_in false m q.lower q.gap q.upper (min q.head.rules 64) x vs)
tested-decided p {asked = asked} known t m x =
    tested_indexed asked m q.lower q.gap q.upper q.firm (min q.head.rules 64) x vs (draft-length q) (known.indexed t) ∙ by_held (is_some asked) known.held
  where
    q : Spread
    q = spread p

    vs : List ℤ
    vs = draft_in q.head q.draft

    by_held : (sound : Bool) → (sound ≡ true → T (active (mode_of p.head.mode)) → holds (rules_of q) vs ≡ true)
        → tested_in sound m q.lower q.gap q.upper (min q.head.rules 64) x vs ≡ tested_in false m q.lower q.gap q.upper (min q.head.rules 64) x vs
    by_held true h = tested_sound q.lower q.gap q.upper q.firm (min q.head.rules 64) m x vs (draft-length q) (h refl t)
    by_held false h = refl

outcome_decided : (p : State) (e : EditRecord) {missing settled : ℕ} {asked : Option Index} → Trusted p missing settled asked → T (active (mode_of p.head.mode))
    → outcome_of (tested_with asked) (spread p) e ≡ outcome_of (tested_in false) (spread p) e
outcome_decided p e {asked = asked} known t = outcome_same (tested_with asked) (tested_in false) (spread p) e (tested-decided p known t e.measure _)

pub replay_decided : (p : State) (n : ℤ) {missing settled : ℕ} {asked : Option Index} (r : Result Outcome Refusal) → Trusted p missing settled asked
    → Decided (tested_with asked) (spread p) n missing r → Decided (tested_in false) (spread p) n missing r
replay_decided p n {asked = asked} r known =
    decision_same (tested_with asked) (tested_in false) (spread p) n r (λ t. tested-decided p known t (named_in (spread p) (natural n)).measure _)

module _ (q : Spread) (n : ℤ) where
  abbrev h : Head
  h = q.head

  abbrev call : Call
  call = replay n

  abbrev e : EditRecord
  e = named_in q (natural n)

  abbrev vs : List ℤ
  vs = draft_in h q.draft

  abbrev ch : model.Change
  ch = view_change e.change

  -- the decision's checks are the protocol's
  checks-same : first (checks call (plan_of q)) ≡ first (checks_in q (unset_in q.arrived (sides_in h)) n)
  unfolding checks further
  checks-same = rw (flags_unset q (λ x. x.arrived) q.arrived (λ s. refl), lookup-named q (natural n), lookup-named q e.earlier)

  -- also by a count that is the plan's while a join is under way
  checks_known : {missing : ℕ} → (T (active (mode_of h.mode)) → missing ≡ unset_in q.arrived (sides_in h)) → first (checks call (plan_of q)) ≡ first (checks_in q missing n)
  checks_known {missing = missing} k = checks-same ∙ cases (active (mode_of h.mode))
      (λ t. ap (λ m. first (checks_in q m n)) (sym (k (is_yes t))))
      (λ t. rw t)

  -- the earlier edit was revoked
  abbrev lost : Bool
  lost = is_revoked (kept_at 0 (named_in q e.earlier))

  abbrev b : Bool
  b = not lost && effective_in (tested_in false) q.lower q.gap q.upper (min h.rules 64) e.measure ch vs

  -- and so is the trial
  effect : replayable (plan_of q).content (natural n) ≡ b
  unfolding replayable effective effective_in
  effect = rw (lookup-named q (natural n), lookup-named q e.earlier)
      (ap (λ t. not lost && (fits e.measure ch vs && t)) (tested_none q.lower q.gap q.upper q.firm (min h.rules 64) e.measure ch vs))

  -- the rule that it breaks
  abbrev broken : ℕ
  broken = cond lost 0 (broken_in (tested_in false) q.lower q.gap q.upper (min h.rules 64) e.measure ch vs)

  abbrev old : ℤ
  old = get_or q.draft (point_of e.measure) (pos 0)

  -- what it comes to
  found_as : outcome_in (tested_in false) q n ≡ cond b (Accepted (amount_of q e)) (Revoked (numbered broken))
  unfolding tried_of
  found_as = cases lost (λ t. rw t) (λ t. rw t)

  -- the draft, where the change takes effect on one of its measures and where not
  draft-long : length vs ≡ min h.drafted 32
  draft-long = length-span 0 (min h.drafted 32) (λ i. get_or q.draft i (pos 0))

  draft_changed : length q.draft ≡ 32 → one_to (min h.drafted 32) e.measure ≡ true
      → row (set q.draft (point_of e.measure) (applied ch (value vs e.measure))) 0 (min h.drafted 32) ≡ made e.measure ch vs
  draft_changed l t =
      let r = range (min h.drafted 32) e.measure (is_yes t) in
      let f : point_of e.measure ≡ 0 + point_of e.measure = omega arith in
      ap (λ i. row (set q.draft i (applied ch (value vs e.measure))) 0 (min h.drafted 32)) f
      ∙ row-set q.draft 0 (min h.drafted 32) e.measure (applied ch (value vs e.measure)) r.0 r.1 (omega arith) (omega arith)
      ∙ sym (made_with e.measure ch vs)

  draft-kept : row (set q.draft (point_of e.measure) old) 0 (min h.drafted 32) ≡ vs
  draft-kept = ap (λ ws. row ws 0 (min h.drafted 32)) (set-get_or q.draft (point_of e.measure) (pos 0))

  draft_out : one_to (min h.drafted 32) e.measure ≡ false → vs ≡ made e.measure ch vs
  unfolding made
  draft_out t = sym (modify_out e.measure (applied ch) vs (ap (λ k. one_to k e.measure) draft-long ∙ t))

  draft-next : length q.draft ≡ 32 → row (draft_after q.draft (point_of e.measure) (cond b (Accepted (amount_of q e)) (Revoked (numbered broken)))) 0 (min h.drafted 32)
      ≡ cond b (made e.measure ch vs) vs
  draft-next l = cases b
      (λ u. rw u (cases (one_to (min h.drafted 32) e.measure) (λ t. rw t (draft_changed l t)) (λ t. rw t (draft-kept ∙ draft_out t))))
      (λ u. rw u)

  -- it is accepted or revoked as the protocol says
  fate_by : (w : Bool) (x : ℤ) (rule : Option ℕ) → fate_of (outcome_fate (cond w (Accepted x) (Revoked rule))) ≡ outcome w
  fate_by true x rule = refl
  fate_by false x rule = refl

  abbrev found : Outcome
  found = cond b (Accepted (amount_of q e)) (Revoked (numbered broken))

  found-fate : fate_of (outcome_fate found) ≡ outcome b
  found-fate = fate_by b (amount_of q e) (numbered broken)

  settled_as : (w : Bool) (f : Fate) (j m : ℕ) (r : EditRecord) → fate_of f ≡ outcome w → kept_at m (settled_record r f j) ≡ settled w j (kept_at m r)
  settled_as w f j m r s = ap (λ x. record (kept_at m r) { fate = x; place = j }) s

  abbrev kept : List model.Kept
  kept = kept_of h q.edits

  kept_next : (i : ℕ) → length q.edits ≡ 256 → named_at h n ≡ suc i
      → kept_of h (set q.edits i (settled_record (get_or q.edits i no_record) (outcome_fate found) (next_place kept))) ≡ update (natural n) (settled b (next_place kept)) kept
  kept_next i l at = by (placed (end_in h) (kept_in h) (natural n) q.edits)
    where
      by : Placed (end_in h) (kept_in h) (natural n) q.edits
          → kept_of h (set q.edits i (settled_record (get_or q.edits i no_record) (outcome_fate found) (next_place kept))) ≡ update (natural n) (settled b (next_place kept)) kept
      by (inl r) = let z : suc i ≡ 0 = sym at ∙ r.0 in absurd (omega (arith, z))
      by (inr r) =
          let j : r.0 ≡ i = let z : suc r.0 ≡ suc i = sym r.2 ∙ at in omega (arith, z) in
          let few : i < kept_in h = let k = r.1 in omega (arith, k, j) in
          let g = settled b (next_place kept) in
          log_modify (end_in h) (kept_in h) i q.edits (settled_record (get_or q.edits i no_record) (outcome_fate found) (next_place kept)) g few (omega arith)
          (settled_as b (outcome_fate found) (next_place kept) _ (get_or q.edits i no_record) found-fate)
          ∙ ap (λ k. modify (suc k) g kept) (sym j) ∙ sym (r.5 g)

  -- no more edits are settled than kept
  settled-few : count is_settled kept ≤ 256
  settled-few =
      let l : length kept ≡ kept_in h = length-span 0 (kept_in h) (λ i. kept_at (end_in h - (kept_in h - i)) (get_or q.edits i no_record)) in
      let m = count_most is_settled kept in omega arith

  outcome-rule : outcome_rule (outcome_in (tested_in false) q n) ≡ numbered (broken_of (plan_of q).content (natural n))
  unfolding broken_in effective_in
  outcome-rule = rw (found_as, lookup-named q (natural n), lookup-named q e.earlier) (named
      ∙ ap (λ r. numbered (cond lost 0 (cond (fits e.measure ch vs) r 0))) (sym (tested_all q.lower q.gap q.upper q.firm (min h.rules 64) e.measure ch vs)))
    where
      by : (w : Bool) (k : ℕ) → outcome_rule (cond (w && is_none k) (Accepted (amount_of q e)) (Revoked (numbered (cond w k 0)))) ≡ numbered (cond w k 0)
      by false k = refl
      by true zero = refl
      by true (suc k) = rw (eqb-suc-zero k)

      named : outcome_rule found ≡ numbered broken
      named = cases lost (λ t. rw t) (λ t. rw t (by (fits e.measure ch vs) (tested_in false e.measure q.lower q.gap q.upper (min h.rules 64) (applied ch (value vs e.measure)) vs)))

  -- The rule that it names where it is settled is the one that the protocol's test of the draft gives (02, S-3); none where it was not tested, and where it is refused.
  pub replay-rule : {missing : ℕ} (r : Result Outcome Refusal) → (T (active (mode_of h.mode)) → missing ≡ unset_in q.arrived (sides_in h))
      → Decided (tested_in false) q n missing r → NamesRule (plan_of q) n r
  replay-rule (Err x) known d = ap (λ v. numbered (rule_if_settled v (broken_of (plan_of q).content (natural n)))) (d.verdict ∙ sym (checks_known known))
  replay-rule (Ok o) known d =
      ap outcome_rule d.outcome ∙ outcome-rule
      ∙ ap (λ v. numbered (rule_if_settled v (broken_of (plan_of q).content (natural n)))) (d.verdict ∙ sym (checks_known known))

module _ (p : State) (n : ℤ) where
  abbrev before : Spread
  before = spread p

  pub replay_refused : {missing settled : ℕ} {asked : Option Index} {r : Refusal} {a : Answer} → Trusted p missing settled asked → a ≡ Err r
      → refused (number_of r) ≡ first (checks_in before missing n) → Makes (replay n) p a p
  replay_refused {missing = missing} {r = r} known a-is f =
      refused_makes a-is (refuses {c = replay n} {p = before} (checks_in before missing n) r (checks_known before n known.missing) (sym f))

  -- the state after it, where the checks pass
  next_meets : {missing settled : ℕ} {asked : Option Index} (i : ℕ) → length p.draft ≡ 32 → length p.edits ≡ 256 → Trusted p missing settled asked
      → first (checks_in before missing n) ≡ fine → seat (named_at p.head n) ≡ Some i → i < 256
      → MeetsSpread (replay n) before (record { state = spread (settled_in p i (found before n) settled); answer = number (fate_number (fate_of (outcome_fate (found before n)))) })
  unfolding gives after
  next_meets {missing = missing} {settled = settled'} i draft-is edits-is known f at few =
      let active-is = (fine_pass (checks_in before missing n) f).0 in
      let there = named_at_place p n i at few in
      let looked = lookup-named before (natural n) in
      let place : min settled' 256 + 1 ≡ next_place (kept before n) = let s = known.settled active-is in let m = settled-few before n in omega (arith, s, m) in
      accepts {c = replay n} {p = before} (checks_in before missing n) _ (checks_known before n known.missing) f
      (λ t. rw (effect before n) (ap (λ k. ok (pos (fate_number k) ∷ [])) (found-fate before n)))
      (λ t. plan-same refl refl refl refl
      ((λ j. row (draft_after p.draft (point_of (there j).measure) (found before n)) 0 (min p.head.drafted 32)) ∙ draft-next before n draft-is
      ∙ (λ j. cond (sym (effect before n) j) (made (sym looked j).edit.measure (sym looked j).edit.change (draft_in p.head p.draft)) (draft_in p.head p.draft)))
      refl
      ((λ j. kept_of p.head (set p.edits i (settled_record (get_or p.edits i no_record) (outcome_fate (found before n)) (place j)))) ∙ kept_next before n i edits-is (seat_some (named_at p.head n) i at)
      ∙ (λ j. update (natural n) (settled (sym (effect before n) j) (next_place (kept before n))) (kept before n))))
      tt

  pub replay_meets : {missing settled : ℕ} {asked : Option Index} (i : ℕ) {o : Outcome} → length p.draft ≡ 32 → length p.edits ≡ 256 → Trusted p missing settled asked
      → first (checks_in before missing n) ≡ fine → seat (named_at p.head n) ≡ Some i → i < 256 → o ≡ outcome_in (tested_with asked) before n
      → Makes (replay n) p (number (fate_number (fate_of (outcome_fate o)))) (settled_in p i o settled)
  replay_meets {missing = missing} {settled = settled'} i draft-is edits-is known f at few o-is =
      let active-is = (fine_pass (checks_in before missing n) f).0 in
      subst (λ x. Makes (replay n) p (number (fate_number (fate_of (outcome_fate x)))) (settled_in p i x settled')) (sym (o-is ∙ outcome_decided p (named_in before (natural n)) known active-is ∙ found_as before n))
      (given_makes (next_meets i draft-is edits-is known f at few))
