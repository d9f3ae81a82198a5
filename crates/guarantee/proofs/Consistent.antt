-- What ties a plan to the history of the calls that led to it; every accepted call keeps it. Assumes nothing.
use Prim.Native.Nat.{ℕ, suc, ◌+◌, ◌<◌, ◌≤◌}
use mathlib.Core.Path.{◌≡◌, refl, sym, ap, ◌∙◌}
use mathlib.Core.Logic.{◌⊎◌, inl, inr, ◌≢◌}
use mathlib.Core.Bool.{Bool, true, false, not, ◌&&◌, ◌||◌}
use mathlib.Core.List.{List, [], ◌∷◌}
use native.Mathlib.Omega.{arith}
use borrow.Author.Tests.{eq-eqb, eqb-true, eqb-false}
use lib.ListN.{length, length-map}
use lib.Dec.{T, T_not, not_T, eqb, eqb→eq}
use lib.IntN.{ℤ, pos, negsuc}
use Rattle.protocol.specs.Lists.{bit, is_none, one_to, natural, count, all, snoc, nth, modify}
use Rattle.protocol.specs.Plan.{Edit, fate_number, is_unsent, is_waiting, is_open, is_settled, Kept, Side, Mode, blank, whole, split, joining, closing, is, active, Content, made, absent_side, side_at, lookup, unsent_of, pending, sides_that}
use Rattle.protocol.specs.Calls.{Call, measure, rule, open_plan, split-side, edit, join, send, replay, stop, confirm, install, show, fate_of_edit, left, apart, checks, further, no25, edit_of, rule_of, change_of, reset, on_values, has_arrived, has_confirmed, mark_sent, replayable, outcome, next_place, after, gives}
use Rattle.protocol.specs.History.{Entry, edited, History, last_sent, closed, budget, edit_in, times, replayed, EachHolds, entered}
use Rattle.guarantee.specs.Guarantee.{InOrder}
use Rattle.protocol.proofs.Laws.{on, decide, cases, yes_is, is_yes, is-no, both, and_in, which, or_right, or_left, not-not, range, in_range_lem, same-no, Pass, count_to-zero, count_map, count-snoc, length-snoc, length-modify, nth-same, nth-other, all_snoc}
use Rattle.protocol.proofs.Replays.{accepted-holds}
use Rattle.guarantee.proofs.Kept.{edits_of, edits_in, edits-snoc, edits-sent, edits_settle, edit-found, settle_part, lookup-same, lookup-other, lookup-number, lookup_new, lookup_old, lookup-sent}
use Rattle.guarantee.proofs.Kept.{open_sent, unsent-sent, unsent-other, Within, within-snoc, within-lookup, Rising, rising_le, rising_snoc, bounds, Named, named-sent, named_settle, named-snoc}
use Rattle.guarantee.proofs.Kept.{Reported, reported_snoc, reported_sent, reported_settle, waiting_open, waiting-listed, fresh_open, settled-count}
use Rattle.guarantee.proofs.Chains.{Chained, chained_snoc, chained_settle, told-revoked, revoked_onward}
use Rattle.guarantee.proofs.Left.{unarrived, unconfirmed, sum, send_to, pending-sent, pending-others, send-sum, settled-shut, unsent-settled, settled-settled, replay_to, replay-sum, stop-sum, confirm_to, arrived-confirmed, confirm-sum, new_kept, edit_to, pending-edited, arrived-edited, confirmed-edited, pending-not_edited, edit-sum, join_to, side-joined, join-sum}
use Rattle.guarantee.specs.Holding.{Holding}
use Rattle.guarantee.proofs.Holding.{only, plan}

-- ---- the invariant

-- a joining plan has no side confirmed; in a closing one all logs have arrived, and a side that confirmed has nothing unsent
abbrev pub SideOk : Mode → Side → ℕ → Type 0
SideOk blank x u = Unit {0}
SideOk whole x u = Unit {0}
SideOk split x u = Unit {0}
SideOk joining x u = T (not x.confirmed)
SideOk closing x u = T x.arrived × T (not x.confirmed || is_none u)

-- an edit that was replied to while split is sent with its side's first log
abbrev pub Logged : Content → Type 0
Logged d = (n : ℕ) → T (is_unsent (lookup n d.kept)) → T (lookup n d.kept).replied → T (unarrived d (lookup n d.kept).edit.side)

-- a plan that is split, joining or closing
abbrev pub Parted : Content → History → Type 0
Parted d h = record {
  ground : record { base : d.base ≡ h.values; rising : Rising 1 (edits_in h.kept) d.next; within : Within h.sides (edits_in h.kept) };
  kept : edits_of d.kept ≡ edits_in h.kept;
  named : Named d.kept;
  sides : length d.sides ≡ h.sides;
}

-- one that is joining or closing
abbrev pub Active : Mode → Content → History → Type 0
Active m d h = record {
  left : sum m d h.sides + closed h ≡ budget h;
  late : (s : ℕ) → last_sent s h.moves ≡ not (pending d s);
  sides : (s : ℕ) → 0 < s → s ≤ h.sides → SideOk m (side_at d s) (unsent_of s d.kept);
  logged : Logged d;
  progress : record {
    draft : d.draft ≡ replayed h.settlings h.values;
    each : EachHolds h.rules h.settlings h.values;
    places : count is_settled d.kept ≡ length h.settlings;
  };
}

-- one that is blank or whole; that it has one side is told by Holding
abbrev pub Single : Content → History → Type 0
Single d h = (side_at d 1).values ≡ h.values

abbrev pub Stage : Mode → Content → History → Type 0
Stage blank d h = Single d h
Stage whole d h = Single d h × (h.sides ≡ 1)
Stage split d h = Parted d h × T (all is_unsent d.kept) × (h.settlings ≡ []) × (count (λ e. e.late) h.kept ≡ 0)
Stage joining d h = Parted d h × Active joining d h
Stage closing d h = Parted d h × Active closing d h

-- what holds of the settled edits in their order, and along their chains
abbrev pub Ordered : History → Type 0
Ordered h = InOrder h.settlings × Chained h.kept h.settlings

abbrev pub Consistent : Mode → Content → History → Type 0
Consistent m d h = record {
  mode : h.mode ≡ m;
  rules : d.rules ≡ h.rules;
  next : 0 < d.next;
  reported : Reported d.kept h.settlings;
  ordered : Ordered h;
  stage : Stage m d h;
}

-- ---- send

-- what is unsent after the send is another side's, and was unsent before
logged_sent : (d : Content) (s : ℕ) → 0 < s → Logged d → Logged (send_to d s)
logged_sent d s p l n =
    let k = lookup n d.kept in
    let mine = is_unsent k && eqb k.edit.side s in
    rw (lookup-sent s n d.kept p) (cases mine
    (λ t. rw t (λ u. absurd u))
    (λ t. rw t (λ u r.
    let other : k.edit.side ≢ s = λ e. T_not mine (is-no t) (and_in (is_unsent k) (eqb k.edit.side s) u (is_yes (eq-eqb k.edit.side s e))) in
    rw (nth-other absent_side has_arrived s d.sides k.edit.side other) (l n u r))))

sent-ok : (m : Mode) (x : Side) (u : ℕ) → SideOk m x u → SideOk m (has_arrived x) 0
sent-ok blank x u h = h
sent-ok whole x u h = h
sent-ok split x u h = h
sent-ok joining x u h = h
sent-ok closing x u h = (tt, or_right (not x.confirmed) true tt)

module _ (m : Mode) (d : Content) (h : History) (t : Parted d h) (a : Active m d h) where
  pub send-active : (z : ℤ) (xs : List ℤ) → T (one_to (length d.sides) (natural z)) → T (pending d (natural z)) → Parted (send_to d (natural z)) (entered (send z) xs h) × Active m
      (send_to d (natural z)) (entered (send z) xs h)
  unfolding entered
  send-active z xs has owes =
      let s = natural z in
      let i = range (length d.sides) s has in
      let gone = pending-sent d s i.0 i.1 in
      let fall = rw t.sides at (send-sum d s m has owes) in (
        record {
          ground = t.ground;
          kept = edits-sent s d.kept ∙ t.kept;
          named = named-sent s d.kept i.0 t.named;
          sides = length-modify s has_arrived d.sides ∙ t.sides;
        },
        record {
          left = omega (arith, a.left);
          late = λ x. cases (eqb x s) (λ e. rw (e, eqb-true x s e) (rw gone)) (λ e. rw (e, pending-others d s x (eqb-false x s e)) (a.late x));
          sides = λ x p q. decide (eqb x s)
              (λ e. rw (eqb→eq x s e)
              (rw (nth-same absent_side has_arrived s d.sides i.0 i.1, unsent-sent s d.kept)
              (sent-ok m (side_at d s) (unsent_of s d.kept) (a.sides s i.0 (omega (arith, t.sides))))))
              (λ e. rw (nth-other absent_side has_arrived s d.sides x (same-no x s e), unsent-other s x d.kept (same-no x s e)) (a.sides x p q));
          logged = logged_sent d s i.0 a.logged;
          progress = record {
            draft = a.progress.draft;
            each = a.progress.each;
            places = count_map is_settled (mark_sent s) d.kept (λ k. ap not (open_sent s k)) ∙ a.progress.places;
          };
        },
      )

-- ---- replay

outcome-number : (b : Bool) → eqb (fate_number (outcome b)) 3 ≡ b
outcome-number true = refl
outcome-number false = refl

-- an edit that waits while all logs have arrived names 0 or a settled edit
earlier-settled : (m : Mode) (d : Content) (h : History) → Parted d h → Active m d h → Reported d.kept h.settlings → (n : ℕ) → sides_that (unarrived d) d ≡ 0
    → T (not (is_waiting (lookup (lookup n d.kept).edit.earlier d.kept)))
    → ((lookup n d.kept).edit.earlier ≡ 0) ⊎ (0 < times (lookup n d.kept).edit.earlier h.settlings)
earlier-settled m d h t a told n logs still =
    let e = (lookup n d.kept).edit.earlier in
    let k = lookup e d.kept in
    on (t.named n)
    (λ z. inl z)
    (λ r.
    let w = range h.sides k.edit.side (within-lookup h.sides d.kept e (rw t.kept t.ground.within) r) in
    let here = count_to-zero (unarrived d) (length d.sides) k.edit.side logs w.0 (omega (arith, w.1, t.sides)) in
    let gone = not_T (is_unsent k) (λ u. T_not (unarrived d k.edit.side) here (a.logged e u r)) in
    let shut : is_open k ≡ false = shut_by (is_unsent k) (is_waiting k) gone still in
    let once : times e h.settlings ≡ 1 = ap (λ x. x.2) (rw shut at (told e)) in
    inr (omega arith))
  where
    shut_by : (x y : Bool) → T (not x) → T (not y) → (x || y) ≡ false
    shut_by true y p q = absurd p
    shut_by false true p q = absurd q
    shut_by false false p q = refl

module _ (m : Mode) (d : Content) (h : History) (t : Parted d h) (a : Active m d h) (rules : d.rules ≡ h.rules) where
  abbrev replay_entered : ℤ → History
  replay_entered z = entered (replay z) (pos (fate_number (outcome (replayable d (natural z)))) ∷ []) h

  pub replay-active : (z : ℤ) → T (is_waiting (lookup (natural z) d.kept)) → Parted (replay_to d (natural z)) (replay_entered z) × Active m (replay_to d (natural z)) (replay_entered z)
  unfolding entered
  replay-active z waits =
      let n = natural z in
      let w = replayable d n in
      let place = next_place d.kept in
      let unsents = unsent-settled n w place d.kept waits in
      let fall = replay-sum d n m waits h.sides in
      let places = settled-settled n w place d.kept waits in
      let ow = outcome-number w in
      let found = edit-found d.kept h.kept t.kept n in (
        record {
          ground = t.ground;
          kept = edits_settle n w place d.kept ∙ t.kept;
          named = named_settle n w place d.kept t.named;
          sides = t.sides;
        },
        record {
          left = omega (arith, a.left);
          late = λ x. rw (unsents x) (a.late x);
          sides = λ x p q. rw (unsents x) (a.sides x p q);
          logged = λ x. logged_settle x;
          progress = record {
            draft = rw (ow, found, ← a.progress.draft);
            each = (rw (ow, found, ← a.progress.draft, ← rules) (cases w (λ e. rw e (accepted-holds d n (is_yes e))) (λ e. rw e tt)), a.progress.each);
            places = let y = a.progress.places in omega arith;
          };
        },
      )
    where
      logged_settle : Logged (replay_to d (natural z))
      logged_settle x u r =
          let n = natural z in
          let w = replayable d n in
          let place = next_place d.kept in
          rw (settle_part n w place (λ k. k.edit) x d.kept (λ k. refl))
          (decide (eqb x n)
          (λ e. absurd (rw (eqb→eq x n e, lookup-same n w place d.kept waits, (settled-shut w place (lookup n d.kept)).1) at u))
          (λ e. let other = lookup-other n w place x d.kept (same-no x n e) in a.logged x (rw other at u) (rw other at r)))

  pub replay_reported : (z : ℤ) → T (is_waiting (lookup (natural z) d.kept)) → Reported d.kept h.settlings → Reported (replay_to d (natural z)).kept (replay_entered z).settlings
  unfolding entered
  replay_reported z waits told =
      rw (a.progress.places, edit-found d.kept h.kept t.kept (natural z))
      (reported_settle (natural z) (replayable d (natural z)) d.kept h.settlings (lookup (natural z) d.kept).edit (lookup-number (natural z) d.kept waits) waits told)

-- the edit comes behind the one that it names, and is revoked where that one was
replay-ordered : (d : Content) (h : History) → Parted d h → Reported d.kept h.settlings → Ordered h → (z : ℤ)
    → T (is_waiting (lookup (natural z) d.kept))
    → ((lookup (natural z) d.kept).edit.earlier ≡ 0) ⊎ (0 < times (lookup (natural z) d.kept).edit.earlier h.settlings)
    → Ordered (entered (replay z) (pos (fate_number (outcome (replayable d (natural z)))) ∷ []) h)
unfolding entered
replay-ordered d h t told old z waits follows =
    let n = natural z in
    let found = edit-found d.kept h.kept t.kept n in
    let rising = rw (← t.kept) at t.ground.rising in
    let once = ap (λ v. v.2) (rw (yes_is (is_open (lookup n d.kept)) (waiting_open (lookup n d.kept) waits)) at (told n)) in (
      (rw found follows, old.0),
      chained_settle h.kept h.settlings n (record { edit = edit_in n h.kept; given = fate_number (outcome (replayable d n)) })
          (ap (λ e. e.number) found ∙ lookup-number n d.kept waits)
          (let b = bounds is_waiting 1 d.kept d.next n tt rising waits in omega arith)
          once
          old.1
          (waiting-listed d.kept h.kept t.kept n waits)
          (rw found follows)
          (rw found (λ r. ap (λ b. fate_number (outcome b)) (revoked_onward d n (told-revoked d.kept h.settlings told (lookup n d.kept).edit.earlier r)))),
    )

-- ---- stop and confirm

module _ (d : Content) (h : History) (t : Parted d h) where
  pub stop-active : Active joining d h → (xs : List ℤ) → sides_that (unarrived d) d ≡ 0 → Active closing d (entered stop xs h)
  unfolding entered
  stop-active a xs z = record {
    left = let fall = stop-sum d h.sides in omega (arith, a.left);
    late = a.late;
    sides = λ x p q. (not-not (side_at d x).arrived (count_to-zero (unarrived d) (length d.sides) x z p (omega (arith, t.sides))), or_left (not (side_at d x).confirmed) _ (a.sides x p q));
    logged = a.logged;
    progress = a.progress;
  }

  pub confirm-active : Active closing d h → (z : ℤ) (xs : List ℤ) → T (one_to (length d.sides) (natural z)) → T (unconfirmed d (natural z)) → T (is_none (unsent_of (natural z) d.kept))
      → Parted (confirm_to d (natural z)) (entered (confirm z) xs h) × Active closing (confirm_to d (natural z)) (entered (confirm z) xs h)
  unfolding entered
  confirm-active a z xs has not_yet sent-all =
      let s = natural z in
      let i = range (length d.sides) s has in
      let at = nth-same absent_side has_confirmed s d.sides i.0 i.1 in
      let off : (x : ℕ) → x ≢ s → side_at (confirm_to d s) x ≡ side_at d x = λ x k. nth-other absent_side has_confirmed s d.sides x k in
      let logs = arrived-confirmed d s in
      let fall = rw t.sides at (confirm-sum d closing s has not_yet) in (
        record {
          ground = t.ground;
          kept = t.kept;
          named = t.named;
          sides = length-modify s has_confirmed d.sides ∙ t.sides;
        },
        record {
          left = omega (arith, a.left);
          late = λ x. rw (logs x) (a.late x);
          sides = λ x p q. decide (eqb x s)
              (λ e. rw (eqb→eq x s e) (rw at ((a.sides s i.0 (omega (arith, t.sides))).0, sent-all)))
              (λ e. rw (off x (same-no x s e)) (a.sides x p q));
          logged = λ n u r. rw (logs (lookup n d.kept).edit.side) (a.logged n u r);
          progress = a.progress;
        },
      )

-- ---- an edit, in a plan that is split or joining

abbrev edit_entered : History → Edit → Bool → History
edit_entered h e l = record {
  mode = h.mode;
  values = h.values;
  rules = h.rules;
  sides = h.sides;
  kept = snoc h.kept (record { edit = e; late = l });
  settlings = h.settlings;
  moves = edited e.side ∷ h.moves;
}

edits_in_snoc : (es : List Entry) (e : Entry) → edits_in (snoc es e) ≡ snoc (edits_in es) e.edit
edits_in_snoc [] e = refl
edits_in_snoc (x ∷ es) e = ap {B = List Edit} (λ r. x.edit ∷ r) (edits_in_snoc es e)

-- the edit's number, side and earlier edit are as an accepted call has them
abbrev pub Fitting : Content → Edit → Type 0
Fitting d e = record {
  number : e.number ≡ d.next;
  side : T (one_to (length d.sides) e.side);
  earlier : (e.earlier ≡ 0) ⊎ T (lookup e.earlier d.kept).replied;
}

module _ (d : Content) (h : History) (e : Edit) (r : Bool) (f : Fitting d e) (t : Parted d h) where
  -- the earlier edit, if any, has a lower number
  lower : e.earlier < d.next
  lower =
      let k = rising_le 1 (edits_in h.kept) d.next t.ground.rising in
      on f.earlier
      (λ z. omega arith)
      (λ u. (bounds (λ k. k.replied) 1 d.kept d.next e.earlier tt (rw t.kept t.ground.rising) u).1)

  pub edit-parted : (l : Bool) → Parted (edit_to d e r) (edit_entered h e l)
  edit-parted l =
      record {
        ground = record {
          base = t.ground.base;
          rising = rw (edits_in_snoc h.kept (record { edit = e; late = l })) (rising_snoc 1 (edits_in h.kept) d.next e t.ground.rising f.number lower);
          within = rw (edits_in_snoc h.kept (record { edit = e; late = l })) (within-snoc h.sides (edits_in h.kept) e t.ground.within (rw t.sides at f.side));
        };
        kept = edits-snoc d.kept (new_kept e r) ∙ ap (λ es. snoc es e) t.kept ∙ sym (edits_in_snoc h.kept (record { edit = e; late = l }));
        named = named-snoc 1 d.kept (new_kept e r) (rw (t.kept, f.number) t.ground.rising) f.earlier t.named;
        sides = length-modify e.side (on_values (made e.measure e.change)) d.sides ∙ t.sides;
      }

-- an edit made while joining has no reply before it is sent
module _ (d : Content) (h : History) (e : Edit) (f : Fitting d e) (t : Parted d h) where
  logged_edit : Logged d → Logged (edit_to d e false)
  logged_edit l n u r =
      decide (eqb n e.number)
      (λ i. absurd (rw (eqb→eq n e.number i, lookup_new 1 d.kept (new_kept e false) (rw (t.kept, f.number) t.ground.rising)) at r))
      (λ i.
      let old = lookup_old n d.kept (new_kept e false) (same-no n e.number i) in
      rw (old, arrived-edited d e false (lookup n d.kept).edit.side) (l n (rw old at u) (rw old at r)))

  pub edit-active : Active joining d h → Active joining (edit_to d e false) (edit_entered h e (last_sent e.side h.moves))
  edit-active a =
      let s = e.side in
      let d' = edit_to d e false in
      let late = last_sent s h.moves in
      let owes = pending-edited d e false in
      let others = pending-not_edited d e false in
      let seen = confirmed-edited d e false in
      let rise = rw t.sides at (edit-sum d e false joining f.side) in
      let longer = length-snoc h.kept (record { edit = e; late = late }) in
      let lates = count-snoc (λ x. x.late) h.kept (record { edit = e; late = late }) in
      let twice = ap bit (a.late s) in
      record {
        left = omega (arith, a.left);
        late = λ x. cases (eqb x s) (λ j. rw (j, eqb-true x s j, yes_is (pending d' s) owes)) (λ j. rw (j, others x (eqb-false x s j)) (a.late x));
        sides = λ x p q. rw (seen x) (a.sides x p q);
        logged = logged_edit a.logged;
        progress = record {
          draft = a.progress.draft;
          each = a.progress.each;
          places = let z = count-snoc is_settled d.kept (new_kept e false) in let y = a.progress.places in omega arith;
        };
      }

-- ---- join

pub join-active : (d : Content) (h : History) (xs : List ℤ) → Parted d h → T (all is_unsent d.kept) → h.settlings ≡ [] → count (λ e. e.late) h.kept ≡ 0
    → Parted (join_to d) (entered join xs h) × Active joining (join_to d) (entered join xs h)
unfolding entered
join-active d h xs t f z early =
    let side = side-joined d in
    let begun = join-sum d h.sides in
    let counted = fresh_open d.kept f in
    let shut = settled-count d.kept in
    let long = sym (length-map d.kept (λ k. k.edit)) ∙ ap length t.kept ∙ length-map h.kept (λ e. e.edit) in (
      record {
        ground = t.ground;
        kept = t.kept;
        named = t.named;
        sides = length-map d.sides reset ∙ t.sides;
      },
      record {
        left = omega arith;
        late = λ x. rw (side x);
        sides = λ x p q. rw (side x) tt;
        logged = λ n u r. rw (side (lookup n d.kept).edit.side) tt;
        progress = record { draft = rw z t.ground.base; each = rw z tt; places = rw z (omega arith) };
      },
    )

-- ---- by call

abbrev pub AfterConsistent : Call → Mode → Content → History → Type 0
AfterConsistent c m d h = Consistent (after c m d).mode (after c m d).content (entered c (gives c m d) h)

within_more : (n : ℕ) (es : List Edit) → Within n es → Within (suc n) es
within_more n [] w = tt
within_more n (e ∷ es) w = let i = range n e.side w.0 in (in_range_lem (suc n) e.side i.0 (omega arith), within_more n es w.1)

-- the earlier edit of a call that passes 25
earlier-ok : (ks : List Kept) (client n : ℤ) → T (no25 (lookup (natural n) ks) client n).passes → (natural n ≡ 0) ⊎ T (lookup (natural n) ks).replied
earlier-ok ks client (pos n) h = which (is_none n) _ h (λ z. inl (eqb→eq n 0 z)) (λ k. inr (both (lookup n ks).replied _ k).0)
earlier-ok ks client (negsuc n) h = inl refl

module _ (d : Content) (h : History) where
  single : (f : List ℤ → List ℤ) → length d.sides ≡ 1 → Single d h → (nth absent_side (modify 1 (on_values f) d.sides) 1).values ≡ f h.values
  single f one t = ap (λ x. x.values) (nth-same absent_side (on_values f) 1 d.sides (omega arith) (omega (arith, one))) ∙ ap f t

  measure_consistent : (v : ℤ) → length d.sides ≡ 1 → Consistent blank d h → AfterConsistent (measure v) blank d h
  unfolding after entered gives
  measure_consistent v one t = record {
    mode = t.mode;
    rules = t.rules;
    next = t.next;
    reported = t.reported;
    ordered = t.ordered;
    stage = single (λ vs. snoc vs v) one t.stage;
  }

  rule_consistent : (a c b f : ℤ) → Consistent blank d h → AfterConsistent (rule a c b f) blank d h
  unfolding after entered gives
  rule_consistent a c b f t = record {
    mode = t.mode;
    rules = ap (λ rs. snoc rs (rule_of a c b f)) t.rules;
    next = t.next;
    reported = t.reported;
    ordered = t.ordered;
    stage = t.stage;
  }

  open_consistent : Consistent blank d h → AfterConsistent open_plan blank d h
  unfolding after entered gives
  open_consistent t = record {
    mode = refl;
    rules = t.rules;
    next = omega arith;
    reported = t.reported;
    ordered = t.ordered;
    stage = (t.stage, refl);
  }

  split-whole : (s : ℤ) → length d.sides ≡ 1 → Consistent whole d h → AfterConsistent (split-side s) whole d h
  unfolding after entered gives
  split-whole s one t = rw t.mode (record {
    mode = refl;
    rules = t.rules;
    next = t.next;
    reported = λ n. refl;
    ordered = (tt, λ n k. absurd (omega arith));
    stage = (
      record {
        ground = record { base = t.stage.0; rising = t.next; within = tt };
        kept = refl;
        named = λ n. inl refl;
        sides = length-snoc d.sides _ ∙ ap suc (one ∙ sym t.stage.1);
      },
      tt,
      refl,
      refl,
    );
  })

  split-split : (s : ℤ) → Consistent split d h → AfterConsistent (split-side s) split d h
  unfolding after entered gives
  split-split s t = let g = t.stage.0.ground in rw t.mode (record {
    mode = refl;
    rules = t.rules;
    next = t.next;
    reported = t.reported;
    ordered = t.ordered;
    stage = (
      record {
        ground = record { base = g.base; rising = g.rising; within = within_more h.sides (edits_in h.kept) g.within };
        kept = t.stage.0.kept;
        named = t.stage.0.named;
        sides = length-snoc d.sides _ ∙ ap suc t.stage.0.sides;
      },
      t.stage.1,
      t.stage.2,
      t.stage.3,
    );
  })

  module _ (s client n m kind k : ℤ) (f : Fitting d (edit_of d.next s client n m kind k)) where
    abbrev made-edit : Edit
    made-edit = edit_of d.next s client n m kind k

    edit-whole : length d.sides ≡ 1 → Consistent whole d h → AfterConsistent (edit s client n m kind k) whole d h
    unfolding after entered gives
    edit-whole one t =
        let i = range (length d.sides) (natural s) f.side in
        let first : natural s ≡ 1 = omega (arith, one, i.0, i.1) in
        rw t.mode (record {
          mode = refl;
          rules = t.rules;
          next = omega arith;
          reported = t.reported;
          ordered = t.ordered;
          stage = (rw first (single (made (natural m) (change_of kind k)) one t.stage.0), t.stage.1);
        })

    -- it is kept: what does not depend on the mode
    edit-kept : (m : Mode) (replied late : Bool) → Consistent m d h → Stage m (edit_to d made-edit replied) (edit_entered h made-edit late)
        → Consistent m (edit_to d made-edit replied) (edit_entered h made-edit late)
    edit-kept m replied late t stage = record {
      mode = t.mode;
      rules = t.rules;
      next = omega arith;
      reported = reported_snoc d.kept (new_kept made-edit replied) h.settlings tt t.reported;
      ordered = (t.ordered.0, chained_snoc h.kept (record { edit = made-edit; late = late }) h.settlings t.ordered.1);
      stage = stage;
    }

    edit-split : Consistent split d h → AfterConsistent (edit s client n m kind k) split d h
    unfolding after entered gives
    edit-split t = rw t.mode (rw t.mode at (edit-kept split true false t (
      edit-parted d h made-edit true f t.stage.0 false,
      all_snoc is_unsent d.kept (new_kept made-edit true) t.stage.1 tt,
      t.stage.2,
      (let z = count-snoc (λ e. e.late) h.kept (record { edit = made-edit; late = false }) in let y = t.stage.3 in omega arith),
    )))

    edit-joining : Consistent joining d h → AfterConsistent (edit s client n m kind k) joining d h
    unfolding after entered gives
    edit-joining t =
        let late = last_sent (natural s) h.moves in
        rw t.mode (rw t.mode at (edit-kept joining false late t (edit-parted d h made-edit false f t.stage.0 late, edit-active d h made-edit f t.stage.0 t.stage.1)))

-- ---- the stage of a joining or closing plan

pub out : (m : Mode) (d : Content) (h : History) → T (active m) → Stage m d h → Parted d h × Active m d h
out blank d h a s = absurd a
out whole d h a s = absurd a
out split d h a s = absurd a
out joining d h a s = s
out closing d h a s = s

back : (m : Mode) (d : Content) (h : History) → T (active m) → Parted d h × Active m d h → Stage m d h
back blank d h a s = absurd a
back whole d h a s = absurd a
back split d h a s = absurd a
back joining d h a s = s
back closing d h a s = s

pub consistent_after : (c : Call) (m : Mode) (d : Content) (h : History) → Holding m d → Consistent m d h → Pass (checks c (plan m d)) → AfterConsistent c m d h
unfolding after entered gives checks further
consistent_after (measure v) m d h g t k = let e = only blank m k.0 in rw e (measure_consistent d h v (g.alone (or_left (is blank m) _ k.0)) (rw e at t))
consistent_after (rule a c b f) m d h g t k = let e = only blank m k.0 in rw e (rule_consistent d h a c b f (rw e at t))
consistent_after open_plan m d h g t k = let e = only blank m k.0 in open_consistent d h (rw e at t)
consistent_after (split-side s) m d h g t k = which (is whole m) (is split m) k.0
    (λ w. let e = only whole m w in rw e (split-whole d h s (g.alone (or_right (is blank m) _ w)) (rw e at t)))
    (λ w. let e = only split m w in rw e (split-split d h s (rw e at t)))
consistent_after (edit s client n x kind y) m d h g t k =
    let f : Fitting d (edit_of d.next s client n x kind y) = record {
      number = refl;
      side = k.1.0;
      earlier = earlier-ok d.kept client n k.1.1.1.1.1.0;
    } in
    which (is whole m) (apart m) k.0
    (λ w. let e = only whole m w in rw e (edit-whole d h s client n x kind y f (g.alone (or_right (is blank m) _ w)) (rw e at t)))
    (λ v. which (is split m) (is joining m) v
    (λ w. let e = only split m w in rw e (edit-split d h s client n x kind y f (rw e at t)))
    (λ w. let e = only joining m w in rw e (edit-joining d h s client n x kind y f (rw e at t))))
consistent_after join m d h g t k =
    let e = only split m k.0 in
    let t' : Consistent split d h = rw e at t in
    record { mode = refl; rules = t.rules; next = t.next; reported = t.reported; ordered = t.ordered; stage = join-active d h [] t'.stage.0 t'.stage.1 t'.stage.2 t'.stage.3 }
consistent_after (send s) m d h g t k =
    let st = out m d h k.0 t.stage in
    let i = range (length d.sides) (natural s) k.1.0 in
    record {
      mode = t.mode;
      rules = t.rules;
      next = t.next;
      reported = reported_sent (natural s) d.kept h.settlings i.0 t.reported;
      ordered = t.ordered;
      stage = back m _ _ k.0 (send-active m d h st.0 st.1 s [] k.1.0 k.1.1.0);
    }
consistent_after (replay n) m d h g t k =
    let st = out m d h k.0 t.stage in
    let waits = k.1.1.0 in
    record {
      mode = t.mode;
      rules = t.rules;
      next = t.next;
      reported = replay_reported m d h st.0 st.1 t.rules n waits t.reported;
      ordered = replay-ordered d h st.0 t.reported t.ordered n waits (earlier-settled m d h st.0 st.1 t.reported (natural n) (eqb→eq _ 0 k.1.0) k.1.1.1.0);
      stage = back m _ _ k.0 (replay-active m d h st.0 st.1 t.rules n waits);
    }
consistent_after stop m d h g t k =
    let e = only joining m k.0 in
    let t' : Consistent joining d h = rw e at t in
    record {
      mode = refl;
      rules = t.rules;
      next = t.next;
      reported = t.reported;
      ordered = t.ordered;
      stage =
          (t'.stage.0, stop-active d h t'.stage.0 t'.stage.1 [] (eqb→eq _ 0 k.1.0));
    }
consistent_after (confirm s) m d h g t k =
    let e = only closing m k.0 in
    let t' : Consistent closing d h = rw e at t in
    record {
      mode = t.mode;
      rules = t.rules;
      next = t.next;
      reported = t.reported;
      ordered = t.ordered;
      stage = rw e
          (confirm-active d h t'.stage.0 t'.stage.1 s [] k.1.0 k.1.1.0 k.1.1.1.0);
    }
consistent_after install m d h g t k =
    let e = only closing m k.0 in
    let t' : Consistent closing d h = rw e at t in
    record { mode = refl; rules = t.rules; next = t.next; reported = t.reported; ordered = t.ordered; stage = (t'.stage.1.progress.draft, refl) }
consistent_after (show s room) m d h g t k = t
consistent_after (fate_of_edit n) m d h g t k = t
consistent_after left m d h g t k = t
