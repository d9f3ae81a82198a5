-- The counts go with the plan: after any accepted call they are those of the plan that it leaves. Assumes nothing.
use Prim.Native.Nat.{ℕ, suc, ◌+◌, ◌-◌, ◌<◌, ◌≤◌, min}
use native.Mathlib.Omega.{arith}
use mathlib.Core.Path.{◌≡◌, refl, sym, ap, ◌∙◌, subst}
use mathlib.Core.Logic.{◌≢◌}
use mathlib.Core.Bool.{Bool, true, false, not, cond, ◌&&◌, ◌||◌}
use mathlib.Core.List.{List, [], ◌∷◌, map}
use borrow.Author.Tests.{eqb-true, eqb-false, eq-eqb, ne_eqb, ltb-true, ltb-false}
use lib.Dec.{T, eqb, leb, ltb, nleb→lt}
use lib.ListN.{length, set, length-set, length-map}
use Rattle.protocol.specs.Lists.{bit, is_none, one_to, count_to, natural, count, snoc}
use Rattle.protocol.specs.Plan.{Edit, Kept, Fate, unsent, waiting, accepted, revoked, fate_is, Mode, blank, whole, split, joining, closing, is, Content, Plan, is_unsent, is_waiting, is_settled, active, made, absent_side, side_at, lookup, unsent_of, pending, sides_that, kept_limit}
use Rattle.protocol.specs.Calls.{Call, measure, rule, open_plan, split-side, edit, join, send, replay, stop, confirm, install, show, fate_of_edit, left, checks, further, apart, edit_of, on_values, has_arrived, has_confirmed, reset, after, mark_sent, settled, update, replayable, next_place, left_of}
use Rattle.protocol.proofs.Laws.{cases, both, yes_is, is_yes, which, range, Pass, is-no, count_to-same, count_to_less, count_to-full, count_map, count-snoc, length-modify, nth-same, nth-other, count_most}
use Rattle.guarantee.proofs.Kept.{open_sent, unsent-sent, unsent-other, settled-count}
use Rattle.guarantee.proofs.Left.{unarrived, sum, sum_most, send_to, send-sum, unsent-settled, waiting-settled, open_settled, settled-settled, replay_to, replay-sum, stop-sum, confirm_to, arrived-confirmed, confirm-sum, new_kept, edit_to, arrived-edited, edit-sum, join_to, side-joined, join-sum}
use Rattle.guarantee.proofs.Holding.{only, plan}
use Rattle.rows.proofs.Spans.{get_d_set, get_or-other, get_or-blank}
use Rattle.heads.specs.Heads.{mode_of, sides_in, index_of, unset_in}
use Rattle.state.specs.Spread.{Spread, plan_of}
use Rattle.state.proofs.View.{index_other, flags_unset}
use Rattle.counts.specs.declared.Tallies.{Tallies}
use Rattle.counts.specs.Tallies.{unsent_in, Counted, Tallied, no_tallies, one_unsent, all_sent, one_settled, begun, one_less}

pub counted_none : Counted no_tallies []
counted_none = record { unsent = λ s a b. get_or-blank 8 (index_of s) 0; waiting = refl; settled = refl }

-- ---- one side's count stored

module _ (t : Tallies) (s : ℕ) (u : ℕ) (long : length t.unsent ≡ 8) (p : 0 < s) (q : s ≤ 8) where
  abbrev with : Tallies
  with = record t { unsent = set t.unsent (index_of s) u }

  set_here : unsent_in with s ≡ u
  set_here = get_d_set t.unsent (index_of s) u 0 (omega arith)

  set_there : (x : ℕ) → 0 < x → x ≤ 8 → x ≢ s → unsent_in with x ≡ unsent_in t x
  set_there x a b ne = get_or-other t.unsent (index_of s) (index_of x) u 0 (index_other s x p q a b ne)

-- ---- one edit more

module _ (t : Tallies) (ks : List Kept) (k : Kept) (long : length t.unsent ≡ 8) (room : length ks < 256) (p : 0 < k.edit.side) (q : k.edit.side ≤ 8) (h : Counted t ks) where
  counted-snoc : (l : ℕ) → k.fate ≡ unsent → let s = k.edit.side in Counted (record t { unsent = set t.unsent (index_of s) (min (unsent_in t s) 255 + 1); left = l }) (snoc ks k)
  counted-snoc l f = record {
    unsent = λ x a b. cases (eqb x s) (λ e. rw (eqb-true x s e) here) (λ e. there x a b (eqb-false x s e));
    waiting = h.waiting ∙ sym (count-snoc is_waiting ks k ∙ (let z = ap (λ y. bit (fate_is waiting y)) f in omega arith));
    settled = h.settled ∙ sym (count-snoc is_settled ks k ∙ (let z = ap (λ y. bit (not (fate_is unsent y || fate_is waiting y))) f in omega arith));
  }
    where
      s : ℕ
      s = k.edit.side

      n : ℕ
      n = min (unsent_in t s) 255 + 1

      mine : ℕ → Kept → Bool
      mine x k = is_unsent k && eqb k.edit.side x

      here : unsent_in (with t s n long p q) s ≡ unsent_of s (snoc ks k)
      here =
          let u = h.unsent s p q in
          let m = count_most (mine s) ks in
          let b : bit (mine s k) ≡ 1 = rw (ap (fate_is unsent) f, eq-eqb s s refl) in
          set_here t s n long p q ∙ (let c = count-snoc (mine s) ks k in omega arith)

      there : (x : ℕ) → 0 < x → x ≤ 8 → x ≢ s → unsent_in (with t s n long p q) x ≡ unsent_of x (snoc ks k)
      there x a b ne =
          let z : bit (mine x k) ≡ 0 = rw (ap (fate_is unsent) f, ne_eqb s x (λ e. ne (sym e))) in
          set_there t s n long p q x a b ne ∙ h.unsent x a b ∙ (let c = count-snoc (mine x) ks k in omega arith)

-- ---- a side's edits sent

waiting-sent : (s : ℕ) (ks : List Kept) → count is_waiting (map (mark_sent s) ks) ≡ count is_waiting ks + unsent_of s ks
waiting-sent s [] = refl
waiting-sent s (k ∷ ks) =
    let r = waiting-sent s ks in
    cases (is_unsent k && eqb k.edit.side s)
    (λ e. rw e (let z = not_yet k.fate (both (is_unsent k) (eqb k.edit.side s) (is_yes e)).0 in omega arith))
    (λ e. rw e (omega arith))
  where
    not_yet : (f : Fate) → T (fate_is unsent f) → bit (fate_is waiting f) ≡ 0
    not_yet unsent u = refl
    not_yet waiting u = absurd u
    not_yet accepted u = absurd u
    not_yet revoked u = absurd u

module _ (t : Tallies) (ks : List Kept) (s : ℕ) (arrived : Bool) (long : length t.unsent ≡ 8) (room : length ks ≤ 256) (p : 0 < s) (q : s ≤ 8) (h : Counted t ks) where
  counted-sent : Counted (all_sent s arrived t) (map (mark_sent s) ks)
  counted-sent = record {
    unsent = λ x a b. cases (eqb x s)
        (λ e. rw (eqb-true x s e) (set_here t s 0 long p q ∙ sym (unsent-sent s ks)))
        (λ e. set_there t s 0 long p q x a b (eqb-false x s e) ∙ h.unsent x a b ∙ sym (unsent-other s x ks (eqb-false x s e)));
    waiting =
        let w = waiting-sent s ks in
        let u = h.unsent s p q in
        let m = count_most is_waiting ks in
        let n = count_most (λ k. is_unsent k && eqb k.edit.side s) ks in
        let v = h.waiting in
        omega arith;
    settled = h.settled ∙ sym (count_map is_settled (mark_sent s) ks (λ k. ap not (open_sent s k)));
  }

-- ---- a waiting edit settled

counted-settled : (t : Tallies) (ks : List Kept) (n : ℕ) (b : Bool) (place : ℕ) → length ks ≤ 256 → T (is_waiting (lookup n ks)) → Counted t ks
    → Counted (one_settled t) (update n (settled b place) ks)
counted-settled t ks n b place room w h = record {
  unsent = λ x a c. h.unsent x a c ∙ sym (unsent-settled n b place ks w x);
  waiting =
      let e = waiting-settled n b place ks w in
      let m = count_most is_waiting ks in
      let v = h.waiting in
      omega arith;
  settled =
      let e = settled-settled n b place ks w in
      let o = open_settled n b place ks w in
      let f = settled-count ks in
      let v = h.settled in
      omega arith;
}

-- ---- the number left

-- a closing move takes one off
fallen : (m k : Mode) (d e : Content) (l : ℕ) → length e.sides ≡ length d.sides → sum m d (length d.sides) ≡ suc (sum k e (length d.sides)) → l ≡ left_of m d → l - 1 ≡ left_of k e
fallen m k d e l long fall i = rw long (omega arith)

-- an edit adds one more where its side is not pending
raised : (arrived : Bool) (u : ℕ) → bit (arrived && is_none u) ≡ bit (not (not arrived || ltb 0 u))
raised false u = refl
raised true u = cases (ltb 0 u)
    (λ e. rw (e, ne_eqb u 0 (λ z. let i = ltb-true 0 u e in omega arith)))
    (λ e. rw (e, eq-eqb u 0 (let i = ltb-false 0 u e in omega arith)))

-- ---- the first logs that are missing

abbrev missing_of : Content → ℕ
missing_of d = sides_that (unarrived d) d

-- as many sides, each with its log or without as before
missing-same : (d e : Content) → length e.sides ≡ length d.sides → ((x : ℕ) → (side_at e x).arrived ≡ (side_at d x).arrived) → missing_of e ≡ missing_of d
missing-same d e long same = ap (count_to (unarrived e)) long ∙ count_to-same (unarrived e) (unarrived d) (length d.sides) (λ x p q. ap not (same x))

-- a join has every side's log before it
missing-joined : (d : Content) → length d.sides ≡ missing_of (join_to d)
missing-joined d = sym (ap (count_to (unarrived (join_to d))) (length-map d.sides reset) ∙ count_to-full (unarrived (join_to d)) (length d.sides) (λ x. rw (side-joined d x) tt))

-- a side that sends has its log there, which was missing if it was not there before
missing-sent : (d : Content) (s : ℕ) → T (one_to (length d.sides) s) → cond (side_at d s).arrived (missing_of d) (missing_of d - 1) ≡ missing_of (send_to d s)
missing-sent d s has =
    cases (side_at d s).arrived
    (λ e. rw e (sym (missing-same d (send_to d s) long (λ x. cases (eqb x s) (λ t. rw (eqb-true x s t) (here ∙ sym e)) (λ t. there x (eqb-false x s t))))))
    (λ e.
    let less = count_to_less (unarrived d) (unarrived (send_to d s)) (length d.sides) s i.0 i.1 (is-no e) (rw here tt) (λ x ne. ap not (sym (there x ne))) in
    let same = ap (count_to (unarrived (send_to d s))) long in
    rw e (omega arith))
  where
    i : (0 < s) × (s ≤ length d.sides)
    i = range (length d.sides) s has

    long : length (send_to d s).sides ≡ length d.sides
    long = length-modify s has_arrived d.sides

    here : (side_at (send_to d s) s).arrived ≡ true
    here = ap (λ x. x.arrived) (nth-same absent_side has_arrived s d.sides i.0 i.1)

    there : (x : ℕ) → x ≢ s → (side_at (send_to d s) x).arrived ≡ (side_at d x).arrived
    there x ne = ap (λ y. y.arrived) (nth-other absent_side has_arrived s d.sides x ne)

-- those of a state, by its flags
pub missing_unset : (p : Spread) (t : Tallies) → Tallied t (plan_of p) → T (active (mode_of p.head.mode)) → t.missing ≡ unset_in p.arrived (sides_in p.head)
missing_unset p t h a = h.missing a ∙ flags_unset p (λ x. x.arrived) p.arrived (λ s. refl)

-- ---- any accepted call

-- the counts after it
abbrev pub tally_after : Call → Plan → Tallies → Tallies
tally_after (measure v) p t = t
tally_after (rule a c b f) p t = t
tally_after open_plan p t = t
tally_after (split-side s) p t = cond (is whole p.mode) no_tallies t
tally_after (edit s client n m kind k) p t = cond (is whole p.mode) t (one_unsent (natural s) (side_at p.content (natural s)).arrived t)
tally_after join p t = begun (length p.content.sides) (length p.content.kept) t
tally_after (send s) p t = all_sent (natural s) (side_at p.content (natural s)).arrived t
tally_after (replay n) p t = one_settled t
tally_after stop p t = one_less t
tally_after (confirm s) p t = one_less t
tally_after install p t = one_less t
tally_after (show s room) p t = t
tally_after (fate_of_edit n) p t = t
tally_after left p t = t

-- an edit in a plan that is split or joining
tallied-edit : (t : Tallies) (m : Mode) (d : Content) (e : Edit) (r : Bool) → length d.kept < 256 → length d.sides ≤ 8 → T (one_to (length d.sides) e.side) → Tallied t (plan m d)
    → Tallied (one_unsent e.side (side_at d e.side).arrived t) (plan m (edit_to d e r))
tallied-edit t m d e r room few has h =
    let n = length d.sides in
    let s = e.side in
    let i = range n s has in
    let q : s ≤ 8 = omega (arith, i.1, few) in
    let rise = edit-sum d e r m has in
    let most = sum_most m d n in
    let late = ap (λ u. bit ((side_at d s).arrived && is_none u)) (h.counted.unsent s i.0 q) ∙ raised (side_at d s).arrived (unsent_of s d.kept) in
    let same = length-modify s (on_values (made e.measure e.change)) d.sides in
    record {
      long = length-set t.unsent (index_of s) _ ∙ h.long;
      counted = counted-snoc t d.kept (new_kept e r) h.long room i.0 q h.counted _ refl;
      left = λ a. let l = h.left a in rw same (omega arith);
      missing = λ a. h.missing a ∙ sym (missing-same d (edit_to d e r) same (arrived-edited d e r));
    }

-- a call that takes one off the number left and leaves the kept edits and the logs
tallied_less : (t : Tallies) (k : Mode) (e : Content) → length t.unsent ≡ 8 → Counted t e.kept → (T (active k) → t.left - 1 ≡ left_of k e) → (T (active k) → t.missing ≡ missing_of e)
    → Tallied (one_less t) (plan k e)
tallied_less t k e long same fewer there = record { long = long; counted = record { unsent = same.unsent; waiting = same.waiting; settled = same.settled }; left = fewer; missing = there }

module _ (t : Tallies) (m : Mode) (d : Content) (room : length d.kept ≤ 256) (few : length d.sides ≤ 8) (h : Tallied t (plan m d)) where
  tallied-send : (s : ℕ) → T (one_to (length d.sides) s) → T (pending d s) → Tallied (all_sent s (side_at d s).arrived t) (plan m (send_to d s))
  tallied-send s has owes =
      let i = range (length d.sides) s has in
      record {
        long = length-set t.unsent (index_of s) 0 ∙ h.long;
        counted = counted-sent t d.kept s (side_at d s).arrived h.long room i.0 (omega (arith, i.1, few)) h.counted;
        left = λ a. fallen m m d (send_to d s) t.left (length-modify s has_arrived d.sides) (send-sum d s m has owes) (h.left a);
        missing = λ a. ap (λ n. cond (side_at d s).arrived n (n - 1)) (h.missing a) ∙ missing-sent d s has;
      }

  tallied-replay : (n : ℕ) → T (is_waiting (lookup n d.kept)) → Tallied (one_settled t) (plan m (replay_to d n))
  tallied-replay n waits =
      record {
        long = h.long;
        counted = counted-settled t d.kept n (replayable d n) (next_place d.kept) room waits h.counted;
        left = λ a. fallen m m d (replay_to d n) t.left refl (replay-sum d n m waits (length d.sides)) (h.left a);
        missing = h.missing;
      }

  tallied-join : Tallied (begun (length d.sides) (length d.kept) t) (plan joining (join_to d))
  tallied-join =
      record {
        long = h.long;
        counted = record { unsent = h.counted.unsent; waiting = h.counted.waiting; settled = h.counted.settled };
        left = λ a.
            let sum = join-sum d (length d.sides) in
            let shut = settled-count d.kept in
            let same = h.counted.settled in
            rw (length-map d.sides reset) (omega arith);
        missing = λ a. missing-joined d;
      }

  by_call : (c : Call) → Pass (checks c (plan m d)) → Tallied (tally_after c (plan m d) t) (after c m d)
  unfolding after checks further
  by_call (measure v) g = record { long = h.long; counted = h.counted; left = λ a. absurd (rw (only blank m g.0) at a); missing = λ a. absurd (rw (only blank m g.0) at a) }
  by_call (rule a c b f) g = record { long = h.long; counted = h.counted; left = h.left; missing = h.missing }
  by_call open_plan g = record { long = h.long; counted = h.counted; left = λ a. absurd a; missing = λ a. absurd a }
  by_call (split-side s) g = cases (is whole m)
      (λ e. rw e (record { long = refl; counted = counted_none; left = λ a. absurd a; missing = λ a. absurd a }))
      (λ e. rw e (record { long = h.long; counted = h.counted; left = λ a. absurd a; missing = λ a. absurd a }))
  by_call (edit s client n x kind k) g = cases (is whole m)
      (λ e.
      let none : T (active m) → ⊥ = λ a. absurd (rw (only whole m (is_yes e)) at a) in
      rw e (record { long = h.long; counted = h.counted; left = λ a. absurd (none a); missing = λ a. absurd (none a) }))
      (λ e.
      let a = which (is whole m) (apart m) g.0 (λ y. absurd (subst T e y)) (λ y. y) in
      let f : T (not (leb kept_limit (length d.kept))) = (rw (yes_is (apart m) a) at g).1.1.1.1.1.1.1.0 in
      rw e (tallied-edit t m d (edit_of d.next s client n x kind k) (is split m) (nleb→lt kept_limit (length d.kept) f) few g.1.0 h))
  by_call join g = tallied-join
  by_call (send s) g = tallied-send (natural s) g.1.0 g.1.1.0
  by_call (replay n) g = tallied-replay (natural n) g.1.1.0
  by_call stop g =
      let was = rw (only joining m g.0) at h in
      tallied_less t closing d h.long h.counted (λ a. fallen joining closing d d t.left refl (stop-sum d (length d.sides)) (was.left tt)) (λ a. was.missing tt)
  by_call (confirm s) g =
      let longer = length-modify (natural s) has_confirmed d.sides in
      tallied_less t m (confirm_to d (natural s)) h.long h.counted
      (λ a. fallen m m d (confirm_to d (natural s)) t.left longer (confirm-sum d m (natural s) g.1.0 g.1.1.0) (h.left a))
      (λ a. h.missing a ∙ sym (missing-same d (confirm_to d (natural s)) longer (arrived-confirmed d (natural s))))
  by_call install g = tallied_less t whole _ h.long h.counted (λ a. absurd a) (λ a. absurd a)
  by_call (show s room) g = h
  by_call (fate_of_edit n) g = h
  by_call left g = h

pub tallied-after : (t : Tallies) (p : Plan) → length p.content.kept ≤ 256 → length p.content.sides ≤ 8 → Tallied t p → (c : Call) → Pass (checks c p)
    → Tallied (tally_after c p t) (after c p.mode p.content)
tallied-after t p room few h c g = by_call t p.mode p.content room few h c g
