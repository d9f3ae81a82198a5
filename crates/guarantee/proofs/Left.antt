-- How the number left moves with each call, in any plan, whatever its history. Assumes nothing.
use Prim.Native.Nat.{ℕ, suc, ◌+◌, ◌<◌, ◌≤◌}
use mathlib.Core.Path.{◌≡◌, refl, sym, ap, ◌∙◌}
use mathlib.Core.Logic.{◌≢◌}
use mathlib.Core.Bool.{Bool, true, false, not, cond, ◌&&◌}
use mathlib.Core.List.{List, map}
use native.Mathlib.Omega.{arith}
use borrow.Author.Tests.{eq-eqb, ne_eqb, eqb-true, eqb-false}
use lib.ListN.{length}
use lib.Dec.{T, eqb, lt→ltb}
use Rattle.protocol.specs.Lists.{bit, one_to, count_to, count, snoc, modify}
use Rattle.protocol.specs.Plan.{Edit, unsent, is_unsent, is_waiting, is_open, is_settled, Kept, Mode, joining, closing, is, Content, made, absent_side, side_at, lookup, unsent_of, pending}
use Rattle.protocol.specs.Calls.{with_next, with_draft, on_sides, on_kept, reset, on_values, has_arrived, has_confirmed, mark_sent, replayable, settled, update, next_place}
use Rattle.protocol.proofs.Laws.{cases, yes_is, is-no, or_right, range, count_to-same, count_to_less, count_to-full, count_map, count-snoc, nth-same, nth-other, nth-map, nth_field, count_to_most, count_most, bit_most}
use Rattle.guarantee.proofs.Kept.{count_settle, open_sent, unsent-sent, unsent-other, waiting_open, waiting-sent}

abbrev pub unarrived : Content → ℕ → Bool
unarrived d s = not (side_at d s).arrived

abbrev pub unconfirmed : Content → ℕ → Bool
unconfirmed d s = not (side_at d s).confirmed

-- the number left over n sides
abbrev pub sum : Mode → Content → ℕ → ℕ
sum m d n = count_to (pending d) n + count is_open d.kept + count_to (unconfirmed d) n + bit (is joining m) + 1

-- ---- how much it can be

pub sum_most : (m : Mode) (d : Content) (n : ℕ) → sum m d n ≤ n + n + length d.kept + 2
sum_most m d n =
    let a = count_to_most (pending d) n in
    let b = count_most is_open d.kept in
    let c = count_to_most (unconfirmed d) n in
    let e = bit_most (is joining m) in
    omega arith

-- ---- send

module _ (d : Content) (s : ℕ) where
  abbrev pub send_to : Content
  send_to = on_sides (modify s has_arrived) (on_kept (map (mark_sent s)) d)

  pub pending-sent : 0 < s → s ≤ length d.sides → pending send_to s ≡ false
  pending-sent p q = rw (nth-same absent_side has_arrived s d.sides p q, unsent-sent s d.kept)

  pub pending-others : (x : ℕ) → x ≢ s → pending send_to x ≡ pending d x
  pending-others x h = rw (nth-other absent_side has_arrived s d.sides x h, unsent-other s x d.kept h)

  pub confirmed-sent : (x : ℕ) → unconfirmed send_to x ≡ unconfirmed d x
  confirmed-sent x = ap not (nth_field (λ y. y.confirmed) absent_side has_arrived s d.sides x (λ y. refl))

  pub send-sum : (m : Mode) → T (one_to (length d.sides) s) → T (pending d s) → sum m d (length d.sides) ≡ suc (sum m send_to (length d.sides))
  send-sum m has owes =
      let n = length d.sides in
      let i = range n s has in
      let less = count_to_less (pending d) (pending send_to) n s i.0 i.1 owes (is-no (pending-sent i.0 i.1)) (λ x k. sym (pending-others x k)) in
      let counted = count_map is_open (mark_sent s) d.kept (open_sent s) in
      let same = count_to-same (unconfirmed send_to) (unconfirmed d) n (λ x p q. confirmed-sent x) in
      omega arith

-- ---- replay

pub settled-shut : (b : Bool) (place : ℕ) (k : Kept) → (is_open (settled b place k) ≡ false) × (is_unsent (settled b place k) ≡ false) × (is_waiting (settled b place k) ≡ false)
settled-shut true place k = (refl, refl, refl)
settled-shut false place k = (refl, refl, refl)

-- what the tests count before and after a waiting edit is settled
module _ (n : ℕ) (b : Bool) (place : ℕ) (ks : List Kept) (waits : T (is_waiting (lookup n ks))) where
  abbrev now : List Kept
  now = update n (settled b place) ks

  counted_now : (p : Kept → Bool) (x y : Bool) → p (lookup n ks) ≡ x → p (settled b place (lookup n ks)) ≡ y → count p now + bit x ≡ count p ks + bit y
  counted_now p x y e f = let c = count_settle n b place p ks waits in let i = ap bit e in let j = ap bit f in omega arith

  pub unsent-settled : (x : ℕ) → unsent_of x now ≡ unsent_of x ks
  unsent-settled x =
      let c = counted_now (λ k. is_unsent k && eqb k.edit.side x) false false (rw (waiting-sent (lookup n ks).fate waits)) (rw (settled-shut b place (lookup n ks)).1) in
      omega arith

  pub waiting-settled : count is_waiting ks ≡ suc (count is_waiting now)
  waiting-settled = let c = counted_now is_waiting true false (yes_is (is_waiting (lookup n ks)) waits) (settled-shut b place (lookup n ks)).2 in omega arith

  pub open_settled : count is_open ks ≡ suc (count is_open now)
  open_settled = let c = counted_now is_open true false (yes_is (is_open (lookup n ks)) (waiting_open (lookup n ks) waits)) (settled-shut b place (lookup n ks)).0 in omega arith

  pub settled-settled : count is_settled now ≡ suc (count is_settled ks)
  settled-settled =
      let c = counted_now is_settled false true (ap not (yes_is (is_open (lookup n ks)) (waiting_open (lookup n ks) waits))) (ap not (settled-shut b place (lookup n ks)).0) in
      omega arith

module _ (d : Content) (n : ℕ) where
  abbrev pub replay_to : Content
  replay_to =
      let e = (lookup n d.kept).edit in
      with_draft (cond (replayable d n) (made e.measure e.change d.draft) d.draft)
      (on_kept (update n (settled (replayable d n) (next_place d.kept))) d)

  pub replay-sum : (m : Mode) → T (is_waiting (lookup n d.kept)) → (k : ℕ) → sum m d k ≡ suc (sum m replay_to k)
  replay-sum m waits k =
      let counted = open_settled n (replayable d n) (next_place d.kept) d.kept waits in
      let same = count_to-same (pending replay_to) (pending d) k (λ x p q. rw (unsent-settled n (replayable d n) (next_place d.kept) d.kept waits x)) in
      omega arith

-- ---- stop and confirm

module _ (d : Content) where
  pub stop-sum : (n : ℕ) → sum joining d n ≡ suc (sum closing d n)
  stop-sum n = omega arith

  abbrev pub confirm_to : ℕ → Content
  confirm_to s = on_sides (modify s has_confirmed) d

  pub arrived-confirmed : (s x : ℕ) → (side_at (confirm_to s) x).arrived ≡ (side_at d x).arrived
  arrived-confirmed s x = nth_field (λ y. y.arrived) absent_side has_confirmed s d.sides x (λ y. refl)

  pub confirm-sum : (m : Mode) (s : ℕ) → T (one_to (length d.sides) s) → T (unconfirmed d s) → sum m d (length d.sides) ≡ suc (sum m (confirm_to s) (length d.sides))
  confirm-sum m s has not_yet =
      let n = length d.sides in
      let i = range n s has in
      let less = count_to_less (unconfirmed d) (unconfirmed (confirm_to s)) n s i.0 i.1 not_yet (rw (nth-same absent_side has_confirmed s d.sides i.0 i.1) tt)
      (λ x k. rw (nth-other absent_side has_confirmed s d.sides x k)) in
      let same = count_to-same (pending (confirm_to s)) (pending d) n (λ x p q. rw (arrived-confirmed s x)) in
      omega arith

-- ---- an edit, in a plan that is split or joining

abbrev pub new_kept : Edit → Bool → Kept
new_kept e r = record { edit = e; fate = unsent; replied = r; place = 0 }

module _ (d : Content) (e : Edit) (r : Bool) where
  abbrev pub edit_to : Content
  edit_to = with_next (suc d.next) (on_sides (modify e.side (on_values (made e.measure e.change))) (on_kept (λ ks. snoc ks (new_kept e r)) d))

  more : (x : ℕ) → unsent_of x edit_to.kept ≡ unsent_of x d.kept + bit (eqb e.side x)
  more x = count-snoc (λ k. is_unsent k && eqb k.edit.side x) d.kept (new_kept e r)

  pub pending-edited : T (pending edit_to e.side)
  pending-edited =
      let i = ap bit (eq-eqb e.side e.side refl) in
      let n = more e.side in
      let k : 0 < unsent_of e.side edit_to.kept = omega arith in
      or_right (not (side_at edit_to e.side).arrived) _ (lt→ltb 0 _ k)

  pub arrived-edited : (x : ℕ) → (side_at edit_to x).arrived ≡ (side_at d x).arrived
  arrived-edited x = nth_field (λ y. y.arrived) absent_side (on_values (made e.measure e.change)) e.side d.sides x (λ y. refl)

  pub confirmed-edited : (x : ℕ) → (side_at edit_to x).confirmed ≡ (side_at d x).confirmed
  confirmed-edited x = nth_field (λ y. y.confirmed) absent_side (on_values (made e.measure e.change)) e.side d.sides x (λ y. refl)

  pub pending-not_edited : (x : ℕ) → x ≢ e.side → pending edit_to x ≡ pending d x
  pending-not_edited x k =
      let i = ap bit (ne_eqb e.side x (λ j. k (sym j))) in
      let n : unsent_of x edit_to.kept ≡ unsent_of x d.kept = let n = more x in omega arith in
      rw (n, arrived-edited x)

  -- it raises the number by one, and by one more where its side had nothing to send
  pub edit-sum : (m : Mode) → T (one_to (length d.sides) e.side) → sum m edit_to (length d.sides) ≡ suc (bit (not (pending d e.side)) + sum m d (length d.sides))
  edit-sum m has =
      let n = length d.sides in
      let s = e.side in
      let i = range n s has in
      let counted = count-snoc is_open d.kept (new_kept e r) in
      let same = count_to-same (unconfirmed edit_to) (unconfirmed d) n (λ x p q. ap not (confirmed-edited x)) in
      let owing : count_to (pending edit_to) n ≡ bit (not (pending d s)) + count_to (pending d) n = cases (pending d s)
      (λ o.
      let k = count_to-same (pending edit_to) (pending d) n (λ x p q. cases (eqb x s) (λ j. rw (eqb-true x s j) (yes_is _ pending-edited ∙ sym o)) (λ j. pending-not_edited x (eqb-false x s j))) in
      rw o (omega arith))
      (λ o. let k = count_to_less (pending edit_to) (pending d) n s i.0 i.1 pending-edited (is-no o) pending-not_edited in rw o (omega arith))
      in
      omega arith

-- ---- join

module _ (d : Content) where
  abbrev pub join_to : Content
  join_to = with_draft d.base (on_sides (map reset) d)

  pub side-joined : (x : ℕ) → side_at join_to x ≡ reset (side_at d x)
  side-joined x = nth-map absent_side reset d.sides x refl

  pub join-sum : (n : ℕ) → sum joining join_to n ≡ n + n + count is_open d.kept + 2
  join-sum n =
      let all-owe = count_to-full (pending join_to) n (λ x. rw (side-joined x) tt) in
      let none-agrees = count_to-full (unconfirmed join_to) n (λ x. rw (side-joined x) tt) in
      omega arith
