-- The guarantee, proved from the invariant. Assumes nothing.
use Prim.Native.Nat.{ℕ, suc, ◌+◌, ◌<◌, ◌≤◌}
use mathlib.Core.Path.{◌≡◌, refl, sym, ap, subst, ◌∙◌}
use mathlib.Core.Logic.{◌⊎◌, inl, inr}
use mathlib.Core.Bool.{Bool, true, false, not, cond, ◌&&◌, ◌||◌}
use mathlib.Core.List.{List, [], ◌∷◌}
use native.Mathlib.Omega.{arith}
use lib.ListN.{length, length-map}
use lib.Dec.{T, T_not, not_T, eqb→eq, leb, nltb→le}
use lib.IntN.{ℤ, pos}
use Rattle.protocol.specs.Lists.{bit, natural, count_to, count, all, snoc}
use Rattle.protocol.specs.Plan.{Fate, unsent, waiting, accepted, revoked, fate_number, fate_is, Kept, is_waiting, is_open, Mode, blank, whole, split, joining, closing, is, active, Content, Plan, holds, side_at, absent_side, lookup, unsent_of, pending, sides_that}
use Rattle.protocol.specs.Calls.{Call, measure, rule, open_plan, split-side, edit, join, send, replay, stop, confirm, install, show, fate_of_edit, left, apart, Verdict, fine, refused, first, checks, further, edit_of, after, gives, left_in, Answer, no, ok, step_by, step, following, end, start}
use Rattle.protocol.specs.History.{Settling, History, empty, entered, recorded, last_sent, closed, budget, is_late, listed, times, settled_as}
use Rattle.guarantee.specs.Runs.{closes, edits, reads, is_ok, accepts, noting, quiet, taken, run, Trace, begun, called}
use Rattle.guarantee.specs.Guarantee.{Able, Stuck, Underway, Completed, Installed, Guarantee, ForEveryList, ForEveryTrace}
use Rattle.protocol.proofs.Laws.{on, decide, cases, yes_is, no-is, is_yes, is-no, both, which, or_right, neither, is_none_yes, range, in_range_lem, Fine, Pass, passed, pass, count_to-zero, count_to-some, count_to-none, count-snoc, length-snoc, all-nth}
use Rattle.protocol.proofs.Refusals.{AnswerAgreed, answer-agreed}
use Rattle.guarantee.proofs.Kept.{none_open, open_count, settled-count, none-unsent, first_waiting_lem, fate-found, verdict, Reported}
use Rattle.guarantee.proofs.Chains.{accepted-chain}
use Rattle.guarantee.proofs.Left.{unarrived, unconfirmed, sum}
use Rattle.guarantee.specs.Holding.{Holding}
use Rattle.guarantee.proofs.Holding.{only, plan, stepped, holding_after, holding_start}
use Rattle.guarantee.proofs.Consistent.{Consistent, Parted, Active, out, consistent_after}

-- ---- the closing moves

pub data Closing : Call → Type 0 where
  by-send : (s : ℤ) → Closing (send s)
  by-replay : (n : ℤ) → Closing (replay n)
  by-stop : Closing stop
  by-confirm : (s : ℤ) → Closing (confirm s)
  by-install : Closing install

pub which_closing : (c : Call) → T (closes c) → Closing c
which_closing (measure v) h = absurd h
which_closing (rule a c b f) h = absurd h
which_closing open_plan h = absurd h
which_closing (split-side s) h = absurd h
which_closing (edit s client n m kind k) h = absurd h
which_closing join h = absurd h
which_closing (send s) h = by-send s
which_closing (replay n) h = by-replay n
which_closing stop h = by-stop
which_closing (confirm s) h = by-confirm s
which_closing install h = by-install
which_closing (show s room) h = absurd h
which_closing (fate_of_edit n) h = absurd h
which_closing left h = absurd h

-- ---- a call is accepted, and then does what `after` says, or is refused, and does nothing

by-verdict : (v : Verdict) (c : Call) (p : Plan) → Fine v → T (is_ok (step_by v c p).answer)
by-verdict fine c p h = tt
by-verdict (refused k) c p h = absurd h

verdict-by : (v : Verdict) (c : Call) (p : Plan) → T (is_ok (step_by v c p).answer) → Fine v
verdict-by fine c p h = tt
verdict-by (refused k) c p h = absurd h

pub taken_if : (c : Call) (p : Plan) → Pass (checks c p) → T (accepts p c)
unfolding step
taken_if c p h = by-verdict (first (checks c p)) c p (pass (checks c p) h)

pub if_taken : (c : Call) (p : Plan) → T (accepts p c) → Pass (checks c p)
unfolding step
if_taken c p h = passed (checks c p) (verdict-by (first (checks c p)) c p h)

-- the invariant: what holds of the plan alone, and what ties it to the history
abbrev pub Sound : Plan → History → Type 0
Sound p h = Holding p.mode p.content × Consistent p.mode p.content h

pub sound_step : (c : Call) (p : Plan) (h : History) → Sound p h → Sound (following p c) (noting p h c)
sound_step c p h t = stepped (λ r. Sound r.plan (recorded c r.answer h)) c p
    (λ k. (holding_after c p.mode p.content t.0 k, consistent_after c p.mode p.content h t.0 t.1 k))
    (λ n. t)

pub keeps : (c : Call) (p : Plan) (h : History) → T (not (accepts p c)) → (following p c ≡ p) × (noting p h c ≡ h)
unfolding step
keeps c p h k = by (first (checks c p)) k
  where
    by : (v : Verdict) → T (not (is_ok (step_by v c p).answer)) → ((step_by v c p).plan ≡ p) × (recorded c (step_by v c p).answer h ≡ h)
    by fine k = absurd k
    by (refused n) k = (refl, refl)

pub stays_put : (c : Call) (p : Plan) → T (not (accepts p c)) → following p c ≡ p
stays_put c p k = (keeps c p empty k).0

moves : (c : Call) (p : Plan) → T (accepts p c) → following p c ≡ after c p.mode p.content
unfolding step
moves c p h = by (first (checks c p)) h
  where
    by : (v : Verdict) → T (is_ok (step_by v c p).answer) → (step_by v c p).plan ≡ after c p.mode p.content
    by fine k = refl
    by (refused n) k = absurd k

-- a call that does nothing if it is accepted does nothing
idle : (c : Call) (p : Plan) (h : History) → after c p.mode p.content ≡ p → ((xs : List ℤ) → entered c xs h ≡ h) → (following p c ≡ p) × (noting p h c ≡ h)
unfolding step
idle c p h e f = by (first (checks c p))
  where
    by : (v : Verdict) → ((step_by v c p).plan ≡ p) × (recorded c (step_by v c p).answer h ≡ h)
    by fine = (e, f (gives c p.mode p.content))
    by (refused n) = (refl, refl)

pub reading : (c : Call) (p : Plan) (h : History) → T (reads c) → (following p c ≡ p) × (noting p h c ≡ h)
unfolding after entered
reading (measure v) p h r = absurd r
reading (rule a c b f) p h r = absurd r
reading open_plan p h r = absurd r
reading (split-side s) p h r = absurd r
reading (edit s client n m kind k) p h r = absurd r
reading join p h r = absurd r
reading (send s) p h r = absurd r
reading (replay n) p h r = absurd r
reading stop p h r = absurd r
reading (confirm s) p h r = absurd r
reading install p h r = absurd r
reading (show s room) p h r = idle (show s room) p h refl (λ xs. refl)
reading (fate_of_edit n) p h r = idle (fate_of_edit n) p h refl (λ xs. refl)
reading left p h r = idle left p h refl (λ xs. refl)

-- ---- some closing move is accepted

module _ (m : Mode) (d : Content) (h : History) (t : Parted d h) (a : Active m d h) where
  -- where no side is pending
  module _ (z : (s : ℕ) → 0 < s → s ≤ h.sides → T (not (pending d s))) where
    logs_in : sides_that (unarrived d) d ≡ 0
    logs_in = count_to-none (unarrived d) (length d.sides) (λ s p q. (neither (unarrived d s) _ (z s p (omega (arith, t.sides)))).0)

    nothing_unsent : (s : ℕ) → 0 < s → s ≤ h.sides → unsent_of s d.kept ≡ 0
    nothing_unsent s p q = let k = nltb→le 0 (unsent_of s d.kept) (neither (unarrived d s) _ (z s p q)).1 in omega arith

  at_rest : T (active m) → (z : (s : ℕ) → 0 < s → s ≤ h.sides → T (not (pending d s))) → count is_waiting d.kept ≡ 0 → Able (plan m d)
  unfolding checks further
  at_rest on_way z w =
      which (is joining m) (is closing m) on_way
      (λ j. (stop, tt, taken_if stop (plan m d) (j, (is_none_yes _ (logs_in z), (is_none_yes _ w, tt)))))
      (λ k. on (count_to-some (unconfirmed d) h.sides)
      (λ e. (install, tt, taken_if install (plan m d) (k, (is_none_yes _ (rw (← t.sides) at e), (is_none_yes _ w, tt)))))
      (λ q. (
        confirm (pos q.0),
        tt,
        taken_if (confirm (pos q.0)) (plan m d)
            (k, (in_range_lem _ q.0 q.1 (omega (arith, q.2, t.sides)), (q.3, (is_none_yes _ (nothing_unsent z q.0 q.1 q.2), tt)))),
      )))

  pub able : T (active m) → Able (plan m d)
  unfolding checks further
  able on_way = on (count_to-some (pending d) h.sides)
      (λ e.
      let z : (s : ℕ) → 0 < s → s ≤ h.sides → T (not (pending d s)) = λ s p q. count_to-zero (pending d) h.sides s e p q in
      on (first_waiting_lem 1 d.kept d.next (rw t.kept t.ground.rising))
      (λ w. at_rest on_way z w)
      (λ q. (replay (pos q.0), tt, taken_if (replay (pos q.0)) (plan m d) (on_way, (is_none_yes _ (logs_in z), (q.2, (q.3, tt)))))))
      (λ q. (send (pos q.0), tt, taken_if (send (pos q.0)) (plan m d) (on_way, (in_range_lem _ q.0 q.1 (omega (arith, q.2, t.sides)), (q.3, tt)))))

pub able_with : (p : Plan) (h : History) → Sound p h → T (active p.mode) → Able p
able_with p h t k = let st = out p.mode p.content h k t.1.stage in able p.mode p.content h st.0 st.1 k

-- what install finds: nothing is left but itself
module _ (d : Content) (h : History) (t : Parted d h) (a : Active closing d h) where
  pub last_one : Pass (checks install (plan closing d)) → (count is_open d.kept ≡ 0) × (sum closing d h.sides ≡ 1)
  unfolding checks further
  last_one k =
      let agreed = eqb→eq (sides_that (unconfirmed d) d) 0 k.1.0 in
      let waits = eqb→eq (count is_waiting d.kept) 0 k.1.1.0 in
      let sent : (s : ℕ) → 0 < s → s ≤ h.sides → unsent_of s d.kept ≡ 0 = λ s p q.
      let c = count_to-zero (unconfirmed d) (length d.sides) s agreed p (omega (arith, t.sides)) in
      which (not (side_at d s).confirmed) _ (a.sides s p q).1 (λ x. absurd (T_not (unconfirmed d s) c x)) (λ x. eqb→eq (unsent_of s d.kept) 0 x)
      in
      let unsent = none-unsent h.sides d.kept (rw t.kept t.ground.within) sent in
      let opened = open_count d.kept in
      let owing = count_to-none (pending d) h.sides (λ s p q. rw (yes_is (side_at d s).arrived (a.sides s p q).0, sent s p q) tt) in
      let agreed' : count_to (unconfirmed d) h.sides ≡ 0 = rw t.sides at agreed in
      (omega arith, omega arith)

-- ---- the number left

number : (m : Mode) (d : Content) (h : History) → Consistent m d h → T (active m) → left_in (plan m d) + closed h ≡ budget h
number m d h t k = let st = out m d h k t.stage in rw (yes_is (active m) k, st.0.sides) st.1.left

-- a mode that a check found is no joining or closing one
clash : (k m : Mode) → T (is k m) → T (active m) → T (active k)
clash k m i a = rw (only k m i) at a

lowered : {c : Call} → Closing c → (m : Mode) (d : Content) (h : History) → Holding m d → Consistent m d h → T (active m) → Pass (checks c (plan m d)) → left_in (plan m d) ≡ suc (left_in (after c m d))
unfolding after entered gives checks further
lowered (by-send s) m d h g t k c = let x = number m d h t k in let y = number _ _ _ (consistent_after (send s) m d h g t c) k in omega arith
lowered (by-replay n) m d h g t k c = let x = number m d h t k in let y = number _ _ _ (consistent_after (replay n) m d h g t c) k in omega arith
lowered by-stop m d h g t k c = let x = number m d h t k in let y = number closing d (entered stop [] h) (consistent_after stop m d h g t c) tt in omega arith
lowered (by-confirm s) m d h g t k c = let x = number m d h t k in let y = number _ _ _ (consistent_after (confirm s) m d h g t c) k in omega arith
lowered by-install m d h g t k c =
    let e = only closing m c.0 in
    let t' : Consistent closing d h = rw e at t in
    rw e (rw t'.stage.0.sides (last_one d h t'.stage.0 t'.stage.1 (rw e at c)).1)

raised : (s client n x kind y : ℤ) (m : Mode) (d : Content) (h : History) → Holding m d → Consistent m d h → T (active m) → Pass (checks (edit s client n x kind y) (plan m d))
    → left_in (after (edit s client n x kind y) m d) ≡ suc (bit (is_late (natural s) h) + left_in (plan m d))
unfolding after entered gives checks further
raised s client n x kind y m d h g t k c =
    which (is whole m) (apart m) c.0
    (λ w. absurd (clash whole m w k))
    (λ v. which (is split m) (is joining m) v
    (λ w. absurd (clash split m w k))
    (λ w.
    let late = last_sent (natural s) h.moves in
    let mode = t.mode ∙ only joining m w in
    let i = number m d h t k in
    let j = rw mode at (number m (after (edit s client n x kind y) m d).content (entered (edit s client n x kind y) (gives (edit s client n x kind y) m d) h)
    (consistent_after (edit s client n x kind y) m d h g t c) k) in
    let l = length-snoc h.kept (record { edit = edit_of d.next s client n x kind y; late = late }) in
    let o = count-snoc (λ e. e.late) h.kept (record { edit = edit_of d.next s client n x kind y; late = late }) in
    rw mode (omega arith)))

-- only reading calls are left, and they move nothing
unmoved : (c : Call) (m : Mode) (d : Content) → T (active m) → T (not (closes c)) → T (not (edits c)) → Pass (checks c (plan m d)) → after c m d ≡ plan m d
unfolding after checks further
unmoved (measure v) m d a k e c = absurd (clash blank m c.0 a)
unmoved (rule x g l f) m d a k e c = absurd (clash blank m c.0 a)
unmoved open_plan m d a k e c = absurd (clash blank m c.0 a)
unmoved (split-side s) m d a k e c = which (is whole m) (is split m) c.0 (λ w. absurd (clash whole m w a)) (λ w. absurd (clash split m w a))
unmoved (edit s client n x kind y) m d a k e c = absurd e
unmoved join m d a k e c = absurd (clash split m c.0 a)
unmoved (send s) m d a k e c = absurd k
unmoved (replay n) m d a k e c = absurd k
unmoved stop m d a k e c = absurd k
unmoved (confirm s) m d a k e c = absurd k
unmoved install m d a k e c = absurd k
unmoved (show s room) m d a k e c = refl
unmoved (fate_of_edit n) m d a k e c = refl
unmoved left m d a k e c = refl

-- ---- carried on

-- after an accepted closing move the plan is still joining or closing, or the move was an install
onward : {c : Call} → Closing c → (m : Mode) (d : Content) → Pass (checks c (plan m d)) → T (active (after c m d).mode) ⊎ ((c ≡ install) × ((after c m d).mode ≡ whole))
unfolding after checks further
onward (by-send s) m d c = inl c.0
onward (by-replay n) m d c = inl c.0
onward by-stop m d c = inl tt
onward (by-confirm s) m d c = inl (or_right (is joining m) (is closing m) c.0)
onward by-install m d c = inr (refl, refl)

whole-left : (p : Plan) → p.mode ≡ whole → left_in p ≡ 0
whole-left p e = rw e

-- one call on, with no accepted edit: the join is under way as before and the number left has fallen by the call's share, or the call was its install
abbrev pub On : Call → Plan → Type 0
On c p = T (active (following p c).mode) × (left_in p ≡ bit (closes c && accepts p c) + left_in (following p c))

abbrev pub Over : Call → Plan → Type 0
Over c p = (c ≡ install) × T (accepts p c) × ((following p c).mode ≡ whole) × (left_in p ≡ 1)

pub one_on : (c : Call) (p : Plan) (h : History) → Sound p h → T (active p.mode) → T (not (edits c && accepts p c)) → On c p ⊎ Over c p
one_on c p h t a q =
    cases (accepts p c)
    (λ y.
    let ps = if_taken c p (is_yes y) in
    let e = moves c p (is_yes y) in
    cases (closes c)
    (λ k.
    let l : left_in p ≡ suc (left_in (following p c)) = rw e (lowered (which_closing c (is_yes k)) p.mode p.content h t.0 t.1 a ps) in
    on (onward (which_closing c (is_yes k)) p.mode p.content ps)
    (λ still. inl (rw e still, rw (k, y) (omega arith)))
    (λ i.
    let w : (following p c).mode ≡ whole = rw e i.1 in
    let z = whole-left (following p c) w in
    inr (i.0, is_yes y, w, omega arith)))
    (λ k.
    let same : following p c ≡ p = e ∙ unmoved c p.mode p.content a (is-no k) (no-edit (edits c) (rw y at q)) ps in
    inl (rw same a, rw (k, same) (omega arith))))
    (λ n. let same = stays_put c p (is-no n) in inl (rw same a, rw (n, same, by_false (closes c)) (omega arith)))
  where
    no-edit : (b : Bool) → T (not (b && true)) → T (not b)
    no-edit true x = x
    no-edit false x = x

    by_false : (b : Bool) → (b && false) ≡ false
    by_false true = refl
    by_false false = refl

-- what holds of the rest of a list holds of the list
longer : (c : Call) (cs : List Call) (p : Plan) → T (active p.mode) → On c p → Underway cs (following p c) ⊎ Completed cs (following p c) → Underway (c ∷ cs) p ⊎ Completed (c ∷ cs) p
longer c cs p a o (inl u) = inl (record { active_still = u.active_still; fallen = omega (arith, o.1, u.fallen); able_still = u.able_still })
longer c cs p a o (inr u) = inr (record {
  before = c ∷ u.before;
  rest = u.rest;
  parts = ap {B = List Call} (λ xs. c ∷ xs) u.parts;
  active_until = u.active_until;
  taken_then = u.taken_then;
  exact = omega (arith, o.1, u.exact);
})

carried : (cs : List Call) (p : Plan) (h : History) → Sound p h → T (active p.mode) → T (quiet cs p) → Underway cs p ⊎ Completed cs p
carried [] p h t a q = inl (record { active_still = a; fallen = omega arith; able_still = able_with p h t a })
carried (c ∷ cs) p h t a q =
    let ih = carried cs (following p c) (noting p h c) (sound_step c p h t) in
    let b = both (not (edits c && accepts p c)) (quiet cs (following p c)) q in
    on (one_on c p h t a b.0)
    (λ o. longer c cs p a o (ih o.0 b.1))
    (λ i. inr (record {
      before = [];
      rest = cs;
      parts = ap {B = List Call} (λ x. x ∷ cs) i.0;
      active_until = a;
      taken_then = rw i.0 at i.1;
      exact = let z = i.3 in omega arith;
    }))

-- a whole plan accepts no closing move
pub shut : {c : Call} → Closing c → (d : Content) → Pass (checks c (plan whole d)) → ⊥
unfolding checks further
shut (by-send s) d c = c.0
shut (by-replay n) d c = c.0
shut by-stop d c = c.0
shut (by-confirm s) d c = c.0
shut by-install d c = c.0

none-taken : (cs : List Call) (p : Plan) → p.mode ≡ whole → T (all closes cs) → taken cs p ≡ []
none-taken [] p e k = refl
none-taken (c ∷ cs) p e k =
    let b = both (closes c) (all closes cs) k in
    let n = not_T (accepts p c) (λ y. shut (which_closing c b.0) p.content (rw e at (if_taken c p y))) in
    rw (no-is (accepts p c) n, stays_put c p n) (none-taken cs p e b.1)

pub not-editing : (c : Call) (b : Bool) → T (closes c) → T (not (edits c && b))
not-editing c b k = by (which_closing c k)
  where
    by : {c : Call} → Closing c → T (not (edits c && b))
    by (by-send s) = tt
    by (by-replay n) = tt
    by by-stop = tt
    by (by-confirm s) = tt
    by by-install = tt

exhausted : (cs : List Call) (p : Plan) (h : History) → Sound p h → T (active p.mode) → T (all closes cs) → Stuck (end cs p)
    → (length (taken cs p) ≡ left_in p) × ((before : List Call) × (taken cs p ≡ snoc before install))
exhausted [] p h t a k s = let c = able_with p h t a in absurd (T_not (accepts p c.0) (s c.0 c.1) c.2)
exhausted (c ∷ cs) p h t a k s =
    let ih = exhausted cs (following p c) (noting p h c) (sound_step c p h t) in
    let b = both (closes c) (all closes cs) k in
    on (one_on c p h t a (not-editing c (accepts p c) b.0))
    (λ o.
    let q = ih o.0 b.1 s in
    cases (accepts p c)
    (λ y. let l = rw (yes_is (closes c) b.0, y) at o.1 in rw y (omega (arith, l, q.0), (c ∷ q.1.0, ap {B = List Call} (λ xs. c ∷ xs) q.1.1)))
    (λ n. let l = rw (yes_is (closes c) b.0, n) at o.1 in rw n (omega (arith, l, q.0), q.1)))
    (λ i. rw (yes_is (accepts p c) i.1, none-taken cs (following p c) i.2 b.1) (let z = i.3 in omega arith, ([], ap {B = List Call} (λ x. x ∷ []) i.0)))

-- ---- fates

settled-verdict : (k : Kept) → T (not (is_open k)) → ◌≡◌ {A = ℕ × ℕ × ℕ} (verdict k) (fate_number k.fate, k.place, 1)
settled-verdict k h = rw (no-is (is_open k) h)

three_or_four : (f : Fate) → T (not (fate_is unsent f || fate_is waiting f)) → (fate_number f ≡ 3) ⊎ (fate_number f ≡ 4)
three_or_four unsent h = absurd h
three_or_four waiting h = absurd h
three_or_four accepted h = inl refl
three_or_four revoked h = inr refl

module _ (p : Plan) (xs : List Settling) (told : Reported p.content.kept xs) (n : ℕ) where
  abbrev found : Kept
  found = lookup n p.content.kept

  at_most_once : times n xs ≤ 1
  at_most_once = cases (is_open found)
      (λ o. let z = ap (λ x. x.2) (rw o at (told n)) in omega arith)
      (λ o. let z = ap (λ x. x.2) (rw o at (told n)) in omega arith)

  settled-found : 0 < times n xs → T (not (is_open found))
  settled-found k = not_T (is_open found) (λ o. let z = ap (λ x. x.2) (rw (yes_is (is_open found) o) at (told n)) in omega arith)

  module _ (shut : T (not (is_open found))) where
    abbrev all_told : ◌≡◌ {A = ℕ × ℕ × ℕ} ((settled_as n xs).0, (settled_as n xs).1, times n xs) (fate_number found.fate, found.place, 1)
    all_told = told n ∙ settled-verdict found shut

    told-fate : (step (fate_of_edit (pos n)) p).answer ≡ ok (pos (settled_as n xs).0 ∷ pos (settled_as n xs).1 ∷ [])
    unfolding step checks further gives
    told-fate = rw (ap (λ x. x.0) all_told, ap (λ x. x.1) all_told) (ap {B = Answer} ok (fate-found n p.content.kept shut))

    told-once : times n xs ≡ 1
    told-once = ap (λ x. x.2) all_told

    told-outcome : ((settled_as n xs).0 ≡ 3) ⊎ ((settled_as n xs).0 ≡ 4)
    told-outcome = rw (ap (λ x. x.0) all_told) (three_or_four found.fate shut)

-- ---- just after an install

just_installed : (m : Mode) (d : Content) (h : History) → Consistent m d h → Pass (checks install (plan m d)) → Installed (after install m d) h
unfolding after checks further
just_installed m d h t c =
    let e = only closing m c.0 in
    let t' : Consistent closing d h = rw e at t in
    let parted = t'.stage.0 in
    let a = t'.stage.1 in
    let z = (last_one d h parted a (rw e at c)).0 in
    let shut : (n : ℕ) → T (listed n h.kept) → T (not (is_open (lookup n d.kept))) = λ n k. none_open d.kept h.kept parted.kept n k z in
    let q = after install m d in
    let long = sym (length-map d.kept (λ k. k.edit)) ∙ ap length parted.kept ∙ length-map h.kept (λ x. x.edit) in
    let counted = settled-count d.kept in
    record {
      whole_now = refl;
      once = λ n k. told-once q h.settlings t.reported n (shut n k);
      judged = λ n k. told-outcome q h.settlings t.reported n (shut n k);
      as_fate = λ n k. told-fate q h.settlings t.reported n (shut n k);
      no_more = omega (arith, a.progress.places);
      values = a.progress.draft;
      each = a.progress.each;
    }

-- ---- the whole

says : (p : Plan) → (step left p).answer ≡ ok (pos (left_in p) ∷ [])
unfolding step checks further gives
says p = refl

shows : (d : Content) (vs : List ℤ) → length d.sides ≡ 1 → (side_at d 1).values ≡ vs → (room : ℕ) → (step (show (pos 1) room) (plan whole d)).answer ≡ cond (leb (length vs) room) (ok vs) (no 41)
unfolding step checks further gives
shows d vs one e room = rw (one, e) (cases (leb (length vs) room) (λ t. rw t (ap {B = Answer} ok e)) (λ t. rw t))

pub guaranteed : (p : Plan) (h : History) → Sound p h → Guarantee p h
guaranteed p h sound =
    let g = sound.0 in
    let t = sound.1 in
    let judged : (n : ℕ) → 0 < times n h.settlings → ((settled_as n h.settlings).0 ≡ 3) ⊎ ((settled_as n h.settlings).0 ≡ 4) =
    λ n k. told-outcome p h.settlings t.reported n (settled-found p h.settlings t.reported n k)
    in
    let when_whole : T (is whole p.mode) → Consistent whole p.content h = λ w. rw (only whole p.mode w) at t in
    record {
      mode = sym t.mode;
      rules = t.rules;
      whole-values = λ w. (when_whole w).stage.0;
      whole-shown = λ w room. rw (only whole p.mode w) (shows p.content h.values (g.alone (or_right (is blank p.mode) _ w)) (when_whole w).stage.0 room);
      refused_keeps = λ c k. keeps c p h k;
      reading_keeps = λ c k. reading c p h k;
      agreed = λ c k e. subst AnswerAgreed e (answer-agreed c p);
      told-left = says p;
      able = λ a. able_with p h sound a;
      number = λ a. number p.mode p.content h t a;
      lowers = λ a c k y. rw (moves c p y) (lowered (which_closing c k) p.mode p.content h g t a (if_taken c p y));
      raises = λ a s client n x kind k y. rw (moves (edit s client n x kind k) p y) (raised s client n x kind k p.mode p.content h g t a (if_taken (edit s client n x kind k) p y));
      stays = λ a c k e. decide (accepts p c) (λ y. ap left_in (moves c p y ∙ unmoved c p.mode p.content a k e (if_taken c p y))) (λ n. ap left_in (stays_put c p n));
      carried = λ a cs q. carried cs p h sound a q;
      exhausted = λ a cs k s. exhausted cs p h sound a k s;
      installed = λ y. rw (moves install p y) (just_installed p.mode p.content h t (if_taken install p y));
      once = λ n. at_most_once p h.settlings t.reported n;
      kept = λ n k. (t.ordered.1 n k).kept;
      told-fate = λ n k. told-fate p h.settlings t.reported n (settled-found p h.settlings t.reported n k);
      ordered = t.ordered.0;
      passed_on = λ n k. (t.ordered.1 n k).passes;
      chain-accepted = accepted-chain h.kept h.settlings t.ordered.1 judged;
      sides-hold = λ k s has. let i = range (length p.content.sides) s has in all-nth (λ x. holds p.content.rules x.values) absent_side p.content.sides s (g.sides k) i.0 i.1;
      base-holds = g.base;
      draft-holds = g.draft;
    }

pub started : Sound start empty
started = (holding_start, record { mode = refl; rules = refl; next = omega arith; reported = λ n. refl; ordered = (tt, λ n k. absurd (omega arith)); stage = refl })

pub sound_run : (cs : List Call) (p : Plan) (h : History) → Sound p h → Sound (run cs (record { plan = p; history = h })).plan (run cs (record { plan = p; history = h })).history
sound_run [] p h t = t
sound_run (c ∷ cs) p h t = sound_run cs (following p c) (noting p h c) (sound_step c p h t)

pub guarantee : ForEveryList
guarantee cs = guaranteed _ _ (sound_run cs start empty started)

module _ {S : Type 0} (view : S → Plan) where
  traced : {s : S} {h : History} → Trace view s h → Sound (view s) h
  traced (begun s e) = rw e started
  traced (called {s} {h} t c r a x y) = rw (x, y) (sound_step c (view s) h (traced t))

  pub guarantee_traced : ForEveryTrace view
  guarantee_traced s h t = guaranteed (view s) h (traced t)
