-- Laws of the kept edits: looked up, sent, settled, one more. Assumes nothing.
use Prim.Native.Nat.{ℕ, suc, ◌+◌, ◌<◌, ◌≤◌}
use mathlib.Core.Path.{◌≡◌, refl, sym, ap, ap₂, subst, ◌∙◌}
use mathlib.Core.Logic.{◌⊎◌, inl, inr, ◌≢◌}
use mathlib.Core.Bool.{Bool, true, false, not, cond, ◌&&◌, ◌||◌, and-false}
use mathlib.Core.List.{List, [], ◌∷◌, map}
use native.Mathlib.Omega.{arith}
use borrow.Author.Tests.{eq-eqb, ne_eqb, eqb-true, eqb-false}
use lib.ListN.{length}
use lib.Dec.{T, T_not, not_T, eqb, eqb→eq, eqb_refl}
use lib.IntN.{pos}
use Rattle.protocol.specs.Lists.{bit, one_to, count, all, snoc}
use Rattle.protocol.specs.Plan.{Edit, Fate, unsent, waiting, accepted, revoked, fate_number, fate_is, Kept, is_unsent, is_waiting, is_open, is_settled, absent_edit, lookup, unsent_of}
use Rattle.protocol.specs.Calls.{mark_sent, settled, update, fate_in}
use Rattle.protocol.specs.History.{Entry, Settling, times, settled_as, listed, edit_in}
use Rattle.protocol.proofs.Laws.{on, decide, cases, bit_yes, bit-no, bit-zero, yes_is, is_yes, both, and_in, or_left, or_right, range, count_map}

abbrev pub edits_of : List Kept → List Edit
edits_of ks = map (λ k. k.edit) ks

pub edits-snoc : (ks : List Kept) (k : Kept) → edits_of (snoc ks k) ≡ snoc (edits_of ks) k.edit
edits-snoc [] k = refl
edits-snoc (x ∷ ks) k = ap {B = List Edit} (λ es. x.edit ∷ es) (edits-snoc ks k)

mark_sent-edit : (s : ℕ) (k : Kept) → (mark_sent s k).edit ≡ k.edit
mark_sent-edit s k = cases (is_unsent k && eqb k.edit.side s) (λ t. rw t) (λ t. rw t)

pub edits-sent : (s : ℕ) (ks : List Kept) → edits_of (map (mark_sent s) ks) ≡ edits_of ks
edits-sent s [] = refl
edits-sent s (k ∷ ks) = ap₂ {C = List Edit} (λ x xs. x ∷ xs) (mark_sent-edit s k) (edits-sent s ks)

-- ---- settling the edit numbered n

module _ (n : ℕ) (b : Bool) (place : ℕ) where
  abbrev settling : List Kept → List Kept
  settling ks = update n (settled b place) ks

  pub edits_settle : (ks : List Kept) → edits_of (settling ks) ≡ edits_of ks
  edits_settle [] = refl
  edits_settle (k ∷ ks) =
      let r = edits_settle ks in
      cases (eqb n k.edit.number) (λ t. rw t) (λ t. rw t (ap {B = List Edit} (λ xs. k.edit ∷ xs) r))

  -- what a test counts after it: the old count, with the one edit's old and new bit exchanged
  pub count_settle : (p : Kept → Bool) (ks : List Kept) → T (is_waiting (lookup n ks)) → count p (settling ks) + bit (p (lookup n ks)) ≡ count p ks + bit (p (settled b place (lookup n ks)))
  count_settle p [] w = absurd w
  count_settle p (k ∷ ks) w =
      let ih = count_settle p ks in
      cases (eqb n k.edit.number) (λ t. rw t (omega arith)) (λ t. rw t (let x = ih (rw t at w) in omega arith))

  pub lookup-same : (ks : List Kept) → T (is_waiting (lookup n ks)) → lookup n (settling ks) ≡ settled b place (lookup n ks)
  lookup-same [] u = absurd u
  lookup-same (k ∷ ks) u =
      let ih = lookup-same ks in
      cases (eqb n k.edit.number) (λ t. rw (t, t)) (λ t. rw (t, t) (ih (rw t at u)))

  pub lookup-other : (m : ℕ) (ks : List Kept) → m ≢ n → lookup m (settling ks) ≡ lookup m ks
  lookup-other m [] h = refl
  lookup-other m (k ∷ ks) h =
      let ih = lookup-other m ks h in
      cases (eqb n k.edit.number)
      (λ t. rw t (rw (ne_eqb m k.edit.number (λ i. h (i ∙ sym (eqb-true n k.edit.number t))))))
      (λ t. rw t (ap (λ x. cond (eqb m k.edit.number) k x) ih))

  -- a part of an edit that settling leaves alone
  pub settle_part : {B : Type 0} (g : Kept → B) (m : ℕ) (ks : List Kept) → ((k : Kept) → g (settled b place k) ≡ g k) → g (lookup m (settling ks)) ≡ g (lookup m ks)
  settle_part g m [] h = refl
  settle_part g m (k ∷ ks) h =
      let ih = settle_part g m ks h in
      cases (eqb n k.edit.number)
      (λ t. rw t (cases (eqb m k.edit.number) (λ u. rw u (h k)) (λ u. rw u)))
      (λ t. rw t (cases (eqb m k.edit.number) (λ u. rw u) (λ u. rw u ih)))

-- ---- sending the edits of side s

module _ (s : ℕ) where
  pub open_sent : (k : Kept) → is_open (mark_sent s k) ≡ is_open k
  open_sent k = cases (is_unsent k && eqb k.edit.side s) (λ t. rw t (sym (yes_is (is_open k) (or_left (is_unsent k) (is_waiting k) (both (is_unsent k) _ (is_yes t)).0)))) (λ t. rw t)

  -- side s has no unsent edit after it
  pub unsent-sent : (ks : List Kept) → unsent_of s (map (mark_sent s) ks) ≡ 0
  unsent-sent [] = refl
  unsent-sent (k ∷ ks) =
      let r = unsent-sent ks in
      cases (is_unsent k && eqb k.edit.side s) (λ t. rw t (omega arith)) (λ t. rw (t, t) (omega arith))

  pub unsent-other : (x : ℕ) (ks : List Kept) → x ≢ s → unsent_of x (map (mark_sent s) ks) ≡ unsent_of x ks
  unsent-other x ks h = count_map (λ k. is_unsent k && eqb k.edit.side x) (mark_sent s) ks by
    where
      by : (k : Kept) → (is_unsent (mark_sent s k) && eqb (mark_sent s k).edit.side x) ≡ (is_unsent k && eqb k.edit.side x)
      by k = cases (is_unsent k && eqb k.edit.side s)
          (λ t. let i = eqb→eq k.edit.side s (both (is_unsent k) (eqb k.edit.side s) (is_yes t)).1 in rw t (rw (ne_eqb k.edit.side x (λ j. h (sym j ∙ i))) (sym (and-false (is_unsent k)))))
          (λ t. rw t)

  -- side 0 is no side: what is not kept is not sent
  pub lookup-sent : (n : ℕ) (ks : List Kept) → 0 < s → lookup n (map (mark_sent s) ks) ≡ mark_sent s (lookup n ks)
  lookup-sent n [] p = rw (ne_eqb 0 s (λ e. omega arith))
  lookup-sent n (k ∷ ks) p =
      let ih = lookup-sent n ks p in
      rw (mark_sent-edit s k) (cases (eqb n k.edit.number) (λ t. rw t) (λ t. rw t ih))

-- ---- unsent, waiting, both

pub open_count : (ks : List Kept) → count is_open ks ≡ count is_unsent ks + count is_waiting ks
open_count [] = refl
open_count (k ∷ ks) = let r = open_count ks in let a = by k.fate in omega arith
  where
    by : (f : Fate) → bit (fate_is unsent f || fate_is waiting f) ≡ bit (fate_is unsent f) + bit (fate_is waiting f)
    by unsent = refl
    by waiting = refl
    by accepted = refl
    by revoked = refl

pub settled-count : (ks : List Kept) → count is_settled ks + count is_open ks ≡ length ks
settled-count [] = refl
settled-count (k ∷ ks) = let r = settled-count ks in let a = by (is_open k) in omega arith
  where
    by : (b : Bool) → bit (not b) + bit b ≡ 1
    by true = refl
    by false = refl

pub unsent_open : (k : Kept) → T (is_unsent k) → T (is_open k)
unsent_open k h = or_left (is_unsent k) (is_waiting k) h

pub waiting_open : (k : Kept) → T (is_waiting k) → T (is_open k)
waiting_open k h = or_right (is_unsent k) (is_waiting k) h

pub waiting-sent : (f : Fate) → T (fate_is waiting f) → fate_is unsent f ≡ false
waiting-sent unsent h = absurd h
waiting-sent waiting h = refl
waiting-sent accepted h = refl
waiting-sent revoked h = refl

-- ---- every edit's side is one of n

abbrev pub Within : ℕ → List Edit → Type 0
Within n [] = Unit {0}
Within n (e ∷ es) = T (one_to n e.side) × Within n es

pub within-snoc : (n : ℕ) (es : List Edit) (e : Edit) → Within n es → T (one_to n e.side) → Within n (snoc es e)
within-snoc n [] e w h = (h, tt)
within-snoc n (x ∷ es) e w h = (w.0, within-snoc n es e w.1 h)

pub within-lookup : (n : ℕ) (ks : List Kept) (m : ℕ) → Within n (edits_of ks) → T (lookup m ks).replied → T (one_to n (lookup m ks).edit.side)
within-lookup n [] m w h = absurd h
within-lookup n (k ∷ ks) m w h =
    let ih = within-lookup n ks m w.1 in
    cases (eqb m k.edit.number) (λ t. rw t w.0) (λ t. rw t (ih (rw t at h)))

pub none-unsent : (n : ℕ) (ks : List Kept) → Within n (edits_of ks) → ((s : ℕ) → 0 < s → s ≤ n → unsent_of s ks ≡ 0) → count is_unsent ks ≡ 0
none-unsent n [] w h = refl
none-unsent n (k ∷ ks) w h =
    let r = none-unsent n ks w.1 (λ s p q. let a = h s p q in omega arith) in
    let i = range n k.edit.side w.0 in
    let a = h k.edit.side i.0 i.1 in
    decide (is_unsent k)
    (λ t. let x = bit_yes (is_unsent k && eqb k.edit.side k.edit.side) (and_in (is_unsent k) _ t (eqb_refl k.edit.side)) in omega arith)
    (λ t. let x = bit-no (is_unsent k) t in omega arith)

-- ---- numbers rise from lo and end below hi, and an earlier edit's is lower

abbrev pub Rising : ℕ → List Edit → ℕ → Type 0
Rising lo [] hi = lo ≤ hi
Rising lo (e ∷ es) hi = (lo ≤ e.number) × (e.earlier < e.number) × Rising (suc e.number) es hi

pub rising_snoc : (lo : ℕ) (es : List Edit) (hi : ℕ) (e : Edit) → Rising lo es hi → e.number ≡ hi → e.earlier < hi → Rising lo (snoc es e) (suc hi)
rising_snoc lo [] hi e r i k = (omega arith, omega arith, omega arith)
rising_snoc lo (x ∷ es) hi e r i k = (r.0, r.1, rising_snoc (suc x.number) es hi e r.2 i k)

pub rising_le : (lo : ℕ) (es : List Edit) (hi : ℕ) → Rising lo es hi → lo ≤ hi
rising_le lo [] hi r = r
rising_le lo (e ∷ es) hi r = let i = rising_le (suc e.number) es hi r.2 in omega arith

-- an edit that is found lies between the bounds
pub bounds : (p : Kept → Bool) (lo : ℕ) (ks : List Kept) (hi n : ℕ) → T (not (p absent_edit)) → Rising lo (edits_of ks) hi → T (p (lookup n ks)) → (lo ≤ n) × (n < hi)
bounds p lo [] hi n z r u = absurd (T_not (p absent_edit) z u)
bounds p lo (k ∷ ks) hi n z r u =
    let ih = bounds p (suc k.edit.number) ks hi n z r.2 in
    cases (eqb n k.edit.number)
    (λ t. let i = eqb-true n k.edit.number t in let j = rising_le (suc k.edit.number) (edits_of ks) hi r.2 in omega arith)
    (λ t. let i = ih (rw t at u) in omega arith)

-- one more edit is found by its own number, and changes no other
pub lookup_new : (lo : ℕ) (ks : List Kept) (k : Kept) → Rising lo (edits_of ks) k.edit.number → lookup k.edit.number (snoc ks k) ≡ k
lookup_new lo [] k r = rw (eq-eqb k.edit.number k.edit.number refl)
lookup_new lo (x ∷ ks) k r =
    let ih = lookup_new (suc x.edit.number) ks k r.2 in
    let j = rising_le (suc x.edit.number) (edits_of ks) k.edit.number r.2 in
    rw (ne_eqb k.edit.number x.edit.number (λ i. omega arith)) ih

pub lookup_old : (n : ℕ) (ks : List Kept) (k : Kept) → n ≢ k.edit.number → lookup n (snoc ks k) ≡ lookup n ks
lookup_old n [] k h = rw (ne_eqb n k.edit.number h)
lookup_old n (x ∷ ks) k h = let ih = lookup_old n ks k h in cases (eqb n x.edit.number) (λ t. rw t) (λ t. rw t ih)

-- none waits, or one that may be replayed
abbrev pub FirstWaiting : ℕ → List Kept → Type 0
FirstWaiting lo ks = (count is_waiting ks ≡ 0) ⊎ ((n : ℕ) × (lo ≤ n) × T (is_waiting (lookup n ks)) × T (not (is_waiting (lookup (lookup n ks).edit.earlier ks))))

pub first_waiting_lem : (lo : ℕ) (ks : List Kept) (hi : ℕ) → Rising lo (edits_of ks) hi → FirstWaiting lo ks
first_waiting_lem lo [] hi r = inl refl
first_waiting_lem lo (k ∷ ks) hi r =
    let here : T (is_waiting k) → FirstWaiting lo (k ∷ ks) = λ t.
    let i = eq-eqb k.edit.number k.edit.number refl in
    let j = ne_eqb k.edit.earlier k.edit.number (λ l. omega arith) in
    let z = not_T (is_waiting (lookup k.edit.earlier ks)) (λ u. let b = bounds is_waiting _ ks hi k.edit.earlier tt r.2 u in omega arith) in
    let f : lookup k.edit.number (k ∷ ks) ≡ k = rw i refl in
    inr (k.edit.number, r.0, rw i t, subst (λ e. T (not (is_waiting (lookup e.edit.earlier (k ∷ ks))))) (sym f) (rw j z))
    in
    let ih = first_waiting_lem (suc k.edit.number) ks hi r.2 in
    decide (is_waiting k) here
    (λ t. on ih
    (λ l. let x = bit-no (is_waiting k) t in inl (omega arith))
    (λ q.
    let i = ne_eqb q.0 k.edit.number (λ l. omega (arith, q.1)) in
    let f : lookup q.0 (k ∷ ks) ≡ lookup q.0 ks = rw i refl in
    inr (
      q.0,
      omega (arith, q.1),
      rw i q.2,
      subst (λ e. T (not (is_waiting (lookup e.edit.earlier (k ∷ ks))))) (sym f)
          (cases (eqb (lookup q.0 ks).edit.earlier k.edit.number) (λ u. rw u t) (λ u. rw u q.3)),
    )))

-- ---- what the plan says of an edit's fate, and what the history does

-- fate and place of a settled edit, and 1 if it is one
abbrev pub verdict : Kept → ℕ × ℕ × ℕ
verdict k = cond (is_open k) (0, 0, 0) (fate_number k.fate, k.place, 1)

abbrev pub Reported : List Kept → List Settling → Type 0
Reported ks xs = (n : ℕ) → ((settled_as n xs).0, (settled_as n xs).1, times n xs) ≡ verdict (lookup n ks)

unsettled : (k : Kept) → T (is_open k) → verdict k ≡ (0, 0, 0)
unsettled k h = rw (yes_is (is_open k) h)

-- an edit that is not open is found, and `fate` gives what it has
pub fate-found : (n : ℕ) (ks : List Kept) → T (not (is_open (lookup n ks))) → fate_in n ks ≡ pos (fate_number (lookup n ks).fate) ∷ pos (lookup n ks).place ∷ []
fate-found n [] h = absurd h
fate-found n (k ∷ ks) h =
    let ih = fate-found n ks in
    cases (eqb n k.edit.number) (λ t. rw t) (λ t. rw t (ih (rw t at h)))

-- ---- before the join every kept edit is unsent

pub fresh_lookup : (ks : List Kept) → T (all is_unsent ks) → Reported ks []
fresh_lookup [] h n = refl
fresh_lookup (k ∷ ks) h n =
    let u = both (is_unsent k) (all is_unsent ks) h in
    let r = fresh_lookup ks u.1 n in
    cases (eqb n k.edit.number) (λ t. rw t (sym (unsettled k (unsent_open k u.0)))) (λ t. rw t r)

pub fresh_open : (ks : List Kept) → T (all is_unsent ks) → count is_open ks ≡ length ks
fresh_open [] h = refl
fresh_open (k ∷ ks) h =
    let u = both (is_unsent k) (all is_unsent ks) h in
    let r = fresh_open ks u.1 in
    let a = bit_yes (is_open k) (unsent_open k u.0) in
    omega arith

-- ---- one edit more, a send, a replay

lookup-snoc : (n : ℕ) (ks : List Kept) (k : Kept) → T (is_open k) → verdict (lookup n (snoc ks k)) ≡ verdict (lookup n ks)
lookup-snoc n [] k h = cases (eqb n k.edit.number) (λ t. rw t (unsettled k h)) (λ t. rw t)
lookup-snoc n (x ∷ ks) k h = let r = lookup-snoc n ks k h in cases (eqb n x.edit.number) (λ t. rw t) (λ t. rw t r)

pub reported_snoc : (ks : List Kept) (k : Kept) (xs : List Settling) → T (is_open k) → Reported ks xs → Reported (snoc ks k) xs
reported_snoc ks k xs h t n = t n ∙ sym (lookup-snoc n ks k h)

verdict-sent : (s : ℕ) (k : Kept) → verdict (mark_sent s k) ≡ verdict k
verdict-sent s k = cases (is_unsent k && eqb k.edit.side s) (λ t. rw t (sym (unsettled k (unsent_open k (both (is_unsent k) _ (is_yes t)).0)))) (λ t. rw t)

pub reported_sent : (s : ℕ) (ks : List Kept) (xs : List Settling) → 0 < s → Reported ks xs → Reported (map (mark_sent s) ks) xs
reported_sent s ks xs p t n = t n ∙ sym (ap verdict (lookup-sent s n ks p) ∙ verdict-sent s (lookup n ks))

outcome-verdict : (b : Bool) (k : ℕ) (e : Kept) → ◌≡◌ {A = ℕ × ℕ × ℕ} (verdict (settled b k e)) (fate_number (settled b k e).fate, k, 1)
outcome-verdict true k e = refl
outcome-verdict false k e = refl

pub reported_settle : (n : ℕ) (b : Bool) (ks : List Kept) (xs : List Settling) (e : Edit) → e.number ≡ n → T (is_waiting (lookup n ks)) → Reported ks xs
    → Reported (update n (settled b (suc (length xs))) ks) (record { edit = e; given = fate_number (settled b 0 absent_edit).fate } ∷ xs)
reported_settle n b ks xs e en w t m =
    cases (eqb m n)
    (λ u.
    let i = eqb-true m n u in
    let z = t m ∙ ap (λ x. verdict (lookup x ks)) i ∙ unsettled (lookup n ks) (waiting_open (lookup n ks) w) in
    rw (en, u, i, lookup-same n b (suc (length xs)) ks w, ap (λ x. x.2) z) (sym (outcome-verdict b (suc (length xs)) (lookup n ks))))
    (λ u. rw (en, u) (t m ∙ ap verdict (sym (lookup-other n b (suc (length xs)) m ks (eqb-false m n u)))))

-- ---- the edits alone, as the plan and the history both keep them

abbrev pub edits_in : List Entry → List Edit
edits_in es = map (λ e. e.edit) es

abbrev find : ℕ → List Edit → Edit
find n [] = absent_edit.edit
find n (e ∷ es) = cond (eqb n e.number) e (find n es)

abbrev among : ℕ → List Edit → Bool
among n [] = false
among n (e ∷ es) = eqb n e.number || among n es

find_kept : (n : ℕ) (ks : List Kept) → find n (edits_of ks) ≡ (lookup n ks).edit
find_kept n [] = refl
find_kept n (k ∷ ks) = let r = find_kept n ks in cases (eqb n k.edit.number) (λ t. rw t) (λ t. rw t r)

find_entry : (n : ℕ) (es : List Entry) → edit_in n es ≡ find n (edits_in es)
find_entry n [] = refl
find_entry n (e ∷ es) = let r = find_entry n es in cases (eqb n e.edit.number) (λ t. rw t) (λ t. rw t r)

among_entry : (n : ℕ) (es : List Entry) → listed n es ≡ among n (edits_in es)
among_entry n [] = refl
among_entry n (e ∷ es) = ap (λ b. eqb n e.edit.number || b) (among_entry n es)

module _ (ks : List Kept) (es : List Entry) (same : edits_of ks ≡ edits_in es) where
  pub edit-found : (n : ℕ) → edit_in n es ≡ (lookup n ks).edit
  edit-found n = find_entry n es ∙ ap (find n) (sym same) ∙ find_kept n ks

  -- an edit that waits is listed
  pub waiting-listed : (n : ℕ) → T (is_waiting (lookup n ks)) → T (listed n es)
  waiting-listed n w = rw (among_entry n es, ← same) (by ks w)
    where
      by : (ks : List Kept) → T (is_waiting (lookup n ks)) → T (among n (edits_of ks))
      by [] w = absurd w
      by (k ∷ ks) w =
          let ih = by ks in
          cases (eqb n k.edit.number) (λ t. rw t tt) (λ t. rw t (ih (rw t at w)))

  -- a listed edit is found, so where none is open it is settled
  pub none_open : (n : ℕ) → T (listed n es) → count is_open ks ≡ 0 → T (not (is_open (lookup n ks)))
  none_open n h z = by ks (rw (among_entry n es, ← same) at h) z
    where
      by : (ks : List Kept) → T (among n (edits_of ks)) → count is_open ks ≡ 0 → T (not (is_open (lookup n ks)))
      by [] h z = absurd h
      by (k ∷ ks) h z =
          let ih = by ks in
          cases (eqb n k.edit.number) (λ t. rw t (bit-zero (is_open k) (omega arith))) (λ t. rw t (ih (rw t at h) (omega arith)))

pub lookup-number : (n : ℕ) (ks : List Kept) → T (is_waiting (lookup n ks)) → (lookup n ks).edit.number ≡ n
lookup-number n [] h = absurd h
lookup-number n (k ∷ ks) h =
    let ih = lookup-number n ks in
    cases (eqb n k.edit.number) (λ t. rw t (sym (eqb-true n k.edit.number t))) (λ t. rw t (ih (rw t at h)))

-- ---- an earlier edit is 0 or was replied to

abbrev pub Named : List Kept → Type 0
Named ks = (n : ℕ) → ((lookup n ks).edit.earlier ≡ 0) ⊎ T (lookup (lookup n ks).edit.earlier ks).replied

mark_sent-replied : (s : ℕ) (k : Kept) → T k.replied → T (mark_sent s k).replied
mark_sent-replied s k h = cases (is_unsent k && eqb k.edit.side s) (λ t. rw t tt) (λ t. rw t h)

pub named-sent : (s : ℕ) (ks : List Kept) → 0 < s → Named ks → Named (map (mark_sent s) ks)
named-sent s ks p h n = rw (lookup-sent s n ks p, mark_sent-edit s (lookup n ks)) (on (h n)
    (λ e. inl e)
    (λ r. inr (rw (lookup-sent s (lookup n ks).edit.earlier ks p) (mark_sent-replied s (lookup (lookup n ks).edit.earlier ks) r))))

pub named_settle : (n : ℕ) (b : Bool) (place : ℕ) (ks : List Kept) → Named ks → Named (update n (settled b place) ks)
named_settle n b place ks h m =
    rw (settle_part n b place (λ k. k.edit) m ks (λ k. refl))
    (rw (settle_part n b place (λ k. k.replied) (lookup m ks).edit.earlier ks (λ k. refl)) (h m))

pub named-snoc : (lo : ℕ) (ks : List Kept) (k : Kept) → Rising lo (edits_of ks) k.edit.number → (k.edit.earlier ≡ 0) ⊎ T (lookup k.edit.earlier ks).replied → Named ks → Named (snoc ks k)
named-snoc lo ks k r e h n =
    let far : (m : ℕ) → T (lookup m ks).replied → T (lookup m (snoc ks k)).replied = λ m u.
    let i = bounds (λ x. x.replied) lo ks k.edit.number m tt r u in
    rw (lookup_old m ks k (λ j. omega arith)) u
    in
    cases (eqb n k.edit.number)
    (λ t. rw (eqb-true n k.edit.number t, lookup_new lo ks k r) (on e (λ z. inl z) (λ u. inr (far k.edit.earlier u))))
    (λ t. rw (lookup_old n ks k (eqb-false n k.edit.number t)) (on (h n) (λ z. inl z) (λ u. inr (far (lookup n ks).edit.earlier u))))
