-- Settled edits along their chains of earlier edits. Assumes nothing.
use Prim.Native.Nat.{ℕ, zero, suc, ◌<◌}
use mathlib.Core.Path.{◌≡◌, refl, sym, ap, subst, ◌∙◌}
use mathlib.Core.Logic.{◌⊎◌, inl, inr}
use mathlib.Core.Bool.{false}
use mathlib.Core.List.{List, [], ◌∷◌}
use native.Mathlib.Omega.{arith}
use borrow.Author.Tests.{eq-eqb, ne_eqb, eqb-true}
use lib.Dec.{T, eqb}
use Rattle.protocol.specs.Lists.{snoc}
use Rattle.protocol.specs.Plan.{Kept, fate_number, is_revoked, is_open, Content, lookup}
use Rattle.protocol.specs.Calls.{replayable}
use Rattle.protocol.specs.History.{Entry, Settling, times, settled_as, listed, edit_in}
use Rattle.guarantee.specs.Guarantee.{earlier_by}
use Rattle.protocol.proofs.Laws.{on, cases, yes_is, same_yes}
use Rattle.guarantee.proofs.Kept.{Reported}

-- each settled edit is a kept one, names 0 or a settled edit, and is revoked where that one is
abbrev pub Chained : List Entry → List Settling → Type 0
Chained es xs = (n : ℕ) → 0 < times n xs → record {
  kept : T (listed n es);
  follows : ((edit_in n es).earlier ≡ 0) ⊎ (0 < times (edit_in n es).earlier xs);
  passes : (settled_as (edit_in n es).earlier xs).0 ≡ 4 → (settled_as n xs).0 ≡ 4;
}

-- ---- one more edit is kept

listed-snoc : (n : ℕ) (es : List Entry) (e : Entry) → T (listed n es) → T (listed n (snoc es e)) × (edit_in n (snoc es e) ≡ edit_in n es)
listed-snoc n [] e t = absurd t
listed-snoc n (x ∷ es) e t =
    let ih = listed-snoc n es e in
    cases (eqb n x.edit.number) (λ i. rw i (tt, refl)) (λ i. rw i (ih (rw i at t)))

pub chained_snoc : (es : List Entry) (e : Entry) (xs : List Settling) → Chained es xs → Chained (snoc es e) xs
chained_snoc es e xs c n k =
    let o = c n k in
    let l = listed-snoc n es e o.kept in
    rw l.1 (record { kept = l.0; follows = o.follows; passes = o.passes })

-- ---- the edit numbered z is settled, for the first time

module _ (es : List Entry) (xs : List Settling) (z : ℕ) (x : Settling) (number : x.edit.number ≡ z) (some : 0 < z) (first : times z xs ≡ 0) where
  -- no edit settled before names it, and it does not name itself
  apart : (e : ℕ) → (e ≡ 0) ⊎ (0 < times e xs) → eqb e z ≡ false
  apart e k = ne_eqb e z (λ i. on k (λ j. omega arith) (λ j. let l : 0 < times z xs = rw i at j in omega arith))

  further : (e : ℕ) → (e ≡ 0) ⊎ (0 < times e xs) → (e ≡ 0) ⊎ (0 < times e (x ∷ xs))
  further e k = on k (λ j. inl j) (λ j. inr (rw (number, apart e k) j))

  pub chained_settle : Chained es xs → T (listed z es) → ((edit_in z es).earlier ≡ 0) ⊎ (0 < times (edit_in z es).earlier xs)
      → ((settled_as (edit_in z es).earlier xs).0 ≡ 4 → x.given ≡ 4) → Chained es (x ∷ xs)
  chained_settle c kept follows passes n k =
      cases (eqb n z)
      (λ i. subst (λ m. record {
        kept : T (listed m es);
        follows : ((edit_in m es).earlier ≡ 0) ⊎ (0 < times (edit_in m es).earlier (x ∷ xs));
        passes : (settled_as (edit_in m es).earlier (x ∷ xs)).0 ≡ 4 → (settled_as m (x ∷ xs)).0 ≡ 4;
      }) (sym (eqb-true n z i)) (record {
        kept = kept;
        follows = further (edit_in z es).earlier follows;
        passes = rw (number, apart (edit_in z es).earlier follows, eq-eqb z z refl) passes;
      }))
      (λ i.
      let o = c n (rw (number, i) at k) in
      record { kept = o.kept; follows = further (edit_in n es).earlier o.follows; passes = rw (number, apart (edit_in n es).earlier o.follows, i) o.passes })

-- an edit built on a revoked one is not accepted
pub revoked_onward : (d : Content) (n : ℕ) → T (is_revoked (lookup (lookup n d.kept).edit.earlier d.kept)) → replayable d n ≡ false
unfolding replayable
revoked_onward d n r = rw (yes_is (is_revoked (lookup (lookup n d.kept).edit.earlier d.kept)) r)

-- what the history has as revoked is revoked in the plan
pub told-revoked : (ks : List Kept) (xs : List Settling) → Reported ks xs → (n : ℕ) → (settled_as n xs).0 ≡ 4 → T (is_revoked (lookup n ks))
told-revoked ks xs told n r =
    let k = lookup n ks in
    cases (is_open k)
    (λ o. let z = sym r ∙ ap (λ v. v.0) (rw o at (told n)) in absurd (omega arith))
    (λ o. same_yes (fate_number k.fate) 4 (sym (ap (λ v. v.0) (rw o at (told n))) ∙ r))

-- ---- along the chain

-- an edit that was accepted was settled
was_settled : (n : ℕ) (xs : List Settling) → (settled_as n xs).0 ≡ 3 → 0 < times n xs
was_settled n [] e = absurd (omega arith)
was_settled n (x ∷ xs) e =
    let ih = was_settled n xs in
    cases (eqb n x.edit.number) (λ i. rw i (omega arith)) (λ i. rw i (ih (rw i at e)))

ended : (k : ℕ) (es : List Entry) → earlier_by k 0 es ≡ 0
ended zero es = refl
ended (suc k) es = refl

pub accepted-chain : (es : List Entry) (xs : List Settling) → Chained es xs → ((n : ℕ) → 0 < times n xs → ((settled_as n xs).0 ≡ 3) ⊎ ((settled_as n xs).0 ≡ 4))
    → (k n : ℕ) → (settled_as n xs).0 ≡ 3 → (earlier_by k n es ≡ 0) ⊎ ((settled_as (earlier_by k n es) xs).0 ≡ 3)
accepted-chain es xs c judged zero n a = inr a
accepted-chain es xs c judged (suc k) zero a = inl refl
accepted-chain es xs c judged (suc k) (suc n) a =
    let e = (edit_in (suc n) es).earlier in
    let o = c (suc n) (was_settled (suc n) xs a) in
    on o.follows
    (λ z. inl (ap (λ m. earlier_by k m es) z ∙ ended k es))
    (λ t. on (judged e t)
    (λ y. accepted-chain es xs c judged k e y)
    (λ r. let w = o.passes r in absurd (omega arith)))
