-- Laws of the kept edits as a state holds them: tests, look-up by number, one more, one changed. Assumes nothing.
use Prim.Native.Nat.{ℕ, zero, suc, ◌+◌, ◌-◌, ◌<◌, ◌≤◌}
use native.Mathlib.Omega.{arith}
use mathlib.Core.Bool.{Bool, true, false, cond}
use mathlib.Core.Path.{◌≡◌, refl, sym, ap, ◌∙◌}
use mathlib.Core.Logic.{◌⊎◌, inl, inr, ◌≢◌}
use mathlib.Core.List.{List, ◌∷◌}
use borrow.Author.Tests.{eqb-true, eqb-false, lt-ltb, le-leb, ltb-true, ltb-false, leb-true}
use lib.Dec.{eqb, leb, ltb, eqb-suc-zero}
use lib.ListN.{length, get_or, set, take, drop}
use lib.Seq.{drop-cons}
use Rattle.std.specs.Prelude.{Option, None, Some, slice_get}
use Rattle.std.specs.List.{count_by}
use Rattle.std.specs.Option.{unwrap_or}
use Rattle.std.proofs.lemmas.List.Recursion.{is_count_by}
use Rattle.std.proofs.lemmas.Option.{unwrap_or-slice_get}
use Rattle.protocol.specs.Lists.{count, modify, snoc}
use Rattle.protocol.specs.Plan.{Kept, absent_edit, lookup}
use Rattle.protocol.specs.Calls.{update}
use Rattle.protocol.proofs.Laws.{cases}
use Rattle.rows.specs.Rows.{span}
use Rattle.rows.proofs.Spans.{count-span, span_same, span-snoc, modify-span, get_d_set, get_or-other}
use Rattle.records.specs.declared.EditRecord.{EditRecord}
use Rattle.records.specs.declared.Test.{Test}
use Rattle.records.specs.declared.Test.TheVariants.{UnsentOf, Waiting, Open, Settled}
use Rattle.heads.specs.Heads.{position_of, seat, slot_at}
use Rattle.heads.proofs.Positions.{slot_suc}
use Rattle.records.specs.Records.{kept_at, log_of, no_record, test_of, record_of, found_at, looked}

-- a test looks at no number
pub any-number : (t : Test) (m n : ℕ) (e : EditRecord) → test_of t (kept_at m e) ≡ test_of t (kept_at n e)
any-number (UnsentOf s) m n e = refl
any-number Waiting m n e = refl
any-number Open m n e = refl
any-number Settled m n e = refl

-- ---- counting

-- the first k edits, read off
front : (es : List EditRecord) (i k : ℕ) → i + k ≤ length es → take k (drop i es) ≡ span i k (λ j. get_or es j no_record)
front es i zero h = refl
front es i (suc k) h =
    ap (take (suc k)) (drop-cons es i no_record (omega arith))
    ∙ ap {B = List EditRecord} (λ xs. get_or es i no_record ∷ xs) (front es (suc i) k (omega arith))

counted : {A : Type 0} (p : A → Bool) (xs : List A) → count_by p xs ≡ count p xs
counted p xs = sym (is_count_by (count p) p refl (λ y ys. cases (p y) (λ e. rw e) (λ e. rw e (omega arith))) xs)

-- what passes of the first k edits, whatever their numbers
pub count_front : (t : Test) (e k : ℕ) (es : List EditRecord) → k ≤ length es → count_by (λ r. test_of t (kept_at 0 r)) (take k es) ≡ count (test_of t) (log_of e k es)
count_front t e k es h =
    counted (λ r. test_of t (kept_at 0 r)) (take k es)
    ∙ ap (count (λ r. test_of t (kept_at 0 r))) (front es 0 k (omega arith))
    ∙ count-span (λ r. test_of t (kept_at 0 r)) (test_of t) 0 k (λ j. get_or es j no_record) (λ j. kept_at (e - (k - j)) (get_or es j no_record))
    (λ j. any-number t 0 (e - (k - j)) (get_or es j no_record))

-- ---- look-up by number

strict : (i j : ℕ) → i ≤ j → j ≢ i → suc i ≤ j
strict i j a z = cases (ltb i j) (λ e. ltb-true i j e) (λ e. absurd (z (let w = ltb-false i j e in omega arith)))

-- The edit numbered n among those at places i, i + 1 and on, numbered by ν: there is none, or the first is at place j, and
-- changing it is changing the element there.
abbrev Found : ℕ → (ℕ → ℕ) → (ℕ → Kept) → ℕ → ℕ → Type 0
Found n ν f i m =
    (((j : ℕ) → i ≤ j → j < i + m → ν j ≢ n) × (lookup n (span i m f) ≡ absent_edit))
    ⊎ ((j : ℕ) × (j < m) × (ν (i + j) ≡ n) × ((k : ℕ) → i ≤ k → k < i + j → ν k ≢ n) × (lookup n (span i m f) ≡ f (i + j))
    × ((g : Kept → Kept) → update n g (span i m f) ≡ modify (suc j) g (span i m f)))

found : (n : ℕ) (ν : ℕ → ℕ) (f : ℕ → Kept) (i m : ℕ) → ((k : ℕ) → (f k).edit.number ≡ ν k) → Found n ν f i m
found n ν f i zero h = inl (λ j a b. absurd (omega arith), refl)
found n ν f i (suc m) h =
    let ih = found n ν f (suc i) m h in
    cases (eqb n (f i).edit.number)
    (λ t. inr (0, omega arith, here t, (λ k a b. absurd (omega arith)), rw t (let e : i ≡ i + 0 = omega arith in ap f e), λ g. rw t))
    (λ t. later t ih)
  where
    here : eqb n (f i).edit.number ≡ true → ν (i + 0) ≡ n
    here t = let e : i + 0 ≡ i = omega arith in ap ν e ∙ sym (h i) ∙ sym (eqb-true n (f i).edit.number t)

    not_here : eqb n (f i).edit.number ≡ false → ν i ≢ n
    not_here t e = eqb-false n (f i).edit.number t (sym e ∙ sym (h i))

    -- from place i on, if it holds at i and from the next on
    before : eqb n (f i).edit.number ≡ false → (k : ℕ) → i ≤ k → (suc i ≤ k → ν k ≢ n) → ν k ≢ n
    before t k a g = cases (eqb k i) (λ e. rw (eqb-true k i e) (not_here t)) (λ e. g (strict i k a (eqb-false k i e)))

    later : eqb n (f i).edit.number ≡ false → Found n ν f (suc i) m → Found n ν f i (suc m)
    later t (inl q) = inl (λ j a b. before t j a (λ c. q.0 j c (omega arith)), rw t q.1)
    later t (inr q) =
        let j = q.0 in
        let e : suc i + j ≡ i + suc j = omega arith in
        inr (suc j, omega (arith, q.1), ap ν (sym e) ∙ q.2, (λ k a b. before t k a (λ c. q.3 k c (omega arith))), rw t (q.4 ∙ ap f e), λ g. rw t (ap {B = List Kept} (λ xs. f i ∷ xs) (q.5 g)))

-- the numbers of k edits that end below e
abbrev number_at : ℕ → ℕ → ℕ → ℕ
number_at e k i = e - (k - i)

position_none : (e k n : ℕ) → ((j : ℕ) → 0 ≤ j → j < 0 + k → number_at e k j ≢ n) → position_of e k n ≡ 0
unfolding position_of
position_none e k n h =
    cases (eqb n 0)
    (λ z. rw z (cases (ltb 0 k)
    (λ a. rw a (cases (leb e k) (λ b. absurd (h 0 (omega arith) (let x = ltb-true 0 k a in omega arith) (let x = leb-true e k b in let y = eqb-true n 0 z in omega arith))) (λ b. rw b)))
    (λ a. rw a)))
    (λ z. rw z (cases (ltb n e)
    (λ a. rw a (cases (leb (e - n) k)
    (λ b. let x = ltb-true n e a in let y = leb-true (e - n) k b in absurd (h (k - (e - n)) (omega arith) (omega arith) (omega arith)))
    (λ b. rw b)))
    (λ a. rw a)))

position_some : (e k n j : ℕ) → j < k → number_at e k j ≡ n → ((i : ℕ) → 0 ≤ i → i < 0 + j → number_at e k i ≢ n) → position_of e k n ≡ suc j
unfolding position_of
position_some e k n j a b h =
    cases (eqb n 0)
    (λ z.
    let y = eqb-true n 0 z in
    let first : j ≡ 0 = at_front j (λ c. h 0 (omega arith) (omega arith) (omega arith)) in
    rw (z, lt-ltb 0 k (omega arith), le-leb e k (omega (arith, first))) (omega (arith, first)))
    (λ z.
    let y = eqb-false n 0 z in
    let p : 0 < n = above n y in
    rw (z, lt-ltb n e (omega arith), le-leb (e - n) k (omega arith)) (omega arith))
  where
    at_front : (j : ℕ) → (0 < j → ⊥) → j ≡ 0
    at_front zero g = refl
    at_front (suc j) g = absurd (g (omega arith))

    above : (n : ℕ) → n ≢ 0 → 0 < n
    above zero g = absurd (g refl)
    above (suc n) g = omega arith

-- what is found, and where
abbrev pub Placed : ℕ → ℕ → ℕ → List EditRecord → Type 0
Placed e k n es =
    ((position_of e k n ≡ 0) × (lookup n (log_of e k es) ≡ absent_edit))
    ⊎ ((j : ℕ) × (j < k) × (position_of e k n ≡ suc j) × (number_at e k j ≡ n) × (lookup n (log_of e k es) ≡ kept_at n (get_or es j no_record))
    × ((g : Kept → Kept) → update n g (log_of e k es) ≡ modify (suc j) g (log_of e k es)))

pub placed : (e k n : ℕ) (es : List EditRecord) → Placed e k n es
placed e k n es = by (found n (number_at e k) (λ i. kept_at (number_at e k i) (get_or es i no_record)) 0 k (λ i. refl))
  where
    by : Found n (number_at e k) (λ i. kept_at (number_at e k i) (get_or es i no_record)) 0 k → Placed e k n es
    by (inl q) = inl (position_none e k n q.0, q.1)
    by (inr q) =
        let j = q.0 in
        let z : 0 + j ≡ j = omega arith in
        let m : number_at e k j ≡ n = ap (number_at e k) (sym z) ∙ q.2 in
        inr (j, q.1, position_some e k n j q.1 m (λ i a b. q.3 i a b), m, q.4 ∙ ap (λ x. kept_at (number_at e k x) (get_or es x no_record)) z ∙ ap (λ x. kept_at x (get_or es j no_record)) m, q.5)

-- the record at the place that was found; its number is n's, or nobody's
pub lookup_record : (e k n : ℕ) (es : List EditRecord) → k ≤ 256 → lookup n (log_of e k es) ≡ kept_at (cond (eqb (position_of e k n) 0) 0 n)
    (record_of (position_of e k n) (get_or es (slot_at (position_of e k n)) no_record))
lookup_record e k n es most = by (placed e k n es)
  where
    by : Placed e k n es → lookup n (log_of e k es) ≡ kept_at (cond (eqb (position_of e k n) 0) 0 n) (record_of (position_of e k n) (get_or es (slot_at (position_of e k n)) no_record))
    by (inl q) = q.1 ∙ sym (rw q.0)
    by (inr q) =
        let z : slot_at (suc q.0) ≡ q.0 = omega (arith, q.1, most) in
        q.4 ∙ sym (rw (q.2, z, eqb-suc-zero q.0))

-- the edit at the place of a position from 1
pub looked_record : (i : ℕ) (es : List EditRecord) → i ≤ 256 → looked (found_at es (seat i)) ≡ record_of i (get_or es (slot_at i) no_record)
looked_record zero es h = refl
looked_record (suc i) es h = rw (eqb-suc-zero i, slot_suc i (omega arith)) (at (slice_get es i) ∙ unwrap_or-slice_get es i no_record)
  where
    at : (o : Option EditRecord) → looked o ≡ unwrap_or o no_record
    at None = refl
    at (Some e) = refl

-- ---- one more, and one changed

pub log_snoc : (e k : ℕ) (es : List EditRecord) (r : EditRecord) → k < length es → log_of (suc e) (suc k) (set es k r) ≡ snoc (log_of e k es) (kept_at e r)
log_snoc e k es r h =
    let z : 0 + k ≡ k = omega arith in
    let last : suc e - (suc k - (0 + k)) ≡ e = omega arith in
    span-snoc 0 k (λ i. kept_at (suc e - (suc k - i)) (get_or (set es k r) i no_record))
    ∙ ap (λ x. snoc x (kept_at (suc e - (suc k - (0 + k))) (get_or (set es k r) (0 + k) no_record))) (span_same 0 k _ _ (λ i a b. at i (omega arith)))
    ∙ ap (λ x. snoc (log_of e k es) (kept_at x (get_or (set es k r) (0 + k) no_record))) last
    ∙ ap (λ x. snoc (log_of e k es) (kept_at e x)) (ap (λ x. get_or (set es k r) x no_record) z ∙ get_d_set es k r no_record h)
  where
    at : (i : ℕ) → i < k → kept_at (suc e - (suc k - i)) (get_or (set es k r) i no_record) ≡ kept_at (e - (k - i)) (get_or es i no_record)
    at i h =
        let n : suc e - (suc k - i) ≡ e - (k - i) = omega arith in
        ap (λ x. kept_at x (get_or (set es k r) i no_record)) n ∙ ap (kept_at (e - (k - i))) (get_or-other es k i r no_record (λ z. omega arith))

pub log_modify : (e k j : ℕ) (es : List EditRecord) (r : EditRecord) (g : Kept → Kept) → j < k → j < length es → kept_at (number_at e k j) r ≡ g (kept_at (number_at e k j) (get_or es j no_record))
    → log_of e k (set es j r) ≡ modify (suc j) g (log_of e k es)
log_modify e k j es r g a b h =
    let z : 0 + j ≡ j = omega arith in
    modify-span 0 k j g _ _ a
    (rw z (ap (kept_at (number_at e k j)) (get_d_set es j r no_record b) ∙ h))
    (λ i c d ne. ap (kept_at (number_at e k i)) (get_or-other es j i r no_record (λ x. ne (x ∙ sym z))))
