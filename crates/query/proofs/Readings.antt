-- Laws of the reading calls: what each gives, from the arrays of the state. Assumes nothing.
use Prim.Native.Nat.{ℕ, zero, suc, ◌+◌, ◌-◌, ◌<◌, ◌≤◌, min}
use native.Mathlib.Omega.{arith}
use mathlib.Core.Bool.{true, not, cond, ◌||◌}
use mathlib.Core.Path.{◌≡◌, refl, sym, ap, ap₂, ◌∙◌}
use mathlib.Core.Logic.{inl, inr, ◌≢◌}
use mathlib.Core.List.{List, [], ◌∷◌, ◌++◌}
use borrow.Author.Tests.{eqb-true, eqb-false, eq-eqb, ne_eqb, lt-ltb, le-leb, ltb-true, leb-true}
use lib.Dec.{eqb, leb, ltb, eqb-suc-zero}
use lib.IntN.{ℤ, pos}
use lib.ListN.{length, get_or, set, take, drop, length-set, length-append}
use Rattle.std.proofs.lemmas.Option.{slice_get-get_or}
use Rattle.protocol.specs.Lists.{natural, one_to, count_to, count}
use Rattle.protocol.specs.Plan.{Kept, Plan, fate_number, is_open, is_waiting, is_settled, active, side_at, lookup, unsent_of, pending}
use Rattle.protocol.specs.Calls.{show, left, fine, refused, first, checks, further, gives, step, fate_in, left_in, shown, shown_by, no, ok}
use Rattle.protocol.specs.Calls as model
use Rattle.protocol.proofs.Laws.{cases, range, yes_is, is_yes, count_to-same}
use Rattle.guarantee.proofs.Kept.{settled-count}
use Rattle.rows.specs.Rows.{span, row, copied, copied_in}
use Rattle.rows.proofs.Spans.{get_d_set, get_or-other, below, length-span}
use Rattle.records.specs.declared.EditRecord.{EditRecord}
use Rattle.heads.specs.declared.Head.{Head}
use Rattle.heads.specs.Heads.{mode_of, sides_in, index_of, offset_of, measures_in, end_in, kept_in, position_of, named_at, seat, slot_at, unset_in}
use Rattle.heads.proofs.Flags.{index_suc}
use Rattle.heads.proofs.Positions.{slot_suc}
use Rattle.records.specs.Records.{fate_of, kept_at, log_of, kept_of, no_record, found_at}
use Rattle.records.proofs.Records.{Placed, placed}
use Rattle.state.specs.Spread.{Spread, plan_of}
use Rattle.state.proofs.View.{sides_most, sides-length, side_at_lem, row-length, flags_unset}
use Rattle.state.proofs.Meets.{fine_pass}
use Rattle.state.specs.Meets.{answer_of, number}
use Rattle.counts.specs.declared.Tallies.{Tallies}
use Rattle.counts.specs.Tallies.{Tallied}
use Rattle.query.specs.Reads.{fate_answer, show_checks, pending_in, unsent_counts, left_number}

-- ---- fate

abbrev fate_and_place : Kept → List ℤ
fate_and_place k = pos (fate_number k.fate) ∷ pos k.place ∷ []

-- where some edit has the number, the call gives the fate and place of the one looked up
fate-listed : (n i m j : ℕ) (f : ℕ → Kept) → j < m → (f (i + j)).edit.number ≡ n → fate_in n (span i m f) ≡ fate_and_place (lookup n (span i m f))
fate-listed n i zero j f h e = absurd (omega arith)
fate-listed n i (suc m) zero f h e =
    let z : i + 0 ≡ i = omega arith in
    rw (eq-eqb n (f i).edit.number (sym (rw z at e)))
fate-listed n i (suc m) (suc j) f h e =
    let z : i + suc j ≡ suc i + j = omega arith in
    let ih = fate-listed n (suc i) m j f (omega arith) (rw z at e) in
    cases (eqb n (f i).edit.number) (λ t. rw t) (λ t. rw t ih)

fate_unlisted : (n i m : ℕ) (f : ℕ → Kept) → ((j : ℕ) → i ≤ j → j < i + m → (f j).edit.number ≢ n) → fate_in n (span i m f) ≡ pos 0 ∷ pos 0 ∷ []
fate_unlisted n i zero f h = refl
fate_unlisted n i (suc m) f h =
    rw (ne_eqb n (f i).edit.number (λ e. h i (omega arith) (omega arith) (sym e))) (fate_unlisted n (suc i) m f (λ j a b. h j (omega arith) (omega arith)))

-- a number that has no place is no kept edit's
unplaced : (e k n j : ℕ) → position_of e k n ≡ 0 → j < k → e - (k - j) ≢ n
unfolding position_of
unplaced e k zero j z h w = let o : ◌≡◌ {A = ℕ} 1 0 = rw (lt-ltb 0 k (omega arith), le-leb e k (omega arith)) at z in omega (arith, o)
unplaced e k (suc n) j z h w =
    let o : suc (k - (e - suc n)) ≡ 0 = rw (eqb-suc-zero n, lt-ltb (suc n) e (omega arith), le-leb (e - suc n) k (omega arith)) at z in
    omega (arith, o)

fate-none : (e k n : ℕ) (es : List EditRecord) → position_of e k n ≡ 0 → fate_in n (log_of e k es) ≡ pos 0 ∷ pos 0 ∷ []
fate-none e k n es z = fate_unlisted n 0 k _ (λ j a b. unplaced e k n j z (omega arith))

fate-some : (e k n : ℕ) (es : List EditRecord) → k ≤ 256 → position_of e k n ≢ 0 → let r = get_or es (slot_at (position_of e k n)) no_record in fate_in n (log_of e k es) ≡ pos
    (fate_number (fate_of r.fate)) ∷ pos r.place ∷ []
fate-some e k n es most h = by (placed e k n es)
  where
    by : Placed e k n es → let r = get_or es (slot_at (position_of e k n)) no_record in fate_in n (log_of e k es) ≡ pos (fate_number (fate_of r.fate)) ∷ pos r.place ∷ []
    by (inl q) = absurd (h q.0)
    by (inr q) =
        let z : 0 + q.0 ≡ q.0 = omega arith in
        let p : slot_at (suc q.0) ≡ q.0 = omega (arith, q.1, most) in
        fate-listed n 0 k q.0 (λ i. kept_at (e - (k - i)) (get_or es i no_record)) q.1 (ap (λ i. e - (k - i)) z ∙ q.3)
        ∙ ap fate_and_place (q.4 ∙ ap (λ i. kept_at n (get_or es i no_record)) (sym p ∙ ap slot_at (sym q.2)))

-- a position is one of the kept edits', or 0
position-most : (e k n : ℕ) → position_of e k n ≤ k
unfolding position_of
position-most e k n =
    cases (eqb n 0)
    (λ z. rw z (cases (ltb 0 k) (λ t. rw t (cases (leb e k) (λ u. rw u (let h = ltb-true 0 k t in omega arith)) (λ u. rw u (omega arith)))) (λ t. rw t (omega arith))))
    (λ z. rw z (cases (ltb n e) (λ t. rw t (cases (leb (e - n) k) (λ u. rw u (let h = ltb-true n e t in let l = leb-true (e - n) k u in omega arith)) (λ u. rw u (omega arith)))) (λ t. rw t (omega arith))))

-- the answer from the record that is found
pub fate_is : (h : Head) (es : List EditRecord) (n : ℤ) → length es ≡ 256 → answer_of (fate_answer (found_at es (seat (named_at h n)))) ≡ ok (fate_in (natural n) (kept_of h es))
fate_is h es n long = by (named_at h n) refl
  where
    e : ℕ
    e = end_in h

    k : ℕ
    k = kept_in h

    by : (i : ℕ) → position_of e k (natural n) ≡ i → answer_of (fate_answer (found_at es (seat i))) ≡ ok (fate_in (natural n) (log_of e k es))
    by zero z = ap ok (sym (fate-none e k (natural n) es z))
    by (suc j) z =
        let ne : position_of e k (natural n) ≢ 0 = λ w. omega (arith, w, z) in
        let most = position-most e k (natural n) in
        let s : slot_at (suc j) ≡ j = slot_suc j (omega (arith, z, most)) in
        ap (λ o. answer_of (fate_answer o)) (slice_get-get_or es j no_record (omega (arith, z, most, long)))
        ∙ ap ok (sym (fate-some e k (natural n) es (omega arith) ne ∙ ap (λ i. pos (fate_number (fate_of (get_or es i no_record).fate)) ∷ pos (get_or es i no_record).place ∷ []) (ap slot_at z ∙ s)))

-- ---- left

counts_length : (h : Head) (es : List EditRecord) (n : ℕ) → length (unsent_counts h es n) ≡ 8
unfolding unsent_counts
counts_length h es zero = refl
counts_length h es (suc n) = length-set (unsent_counts h es n) n (unsent_of (suc n) (kept_of h es)) ∙ counts_length h es n

counts_at : (h : Head) (es : List EditRecord) (n i : ℕ) → n ≤ 8 → i < n → get_or (unsent_counts h es n) i 0 ≡ unsent_of (suc i) (kept_of h es)
unfolding unsent_counts
counts_at h es zero i most l = absurd (omega arith)
counts_at h es (suc n) i most l =
    let ih = counts_at h es n i (omega arith) in
    cases (eqb i n)
    (λ t. rw (eqb-true i n t) (get_d_set (unsent_counts h es n) n (unsent_of (suc n) (kept_of h es)) 0 (let c = counts_length h es n in omega arith)))
    (λ t. let ne = eqb-false i n t in get_or-other (unsent_counts h es n) n i (unsent_of (suc n) (kept_of h es)) 0 ne ∙ ih (below n i ne (omega arith)))

-- the counts are those of the protocol
pub counts_side : (h : Head) (es : List EditRecord) (s : ℕ) → 0 < s → s ≤ 8 → get_or (unsent_counts h es 8) (index_of s) 0 ≡ unsent_of s (kept_of h es)
counts_side h es zero l m = absurd (omega arith)
counts_side h es (suc s) l m = ap (λ i. get_or (unsent_counts h es 8) i 0) (index_suc s (omega arith)) ∙ counts_at h es 8 s (omega arith) (omega arith)

-- the number left from counts that are the protocol's, whoever keeps them
pub left_by : (p : Spread) (unsent : List ℕ) → ((s : ℕ) → 0 < s → s ≤ 8 → get_or unsent (index_of s) 0 ≡ unsent_of s (kept_of p.head p.edits))
    → left_number p.head p.arrived p.confirmed unsent (count is_open (kept_of p.head p.edits)) ≡ left_in (plan_of p)
left_by p unsent h = rw (sides-length p, waiting, unconfirmed)
  where
    waiting : pending_in p.arrived unsent (sides_in p.head) ≡ count_to (pending (plan_of p).content) (sides_in p.head)
    waiting = count_to-same _ _ (sides_in p.head) (λ s a b. ap₂ (λ x n. not x || ltb 0 n) (ap (λ x. x.arrived) (sym (side_at_lem p s a b))) (h s a (let m = sides_most p.head in omega arith)))

    unconfirmed : unset_in p.confirmed (sides_in p.head) ≡ count_to (λ s. not (side_at (plan_of p).content s).confirmed) (sides_in p.head)
    unconfirmed = count_to-same _ _ (sides_in p.head) (λ s a b. ap (λ x. not x.confirmed) (sym (side_at_lem p s a b)))

-- counts made from the records, and the number left from them, are the plan's
pub tallies_right : (p : Spread) (t : Tallies) → t.unsent ≡ unsent_counts p.head p.edits 8 → t.waiting ≡ count is_waiting (kept_of p.head p.edits)
    → t.settled ≡ count is_settled (kept_of p.head p.edits) → t.left ≡ left_number p.head p.arrived p.confirmed t.unsent (min (kept_in p.head - t.settled) 256)
    → t.missing ≡ unset_in p.arrived (sides_in p.head) → Tallied t (plan_of p)
tallies_right p t u w s e m =
    let ks = kept_of p.head p.edits in
    let c = settled-count ks in
    let n = length-span 0 (kept_in p.head) (λ i. kept_at (end_in p.head - (kept_in p.head - i)) (get_or p.edits i no_record)) in
    let rest : min (kept_in p.head - t.settled) 256 ≡ count is_open ks = omega arith in
    let sides : (x : ℕ) → 0 < x → x ≤ 8 → get_or t.unsent (index_of x) 0 ≡ unsent_of x ks = λ x a b. ap (λ xs. get_or xs (index_of x) 0) u ∙ counts_side p.head p.edits x a b in
    record {
      long = ap length u ∙ counts_length p.head p.edits 8;
      counted = record { unsent = sides; waiting = w; settled = s };
      left = λ a. e ∙ ap (left_number p.head p.arrived p.confirmed t.unsent) rest ∙ left_by p t.unsent sides ∙ rw (yes_is (active (mode_of p.head.mode)) a);
      missing = λ a. m ∙ sym (flags_unset p (λ x. x.arrived) p.arrived (λ s. refl));
    }

-- the number left that is kept beside a plan is the call's answer
pub left_given : (p : Plan) (t : Tallies) → Tallied t p → answer_of (number (cond (active p.mode) t.left 0)) ≡ (step left p).answer
unfolding step checks further gives
left_given p t h = cases (active p.mode) (λ e. rw (e, h.left (is_yes e)) refl) (λ e. rw e refl)

-- ---- show

pub shown-row : (p : Spread) (s : ℤ) → one_to (sides_in p.head) (natural s) ≡ true → (side_at (plan_of p).content (natural s)).values ≡ row p.values (offset_of (natural s)) (measures_in p.head)
shown-row p s t = let r = range (sides_in p.head) (natural s) (is_yes t) in ap (λ x. x.values) (side_at_lem p (natural s) r.0 r.1)

-- the length of a side's values is asked only of a side that there is
pub show_checks_lem : (p : Spread) (s : ℤ) (room : ℕ) → first (checks (show s room) (plan_of p)) ≡ first (show_checks p.head (natural s) room)
unfolding checks further
show_checks_lem p s room =
    rw (sides-length p)
    (cases (one_to (sides_in p.head) (natural s))
    (λ t. rw (t, ap length (shown-row p s t), row-length p.values (offset_of (natural s)) (measures_in p.head)))
    (λ t. rw t))

pub shown-refused : (p : Spread) (s : ℤ) (buffer : List ℤ) (k : ℕ) → first (show_checks p.head (natural s) (length buffer)) ≡ refused k
    → shown s (plan_of p) buffer ≡ record { refusal = k; front = []; buffer = buffer }
unfolding shown step
shown-refused p s buffer k e = rw (show_checks_lem p s (length buffer) ∙ e)

pub shown-fine : (p : Spread) (s : ℤ) (buffer : List ℤ) → first (show_checks p.head (natural s) (length buffer)) ≡ fine
    → let n = measures_in p.head in let r = row p.values (offset_of (natural s)) n in shown s (plan_of p) buffer ≡ record { refusal = 0; front = r; buffer = r ++ drop n buffer }
unfolding shown step gives
shown-fine p s buffer e =
    let t = fine_pass (show_checks p.head (natural s) (length buffer)) e in
    rw (show_checks_lem p s (length buffer) ∙ e, shown-row p s (yes_is _ t.1.0), row-length p.values (offset_of (natural s)) (measures_in p.head))

-- one value more in the buffer
fill_next : (vs : List ℤ) (at i : ℕ) (buffer : List ℤ) (x : ℤ) → i < length buffer → x ≡ get_or vs (at + i) (pos 0) → set (row vs at i ++ drop i buffer) i x ≡ row vs at (suc i) ++ drop (suc i) buffer
fill_next vs at i [] x h e = absurd (omega arith)
fill_next vs at zero (y ∷ ys) x h e = let z : at + 0 ≡ at = omega arith in ap {B = List ℤ} (λ v. v ∷ ys) (e ∙ ap (λ j. get_or vs j (pos 0)) z)
fill_next vs at (suc i) (y ∷ ys) x h e =
    let z : at + suc i ≡ suc at + i = omega arith in
    ap {B = List ℤ} (λ zs. get_or vs at (pos 0) ∷ zs) (fill_next vs (suc at) i ys x (omega arith) (e ∙ ap (λ j. get_or vs j (pos 0)) z))

pub filled : (vs : List ℤ) (at n : ℕ) (buffer : List ℤ) → at + n ≤ length vs → n ≤ length buffer → copied_in buffer vs at 0 n ≡ row vs at n ++ drop n buffer
unfolding copied
filled vs at n buffer h k =
    let e : min n (min (length buffer - 0) (length vs - at)) ≡ n = omega arith in
    ap (copied buffer vs at 0) e ∙ up n k
  where
    up : (m : ℕ) → m ≤ length buffer → copied buffer vs at 0 m ≡ row vs at m ++ drop m buffer
    up zero l = refl
    up (suc m) l = let z : 0 + m ≡ m = omega arith in ap₂ (λ xs i. set xs i (get_or vs (at + m) (pos 0))) (up m (omega arith)) z ∙ fill_next vs at m buffer _ (omega arith) refl

-- the part that is handed back
pub front : (i n : ℕ) (f : ℕ → ℤ) (rest : List ℤ) → take n (span i n f ++ rest) ≡ span i n f
front i zero f rest = refl
front i (suc n) f rest = ap {B = List ℤ} (λ xs. f i ∷ xs) (front (suc i) n f rest)

-- ---- the part that show hands back is the front of the buffer that it leaves

front_of : (vs rest : List ℤ) → take (length vs) (vs ++ rest) ≡ vs
front_of [] rest = refl
front_of (v ∷ vs) rest = ap {B = List ℤ} (λ xs. v ∷ xs) (front_of vs rest)

told-front : (a : model.Answer) (buffer : List ℤ) → take (length (shown_by a buffer).front) (shown_by a buffer).buffer ≡ (shown_by a buffer).front
told-front (no k) buffer = refl
told-front (ok vs) buffer = front_of vs (drop (length vs) buffer)

told-room : (a : model.Answer) (buffer : List ℤ) → length (shown_by a buffer).front ≤ length (shown_by a buffer).buffer
told-room (no k) buffer = omega arith
told-room (ok vs) buffer = let e = length-append vs (drop (length vs) buffer) in omega (arith, e)

pub shown-front : (s : ℤ) (p : Plan) (buffer : List ℤ) → take (length (shown s p buffer).front) (shown s p buffer).buffer ≡ (shown s p buffer).front
unfolding shown
shown-front s p buffer = told-front (step (show s (length buffer)) p).answer buffer

pub shown-room : (s : ℤ) (p : Plan) (buffer : List ℤ) → length (shown s p buffer).front ≤ length (shown s p buffer).buffer
unfolding shown
shown-room s p buffer = told-room (step (show s (length buffer)) p).answer buffer
