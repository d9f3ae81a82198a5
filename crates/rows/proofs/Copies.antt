-- Laws of rows copied. Assumes nothing.
use Prim.Native.Nat.{ℕ, zero, suc, ◌+◌, ◌-◌, ◌<◌, ◌≤◌, min}
use native.Mathlib.Omega.{arith}
use native.Mathlib.Numerals.{add-one}
use mathlib.Core.Path.{◌≡◌, refl, sym, ap, ◌∙◌}
use mathlib.Core.Logic.{◌≢◌}
use mathlib.Core.List.{List, ◌++◌}
use borrow.Author.Tests.{eqb-true, eqb-false}
use borrow.Rule.Slice.PartMut.{put_mid}
use lib.Dec.{eqb}
use lib.IntN.{ℤ, pos}
use lib.ListN.{length, get_or, take, drop, length-set}
use lib.Seq.{paste}
use Rattle.std.proofs.lemmas.List.{append-nil, take-append-drop, length-drop, length-take, take-take, get_or-drop, get_or-set_same, get_or-set_other}
use Rattle.std.proofs.lemmas.List.Edits.{paste_more}
use Rattle.std.proofs.lemmas.Slice.{put_mid-paste}
use Rattle.protocol.proofs.Laws.{cases}
use Rattle.rows.specs.Rows.{row, copied, copied_in}
use Rattle.rows.proofs.Spans.{span_same, span_moved}

-- a part of one array pasted into another, value by value
copied_paste : (into values : List ℤ) (from to n : ℕ) → to + n ≤ length into → from + n ≤ length values → paste into to (drop from values) n ≡ copied into values from to n
unfolding copied
copied_paste into values from to zero h k = let e : to + 0 ≡ to = omega arith in rw (e, append-nil (take to into)) (take-append-drop to into)
copied_paste into values from to (suc n) h k =
    let l = length-drop from values in
    rw (← add-one n, ← paste_more into to (drop from values) n (pos 0) (omega arith) (omega arith), get_or-drop from values n (pos 0), copied_paste into values from to n (omega arith) (omega arith))

-- after a write of a part of one array to a part of another
pub copied_part : (into values part : List ℤ) (from to n k j : ℕ) → k ≡ n → j ≡ n → to + n ≤ length into → from + n ≤ length values → part ≡ take j (drop from values)
    → put_mid to k into part ≡ copied into values from to n
copied_part into values part from to n k j f g h i e =
    let l = length-drop from values in
    let m = length-take n (drop from values) in
    let p : part ≡ take n (drop from values) = e ∙ ap (λ a. take a (drop from values)) g in
    put_mid-paste to k into part (take n (drop from values)) n p (sym f) (omega arith)
    ∙ ap (λ a. take to into ++ a ++ drop (to + n) into) (take-take n n (drop from values) (omega arith))
    ∙ copied_paste into values from to n h i

pub length-copied : (into values : List ℤ) (from to n : ℕ) → length (copied into values from to n) ≡ length into
unfolding copied
length-copied into values from to zero = refl
length-copied into values from to (suc n) = length-set (copied into values from to n) (to + n) _ ∙ length-copied into values from to n

pub copied-outside : (into values : List ℤ) (from to n k : ℕ) → ((i : ℕ) → i < n → k ≢ to + i) → get_or (copied into values from to n) k (pos 0) ≡ get_or into k (pos 0)
unfolding copied
copied-outside into values from to zero k h = refl
copied-outside into values from to (suc n) k h =
    get_or-set_other (copied into values from to n) (to + n) k _ (pos 0) (h n (omega arith)) ∙ copied-outside into values from to n k (λ i a. h i (omega arith))

pub copied_inside : (into values : List ℤ) (from to n i : ℕ) → i < n → to + n ≤ length into → get_or (copied into values from to n) (to + i) (pos 0) ≡ get_or values (from + i) (pos 0)
unfolding copied
copied_inside into values from to zero i h k = absurd (omega arith)
copied_inside into values from to (suc n) i h k =
    let ih = copied_inside into values from to n i in
    cases (eqb i n)
    (λ e. let l = length-copied into values from to n in rw (eqb-true i n e) (get_or-set_same (copied into values from to n) (to + n) _ (pos 0) (omega arith)))
    (λ e. let ne = eqb-false i n e in get_or-set_other (copied into values from to n) (to + n) (to + i) _ (pos 0) (λ z. ne (omega arith)) ∙ ih (omega arith) (omega arith))

pub row_copied : (into values : List ℤ) (from to n : ℕ) → n ≤ 32 → to + 32 ≤ length into → from + 32 ≤ length values → row (copied_in into values from to 32) to n ≡ row values from n
row_copied into values from to n h k l = span_moved to from n _ _ (λ i a. copied_inside into values from to (min 32 (min (length into - to) (length values - from))) i (omega arith) (omega arith))

-- a row that is not copied to
pub row_beside : (into values : List ℤ) (from to at n : ℕ) → n ≤ 32 → at + 32 ≤ to → row (copied_in into values from to 32) at n ≡ row into at n
row_beside into values from to at n h k = span_same at n _ _ (λ j a b. copied-outside into values from to (min 32 (min (length into - to) (length values - from))) j (λ i c z. omega arith))
