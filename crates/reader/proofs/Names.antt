-- Laws of names: where a line's first word ends, and that of fewer than 4 letters or more than 7 is no name. Assumes nothing.
use Prim.Native.Nat.{ℕ, zero, suc, ◌+◌, ◌<◌, ◌≤◌}
use native.Mathlib.Omega.{arith}
use mathlib.Core.Bool.{Bool, true, false, cond, ◌&&◌}
use mathlib.Core.Path.{◌≡◌, refl, sym, ap, ap₂, ◌∙◌, subst}
use mathlib.Core.Logic.{◌⊎◌, inl, inr}
use mathlib.Core.List.{List, [], ◌∷◌}
use borrow.Author.Tests.{eqb-true, leb-true, leb-false}
use lib.Dec.{eqb, leb}
use lib.ListN.{length, get_or, take}
use Rattle.std.specs.Prelude.{Option, Some, None}
use Rattle.protocol.specs.Lists.{all}
use Rattle.protocol.proofs.Laws.{cases}
use Rattle.format.specs.Lines.{Form, forms, space, line_feed, same_bytes}
use Rattle.format.proofs.Digits.{and_true}
use Rattle.reader.specs.declared.Op.{Op}
use Rattle.reader.specs.declared.Op.TheVariants.{Measure, Rule, Open, Split, Edit, Join, Send, Replay, Stop, Confirm, Install, Show, Fate, Left}
use Rattle.reader.specs.Cut.{first_line}
use Rattle.reader.specs.Reads.{word_at, is_end, place, op_of, place_of, place_in, Named}
use Rattle.reader.proofs.Cut.{up_to-length}

-- ---- the same bytes

same-is : (xs ys : List ℕ) → same_bytes xs ys ≡ true → xs ≡ ys
same-is [] [] e = refl
same-is [] (y ∷ ys) e = let z : ◌≡◌ {A = Bool} false true = e in cc
same-is (x ∷ xs) [] e = let z : ◌≡◌ {A = Bool} false true = e in cc
same-is (x ∷ xs) (y ∷ ys) e =
    let h = and_true (eqb x y) (same_bytes xs ys) e in
    ap₂ {C = List ℕ} (λ z zs. z ∷ zs) (eqb-true x y h.0) (same-is xs ys h.1)

-- ---- bytes that spell no name

-- the byte at each place is the name's
abbrev pub Spells : (ℕ → ℕ) → List ℕ → Type 0
Spells g [] = Unit {0}
Spells g (b ∷ bs) = (g 0 ≡ b) × Spells (λ k. g (suc k)) bs

spells_self : (n : List ℕ) → Spells (λ k. get_or n k 0) n
spells_self [] = tt
spells_self (b ∷ bs) = (refl, spells_self bs)

-- some form has the name, told by its length and its bytes
abbrev pub Spelled : List ℕ → List Form → Type 0
Spelled w [] = ⊥
Spelled w (f ∷ fs) = ((length w ≡ length f.name) × Spells (λ k. get_or w k 0) f.name) ⊎ Spelled w fs

spells_same : (w n : List ℕ) → w ≡ n → (length w ≡ length n) × Spells (λ k. get_or w k 0) n
spells_same w n e = (ap length e, subst (λ (v : List ℕ). Spells (λ k. get_or v k 0) n) (sym e) (spells_self n))

no_place : (w : List ℕ) (fs : List Form) → (Spelled w fs → ⊥) → place w fs ≡ 0
no_place w [] h = refl
no_place w (f ∷ fs) h = cases (same_bytes w f.name)
    (λ t. absurd (h (inl (spells_same w f.name (same-is w f.name t)))))
    (λ t. rw (t, no_place w fs (λ s. h (inr s))))

pub no_name : (w : List ℕ) → (Spelled w forms → ⊥) → 0 ≡ op_of w
unfolding op_of
no_name w h = sym (no_place w forms h)

-- ---- the first word of a sheet

abbrev pub word_in : List ℕ → List ℕ
word_in bs = word_at (first_line bs) 0

word_step : (x : ℕ) (xs : List ℕ) → word_in (x ∷ xs) ≡ cond (is_end x) [] (x ∷ word_in xs)
word_step x xs = cases (eqb x space)
    (λ s. cases (eqb x line_feed) (λ l. rw (l, s)) (λ l. rw (l, s)))
    (λ s. cases (eqb x line_feed) (λ l. rw (l, s)) (λ l. rw (l, s)))

pub word_most : (bs : List ℕ) → length (word_in bs) ≤ length bs
word_most bs = omega (arith, up_to-length space (first_line bs), up_to-length line_feed bs)

-- the word of fewer bytes is no longer
word_less : (i : ℕ) (bs : List ℕ) → length (word_in (take i bs)) ≤ length (word_in bs)
word_less zero bs = omega arith
word_less (suc i) [] = omega arith
word_less (suc i) (x ∷ xs) =
    let ih = word_less i xs in
    rw (word_step x (take i xs), word_step x xs) (cases (is_end x) (λ t. rw t (omega arith)) (λ t. rw t (omega arith)))

word_front : (bs : List ℕ) → take (length (word_in bs)) bs ≡ word_in bs
word_front [] = refl
word_front (x ∷ xs) = rw (word_step x xs) (cases (is_end x) (λ t. rw t) (λ t. rw t (ap (λ w. x ∷ w) (word_front xs))))

-- it ends before the byte at a place
word_stops : (bs : List ℕ) (i : ℕ) → is_end (get_or bs i line_feed) ≡ true → length (word_in bs) ≤ i
word_stops [] i e = omega arith
word_stops (x ∷ xs) zero e = rw (word_step x xs, e) (omega arith)
word_stops (x ∷ xs) (suc i) e =
    let ih = word_stops xs i e in
    rw (word_step x xs) (cases (is_end x) (λ t. rw t (omega arith)) (λ t. rw t (omega arith)))

-- or goes on with it
word_reaches : (bs : List ℕ) (i : ℕ) → i ≤ length (word_in bs) → is_end (get_or bs i line_feed) ≡ false → i < length (word_in bs)
word_reaches [] i h e = let z : ◌≡◌ {A = Bool} true false = e in let o : ◌≡◌ {A = ℕ} 0 1 = cc in omega arith
word_reaches (x ∷ xs) zero h e = rw (word_step x xs, e) (omega arith)
word_reaches (x ∷ xs) (suc i) h e = cases (is_end x)
    (λ t. absurd (let l : suc i ≤ 0 = rw (word_step x xs, t) at h in omega arith))
    (λ t. let l : suc i ≤ suc (length (word_in xs)) = rw (word_step x xs, t) at h in let ih = word_reaches xs i (omega arith) e in rw (word_step x xs, t) (omega arith))

-- ---- bytes that are no name's

-- a name has no more than 7 letters, and 4 or more before a space or a line feed
abbrev pub name_like : List ℕ → Bool
name_like n = leb 4 (length (word_in n)) && leb (length n) 7

no-place_for : (w : List ℕ) (fs : List Form) → all (λ f. name_like f.name) fs ≡ true → (4 ≤ length (word_in w) → length w ≤ 7 → ⊥) → place w fs ≡ 0
no-place_for w [] e un = refl
no-place_for w (f ∷ fs) e un =
    let n = f.name in
    let a = and_true (name_like n) (all (λ g. name_like g.name) fs) e in
    let s = and_true (leb 4 (length (word_in n))) (leb (length n) 7) a.0 in
    cases (same_bytes w n)
    (λ t.
    let q = sym (same-is w n t) in
    absurd (un (subst (λ v. 4 ≤ length (word_in v)) q (leb-true 4 (length (word_in n)) s.0)) (subst (λ v. length v ≤ 7) q (leb-true (length n) 7 s.1))))
    (λ t. rw (t, no-place_for w fs a.1 un))

nameless : (w : List ℕ) → (4 ≤ length (word_in w) → length w ≤ 7 → ⊥) → op_of w ≡ 0
unfolding op_of
nameless w un = no-place_for w forms refl un

pub nameless_few : (bs : List ℕ) → length (word_in bs) < 4 → op_of (word_in bs) ≡ 0
nameless_few bs h = nameless (word_in bs) (λ p q. omega (arith, word_most (word_in bs)))

-- ---- reading it

-- no name ended before the place: a word of 4 letters or more reaches it
abbrev pub Reaching : List ℕ → ℕ → Type 0
Reaching bs i = 4 ≤ length (word_in bs) → i ≤ length (word_in bs)

pub reaching_next : (bs : List ℕ) (i : ℕ) → Reaching bs i → is_end (get_or bs i line_feed) ≡ false → Reaching bs (i + 1)
reaching_next bs i r e = λ p. omega (arith, word_reaches bs i (r p) e)

-- a call's name has a place
placed : (op : Op) → 0 < place_of op
placed Measure = omega arith
placed Rule = omega arith
placed Open = omega arith
placed Split = omega arith
placed Edit = omega arith
placed Join = omega arith
placed Send = omega arith
placed Replay = omega arith
placed Stop = omega arith
placed Confirm = omega arith
placed Install = omega arith
placed Show = omega arith
placed Fate = omega arith
placed Left = omega arith

-- a word longer than any name
pub name_long : (bs : List ℕ) (i : ℕ) → Reaching bs i → 8 ≤ i → Named (first_line bs) None
name_long bs i r h = nameless (word_in bs) (λ p q. omega (arith, r (omega (arith, word_most (word_in bs)))))

-- a sheet that is shorter than any name
pub name_short : (bs : List ℕ) (i : ℕ) → Reaching bs i → length bs < i → Named (first_line bs) None
name_short bs i r h = nameless (word_in bs) (λ p q.
    let m = word_most (word_in bs) in
    let w = word_most bs in
    let l : 4 ≤ length (word_in bs) = omega arith in
    omega (arith, r l))

module _ (bs : List ℕ) (i : ℕ) (r : Reaching bs i) (e : is_end (get_or bs i line_feed) ≡ true) where
  -- the bytes up to the place are the word, or neither they nor the word are a name
  name_ended : (op_of (take i bs) ≡ op_of (word_in bs)) × ((op_of (take i bs) ≡ 0 → ⊥) → i ≡ length (word_in bs))
  name_ended = cases (leb 4 (length (word_in bs)))
      (λ t.
      let l : length (word_in bs) ≡ i = omega (arith, r (leb-true 4 (length (word_in bs)) t), word_stops bs i e) in
      (ap op_of (rw l at (word_front bs)), λ z. sym l))
      (λ t.
      let l = leb-false 4 (length (word_in bs)) t in
      let n = nameless (take i bs) (λ p q. omega (arith, word_less i bs)) in
      (n ∙ sym (nameless_few bs l), λ z. absurd (z n)))

  pub name_none : (o : Option Op) → place_in o ≡ op_of (take i bs) → o ≡ None → Named (first_line bs) None
  name_none o p q = sym name_ended.0 ∙ sym p ∙ ap place_in q

  pub name_some : (o : Option Op) (op : Op) → place_in o ≡ op_of (take i bs) → o ≡ Some op → Named (first_line bs) (Some (record { value = op; next = i }))
  name_some o op p q =
      let z : place_of op ≡ op_of (take i bs) = sym (ap place_in q) ∙ p in
      let m = placed op in
      (z ∙ name_ended.0, name_ended.1 (λ k. omega arith))
