-- Laws of spans: lists read off a function of the index. Assumes nothing.
use Prim.Native.Nat.{ℕ, zero, suc, ◌+◌, ◌-◌, ◌<◌, ◌≤◌, min}
use native.Mathlib.Omega.{arith}
use mathlib.Core.Bool.{Bool, ◌&&◌, ◌||◌}
use mathlib.Core.Path.{◌≡◌, refl, sym, ap, ap₂, ◌∙◌}
use mathlib.Core.Logic.{◌≢◌}
use mathlib.Core.List.{List, [], ◌∷◌, map, reverse, reverse-append}
use borrow.Author.Tests.{ltb-true, ltb-false}
use lib.Dec.{ltb}
use lib.IntN.{ℤ, pos}
use lib.ListN.{length, get_or, replicate, take, drop}
use lib.Seq.{drop-cons}
use Rattle.std.proofs.lemmas.List.{take_min}
-- the library's laws of a place written, under the names that proofs here cite
pub use Rattle.std.proofs.lemmas.List.{get_or-set_same as get_d_set, get_or-set_other as get_or-other}
use Rattle.protocol.specs.Lists.{bit, count, all, any, snoc, nth, modify}
use Rattle.protocol.proofs.Laws.{cases, bit_most}
use Rattle.rows.specs.Rows.{span, row}

-- a list with one more, from its end
pub reverse_snoc : {A : Type 0} (xs : List A) (x : A) → reverse (snoc xs x) ≡ x ∷ reverse xs
reverse_snoc xs x = reverse-append xs (x ∷ [])

module _ {A : Type 0} where
  pub length-span : (i n : ℕ) (f : ℕ → A) → length (span i n f) ≡ n
  length-span i zero f = refl
  length-span i (suc n) f = ap suc (length-span (suc i) n f)

  -- the same function over the same places
  pub span_same : (i n : ℕ) (f g : ℕ → A) → ((k : ℕ) → i ≤ k → k < i + n → f k ≡ g k) → span i n f ≡ span i n g
  span_same i zero f g h = refl
  span_same i (suc n) f g h =
      ap₂ {C = List A} (λ x xs. x ∷ xs) (h i (omega arith) (omega arith)) (span_same (suc i) n f g (λ k p q. h k (omega arith) (omega arith)))

  -- the same list read off at other places
  pub span_moved : (a b n : ℕ) (f g : ℕ → A) → ((i : ℕ) → i < n → f (a + i) ≡ g (b + i)) → span a n f ≡ span b n g
  span_moved a b zero f g h = refl
  span_moved a b (suc n) f g h =
      let x : a + 0 ≡ a = omega arith in
      let y : b + 0 ≡ b = omega arith in
      ap₂ {C = List A} (λ u us. u ∷ us) (ap f (sym x) ∙ h 0 (omega arith) ∙ ap g y)
      (span_moved (suc a) (suc b) n f g (λ i k. let u : suc a + i ≡ a + suc i = omega arith in let v : b + suc i ≡ suc b + i = omega arith in ap f u ∙ h (suc i) (omega arith) ∙ ap g v))

  -- what is left of a walk over the first n
  pub span-next : (i n : ℕ) (f : ℕ → A) → i < n → span i (n - i) f ≡ f i ∷ span (i + 1) (n - (i + 1)) f
  span-next i n f h =
      let e : n - i ≡ suc (n - (i + 1)) = omega arith in
      let j : i + 1 ≡ suc i = omega arith in
      ap (λ k. span i k f) e ∙ ap {B = List A} (λ k. f i ∷ span k (n - (i + 1)) f) (sym j)

  pub span-over : (i n : ℕ) (f : ℕ → A) → n ≤ i → span i (n - i) f ≡ []
  span-over i n f h = let e : n - i ≡ 0 = omega arith in ap (λ k. span i k f) e

  pub span-snoc : (i n : ℕ) (f : ℕ → A) → span i (suc n) f ≡ snoc (span i n f) (f (i + n))
  span-snoc i zero f = let e : i ≡ i + 0 = omega arith in ap {B = List A} (λ k. f k ∷ []) e
  span-snoc i (suc n) f =
      let e : suc i + n ≡ i + suc n = omega arith in
      ap {B = List A} (λ xs. f i ∷ xs) (span-snoc (suc i) n f ∙ ap (λ k. snoc (span (suc i) n f) (f k)) e)

  -- what is left of a walk over n, from the last one back
  pub back_next : (i n : ℕ) (f : ℕ → A) → 0 < n → reverse (span i n f) ≡ f (i + (n - 1)) ∷ reverse (span i (n - 1) f)
  back_next i n f h =
      let e : n ≡ suc (n - 1) = omega arith in
      ap (λ k. reverse (span i k f)) e ∙ ap reverse (span-snoc i (n - 1) f) ∙ reverse_snoc (span i (n - 1) f) (f (i + (n - 1)))

  pub back_over : (i n : ℕ) (f : ℕ → A) → n ≤ 0 → reverse (span i n f) ≡ []
  back_over i n f h = let e : n ≡ 0 = omega arith in ap (λ k. reverse (span i k f)) e

  pub nth-span : (d : A) (i n : ℕ) (f : ℕ → A) (s : ℕ) → s < n → nth d (span i n f) (suc s) ≡ f (i + s)
  nth-span d i zero f s h = absurd (omega arith)
  nth-span d i (suc n) f zero h = let e : i ≡ i + 0 = omega arith in ap f e
  nth-span d i (suc n) f (suc s) h = let e : suc i + s ≡ i + suc s = omega arith in nth-span d (suc i) n f s (omega arith) ∙ ap f e

  pub nth_past : (d : A) (i n : ℕ) (f : ℕ → A) (s : ℕ) → n ≤ s → nth d (span i n f) (suc s) ≡ d
  nth_past d i zero f s h = refl
  nth_past d i (suc n) f zero h = absurd (omega arith)
  nth_past d i (suc n) f (suc s) h = nth_past d (suc i) n f s (omega arith)

  -- one element changed
  pub modify-span : (i n s : ℕ) (g : A → A) (f f' : ℕ → A) → s < n → f' (i + s) ≡ g (f (i + s)) → ((k : ℕ) → i ≤ k → k < i + n → k ≢ i + s → f' k ≡ f k) → span i n f' ≡ modify (suc s) g (span i n f)
  modify-span i zero s g f f' h same other = absurd (omega arith)
  modify-span i (suc n) zero g f f' h same other =
      let e : i + 0 ≡ i = omega arith in
      ap₂ {C = List A} (λ x xs. x ∷ xs) (rw e at same) (span_same (suc i) n f' f (λ k p q. other k (omega arith) (omega arith) (λ z. omega arith)))
  modify-span i (suc n) (suc s) g f f' h same other =
      let e : i + suc s ≡ suc i + s = omega arith in
      ap₂ {C = List A} (λ x xs. x ∷ xs) (other i (omega arith) (omega arith) (λ z. omega arith))
      (modify-span (suc i) n s g f f' (omega arith) (rw e at same) (λ k p q ne. other k (omega arith) (omega arith) (λ z. ne (z ∙ e))))

pub map-span : {A B : Type 0} (g : A → B) (i n : ℕ) (f : ℕ → A) → map g (span i n f) ≡ span i n (λ k. g (f k))
map-span g i zero f = refl
map-span g i (suc n) f = ap {B = List _} (λ xs. g (f i) ∷ xs) (map-span g (suc i) n f)

-- ---- counts on the way

-- k of the first i pass, and the rest are still to be counted
pub record Counted {A : Type 0} (p : A → Bool) (f : ℕ → A) (n i k : ℕ) : Type 0 where
  pub most : k ≤ i
  pub rest : k + count p (span i (n - i) f) ≡ count p (span 0 n f)

module _ {A : Type 0} (p : A → Bool) (f : ℕ → A) (n : ℕ) where
  pub count_begin : Counted p f n 0 0
  count_begin = let z : n ≡ n - 0 = omega arith in let e = ap (λ k. count p (span 0 k f)) z in record { most = omega arith; rest = omega arith }

  pub count_next : (i k b : ℕ) → Counted p f n i k → i < n → b ≡ bit (p (f i)) → Counted p f n (i + 1) (k + b)
  count_next i k b c h e =
      let r = ap (count p) (span-next i n f h) in
      let o = bit_most (p (f i)) in
      record { most = omega (arith, c.most); rest = omega (arith, c.rest) }

  pub count-over : (i k : ℕ) → Counted p f n i k → n ≤ i → k ≡ count p (span 0 n f)
  count-over i k c h = let e = ap (count p) (span-over i n f h) in omega (arith, c.rest)

-- ---- arrays

module _ {A : Type 0} where
  -- an array of nothing but its default
  pub get_or-blank : (n i : ℕ) (d : A) → get_or (replicate n d) i d ≡ d
  get_or-blank zero i d = refl
  get_or-blank (suc n) zero d = refl
  get_or-blank (suc n) (suc i) d = get_or-blank n i d

-- a place of the first i + 1 that is not the last
pub below : (i j : ℕ) → j ≢ i → j < i + 1 → j < i
below i j ne a = cases (ltb j i) (λ t. ltb-true j i t) (λ t. absurd (ne (let u = ltb-false j i t in omega arith)))

-- a property of every element, as a test
pub all-span : {A B : Type 0} (p : A → Bool) (q : B → Bool) (i n : ℕ) (f : ℕ → A) (g : ℕ → B) → ((k : ℕ) → p (f k) ≡ q (g k)) → all p (span i n f) ≡ all q (span i n g)
all-span p q i zero f g h = refl
all-span p q i (suc n) f g h = ap₂ (λ a b. a && b) (h i) (all-span p q (suc i) n f g h)

pub any-span : {A B : Type 0} (p : A → Bool) (q : B → Bool) (i n : ℕ) (f : ℕ → A) (g : ℕ → B) → ((k : ℕ) → p (f k) ≡ q (g k)) → any p (span i n f) ≡ any q (span i n g)
any-span p q i zero f g h = refl
any-span p q i (suc n) f g h = ap₂ (λ a b. a || b) (h i) (any-span p q (suc i) n f g h)

pub count-span : {A B : Type 0} (p : A → Bool) (q : B → Bool) (i n : ℕ) (f : ℕ → A) (g : ℕ → B) → ((k : ℕ) → p (f k) ≡ q (g k)) → count p (span i n f) ≡ count q (span i n g)
count-span p q i zero f g h = refl
count-span p q i (suc n) f g h = ap₂ (λ a b. bit a + b) (h i) (count-span p q (suc i) n f g h)

-- ---- rows

-- a row has no more values than it is given room for
pub row_most : (vs : List ℤ) (at n most : ℕ) → length (row vs at (min n most)) ≤ most
row_most vs at n most = let l = length-span at (min n most) (λ i. get_or vs i (pos 0)) in omega arith

-- as much of a list as it has
pub take-least : {A : Type 0} (n : ℕ) (xs : List A) → take (min (length xs) n) xs ≡ take n xs
take-least n xs = let e : min (length xs) n ≡ min n (length xs) = omega arith in ap (λ k. take k xs) e ∙ take_min n xs

-- a row, cut out of its array
part_row : (vs : List ℤ) (f w : ℕ) → f + w ≤ length vs → take w (drop f vs) ≡ row vs f w
part_row vs f zero h = refl
part_row vs f (suc w) h =
    ap (take (suc w)) (drop-cons vs f (pos 0) (omega arith))
    ∙ ap {B = List ℤ} (λ xs. get_or vs f (pos 0) ∷ xs) (part_row vs (suc f) w (omega arith))

-- lent as a part of its array
pub lent_row : (vs : List ℤ) (f w : ℕ) → f + w ≤ length vs → take (f + w - f) (drop f vs) ≡ row vs f w
lent_row vs f w h = let e : f + w - f ≡ w = omega arith in ap (λ n. take n (drop f vs)) e ∙ part_row vs f w h

pub front-row : (vs : List ℤ) (w : ℕ) → w ≤ length vs → take (w - 0) vs ≡ row vs 0 w
front-row vs w h = let e : w - 0 ≡ w = omega arith in ap (λ n. take n vs) e ∙ part_row vs 0 w (omega arith)
