-- Chains in rising slots: where they lie, and what is read from them. Assumes nothing.
use Prim.Native.Nat.{ℕ, zero, suc, ◌+◌, ◌*◌, ◌<◌, ◌≤◌}
use mathlib.Core.Path.{◌≡◌, refl, ap, ap₂, ◌∙◌}
use mathlib.Core.Bool.{Bool, true, false, not}
use mathlib.Core.List.{List, [], ◌∷◌, ◌++◌, map, append_assoc}
use native.Mathlib.Omega.{arith}
use borrow.Author.Tests.{lt-leb, ne_eqb}
use lib.Dec.{T, eqb, leb}
use lib.ListN.{get_or, drop, length, length-append}
use lib.Seq.{take_at, drop_at, get_or-take, get_or-drop}
use Rattle.protocol.specs.Lists.{all, any, count_to}
use Rattle.protocol.proofs.Laws.{decide, and_in, both, or_left, or_right, same-no, count_to-none}
use Rattle.file.specs.Saved.{start_at, slots_from}
use Rattle.file.specs.Loaded.{slot_in, next_in, chain, elem, repeats}
use Rattle.file.specs.Promises.{rising_from}

pub rising_add : (k a b : ℕ) → rising_from k a ++ rising_from (k + a) b ≡ rising_from k (a + b)
rising_add k zero b = let e : k + 0 ≡ k = omega arith in let z : 0 + b ≡ b = omega arith in rw (e, z)
rising_add k (suc a) b = let e : k + suc a ≡ suc k + a = omega arith in let z : suc a + b ≡ suc (a + b) = omega arith in rw (e, z) (ap (λ ks. k ∷ ks) (rising_add (suc k) a b))

-- ---- the tests of the slots met

pub rising_stays : (c k n : ℕ) → k + n ≤ c → any (λ x. leb c x) (rising_from k n) ≡ false
rising_stays c k zero h = refl
rising_stays c k (suc n) h = rw (lt-leb c k (omega arith)) (rising_stays c (suc k) n (omega arith))

elem-after : (s k n : ℕ) → s < k → elem s (rising_from k n) ≡ false
elem-after s k zero h = refl
elem-after s k (suc n) h = rw (ne_eqb s k (λ e. omega arith)) (elem-after s (suc k) n (omega arith))

pub rising_once : (k n : ℕ) → repeats (rising_from k n) ≡ false
rising_once k zero = refl
rising_once k (suc n) = rw (elem-after k (suc k) n (omega arith)) (rising_once (suc k) n)

elem_in : (s k n : ℕ) → k ≤ s → s < k + n → T (elem s (rising_from k n))
elem_in s k zero p q = absurd (omega arith)
elem_in s k (suc n) p q = decide (eqb s k)
    (λ t. or_left (eqb s k) _ t)
    (λ t. let e = same-no s k t in or_right (eqb s k) _ (elem_in s (suc k) n (omega arith) (omega arith)))

pub in_not : (b : Bool) → T b → T (not (not b))
in_not true t = tt
in_not false t = t

pub rising_full : (n : ℕ) → count_to (λ s. not (elem s (rising_from 1 n))) n ≡ 0
rising_full n = count_to-none (λ s. not (elem s (rising_from 1 n))) n (λ s p q. in_not (elem s (rising_from 1 n)) (elem_in s 1 n p (omega arith)))

-- ---- a chain laid in rising slots

pub start_most : {A : Type 0} (k : ℕ) (xs : List A) → start_at k xs ≤ k
start_most k [] = omega arith
start_most k (x ∷ xs) = omega arith

module _ {A : Type 0} (g : ℕ → A → List ℕ) where
  -- slots k, k + 1 and on of a file are those of the list
  abbrev pub Laid : List ℕ → ℕ → List A → Type 0
  Laid f k [] = Unit {0}
  Laid f k (x ∷ xs) = (slot_in f k ≡ g (start_at (suc k) xs) x) × Laid f (suc k) xs

  pub laid : ((n : ℕ) (x : A) → length (g n x) ≡ 16) → (f pre : List ℕ) (k : ℕ) (xs : List A) (post : List ℕ)
      → f ≡ pre ++ (slots_from g k xs ++ post) → length pre ≡ 16 * k → Laid f k xs
  unfolding slot_in
  laid h f pre k [] post e l = tt
  laid h f pre k (x ∷ xs) post e l =
      let s = g (start_at (suc k) xs) x in
      let c = h (start_at (suc k) xs) x in
      let a = length-append pre s in
      let ih = laid h f (pre ++ s) (suc k) xs post in (
        rw (e, drop_at pre ((s ++ slots_from g (suc k) xs) ++ post) (16 * k) l, append_assoc s (slots_from g (suc k) xs) post) (take_at s (slots_from g (suc k) xs ++ post) 16 c),
        ih (e ∙ rw (append_assoc s (slots_from g (suc k) xs) post, append_assoc pre s (slots_from g (suc k) xs ++ post))) (omega arith),
      )

  -- it is followed from slot to slot
  pub followed : ((n : ℕ) (x : A) → n < 65_536 → next_in (g n x) ≡ n)
      → (f : List ℕ) (k : ℕ) (xs : List A) (n : ℕ) → Laid f k xs → 0 < k → k + length xs < 65_536 → length xs ≤ n → chain f n (start_at k xs) ≡ rising_from k (length xs)
  followed h f k [] zero l p q r = refl
  followed h f k [] (suc n) l p q r = refl
  followed h f k (x ∷ xs) zero l p q r = absurd (omega arith)
  followed h f k (x ∷ xs) (suc n) l p q r =
      let m = start_most (suc k) xs in
      let ih = followed h f (suc k) xs n l.1 (omega arith) (omega arith) (omega arith) in
      rw (ne_eqb k 0 (λ e. omega arith), l.0, h (start_at (suc k) xs) x (omega arith)) (ap (λ ks. k ∷ ks) ih)

  -- and what is read from each slot is the list's
  pub read_back : {C : Type 0} (read : List ℕ → C) (back : A → C) (p : A → Bool) → ((n : ℕ) (x : A) → T (p x) → read (g n x) ≡ back x)
      → (f : List ℕ) (k : ℕ) (xs : List A) → T (all p xs) → Laid f k xs → map (λ i. read (slot_in f i)) (rising_from k (length xs)) ≡ map back xs
  read_back read back p h f k [] t l = refl
  read_back read back p h f k (x ∷ xs) t l =
      let b = both (p x) (all p xs) t in
      ap₂ (λ y ys. y ∷ ys) (ap read l.0 ∙ h (start_at (suc k) xs) x b.0) (read_back read back p h f (suc k) xs b.1 l.1)

  pub test_back : (test : List ℕ → Bool) → ((n : ℕ) (x : A) → T (test (g n x))) → (f : List ℕ) (k : ℕ) (xs : List A) → Laid f k xs → T (all (λ i. test (slot_in f i)) (rising_from k (length xs)))
  test_back test h f k [] l = tt
  test_back test h f k (x ∷ xs) l = and_in (test (slot_in f k)) _ (rw l.0 (h (start_at (suc k) xs) x)) (test_back test h f (suc k) xs l.1)

-- ---- for the program: byte i of slot k, as an array has it

-- Byte i of slot k stands at place 16 k + i of the file.
pub slot_byte : (f : List ℕ) (k i : ℕ) → i < 16 → get_or (slot_in f k) i 0 ≡ get_or f (16 * k + i) 0
unfolding slot_in
slot_byte f k i h = get_or-take 16 (drop (16 * k) f) i 0 h ∙ get_or-drop (16 * k) f i 0
