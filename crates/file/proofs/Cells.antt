-- The bytes of a list of known length, one by one; the words of a slot, and their sum. Assumes nothing.
use Prim.Native.Nat.{ℕ, zero, suc, ◌+◌, ◌*◌, ◌≤◌}
use native.Mathlib.Nat.{zero-add, add-zero, suc-add}
use native.Mathlib.Omega.{arith}
use mathlib.Core.Path.{◌≡◌, ap, ap₂, ◌∙◌}
use mathlib.Core.List.{List, [], ◌∷◌, ◌++◌}
use lib.ListN.{length, get_or, take, drop, drop_of_length-le, length-take, length-drop}
use lib.Seq.{drop-cons}
use Rattle.file.specs.Bytes.{two_at, four_at, total}
use Rattle.file.specs.Loaded.{slot_in}
use Rattle.file.proofs.Sums.{total-append}
use Rattle.file.proofs.Chains.{slot_byte}

abbrev pub cells : ℕ → ℕ → List ℕ → List ℕ
cells zero i s = []
cells (suc n) i s = get_or s i 0 ∷ cells n (suc i) s

pub cells_of : (n i : ℕ) (s : List ℕ) → length s ≡ i + n → drop i s ≡ cells n i s
cells_of zero i s e = drop_of_length-le s {i = i} (omega arith)
cells_of (suc n) i s e = drop-cons s i 0 (omega arith) ∙ ap (λ t. get_or s i 0 ∷ t) (cells_of n (suc i) s (omega arith))

-- the sum of a slot's words
pub total-slot : (s : List ℕ) → length s ≡ 16 → total s ≡ four_at s 0 + four_at s 4 + (four_at s 8 + four_at s 12)
unfolding total four_at two_at
total-slot s e = ap total (cells_of 16 0 s e) ∙ omega arith

-- half a word of a slot, and a word, is one of the file
pub two_slot : (f : List ℕ) (k i : ℕ) → i ≤ 14 → two_at (slot_in f k) i ≡ two_at f (16 * k + i)
unfolding two_at
two_slot f k i h =
    let e : 16 * k + (i + 1) ≡ 16 * k + i + 1 = omega arith in
    ap₂ (λ x y. x + 256 * y) (slot_byte f k i (omega arith)) (slot_byte f k (i + 1) (omega arith) ∙ ap (λ n. get_or f n 0) e)

pub four_slot : (f : List ℕ) (k i : ℕ) → i ≤ 12 → four_at (slot_in f k) i ≡ four_at f (16 * k + i)
unfolding four_at
four_slot f k i h =
    let e : 16 * k + (i + 2) ≡ 16 * k + i + 2 = omega arith in
    ap₂ (λ x y. x + 65_536 * y) (two_slot f k i (omega arith)) (two_slot f k (i + 2) (omega arith) ∙ ap (two_at f) e)

-- a part of a list in two parts
pub take_both : {A : Type 0} (a b : ℕ) (xs : List A) → take (a + b) xs ≡ take a xs ++ take b (drop a xs)
take_both zero b xs = ap (λ n. take n xs) (zero-add b)
take_both (suc a) zero [] = ap (λ n. take n []) (add-zero (suc a))
take_both {A} (suc a) (suc b) [] = ap (λ n. take {A = A} n []) (suc-add a (suc b))
take_both {A} (suc a) b (x ∷ xs) = ap (λ n. take n (x ∷ xs)) (suc-add a b) ∙ ap {B = List A} (λ ys. x ∷ ys) (take_both a b xs)

-- the sum of the first slots, with one more
pub total_more : (f : List ℕ) (k : ℕ) → 16 * suc k ≤ length f
    → let s = slot_in f k in total (take (16 * suc k) f) ≡ total (take (16 * k) f) + (four_at s 0 + four_at s 4 + (four_at s 8 + four_at s 12))
unfolding slot_in
total_more f k h =
    let e : 16 * suc k ≡ 16 * k + 16 = omega arith in
    let l = length-take (16 * k) f in
    let d = length-drop (16 * k) f in
    let t = length-take 16 (drop (16 * k) f) in
    ap (λ n. total (take n f)) e ∙ ap total (take_both (16 * k) 16 f) ∙ total-append (take (16 * k) f) (take 16 (drop (16 * k) f)) (omega arith)
    ∙ ap (λ n. total (take (16 * k) f) + n) (total-slot (take 16 (drop (16 * k) f)) (omega arith))
