-- Laws of a number's sign and width, and of a row's. Assumes nothing.
use Rattle.std.proofs.Common.{◌≡◌, ℕ, suc, ◌+◌, ◌*◌, ◌-◌, ◌<◌, ◌≤◌, true, false, List, [], ◌∷◌, ◌++◌, ℤ, pos, negsuc, nat_abs, leb, length, get_or, drop, sym, ap, ◌∙◌, subst, T, add-one, zero-add, arith, length-append, drop-cons}
use Rattle.std.proofs.Math.ListN.{drop_of_length-le}
use Rattle.std.specs.Int.Signed.{lt_z, mag}
use borrow.Author.Tests.{ltb-true, leb-true, leb-false, le-leb, lt-leb}
use mir.Syntax.{w32}
use mir.Val.{SFits, bool_byte, to_z, of_z}
use Rattle.std.proofs.Math.Facts.{to_z-of_z}
use Rattle.protocol.proofs.Laws.{cases}
use Rattle.format.specs.Sheets.{spaced}
use Rattle.format.specs.Numbers.{minus, digits, written}
use Rattle.format.specs.Lines.{space}
use Rattle.format.proofs.Digits.{length_most}
use Rattle.format.proofs.Texts.{written_pos, written_below, spaced-none, spaced_more}

pub written-plain : (x : ℤ) → lt_z x (pos 0) ≡ false → written x ≡ digits (nat_abs x)
written-plain (pos n) e = written_pos n
written-plain (negsuc n) e = absurd (subst T e tt)

pub written-minus : (x : ℤ) → lt_z x (pos 0) ≡ true → written x ≡ minus ∷ digits (nat_abs x)
written-minus (pos n) e = let l = ltb-true n 0 e in absurd (omega arith)
written-minus (negsuc n) e = written_below n

-- its length, with the bit of the test for a sign
pub written_length : (x : ℤ) → length (written x) ≡ bool_byte (lt_z x (pos 0)) + length (digits (nat_abs x))
written_length x = cases (lt_z x (pos 0))
    (λ t. rw t (ap length (written-minus x t) ∙ one-add (length (digits (nat_abs x)))))
    (λ t. rw t (ap length (written-plain x t) ∙ sym (zero-add (length (digits (nat_abs x))))))
  where
    one-add : (n : ℕ) → suc n ≡ 1 + n
    one-add n = omega arith

-- the same of a number as the code holds it
module _ (x : ℤ) (size : ℕ) (h : SFits w32 x) (e : size ≡ nat_abs (to_z w32 (of_z w32 x))) where
  pub length_read : length (written x) ≡ bool_byte (lt_z (to_z w32 (of_z w32 x)) (pos 0)) + length (digits size)
  length_read = let r = to_z-of_z h in rw e (rw r (written_length x))

  pub minus_read : lt_z (to_z w32 (of_z w32 x)) (pos 0) ≡ true → written x ≡ minus ∷ digits size
  minus_read t = let r = to_z-of_z h in rw e (rw r (written-minus x (rw r at t)))

  pub plain_read : lt_z (to_z w32 (of_z w32 x)) (pos 0) ≡ false → written x ≡ digits size
  plain_read t = let r = to_z-of_z h in rw e (rw r (written-plain x (rw r at t)))

-- ---- a row from one of its values on

-- a value that was read is the row's
pub value_read : (x : ℤ) → mag x < 2147483648 → to_z w32 (of_z w32 x) ≡ x
value_read x h = to_z-of_z {w = w32} (record { sfits = h })

module _ (row : List ℤ) (i : ℕ) (x : ℤ) (h : i < length row) (is : x ≡ get_or row i (pos 0)) where
  pub rest : spaced (drop i row) ≡ space ∷ written x ++ spaced (drop (i + 1) row)
  rest = rw (add-one i, drop-cons row i (pos 0) h, is) (spaced_more (get_or row i (pos 0)) (drop (suc i) row))

  pub rest-length : length (spaced (drop i row)) ≡ suc (length (written x) + length (spaced (drop (i + 1) row)))
  rest-length = ap length rest ∙ ap suc (length-append (written x) (spaced (drop (i + 1) row)))

pub rest-none : (row : List ℤ) (i : ℕ) → length row ≤ i → spaced (drop i row) ≡ []
rest-none row i h = ap spaced (drop_of_length-le row {i = i} h) ∙ spaced-none

-- ---- how much room a row needs at most

written_most : (x : ℤ) → mag x < 2147483648 → length (written x) ≤ 11
written_most (pos n) h = let e = ap length (written_pos n) in let m = length_most 9 n (omega arith) in omega arith
written_most (negsuc n) h = let e = ap length (written_below n) in let m = length_most 9 (suc n) (omega arith) in omega arith

-- the values before i are read
abbrev pub Read : List ℤ → ℕ → Type 0
Read row i = length (spaced row) ≤ 12 * i + length (spaced (drop i row))

pub read_next : (row : List ℤ) (i : ℕ) (x : ℤ) → Read row i → i < length row → x ≡ get_or row i (pos 0) → mag x < 2147483648 → Read row (i + 1)
read_next row i x r h is f = let l = rest-length row i x h is in let m = written_most x f in omega arith

pub read_over : (row : List ℤ) (i : ℕ) → Read row i → i ≡ length row → length (spaced row) ≤ 12 * length row
read_over row i r h = let e = ap length (rest-none row i (omega arith)) in omega arith

-- ---- how much room is left

leb-same : (a b c d : ℕ) → (a ≤ b → c ≤ d) → (b < a → d < c) → leb a b ≡ leb c d
leb-same a b c d f g = cases (leb a b)
    (λ t. t ∙ sym (le-leb c d (f (leb-true a b t))))
    (λ t. t ∙ sym (lt-leb c d (g (leb-false a b t))))

-- whether the whole row has room is whether its rest has what is left
abbrev pub Fitting : List ℤ → ℕ → ℕ → ℕ → Type 0
Fitting row room left i = leb (length (spaced row)) room ≡ leb (length (spaced (drop i row))) left

module _ (row : List ℤ) (room left i : ℕ) (r : Fitting row room left i) where
  module _ (x : ℤ) (w : ℕ) (h : i < length row) (is : x ≡ get_or row i (pos 0)) (e : w ≡ length (written x)) where
    pub fitting_stop : left ≤ w → false ≡ leb (length (spaced row)) room
    fitting_stop l = let k = rest-length row i x h is in sym (r ∙ lt-leb (length (spaced (drop i row))) left (omega arith))

    pub fitting_next : w < left → Fitting row room (left - (w + 1)) (i + 1)
    fitting_next l =
        let k = rest-length row i x h is in
        r ∙ leb-same (length (spaced (drop i row))) left (length (spaced (drop (i + 1) row))) (left - (w + 1)) (λ p. omega arith) (λ p. omega arith)

  pub fitting_over : length row ≤ i → true ≡ leb (length (spaced row)) room
  fitting_over h =
      let e : length (spaced (drop i row)) ≡ 0 = ap length (rest-none row i h) in
      sym (r ∙ le-leb (length (spaced (drop i row))) left (omega arith))
