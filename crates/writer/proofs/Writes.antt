-- Laws of bytes put at a place, one store after the other. Assumes nothing.
use Rattle.std.proofs.Common.{◌≡◌, ℕ, suc, ◌+◌, ◌-◌, ◌/◌, ◌%◌, ◌<◌, ◌≤◌, List, [], ◌∷◌, ◌++◌, ℤ, pos, length, get_or, set, drop, refl, sym, ap, ap₂, ◌∙◌, append_assoc, length-append, add-one, arith}
use Rattle.std.proofs.lemmas.List.{set_comm}
use Rattle.std.proofs.lemmas.List.Edits.{sets}
use Rattle.format.specs.Numbers.{digits, written}
use Rattle.format.specs.Sheets.{spaced}
use Rattle.format.specs.Lines.{space}
use Rattle.format.proofs.Digits.{digits_one, digits_more, length_more, length_some}
use Rattle.writer.specs.Writes.{two_digits}
use Rattle.writer.proofs.Widths.{rest, rest-length, rest-none}

module _ {A : Type 0} where
  pub sets_append : (l : List A) (i : ℕ) (xs ys : List A) → sets l i (xs ++ ys) ≡ sets (sets l i xs) (i + length xs) ys
  sets_append l i [] ys = let e : i ≡ i + 0 = omega arith in ap (λ k. sets l k ys) e
  sets_append l i (x ∷ xs) ys =
      let e : suc i + length xs ≡ i + suc (length xs) = omega arith in
      sets_append (set l i x) (suc i) xs ys ∙ ap (λ k. sets (sets (set l i x) (suc i) xs) k ys) e

  -- a store behind them may come first
  sets_later : (l : List A) (i : ℕ) (xs : List A) (j : ℕ) (b : A) → i + length xs ≤ j → sets (set l j b) i xs ≡ set (sets l i xs) j b
  sets_later l i [] j b h = refl
  sets_later l i (x ∷ xs) j b h =
      ap (λ m. sets m (suc i) xs) (set_comm l j i b x (λ e. omega arith)) ∙ sets_later (set l i x) (suc i) xs j b (omega arith)

  sets_swap : (l : List A) (i : ℕ) (xs : List A) (j : ℕ) (ys : List A) → i + length xs ≤ j → sets (sets l j ys) i xs ≡ sets (sets l i xs) j ys
  sets_swap l i xs j [] h = refl
  sets_swap l i xs j (y ∷ ys) h = sets_swap (set l j y) i xs (suc j) ys (omega arith) ∙ ap (λ m. sets m (suc j) ys) (sets_later l i xs j y h)

  -- the last bytes first
  pub sets_back : (l : List A) (i : ℕ) (xs : List A) (j : ℕ) (ys : List A) → i + length xs ≡ j → sets (sets l j ys) i xs ≡ sets l i (xs ++ ys)
  sets_back l i xs j ys e = sets_swap l i xs j ys (omega arith) ∙ ap (λ k. sets (sets l i xs) k ys) (sym e) ∙ sym (sets_append l i xs ys)

  pub sets_before : (l : List A) (i : ℕ) (b : A) (j : ℕ) (ys : List A) → i + 1 ≡ j → set (sets l j ys) i b ≡ sets l i (b ∷ ys)
  sets_before l i b j ys e = sets_back l i (b ∷ []) j ys e

-- ---- digits, from the last to the first

digits_two : (m : ℕ) → 100 ≤ m → digits m ≡ digits (m / 100) ++ two_digits (m % 100)
digits_two m h =
    let q : m / 10 / 10 ≡ m / 100 = omega arith in
    let ten : m / 10 % 10 ≡ m % 100 / 10 = omega arith in
    let one : m % 10 ≡ m % 100 % 10 = omega arith in
    digits_more m (omega arith)
    ∙ ap₂ (λ ds b. ds ++ (b ∷ [])) (digits_more (m / 10) (omega arith) ∙ ap₂ (λ n b. digits n ++ ((48 + b) ∷ [])) q ten) (ap (λ b. 48 + b) one)
    ∙ append_assoc (digits (m / 100)) ((48 + m % 100 / 10) ∷ []) ((48 + m % 100 % 10) ∷ [])

pub digits_last : (m : ℕ) → 10 ≤ m → m < 100 → digits m ≡ two_digits m
digits_last m h g = digits_more m h ∙ ap (λ ds. ds ++ ((48 + m % 10) ∷ [])) (digits_one (m / 10) (omega arith))

-- what is left to write are the digits of m, up to a place: there is room for one, and where two are left for both
pub record Writing (n at : ℕ) (area₀ area : List ℕ) (m i : ℕ) : Type 0 where
  pub place : at + length (digits m) ≡ i
  pub most : i ≤ at + length (digits n)
  pub one : at < i
  pub two : 10 ≤ m → at + 2 ≤ i
  pub left : sets area₀ at (digits n) ≡ sets area at (digits m)

writing : (n at : ℕ) (area₀ area : List ℕ) (m i : ℕ) → at + length (digits m) ≡ i → i ≤ at + length (digits n) → sets area₀ at (digits n) ≡ sets area at (digits m) → Writing n at area₀ area m i
writing n at area₀ area m i e h l =
    let some = length_some m in
    record {
      place = e;
      most = h;
      one = omega arith;
      two = λ t. let more = length_more m t in let before = length_some (m / 10) in omega arith;
      left = l;
    }

pub writing_begin : (n at : ℕ) (area : List ℕ) (i : ℕ) → at + length (digits n) ≡ i → Writing n at area area n i
writing_begin n at area i e = writing n at area area n i e (omega arith) refl

module _ {n at : ℕ} {area₀ area : List ℕ} {m i : ℕ} (r : Writing n at area₀ area m i) where
  pub writing_next : 100 ≤ m → (after : List ℕ) → after ≡ sets area (i - 2) (two_digits (m % 100)) → Writing n at area₀ after (m / 100) (i - 2)
  writing_next h after e =
      let d = digits_two m h in
      let l : length (digits m) ≡ length (digits (m / 100)) + 2 = ap length d ∙ length-append (digits (m / 100)) (two_digits (m % 100)) in
      let p : at + length (digits (m / 100)) ≡ i - 2 = omega (arith, r.place) in
      writing n at area₀ after (m / 100) (i - 2) p (omega (arith, r.most))
      (r.left ∙ ap (sets area at) d ∙ sym (ap (λ a. sets a at (digits (m / 100))) e ∙ sets_back area at (digits (m / 100)) (i - 2) (two_digits (m % 100)) p))

  pub writing_last_two : 10 ≤ m → m < 100 → (after : List ℕ) → after ≡ sets area (i - 2) (two_digits m) → (after ≡ sets area₀ (i - 2) (digits n)) × (i - 2 ≡ at)
  writing_last_two h g after e =
      let d = digits_last m h g in
      let l : length (digits m) ≡ 2 = ap length d in
      let p : i - 2 ≡ at = omega (arith, r.place) in
      (e ∙ ap₂ (λ k ds. sets area k ds) p (sym d) ∙ sym (ap (λ k. sets area₀ k (digits n)) p ∙ r.left), p)

  pub writing_last : m < 10 → (set area (i - 1) (48 + m) ≡ sets area₀ (i - 1) (digits n)) × (i - 1 ≡ at)
  writing_last h =
      let d = digits_one m h in
      let l : length (digits m) ≡ 1 = ap length d in
      let p : i - 1 ≡ at = omega (arith, r.place) in
      (ap₂ (λ k ds. sets area k ds) p (sym d) ∙ sym (ap (λ k. sets area₀ k (digits n)) p ∙ r.left), p)

-- a byte in front of others
pub sets_more : (area : List ℕ) (at b : ℕ) (bs : List ℕ) → sets (set area at b) (at + 1) bs ≡ sets area at (b ∷ bs)
sets_more area at b bs = ap (λ k. sets (set area at b) k bs) (add-one at)

-- bytes put up to a place, and others up to where those begin
pub put_before : (area before after : List ℕ) (at middle end : ℕ) (xs ys : List ℕ) → before ≡ sets area middle ys → middle + length ys ≡ end → after ≡ sets before at xs → at + length xs ≡ middle
    → (after ≡ sets area at (xs ++ ys)) × (at + length (xs ++ ys) ≡ end)
put_before area before after at middle end xs ys e f g h =
    let l = length-append xs ys in
    (g ∙ ap (λ m. sets m at xs) e ∙ sets_back area at xs middle ys h, omega arith)

-- ---- a row, value by value

-- what is left to write are the values from i on
pub record Rowing (row : List ℤ) (at : ℕ) (area₀ area : List ℕ) (end i : ℕ) : Type 0 where
  pub place : end + length (spaced (drop i row)) ≡ at + length (spaced row)
  pub left : sets area₀ at (spaced row) ≡ sets area end (spaced (drop i row))

module _ {row : List ℤ} {at : ℕ} {area₀ area : List ℕ} {end i : ℕ} (r : Rowing row at area₀ area end i) where
  module _ (x : ℤ) (h : i < length row) (is : x ≡ get_or row i (pos 0)) where
    pub rowing_room : end + suc (length (written x)) ≤ at + length (spaced row)
    rowing_room = let w = rest-length row i x h is in omega (arith, r.place)

    pub rowing_next : (after : List ℕ) (next : ℕ) → after ≡ sets (set area end 32) (end + 1) (written x) → next ≡ end + 1 + length (written x) → Rowing row at area₀ after next (i + 1)
    rowing_next after next e f =
        let w = rest-length row i x h is in
        let put = e ∙ sets_more area end 32 (written x) in
        let n : end + suc (length (written x)) ≡ next = omega arith in
        record {
          place = omega (arith, r.place);
          left = r.left ∙ ap (sets area end) (rest row i x h is) ∙ sets_append area end (space ∷ written x) (spaced (drop (i + 1) row)) ∙ ap₂ (λ l k. sets l k (spaced (drop (i + 1) row))) (sym put) n;
        }

  pub rowing_over : length row ≤ i → (area ≡ sets area₀ at (spaced row)) × (end ≡ at + length (spaced row))
  rowing_over h =
      let e : spaced (drop i row) ≡ [] = rest-none row i h in
      let l = ap length e in
      (sym (r.left ∙ ap (sets area end) e), omega (arith, r.place))
