-- Laws of reading a number byte by byte. Assumes nothing.
use Prim.Native.Nat.{ℕ, zero, suc, ◌+◌, ◌*◌, ◌-◌, ◌^◌, ◌<◌, ◌≤◌}
use native.Mathlib.Omega.{arith}
use native.Mathlib.Numerals.{add-one}
use native.Mathlib.Nat.{pow-le-pow_right, zero-add}
use mathlib.Core.Bool.{true, false, cond, ◌&&◌, and-false}
use mathlib.Core.Path.{◌≡◌, refl, sym, ap, ◌∙◌, subst}
use mathlib.Core.Logic.{◌⊎◌, inl, inr}
use mathlib.Core.List.{List, [], ◌∷◌}
use mathlib.Core.Option.{none, some}
use borrow.Author.Tests.{ltb-true, ltb-false, eqb-true, eqb-false, ne_eqb, le-leb, lt-leb, lt-ltb}
use lib.Dec.{eqb, leb, ltb, leb-suc-suc}
use lib.IntN.{pos, negsuc, ◌-ℤ◌}
use lib.ListN.{length, get_or}
use mir.Syntax.{w32}
use mir.Val.{SFits, to_z, of_z}
use mir.Facts.{to_z_pos, to_z-of_z}
use Rattle.protocol.specs.Lists.{bit, all, neg}
use Rattle.protocol.proofs.Laws.{cases}
use Rattle.format.specs.Lines.{space, line_feed}
use Rattle.format.specs.Numbers.{minus, nought, is_digit, decimal, is_magnitude, number}
use Rattle.format.proofs.Digits.{digit_range}
use Rattle.format.proofs.Inverse.{magnitude, magnitude_below, decimal-first}
use Rattle.std.specs.Prelude.{Option, None}
use Rattle.reader.specs.declared.Found.{Found}
use Rattle.reader.specs.Cut.{first_line}
use Rattle.reader.specs.Reads.{behind_it, word_at, number_at, magnitude_at, followed, is_end, ending}
use Rattle.reader.proofs.Cut.{up_to-over, up_to-stop, up_to-next, line_over, line_here, word_ends, word_goes}

-- ---- what was found

pub same_found : {A : Type 0} (x y : A) (n m : ℕ) → behind_it x n ≡ behind_it y m → (x ≡ y) × (n ≡ m)
same_found {A} x y n m e =
    let f : ◌≡◌ {A = Found A} (record { value = x; next = n }) (record { value = y; next = m }) = cc in
    (ap (λ (v : Found A). v.value) f, ap (λ (v : Found A). v.next) f)

-- ---- the word at a place

-- it is empty, or begins with the byte there
pub word_first : (line : List ℕ) (at : ℕ) → at < length line → (word_at line at ≡ []) ⊎ (word_at line at ≡ get_or line at 0 ∷ word_at line (at + 1))
word_first line at h = cases (eqb (get_or line at 0) space)
    (λ t. inl (up_to-stop space line at h (eqb-true (get_or line at 0) space t)))
    (λ t. inr (up_to-next space line at h (eqb-false (get_or line at 0) space t)))

-- ---- the digits behind the first

module _ (k n at : ℕ) where
  pub followed-end : k ≤ 8 → followed k n at [] ≡ behind_it n at
  unfolding followed
  followed-end h =
      let e : k + 0 ≡ k = omega arith in
      let f : at + 0 ≡ at = omega arith in
      rw (e, f, le-leb k 8 h)

  pub followed-next : (b : ℕ) (bs : List ℕ) → 48 ≤ b → b ≤ 57 → followed k n at (b ∷ bs) ≡ followed (k + 1) (10 * n + (b - nought)) (at + 1) bs
  unfolding followed
  followed-next b bs p q =
      let e : k + suc (length bs) ≡ k + 1 + length bs = omega arith in
      let f : at + suc (length bs) ≡ at + 1 + length bs = omega arith in
      rw (le-leb 48 b p, le-leb b 57 q, e, f)

  pub followed_low : (b : ℕ) (bs : List ℕ) → b < 48 → followed k n at (b ∷ bs) ≡ None
  unfolding followed
  followed_low b bs p = rw (lt-leb 48 b p)

  pub followed_high : (b : ℕ) (bs : List ℕ) → 57 < b → followed k n at (b ∷ bs) ≡ None
  unfolding followed
  followed_high b bs p = rw (lt-leb b 57 p, and-false (leb 48 b))

  pub followed-long : (b : ℕ) (bs : List ℕ) → 8 ≤ k → followed k n at (b ∷ bs) ≡ None
  unfolding followed
  followed-long b bs p = rw (lt-leb (k + suc (length bs)) 8 (omega arith), and-false (all is_digit (b ∷ bs)))

digit_below : (n k d : ℕ) → n < 10 ^ k → d < 10 → 10 * n + d < 10 ^ (k + 1)
digit_below n k d p q = let t : 10 ^ suc k ≡ 10 * 10 ^ k = omega arith in rw (add-one k) (omega arith)

-- the digits are read up to a place: the number so far stays below a power of ten
abbrev pub Reading : List ℕ → ℕ → ℕ → ℕ → ℕ → Type 0
Reading line from first n i =
    (from ≤ i) × (i ≤ length line) × (i - from ≤ 8) × (n < 10 ^ (i - from + 1)) × (followed 0 first from (word_at line from) ≡ followed (i - from) n i (word_at line i))

module _ (line : List ℕ) (from first n i : ℕ) (r : Reading line from first n i) where
  pub reading-stop : word_at line i ≡ [] → behind_it n i ≡ followed 0 first from (word_at line from)
  reading-stop e = sym (r.4 ∙ ap (followed (i - from) n i) e ∙ followed-end (i - from) n i r.2)

  module _ (h : i < length line) (ne : get_or line i 0 ≡ 32 → ⊥) where
    here : followed 0 first from (word_at line from) ≡ followed (i - from) n i (get_or line i 0 ∷ word_at line (i + 1))
    here = r.4 ∙ ap (followed (i - from) n i) (up_to-next space line i h ne)

    pub reading_low : get_or line i 0 < 48 → None ≡ followed 0 first from (word_at line from)
    reading_low p = sym (here ∙ followed_low (i - from) n i (get_or line i 0) (word_at line (i + 1)) p)

    pub reading_high : 57 < get_or line i 0 → None ≡ followed 0 first from (word_at line from)
    reading_high p = sym (here ∙ followed_high (i - from) n i (get_or line i 0) (word_at line (i + 1)) p)

    pub reading-long : 8 ≤ i - from → None ≡ followed 0 first from (word_at line from)
    reading-long p = sym (here ∙ followed-long (i - from) n i (get_or line i 0) (word_at line (i + 1)) p)

    pub reading-next : 48 ≤ get_or line i 0 → get_or line i 0 ≤ 57 → i - from < 8 → Reading line from first (10 * n + (get_or line i 0 - 48)) (i + 1)
    reading-next p q l =
        let b = get_or line i 0 in
        let e : i + 1 - from ≡ i - from + 1 = omega (arith, r.0) in (
          omega (arith, r.0),
          omega arith,
          omega (arith, r.0),
          rw e (digit_below n (i - from + 1) (b - 48) r.3 (omega arith)),
          rw e (here ∙ followed-next (i - from) n i b (word_at line (i + 1)) p q),
        )

  pub reading_small : i - from < 8 → n < 100000000
  reading_small l = let m = pow-le-pow_right {n = 10} (omega arith) {i = i - from + 1} {j = 8} (omega arith) in omega (arith, r.3)

-- the same on the sheet, whose first line is read: the byte at hand is a line feed past its end
module _ (bs : List ℕ) (from first n i : ℕ) (r : Reading (first_line bs) from first n i) where
  ended_is : (is_end (get_or bs i line_feed) ≡ false → None ≡ followed 0 first from (word_at (first_line bs) from)) → ending (get_or bs i line_feed) n i ≡ followed 0 first from (word_at (first_line bs) from)
  ended_is f = cases (is_end (get_or bs i line_feed))
      (λ t. ap (λ c. cond c (behind_it n i) None) t ∙ reading-stop (first_line bs) from first n i r (word_ends bs i r.1 t))
      (λ t. ap (λ c. cond c (behind_it n i) None) t ∙ f t)

  -- a byte that is no digit
  pub stop_short : (48 ≤ get_or bs i line_feed → get_or bs i line_feed ≤ 57 → ⊥) → ending (get_or bs i line_feed) n i ≡ followed 0 first from (word_at (first_line bs) from)
  stop_short p = ended_is (λ t.
      let g = word_goes bs i r.1 t in
      let b = get_or (first_line bs) i 0 in
      cases (ltb b 48)
      (λ u. reading_low (first_line bs) from first n i r g.0 g.2 (ltb-true b 48 u))
      (λ u. cases (ltb 57 b)
      (λ v. reading_high (first_line bs) from first n i r g.0 g.2 (ltb-true 57 b v))
      (λ v. let l = ltb-false b 48 u in let h = ltb-false 57 b v in absurd (p (omega (arith, g.1)) (omega (arith, g.1))))))

  -- behind nine digits
  pub stop-long : 8 ≤ i - from → ending (get_or bs i line_feed) n i ≡ followed 0 first from (word_at (first_line bs) from)
  stop-long p = ended_is (λ t. let g = word_goes bs i r.1 t in reading-long (first_line bs) from first n i r g.0 g.2 p)

  module _ (p : 48 ≤ get_or bs i line_feed) where
    abbrev goes : (i < length (first_line bs)) × (get_or (first_line bs) i 0 ≡ get_or bs i line_feed)
    goes = line_here bs i r.1 (λ e. omega arith)

    apart : get_or (first_line bs) i 0 ≡ 32 → ⊥
    apart e = omega (arith, goes.1)

    pub goes_on : get_or bs i line_feed ≤ 57 → i - from < 8 → Reading (first_line bs) from first (10 * n + (get_or bs i line_feed - 48)) (i + 1)
    goes_on q l = subst (λ b. Reading (first_line bs) from first (10 * n + (b - 48)) (i + 1)) goes.1
        (reading-next (first_line bs) from first n i r goes.0 apart (omega (arith, goes.1)) (omega (arith, goes.1)) l)

-- ---- a magnitude

module _ (line : List ℕ) (at : ℕ) where
  pub magnitude_over : length line ≤ at → magnitude_at line at ≡ None
  unfolding magnitude_at
  magnitude_over h = rw (up_to-over space line at h)

  -- a byte that is no first digit
  pub magnitude_bad : at < length line → (48 < get_or line at 0 → get_or line at 0 ≤ 57 → ⊥) → magnitude_at line at ≡ None
  unfolding magnitude_at
  magnitude_bad h no_digit = by (word_first line at h)
    where
      bad : (bs : List ℕ) → is_magnitude (get_or line at 0 ∷ bs) ≡ true → ⊥
      bad bs e =
          let m = magnitude (get_or line at 0) bs e in
          let r = digit_range (get_or line at 0) m.first in
          no_digit (above (get_or line at 0) r.0 m.leading) r.1
        where
          above : (b : ℕ) → 48 ≤ b → (b ≡ 48 → ⊥) → 48 < b
          above b p q = omega arith

      by : (word_at line at ≡ []) ⊎ (word_at line at ≡ get_or line at 0 ∷ word_at line (at + 1)) → cond (is_magnitude (word_at line at)) (behind_it (decimal 0 (word_at line at)) (at + length (word_at line at)))
          None ≡ None
      by (inl e) = rw e
      by (inr e) = rw e (cases (is_magnitude (get_or line at 0 ∷ word_at line (at + 1))) (λ t. absurd (bad (word_at line (at + 1)) t)) (λ t. rw t))

  pub magnitude_first : at < length line → 48 < get_or line at 0 → get_or line at 0 ≤ 57 → magnitude_at line at ≡ followed 0 (get_or line at 0 - 48) (at + 1) (word_at line (at + 1))
  unfolding magnitude_at followed
  magnitude_first h p q =
      let b = get_or line at 0 in
      let w = word_at line (at + 1) in
      let f : at + suc (length w) ≡ at + 1 + length w = omega arith in
      rw (up_to-next space line at h (λ e. omega arith), ne_eqb b nought (λ e. omega arith), le-leb 48 b (omega arith), le-leb b 57 q, leb-suc-suc (length w) 8, zero-add (length w), f)
      (ap (λ n. cond (all is_digit w && leb (length w) 8) (behind_it n (at + 1 + length w)) None) (decimal-first b w))

  -- what a magnitude that was read says of the word
  pub magnitude_is : (n next : ℕ) → magnitude_at line at ≡ behind_it n next → (is_magnitude (word_at line at) ≡ true) × (n ≡ decimal 0 (word_at line at)) × (next ≡ at + length (word_at line at))
  unfolding magnitude_at
  magnitude_is n next e = cases (is_magnitude (word_at line at))
      (λ t.
      let f = same_found (decimal 0 (word_at line at)) n (at + length (word_at line at)) next (rw t at e) in
      (t, sym f.0, sym f.1))
      (λ t. let f : None ≡ behind_it n next = rw t at e in (cc, cc, cc))

  pub magnitude_not : magnitude_at line at ≡ None → is_magnitude (word_at line at) ≡ false
  unfolding magnitude_at
  magnitude_not e = cases (is_magnitude (word_at line at))
      (λ t. let f : behind_it (decimal 0 (word_at line at)) (at + length (word_at line at)) ≡ None = rw t at e in cc)
      (λ t. t)

-- ---- a number

module _ (line : List ℕ) (at : ℕ) where
  pub number-over : length line ≤ at → number_at line at ≡ None
  unfolding number_at number
  number-over h = rw (up_to-over space line at h)

  -- 0, with no byte of the word behind it
  pub number-nought : at < length line → get_or line at 0 ≡ 48 → word_at line (at + 1) ≡ [] → number_at line at ≡ behind_it (pos 0) (at + 1)
  unfolding number_at number
  number-nought h e f = rw (up_to-next space line at h (λ z. omega arith), e, f)

  pub number_noughts : at < length line → get_or line at 0 ≡ 48 → at + 1 < length line → (get_or line (at + 1) 0 ≡ 32 → ⊥) → number_at line at ≡ None
  unfolding number_at number
  number_noughts h e k f =
      rw (up_to-next space line at h (λ z. omega arith), e, up_to-next space line (at + 1) k f, ne_eqb (suc (length (word_at line (at + 1 + 1)))) 0 (λ z. omega arith))

  pub number-minus : at < length line → get_or line at 0 ≡ 45 → magnitude_at line (at + 1) ≡ None → number_at line at ≡ None
  unfolding number_at number
  number-minus h e f = rw (up_to-next space line at h (λ z. omega arith), e, magnitude_not line (at + 1) f)

  pub number_negative : (n next : ℕ) → at < length line → get_or line at 0 ≡ 45 → magnitude_at line (at + 1) ≡ behind_it n next → number_at line at ≡ behind_it (neg n) next
  unfolding number_at number
  number_negative n next h e f =
      let m = magnitude_is line (at + 1) n next f in
      let w = word_at line (at + 1) in
      let g : at + suc (length w) ≡ at + 1 + length w = omega arith in
      rw (up_to-next space line at h (λ z. omega arith), e, m.0, g, m.1, m.2)

  -- the word's first byte is neither 0 nor a minus
  plain : at < length line → (get_or line at 0 ≡ 48 → ⊥) → (get_or line at 0 ≡ 45 → ⊥) → number (word_at line at) ≡ cond (is_magnitude (word_at line at)) (some (pos (decimal 0 (word_at line at)))) none
  unfolding number
  plain h p q = by (word_first line at h)
    where
      by : (word_at line at ≡ []) ⊎ (word_at line at ≡ get_or line at 0 ∷ word_at line (at + 1)) → number (word_at line at) ≡ cond (is_magnitude (word_at line at)) (some (pos (decimal 0 (word_at line at))))
          none
      by (inl e) = rw e
      by (inr e) = rw (e, ne_eqb (get_or line at 0) nought p, ne_eqb (get_or line at 0) minus q)

  pub number-not : at < length line → (get_or line at 0 ≡ 48 → ⊥) → (get_or line at 0 ≡ 45 → ⊥) → magnitude_at line at ≡ None → number_at line at ≡ None
  unfolding number_at
  number-not h p q f = rw (plain h p q, magnitude_not line at f)

  pub number_positive : (n next : ℕ) → at < length line → (get_or line at 0 ≡ 48 → ⊥) → (get_or line at 0 ≡ 45 → ⊥) → magnitude_at line at ≡ behind_it n next → number_at line at ≡ behind_it (pos n) next
  unfolding number_at
  number_positive n next h p q f = let m = magnitude_is line at n next f in rw (plain h p q, m.0, m.1, m.2)

-- the same on the sheet
module _ (bs : List ℕ) (at : ℕ) (h : at ≤ length (first_line bs)) where
  abbrev b : ℕ
  b = get_or bs at line_feed

  -- the line ends here, or has this byte
  byte : (P : Type 0) → (length (first_line bs) ≤ at → P) → (at < length (first_line bs) → get_or (first_line bs) at 0 ≡ b → P) → P
  byte P f g = cases (eqb b line_feed) (λ t. f (line_over bs at (eqb-true b line_feed t))) (λ t. let l = line_here bs at h (eqb-false b line_feed t) in g l.0 l.1)

  pub no-digits : (48 < b → b ≤ 57 → ⊥) → None ≡ magnitude_at (first_line bs) at
  no-digits f = sym (byte (magnitude_at (first_line bs) at ≡ None) (magnitude_over (first_line bs) at) (λ l e. magnitude_bad (first_line bs) at l (subst (λ x. 48 < x → x ≤ 57 → ⊥) (sym e) f)))

  pub first_digit : 48 < b → b ≤ 57 → (at + 1 ≤ length (first_line bs)) × (followed 0 (b - 48) (at + 1) (word_at (first_line bs) (at + 1)) ≡ magnitude_at (first_line bs) at)
  first_digit p q =
      let l = line_here bs at h (λ e. omega arith) in (
        omega (arith, l.0),
        ap (λ x. followed 0 (x - 48) (at + 1) (word_at (first_line bs) (at + 1))) (sym l.1)
            ∙ sym (magnitude_first (first_line bs) at l.0 (omega (arith, l.1)) (omega (arith, l.1))),
      )

  -- a nought
  module _ (e : b ≡ 48) where
    abbrev there : (at < length (first_line bs)) × (get_or (first_line bs) at 0 ≡ 48)
    there = let l = line_here bs at h (λ z. omega arith) in (l.0, l.1 ∙ e)

    nought-alone : is_end (get_or bs (at + 1) line_feed) ≡ true → behind_it (pos 0) (at + 1) ≡ number_at (first_line bs) at
    nought-alone t = sym (number-nought (first_line bs) at there.0 there.1 (word_ends bs (at + 1) (omega (arith, there.0)) t))

    nought_more : is_end (get_or bs (at + 1) line_feed) ≡ false → None ≡ number_at (first_line bs) at
    nought_more t = let g = word_goes bs (at + 1) (omega (arith, there.0)) t in sym (number_noughts (first_line bs) at there.0 there.1 g.0 g.2)

  -- a minus and digits
  module _ (e : b ≡ 45) where
    abbrev signed : (at < length (first_line bs)) × (get_or (first_line bs) at 0 ≡ 45)
    signed = let l = line_here bs at h (λ z. omega arith) in (l.0, l.1 ∙ e)

    minus-room : at + 1 ≤ length (first_line bs)
    minus-room = omega (arith, signed.0)

    minus-not : magnitude_at (first_line bs) (at + 1) ≡ None → None ≡ number_at (first_line bs) at
    minus-not f = sym (number-minus (first_line bs) at signed.0 signed.1 f)

    minus_of : (n next : ℕ) → magnitude_at (first_line bs) (at + 1) ≡ behind_it n next → behind_it (neg n) next ≡ number_at (first_line bs) at
    minus_of n next f = sym (number_negative (first_line bs) at n next signed.0 signed.1 f)

  -- digits alone
  module _ (q : b ≡ 45 → ⊥) where
    plain-not : (b ≡ 48 → is_end (get_or bs (at + 1) line_feed) ≡ false) → magnitude_at (first_line bs) at ≡ None → None ≡ number_at (first_line bs) at
    plain-not p f = cases (eqb b 48)
        (λ t. let z = eqb-true b 48 t in nought_more z (p z))
        (λ t. sym (byte (number_at (first_line bs) at ≡ None) (number-over (first_line bs) at) (λ l e. number-not (first_line bs) at l (λ z. eqb-false b 48 t (sym e ∙ z)) (λ z. q (sym e ∙ z)) f)))

    plain_of : (n next : ℕ) → magnitude_at (first_line bs) at ≡ behind_it n next → behind_it (pos n) next ≡ number_at (first_line bs) at
    plain_of n next f = sym (byte (number_at (first_line bs) at ≡ behind_it (pos n) next)
        (λ l. let z : None ≡ behind_it n next = sym (magnitude_over (first_line bs) at l) ∙ f in cc)
        (λ l e. number_positive (first_line bs) at n next l (λ z. some_first (sym e ∙ z)) (λ z. q (sym e ∙ z)) f))
      where
        some_first : b ≡ 48 → ⊥
        some_first z =
            let g : None ≡ behind_it n next = no-digits (λ k l. omega arith) ∙ f in
            let o : ◌≡◌ {A = ℕ} 0 1 = cc in
            omega arith

  -- a digit alone, a nought among them
  pub digit_alone : 48 ≤ b → b ≤ 57 → is_end (get_or bs (at + 1) line_feed) ≡ true → behind_it (pos (b - 48)) (at + 1) ≡ number_at (first_line bs) at
  digit_alone p q t = cases (eqb b 48)
      (λ e. let z = eqb-true b 48 e in let n : b - 48 ≡ 0 = omega arith in ap (λ k. behind_it (pos k) (at + 1)) n ∙ nought-alone z t)
      (λ e.
      let z = eqb-false b 48 e in
      let f = first_digit (omega arith) q in
      plain_of (λ m. omega arith) (b - 48) (at + 1) (sym f.1 ∙ ap (followed 0 (b - 48) (at + 1)) (word_ends bs (at + 1) f.0 t) ∙ followed-end 0 (b - 48) (at + 1) (omega arith)))

  -- a minus or none, where the byte is x, and the digits behind it
  module _ (x : ℕ) (s : x ≡ b) where
    pub signed-room : at + bit (eqb x 45) ≤ length (first_line bs)
    signed-room = cases (eqb x 45) (λ t. rw t (minus-room (sym s ∙ eqb-true x 45 t))) (λ t. rw t (omega arith))

    module _ (m : Option (Found ℕ)) (e : magnitude_at (first_line bs) (at + bit (eqb x 45)) ≡ m) where
      bare : eqb x 45 ≡ false → magnitude_at (first_line bs) at ≡ m
      bare t = let z : at + 0 ≡ at = omega arith in rw (t, z) at e

      pub signed-not : (b ≡ 48 → is_end (get_or bs (at + 1) line_feed) ≡ false) → m ≡ None → None ≡ number_at (first_line bs) at
      signed-not p f = cases (eqb x 45)
          (λ t. minus-not (sym s ∙ eqb-true x 45 t) ((rw t at e) ∙ f))
          (λ t. plain-not (λ z. eqb-false x 45 t (s ∙ z)) p (bare t ∙ f))

      pub signed-minus : (n next : ℕ) → eqb x 45 ≡ true → m ≡ behind_it n next → behind_it (neg n) next ≡ number_at (first_line bs) at
      signed-minus n next t f = minus_of (sym s ∙ eqb-true x 45 t) n next ((rw t at e) ∙ f)

      pub signed-plain : (n next : ℕ) → eqb x 45 ≡ false → m ≡ behind_it n next → behind_it (pos n) next ≡ number_at (first_line bs) at
      signed-plain n next t f = plain_of (λ z. eqb-false x 45 t (s ∙ z)) n next (bare t ∙ f)

-- a magnitude is below 1,000,000,000
pub magnitude_small : (line : List ℕ) (at n next : ℕ) → magnitude_at line at ≡ behind_it n next → n < 1000000000
magnitude_small line at n next e = let m = magnitude_is line at n next e in rw m.1 (magnitude_below (word_at line at) m.0)

-- ---- a magnitude as a signed number

pub small_signed : (n : ℕ) → n < 1000000000 → to_z w32 n ≡ pos n
small_signed n h = to_z_pos w32 {n = n} (omega arith)

-- less than nothing by n
pub below_nought : (n : ℕ) → pos 0 -ℤ pos n ≡ neg n
below_nought zero = refl
below_nought (suc n) = let e : suc n - 1 ≡ n = omega arith in rw (lt-ltb 0 (suc n) (omega arith)) (ap negsuc e)

pub neg-fits : (n : ℕ) → n < 1000000000 → SFits w32 (neg n)
neg-fits zero h = record { sfits = omega arith }
neg-fits (suc n) h = record { sfits = omega arith }

pub negated : (n : ℕ) → n < 1000000000 → to_z w32 (of_z w32 (pos 0 -ℤ to_z w32 n)) ≡ neg n
negated n h = rw (small_signed n h, below_nought n) (to_z-of_z (neg-fits n h))
