-- Laws of cutting: the bytes up to a mark, the lines of a sheet and the words of a line. Assumes nothing.
use Prim.Native.Nat.{ℕ, zero, suc, ◌+◌, ◌-◌, ◌<◌, ◌≤◌, min}
use native.Mathlib.Omega.{arith}
use native.Mathlib.Numerals.{add-one, one-add}
use mathlib.Core.Path.{◌≡◌, refl, ap, ap₂, sym, ◌∙◌}
use mathlib.Core.Bool.{Bool, true, false}
use mathlib.Core.List.{List, [], ◌∷◌}
use borrow.Author.Tests.{eq-eqb, ne_eqb, eqb-true, eqb-false, leb-true, leb-false, ltb-false}
use lib.Dec.{eqb, leb, ltb}
use lib.ListN.{length, get_or, take, drop, length-drop, drop_of_length-le}
use lib.Seq.{drop-cons, drop-drop}
use Rattle.std.proofs.lemmas.List.{take_all}
use Rattle.std.specs.List.{position, position_or_len}
use Rattle.std.specs.Option.{unwrap_or}
use Rattle.std.proofs.lemmas.List.Recursion.{is_position_or_len}
use Rattle.protocol.proofs.Laws.{cases}
use Rattle.format.specs.Lines.{line_feed, space, grow, lines, words}
use Rattle.reader.specs.Cut.{up_to, first_line}
use Rattle.reader.specs.Reads.{word_at, is_end}

-- ---- the bytes up to a mark, from a place on

module _ (b : ℕ) (xs : List ℕ) (at : ℕ) where
  pub up_to-over : length xs ≤ at → up_to b (drop at xs) ≡ []
  up_to-over h = rw (drop_of_length-le xs {i = at} h)

  pub up_to-stop : at < length xs → get_or xs at 0 ≡ b → up_to b (drop at xs) ≡ []
  up_to-stop h e = rw (drop-cons xs at 0 h, eq-eqb (get_or xs at 0) b e)

  pub up_to-next : at < length xs → (get_or xs at 0 ≡ b → ⊥) → up_to b (drop at xs) ≡ get_or xs at 0 ∷ up_to b (drop (at + 1) xs)
  up_to-next h e = rw (add-one at, drop-cons xs at 0 h, ne_eqb (get_or xs at 0) b e)

pub up_to-length : (b : ℕ) (xs : List ℕ) → length (up_to b xs) ≤ length xs
up_to-length b [] = omega arith
up_to-length b (x ∷ xs) =
    let ih = up_to-length b xs in
    cases (eqb x b) (λ t. rw t (omega arith)) (λ t. rw t (omega arith))

-- ---- the first line

-- the first line ends at its line feed, or with the sheet; what follows are the other lines
pub lines_cut : (x : ℕ) (xs : List ℕ) → let w = up_to line_feed (x ∷ xs) in lines (x ∷ xs) ≡ w ∷ lines (drop (suc (length w)) (x ∷ xs))
unfolding lines
lines_cut x [] = cases (eqb x line_feed) (λ t. rw t) (λ t. rw t)
lines_cut x (y ∷ ys) =
    let ih = lines_cut y ys in
    cases (eqb x line_feed) (λ t. rw t) (λ t. rw t (ap (grow x) ih))

-- ---- the first line, byte by byte; a sheet ends as if by a line feed

pub line_over : (bs : List ℕ) (at : ℕ) → get_or bs at line_feed ≡ line_feed → length (first_line bs) ≤ at
line_over [] at e = omega arith
line_over (x ∷ xs) zero e = rw (eq-eqb x line_feed e) (omega arith)
line_over (x ∷ xs) (suc at) e =
    let ih = line_over xs at e in
    cases (eqb x line_feed) (λ t. rw t (omega arith)) (λ t. rw t (omega arith))

pub line_here : (bs : List ℕ) (at : ℕ) → at ≤ length (first_line bs) → (get_or bs at line_feed ≡ line_feed → ⊥) → (at < length (first_line bs)) × (get_or (first_line bs) at 0 ≡ get_or bs at line_feed)
line_here [] at h ne = absurd (ne refl)
line_here (x ∷ xs) zero h ne = rw (ne_eqb x line_feed ne) (omega arith, refl)
line_here (x ∷ xs) (suc at) h ne = cases (eqb x line_feed)
    (λ t. absurd (let l : suc at ≤ 0 = rw t at h in omega arith))
    (λ t. let l : suc at ≤ suc (length (first_line xs)) = rw t at h in let ih = line_here xs at (omega arith) ne in rw t (omega (arith, ih.0), ih.1))

pub line_rest : (bs : List ℕ) (at : ℕ) → at ≤ length (first_line bs) → min at (length bs) + length (up_to line_feed (drop at bs)) ≡ length (first_line bs)
line_rest bs at h = let l = up_to-length line_feed bs in let e : min at (length bs) ≡ at = omega arith in rw e (by bs at h)
  where
    by : (bs : List ℕ) (at : ℕ) → at ≤ length (first_line bs) → at + length (up_to line_feed (drop at bs)) ≡ length (first_line bs)
    by bs zero h = omega arith
    by [] (suc at) h = absurd (omega arith)
    by (x ∷ xs) (suc at) h = cases (eqb x line_feed)
        (λ t. absurd (let l : suc at ≤ 0 = rw t at h in omega arith))
        (λ t. let l : suc at ≤ suc (length (first_line xs)) = rw t at h in let ih = by xs at (omega arith) in rw t (omega (arith, ih)))

module _ (bs : List ℕ) (at : ℕ) (h : at ≤ length (first_line bs)) where
  abbrev b : ℕ
  b = get_or bs at line_feed

  goes : (eqb b space ≡ false) → (eqb b line_feed ≡ false) → (at < length (first_line bs)) × (get_or (first_line bs) at 0 ≡ b) × (get_or (first_line bs) at 0 ≡ space → ⊥)
  goes s l = let g = line_here bs at h (eqb-false b line_feed l) in (g.0, g.1, λ e. eqb-false b space s (sym g.1 ∙ e))

  -- the word that begins here is empty
  pub word_ends : is_end b ≡ true → word_at (first_line bs) at ≡ []
  word_ends t = cases (eqb b line_feed)
      (λ l. up_to-over space (first_line bs) at (line_over bs at (eqb-true b line_feed l)))
      (λ l. cases (eqb b space)
      (λ s. let g = line_here bs at h (eqb-false b line_feed l) in up_to-stop space (first_line bs) at g.0 (g.1 ∙ eqb-true b space s))
      (λ s. let z : ◌≡◌ {A = Bool} false true = rw (s, l) at t in cc))

  -- or goes on with this byte
  pub word_goes : is_end b ≡ false → (at < length (first_line bs)) × (get_or (first_line bs) at 0 ≡ b) × (get_or (first_line bs) at 0 ≡ space → ⊥)
  word_goes t = cases (eqb b space)
      (λ s. absurd (let z : ◌≡◌ {A = Bool} true false = rw s at t in let o : ◌≡◌ {A = ℕ} 0 1 = cc in omega arith))
      (λ s. cases (eqb b line_feed)
      (λ l. absurd (let z : ◌≡◌ {A = Bool} true false = rw (s, l) at t in let o : ◌≡◌ {A = ℕ} 0 1 = cc in omega arith))
      (λ l. goes s l))

-- how a look for the first line feed from a place on finds the line's end
before_is : (xs : List ℕ) → unwrap_or (position (λ b. eqb b line_feed) xs) (length xs) ≡ length (up_to line_feed xs)
before_is xs =
    let p : ℕ → Bool = λ b. eqb b line_feed in
    let e = is_position_or_len (λ ys. length (up_to line_feed ys)) p refl (λ y ys. cases (eqb y line_feed) (λ t. rw t) (λ t. rw t (sym (one-add (length (up_to line_feed ys)))))) xs in
    let l = up_to-length line_feed xs in
    cases (ltb (position_or_len p xs) (length xs))
    (λ t. rw t (sym e))
    (λ t. let n = ltb-false (position_or_len p xs) (length xs) t in rw t (omega (arith, e)))

pub feed_from : (bs : List ℕ) (at from n : ℕ) → from ≡ min at (length bs)
    → n ≡ unwrap_or (position (λ b. eqb b line_feed) (take (length bs - from) (drop from bs))) (length (take (length bs - from) (drop from bs)))
    → from + n ≡ min at (length bs) + length (up_to line_feed (drop at bs))
feed_from bs at from n e f =
    let a : take (length bs - from) (drop from bs) ≡ drop from bs = take_all (length bs - from) (drop from bs) (omega (arith, length-drop from bs)) in
    let d : drop from bs ≡ drop at bs = same in
    let g : n ≡ length (up_to line_feed (drop at bs)) = f ∙ before_is (take (length bs - from) (drop from bs)) ∙ ap (λ xs. length (up_to line_feed xs)) (a ∙ d) in
    ap₂ (λ x y. x + y) e g
  where
    same : drop from bs ≡ drop at bs
    same = cases (leb at (length bs))
        (λ t. let h = leb-true at (length bs) t in let q : from ≡ at = omega (arith, e) in ap (λ k. drop k bs) q)
        (λ t. let h = leb-false at (length bs) t in drop_of_length-le bs {i = from} (omega (arith, e)) ∙ sym (drop_of_length-le bs {i = at} (omega arith)))

-- ---- the line at a place of a sheet

pub lines-over : (sheet : List ℕ) (at : ℕ) → length sheet ≤ at → lines (drop at sheet) ≡ []
unfolding lines
lines-over sheet at h = rw (drop_of_length-le sheet {i = at} h)

module _ (sheet : List ℕ) (at end : ℕ) (e : end ≡ at + length (up_to line_feed (drop at sheet))) where
  -- the lines from the place on are this line and those behind its line feed
  pub lines_at : at < length sheet → lines (drop at sheet) ≡ up_to line_feed (drop at sheet) ∷ lines (drop (end + 1) sheet)
  lines_at h =
      let c = drop-cons sheet at 0 h in
      let w = up_to line_feed (drop at sheet) in
      let n : at + suc (length w) ≡ end + 1 = omega arith in
      ap lines c
      ∙ lines_cut (get_or sheet at 0) (drop (suc at) sheet)
      ∙ ap (λ bs. up_to line_feed bs ∷ lines (drop (suc (length (up_to line_feed bs))) bs)) (sym c)
      ∙ ap (λ bs. w ∷ lines bs) (drop-drop (suc (length w)) at sheet ∙ ap (λ k. drop k sheet) n)

-- ---- the first word

-- the words behind the first, which ends where these bytes begin
abbrev pub more : List ℕ → List (List ℕ)
more [] = []
more (x ∷ xs) = words xs

pub words_cut : (xs : List ℕ) → words xs ≡ up_to space xs ∷ more (drop (length (up_to space xs)) xs)
unfolding words
words_cut [] = refl
words_cut (x ∷ xs) =
    let ih = words_cut xs in
    cases (eqb x space) (λ t. rw t) (λ t. rw t (ap (grow x) ih))
