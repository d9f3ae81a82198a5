-- Laws of a line: its numbers are read one by one, and make the call of its name. Assumes nothing.
use Prim.Native.Nat.{ℕ, zero, suc, ◌+◌, ◌<◌, ◌≤◌}
use native.Mathlib.Omega.{arith}
use native.Mathlib.Numerals.{add-one}
use mathlib.Core.Bool.{true}
use mathlib.Core.Path.{◌≡◌, refl, sym, ap, ap₂, ◌∙◌, subst}
use mathlib.Core.List.{List, [], ◌∷◌, ◌++◌, append-nil, append_assoc}
use mathlib.Core.Option as math
use mathlib.Core.Option.{none, some}
use borrow.Author.Tests.{leb-true}
use lib.Dec.{leb}
use lib.IntN.{ℤ, pos}
use lib.ListN.{length, get_or, set, take, drop, length-set, length-append, length-take, length-drop, drop_of_length-le}
use lib.Seq.{drop-cons, drop-drop, take-suc-set}
use Rattle.std.specs.Prelude.{Option, Some, None, Result, Ok, Err}
use Rattle.std.specs.Option.{ok_or}
use Rattle.std.specs.Result.{IsErr, IsErrAnd}
use Rattle.protocol.specs.declared.call.Call.{Call}
use Rattle.protocol.specs.Lists.{all}
use Rattle.protocol.proofs.Laws.{cases}
use Rattle.format.specs.Numbers.{number}
use Rattle.format.specs.Lines.{space, Shape, complete, takes, filled, Form, forms, same_bytes, shape_of, joined, numbers, asked, call_of, line_call}
use Rattle.format.proofs.Digits.{and_true}
use Rattle.reader.specs.declared.Found.{Found}
use Rattle.reader.specs.declared.Op.{Op}
use Rattle.reader.specs.declared.Op.TheVariants.{Measure, Rule, Open, Split, Edit, Join, Send, Replay, Stop, Confirm, Install, Show, Fate, Left}
use Rattle.reader.specs.Reads.{behind_it, word_at, number_at, next, place, op_of, place_of, shape_nth, shape_at, arity, arity_of, taken_by, call_from, Taken}
use Rattle.reader.proofs.Cut.{up_to-length, more, words_cut}
use Rattle.reader.proofs.Scans.{same_found}

-- ---- a call's place in the table

shape-next : (n : ℕ) (f : Form) (fs : List Form) → shape_nth (next n) (f ∷ fs) ≡ shape_nth n fs
shape-next zero f [] = refl
shape-next zero f (g ∷ fs) = refl
shape-next (suc n) f fs = refl

shape-place : (w : List ℕ) (fs : List Form) → shape_of w fs ≡ shape_nth (place w fs) fs
shape-place w [] = refl
shape-place w (f ∷ fs) =
    let ih = shape-place w fs in
    cases (same_bytes w f.name) (λ t. rw t) (λ t. rw t (ih ∙ sym (shape-next (place w fs) f fs)))

-- ---- how many numbers

-- the count of numbers does not depend on the numbers
abbrev pub Fixed : Shape → Type 0
Fixed (complete c) = Unit {0}
Fixed (takes f) = (x : ℤ) → (arity (f x) ≡ arity (f (pos 0))) × Fixed (f x)

abbrev pub EachFixed : List Form → Type 0
EachFixed [] = Unit {0}
EachFixed (f ∷ fs) = Fixed f.shape × EachFixed fs

forms_fixed : EachFixed forms
forms_fixed = (
  λ x. (refl, tt),
  (
    λ x. (refl, λ y. (refl, λ z. (refl, λ u. (refl, tt)))),
    (
      tt,
      (
        λ x. (refl, tt),
        (
          λ x. (refl, λ y. (refl, λ z. (refl, λ u. (refl, λ v. (refl, λ w. (refl, tt)))))),
          (tt, (λ x. (refl, tt), (λ x. (refl, tt), (tt, (λ x. (refl, tt), (tt, (λ x. (refl, tt), (λ x. (refl, tt), (tt, tt))))))))),
        ),
      ),
    ),
  ),
)

not-filled : (s : Shape) (zs : List ℤ) → Fixed s → (length zs ≡ arity s → ⊥) → filled s zs ≡ none
not-filled (complete c) [] h ne = absurd (ne refl)
not-filled (complete c) (z ∷ zs) h ne = refl
not-filled (takes f) [] h ne = refl
not-filled (takes f) (z ∷ zs) h ne = not-filled (f z) zs (h z).1 (λ e. ne (ap suc (e ∙ (h z).0)))

not-asked : (n : ℕ) (fs : List Form) (zs : List ℤ) → EachFixed fs → (length zs ≡ arity_of (shape_nth n fs) → ⊥) → asked (shape_nth n fs) (some zs) ≡ none
not-asked n [] zs h ne = refl
not-asked zero (f ∷ fs) zs h ne = refl
not-asked (suc zero) (f ∷ fs) zs h ne = not-filled f.shape zs h.0 ne
not-asked (suc (suc n)) (f ∷ fs) zs h ne = not-asked (suc n) fs zs h.1 ne

six_most : (n : ℕ) (fs : List Form) → all (λ f. leb (arity f.shape) 6) fs ≡ true → arity_of (shape_nth n fs) ≤ 6
six_most n [] e = omega arith
six_most zero (f ∷ fs) e = omega arith
six_most (suc zero) (f ∷ fs) e = leb-true (arity f.shape) 6 (and_true (leb (arity f.shape) 6) (all (λ g. leb (arity g.shape) 6) fs) e).0
six_most (suc (suc n)) (f ∷ fs) e = six_most (suc n) fs (and_true (leb (arity f.shape) 6) (all (λ g. leb (arity g.shape) 6) fs) e).1

pub taken_most : (op : ℕ) → taken_by op ≤ 6
unfolding taken_by shape_at
taken_most op = six_most op forms refl

not-called : (op : ℕ) (zs : List ℤ) → (length zs ≡ taken_by op → ⊥) → asked (shape_at op) (some zs) ≡ none
unfolding taken_by shape_at
not-called op zs ne = not-asked op forms zs forms_fixed ne

-- ---- the numbers of a line

abbrev pub behind : List ℤ → math.Option (List ℤ) → math.Option (List ℤ)
behind ys none = none
behind ys (some zs) = some (ys ++ zs)

none-asked : (s : math.Option Shape) → asked s none ≡ none
none-asked none = refl
none-asked (some s) = refl

behind-next : (ys : List ℤ) (x : ℤ) (n : math.Option (List ℤ)) → behind ys (joined (some x) n) ≡ behind (ys ++ (x ∷ [])) n
behind-next ys x none = refl
behind-next ys x (some zs) = ap some (sym (append_assoc ys (x ∷ []) zs))

numbers_here : (line : List ℕ) (at : ℕ) → at < length line → numbers (more (drop at line)) ≡ joined (number (word_at line (at + 1)))
    (numbers (more (drop (at + 1 + length (word_at line (at + 1))) line)))
numbers_here line at h =
    rw (drop-cons line at 0 h, ← add-one at, words_cut (drop (at + 1) line), drop-drop (length (word_at line (at + 1))) (at + 1) line)

found-is : (line : List ℕ) (at : ℕ) (x : ℤ) (n : ℕ) → number_at line at ≡ behind_it x n → (number (word_at line at) ≡ some x) × (n ≡ at + length (word_at line at))
unfolding number_at
found-is line at x n e = by (number (word_at line at)) refl
  where
    by : (o : math.Option ℤ) → number (word_at line at) ≡ o → (number (word_at line at) ≡ some x) × (n ≡ at + length (word_at line at))
    by none q = let f : None ≡ behind_it x n = rw q at e in (cc, cc)
    by (some y) q = let f = same_found y x (at + length (word_at line at)) n (rw q at e) in (q ∙ ap some f.0, sym f.1)

-- the place behind a number lies in the line
pub found_within : (line : List ℕ) (at : ℕ) (x : ℤ) (n : ℕ) → at < length line → number_at line (at + 1) ≡ behind_it x n → n ≤ length line
found_within line at x n h e =
    let f = (found-is line (at + 1) x n e).1 in
    let l = up_to-length space (drop (at + 1) line) in
    let d = length-drop (at + 1) line in
    omega (arith, f, l, d)

found-not : (line : List ℕ) (at : ℕ) → number_at line at ≡ None → number (word_at line at) ≡ none
unfolding number_at
found-not line at e = by (number (word_at line at)) refl
  where
    by : (o : math.Option ℤ) → number (word_at line at) ≡ o → number (word_at line at) ≡ none
    by none q = q
    by (some y) q = let f : behind_it y (at + length (word_at line at)) ≡ None = rw q at e in cc

-- the line's call is that of the numbers read, the first k of xs, and of those from a place on
abbrev pub Listing : List ℕ → ℕ → ℕ → List ℤ → ℕ → Type 0
Listing line op k xs at = (length xs ≡ 6) × (k ≤ taken_by op) × (line_call line ≡ asked (shape_at op) (behind (take k xs) (numbers (more (drop at line)))))

pub line_named : (line : List ℕ) → line_call line ≡ asked (shape_at (op_of (word_at line 0))) (numbers (more (drop (length (word_at line 0)) line)))
unfolding line_call shape_at op_of
line_named line = ap call_of (words_cut line) ∙ ap (λ s. asked s (numbers (more (drop (length (word_at line 0)) line)))) (shape-place (word_at line 0) forms)

pub unnamed : (line : List ℕ) → op_of (word_at line 0) ≡ 0 → line_call line ≡ none
unfolding shape_at
unnamed line e = line_named line ∙ ap (λ op. asked (shape_at op) (numbers (more (drop (length (word_at line 0)) line)))) e

pub listing_begin : (line : List ℕ) (op end : ℕ) (xs : List ℤ) → length xs ≡ 6 → op ≡ op_of (word_at line 0) → end ≡ length (word_at line 0) → Listing line op 0 xs end
listing_begin line op end xs l e f =
    (l, omega arith, line_named line ∙ ap₂ (λ o j. asked (shape_at o) (numbers (more (drop j line)))) (sym e) (sym f) ∙ ap (asked (shape_at op)) (plain (numbers (more (drop end line)))))
  where
    plain : (o : math.Option (List ℤ)) → o ≡ behind [] o
    plain none = refl
    plain (some zs) = refl

-- the call of a line is its form, filled with as many of the six numbers as it takes
abbrev Filled : Op → List ℤ → Type 0
Filled op xs = some (call_from op xs) ≡ asked (shape_at (place_of op)) (some (take (taken_by (place_of op)) xs))

filled_with : (op : Op) (a b c d e f : ℤ) → Filled op (a ∷ b ∷ c ∷ d ∷ e ∷ f ∷ [])
unfolding shape_at taken_by
filled_with Measure a b c d e f = refl
filled_with Rule a b c d e f = refl
filled_with Open a b c d e f = refl
filled_with Split a b c d e f = refl
filled_with Edit a b c d e f = refl
filled_with Join a b c d e f = refl
filled_with Send a b c d e f = refl
filled_with Replay a b c d e f = refl
filled_with Stop a b c d e f = refl
filled_with Confirm a b c d e f = refl
filled_with Install a b c d e f = refl
filled_with Show a b c d e f = refl
filled_with Fate a b c d e f = refl
filled_with Left a b c d e f = refl

six : (xs : List ℤ) → length xs ≡ 6 → xs ≡ get_or xs 0 (pos 0) ∷ get_or xs 1 (pos 0) ∷ get_or xs 2 (pos 0) ∷ get_or xs 3 (pos 0) ∷ get_or xs 4 (pos 0) ∷ get_or xs 5 (pos 0) ∷ []
six [] l = absurd (omega arith)
six (a ∷ []) l = absurd (omega arith)
six (a ∷ b ∷ []) l = absurd (omega arith)
six (a ∷ b ∷ c ∷ []) l = absurd (omega arith)
six (a ∷ b ∷ c ∷ d ∷ []) l = absurd (omega arith)
six (a ∷ b ∷ c ∷ d ∷ e ∷ []) l = absurd (omega arith)
six (a ∷ b ∷ c ∷ d ∷ e ∷ f ∷ []) l = refl
six (a ∷ b ∷ c ∷ d ∷ e ∷ f ∷ g ∷ gs) l = absurd (omega arith)

call_filled : (op : Op) (xs : List ℤ) → length xs ≡ 6 → Filled op xs
call_filled op xs l =
    subst (Filled op) (sym (six xs l)) (filled_with op (get_or xs 0 (pos 0)) (get_or xs 1 (pos 0)) (get_or xs 2 (pos 0)) (get_or xs 3 (pos 0)) (get_or xs 4 (pos 0)) (get_or xs 5 (pos 0)))

module _ (line : List ℕ) (op k : ℕ) (xs : List ℤ) (at : ℕ) (r : Listing line op k xs at) where
  -- a word that is no number
  pub listing_unread : at < length line → number_at line (at + 1) ≡ None → none ≡ line_call line
  listing_unread h e =
      sym (
      r.2 ∙ ap (λ o. asked (shape_at op) (behind (take k xs) o))
      (numbers_here line at h ∙ ap (λ o. joined o (numbers (more (drop (at + 1 + length (word_at line (at + 1))) line)))) (found-not line (at + 1) e))
      ∙ none-asked (shape_at op)
      )

  here : (x : ℤ) (n : ℕ) → at < length line → number_at line (at + 1) ≡ behind_it x n → line_call line ≡ asked (shape_at op) (behind (take k xs) (joined (some x) (numbers (more (drop n line)))))
  here x n h e =
      let f = found-is line (at + 1) x n e in
      r.2 ∙ ap (λ o. asked (shape_at op) (behind (take k xs) o)) (numbers_here line at h ∙ ap₂ (λ o j. joined o (numbers (more (drop j line)))) f.0 (sym f.1))

  taken : length (take k xs) ≡ k
  taken = let l = length-take k xs in let m = taken_most op in omega (arith, r.0, r.1)

  pub listing_next : (x : ℤ) (n : ℕ) → at < length line → number_at line (at + 1) ≡ behind_it x n → (k ≡ taken_by op → ⊥) → Listing line op (k + 1) (set xs k x) n
  listing_next x n h e ne =
      let m = taken_most op in
      let l : k < taken_by op = omega (arith, r.1) in (
        length-set xs k x ∙ r.0,
        omega arith,
        here x n h e ∙ ap (asked (shape_at op))
            (behind-next (take k xs) x (numbers (more (drop n line))) ∙ ap (λ ys. behind ys (numbers (more (drop n line)))) (sym (rw (add-one k) (take-suc-set xs k x (omega (arith, r.0)))))),
      )

  -- one number too many
  listing_many : (x : ℤ) (n : ℕ) → at < length line → number_at line (at + 1) ≡ behind_it x n → k ≡ taken_by op → none ≡ line_call line
  listing_many x n h e f = sym (here x n h e ∙ by (numbers (more (drop n line))))
    where
      by : (o : math.Option (List ℤ)) → asked (shape_at op) (behind (take k xs) (joined (some x) o)) ≡ none
      by none = none-asked (shape_at op)
      by (some zs) = not-called op (take k xs ++ (x ∷ zs)) (λ q. let l = length-append (take k xs) (x ∷ zs) in let t = taken in omega arith)

  -- the line goes on behind the last number
  pub listing_more : at < length line → k ≡ taken_by op → none ≡ line_call line
  listing_more h e = by (number_at line (at + 1)) refl
    where
      by : (o : Option (Found ℤ)) → number_at line (at + 1) ≡ o → none ≡ line_call line
      by None q = listing_unread h q
      by (Some f) q = listing_many f.value f.next h q e

  over : length line ≤ at → line_call line ≡ asked (shape_at op) (some (take k xs))
  over h =
      r.2 ∙ ap (λ w. asked (shape_at op) (behind (take k xs) (numbers (more w)))) (drop_of_length-le line {i = at} h)
      ∙ ap (λ ys. asked (shape_at op) (some ys)) (append-nil (take k xs))

  -- a number too few
  pub listing_few : length line ≤ at → (k ≡ taken_by op → ⊥) → none ≡ line_call line
  listing_few h ne = sym (over h ∙ not-called op (take k xs) (λ q. ne (sym taken ∙ q)))

-- as many as the call takes
pub listing_all : (line : List ℕ) (op : Op) (k : ℕ) (xs : List ℤ) (at : ℕ) → Listing line (place_of op) k xs at → length line ≤ at → k ≡ taken_by (place_of op) → some (call_from op xs) ≡ line_call line
listing_all line op k xs at r h e =
    call_filled op xs r.0 ∙ sym (over line (place_of op) k xs at r h ∙ ap (λ n. asked (shape_at (place_of op)) (some (take n xs))) e)

-- ---- what `?` gives back

pub failed_at : {A : Type 0} (o : Option A) (at e : ℕ) (r : Result A ℕ) → r ≡ ok_or o at → r ≡ Err e → (o ≡ None) × (e ≡ at)
failed_at {A} None at e r p q = let f : ◌≡◌ {A = Result A ℕ} (Err e) (Err at) = sym q ∙ p in (refl, cc)
failed_at {A} (Some x) at e r p q = let f : ◌≡◌ {A = Result A ℕ} (Err e) (Ok x) = sym q ∙ p in (cc, cc)

pub taken_err : (line : List ℕ) (r : Result (Found Call) ℕ) (P : ℕ → Type 0) → IsErr r → IsErrAnd r P → ((at : ℕ) → P at → Taken line (Err at)) → Taken line r
taken_err line (Ok read) P h k f = cc
taken_err line (Err at) P h k f = f at k
