-- Laws of the parts of a line, and of a line that goes in whole or not at all. Assumes nothing.
use Rattle.std.proofs.Common.{◌≡◌, ℕ, ◌+◌, ◌<◌, ◌≤◌, ◌==◌, false, Some, Ok, Err, List, [], ◌∷◌, ◌++◌, ℤ, pos, length, set, refl, sym, ap, ap₂, ◌∙◌, append_assoc, append-nil, length-append, zero-add, arith}
use Rattle.std.proofs.lemmas.List.Edits.{sets}
use borrow.Author.Tests.{le-leb}
use Rattle.protocol.specs.Calls.{ok}
use Rattle.protocol.specs.declared.refusal.Refusal.{Refusal}
use Rattle.protocol.specs.declared.refusal.Refusal.TheVariants.{Unreadable}
use Rattle.protocol.specs.Asked.{number_of}
use Rattle.format.specs.Numbers.{digits, written}
use Rattle.format.specs.Lines.{line_feed}
use Rattle.format.specs.Sheets.{spaced, text}
use Rattle.format.proofs.Digits.{digits_one}
use Rattle.format.proofs.Fronts.{sets_front}
use Rattle.format.proofs.Texts.{written_pos, spaced-none, spaced_more, text-no, text-ok, text-done}
use Rattle.state.specs.declared.Given.{Given}
use Rattle.state.specs.declared.Given.TheVariants.{Nothing, One, Two, Three}
use Rattle.state.specs.Meets.{numbers_of}
use Rattle.writer.specs.Writes.{line_of, put_in, put_count, told, numbers_told, head_of, ended, ok_letters, no_letters, parts_of, unreadable}
use Rattle.writer.proofs.Writes.{sets_append}

-- ---- the numbers given

spaced-append : (xs ys : List ℤ) → spaced (xs ++ ys) ≡ spaced xs ++ spaced ys
spaced-append [] ys = sym (ap (λ bs. bs ++ spaced ys) spaced-none)
spaced-append (x ∷ xs) ys =
    spaced_more x (xs ++ ys)
    ∙ ap (λ bs. 32 ∷ bs) (ap (λ bs. written x ++ bs) (spaced-append xs ys) ∙ sym (append_assoc (written x) (spaced xs) (spaced ys)))
    ∙ sym (ap (λ bs. bs ++ spaced ys) (spaced_more x xs))

told_more : (n : ℕ) (xs : List ℤ) → spaced (pos n ∷ xs) ≡ told n ++ spaced xs
told_more n xs = spaced_more (pos n) xs ∙ ap (λ ds. 32 ∷ ds ++ spaced xs) (written_pos n)

told_last : (n : ℕ) → spaced (pos n ∷ []) ≡ told n
told_last n = told_more n [] ∙ ap (λ bs. told n ++ bs) spaced-none ∙ append-nil (told n)

pub numbers_spaced : (given : Given) → spaced (numbers_of given) ≡ numbers_told given
numbers_spaced Nothing = spaced-none
numbers_spaced (One a) = told_last a
numbers_spaced (Two a b) = told_more a (pos b ∷ []) ∙ ap (λ bs. told a ++ bs) (told_last b)
numbers_spaced (Three a b c) = told_more a (pos b ∷ pos c ∷ []) ∙ ap (λ bs. told a ++ bs) (told_more b (pos c ∷ []) ∙ ap (λ bs. told b ++ bs) (told_last c))

-- ---- a line is its parts

pub line_refused : (r : Refusal) (row : List ℤ) (k : ℕ) → k ≡ number_of r → line_of (Err r) row ≡ ended (head_of no_letters (One k))
unfolding line_of
line_refused r row k e = rw e (text-no (number_of r))

-- an answer that gives numbers, its own or those of a row
text-given : (xs : List ℤ) → 0 < length xs → text (ok xs) ≡ ended (ok_letters ++ spaced xs)
text-given [] h = absurd (omega arith)
text-given (x ∷ xs) h = text-ok x xs

pub line_behind : (given : Given) (row : List ℤ) → false ≡ (length row == 0) → line_of (Ok given) row ≡ parts_of given row
unfolding line_of
line_behind given [] h = cc
line_behind given (x ∷ row) h =
    let l = length-append (numbers_of given) (x ∷ row) in
    text-given (numbers_of given ++ (x ∷ row)) (omega arith)
    ∙ ap (λ bs. ended (ok_letters ++ bs)) (spaced-append (numbers_of given) (x ∷ row) ∙ ap (λ bs. bs ++ spaced (x ∷ row)) (numbers_spaced given))

pub line_alone : (given : Given) → (given ≡ Nothing → ⊥) → line_of (Ok given) [] ≡ ended (head_of ok_letters given)
unfolding line_of
line_alone given some =
    ap (λ xs. text (ok xs)) (append-nil (numbers_of given)) ∙ text-given (numbers_of given) (numbers given some) ∙ ap (λ bs. ended (ok_letters ++ bs)) (numbers_spaced given)
  where
    numbers : (given : Given) → (given ≡ Nothing → ⊥) → 0 < length (numbers_of given)
    numbers Nothing h = absurd (h refl)
    numbers (One a) h = omega arith
    numbers (Two a b) h = omega arith
    numbers (Three a b c) h = omega arith

-- no number is told as 0
pub line_nothing : line_of (Ok Nothing) [] ≡ ended (head_of ok_letters (One 0))
unfolding line_of
line_nothing = text-done ∙ sym (ap (λ ds. ended (ok_letters ++ (32 ∷ ds))) (digits_one 0 (omega arith)))

pub line_unreadable : (row : List ℤ) → line_of (Err Unreadable) row ≡ unreadable
unfolding digits
line_unreadable row = line_refused Unreadable row 51 refl

-- ---- whole or not at all

is-put : (line area after : List ℕ) (n : ℕ) → length line ≤ length area → after ≡ sets area 0 line → n ≡ length line → (after ≡ put_in line area) × (Some n ≡ put_count line area)
is-put line area after n h e f = rw (le-leb (length line) (length area) h) (e ∙ sets_front area line h, ap (λ k. Some k) f)

-- bytes put behind others
pub put-behind : (area first second : List ℕ) (at : ℕ) (xs ys : List ℕ) → first ≡ sets area 0 xs → at ≡ length xs → second ≡ sets first at ys → second ≡ sets area 0 (xs ++ ys)
put-behind area first second at xs ys e f g =
    let h : at ≡ 0 + length xs = f ∙ sym (zero-add (length xs)) in
    g ∙ ap₂ (λ l k. sets l k ys) e h ∙ sym (sets_append area 0 xs ys)

-- a line whose last byte is put behind the others
pub is-ended : (bs area first : List ℕ) (at : ℕ) → first ≡ sets area 0 bs → at ≡ length bs → at < length area → (set first at line_feed ≡ put_in (ended bs) area) × (Some (at + 1) ≡ put_count (ended bs) area)
is-ended bs area first at e f h =
    let l = length-append bs (line_feed ∷ []) in
    is-put (ended bs) area _ _ (omega arith) (put-behind area first _ at bs (line_feed ∷ []) e f refl) (omega arith)
