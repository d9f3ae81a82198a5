-- A run made piece by piece: no answer is lost, and the pieces put one behind the other are the answers to the whole sheet. Assumes nothing.
use Prim.Native.Nat.{ℕ, zero, suc, ◌+◌, ◌-◌, ◌<◌, ◌≤◌, min}
use native.Mathlib.Omega.{arith}
use mathlib.Core.Path.{◌≡◌, refl, sym, ap, ap₂, subst, ◌∙◌}
use mathlib.Core.Bool.{Bool, true, false}
use mathlib.Core.List.{List, [], ◌∷◌, ◌++◌, append_assoc}
use borrow.Author.Tests.{ltb-true, ltb-false, lt-ltb, le-ltb, le-leb}
use lib.Dec.{T, eqb, leb, ltb, le→leb}
use lib.IntN.{ℤ, pos}
use lib.ListN.{length, get_or, take, drop, length-append, length-drop, drop_of_length-le}
use lib.Seq.{take-append_seam, drop-drop}
use lib.Signed.{mag}
use Rattle.protocol.specs.Lists.{all}
use Rattle.protocol.specs.Plan.{Plan, Kept}
use Rattle.protocol.specs.Calls.{no}
use Rattle.protocol.proofs.Laws.{cases, and_in}
use Rattle.format.specs.Numbers.{digits}
use Rattle.format.specs.Lines.{line_feed, lines, grow}
use Rattle.format.specs.Sheets.{text, line_step, answer_lines, leaves, too_long, replies, in_front}
use Rattle.format.specs.Longest.{longest_answer}
use Rattle.format.proofs.Longest.{is_short, is_row, short, Narrow, narrow_line, longest}
use Rattle.rows.specs.Rows.{span, row}
use Rattle.rows.proofs.Spans.{length-span}
use Rattle.heads.specs.Heads.{sides_in, kept_in, measures_in}
use Rattle.state.specs.declared.State.{State}
use Rattle.state.specs.Spread.{spread, side_of}
use Rattle.state.specs.View.{view}
use Rattle.state.proofs.View.{sides_most}
use Rattle.state.proofs.Owned.{Ranged}
use Rattle.run.specs.Progress.{Ran, behind_ran, ran, Advanced}
use Rattle.std.specs.Prelude.{Option, Some}
use Rattle.writer.specs.Writes.{put_in, put_count}
use Rattle.sheet.specs.Served.{alone}
use Rattle.sheet.proofs.Runs.{alone_some}
use Rattle.sheet.specs.Pieces.{flat, due, Pieced, Pieces, over, piece}

-- ---- a state's plan is narrow

every : {A : Type 0} (q : A → Bool) (i n : ℕ) (f : ℕ → A) → ((k : ℕ) → T (q (f k))) → T (all q (span i n f))
every q i zero f h = tt
every q i (suc n) f h = and_in (q (f i)) (all q (span (suc i) n f)) (h i) (every q (suc i) n f h)

span_most : {A : Type 0} (i n k : ℕ) (f : ℕ → A) → n ≤ k → length (span i n f) ≤ k
span_most i n k f h = let e = length-span i n f in omega arith

row_narrow : (vs : List ℤ) (at n : ℕ) → n ≤ 32 → ((i : ℕ) → mag (get_or vs i (pos 0)) < 2147483648) → T (is_row (row vs at n))
row_narrow vs at n l h =
    let e = length-span at n (λ i. get_or vs i (pos 0)) in
    and_in (leb (length (row vs at n)) 32) (all is_short (row vs at n)) (le→leb (length (row vs at n)) 32 (omega arith))
    (every is_short at n (λ i. get_or vs i (pos 0)) (λ i. short (get_or vs i (pos 0)) (let b = h i in omega arith)))

pub narrow_view : (p : State) → Ranged p → Narrow (view p).content
narrow_view p g = record {
  rules = span_most 0 (min p.head.rules 64) 64 _ (omega arith);
  next = short (pos p.head.next) (omega (arith, g.next));
  base = row_narrow p.base 0 (min p.head.based 32) (omega arith) g.base;
  draft = row_narrow p.draft 0 (min p.head.drafted 32) (omega arith) g.draft;
  sides = span_most 1 (sides_in p.head) 8 (side_of (spread p)) (sides_most p.head);
  values = every (λ x. is_row x.values) 1 (sides_in p.head) (side_of (spread p)) (λ s. row_narrow p.values _ (measures_in p.head) (omega arith) g.values);
  kept = span_most 0 (kept_in p.head) 256 _ (omega arith);
  places = every (λ (k : Kept). is_short (pos k.place)) 0 (kept_in p.head) _ (λ i. short (pos (get_or p.edits i _).place) (let b = g.places i in omega arith));
}

-- ---- a run that holds the longest answer in reserve

-- what it leaves, as the answer lines that it wrote
record Shared (room : ℕ) (p : Plan) (ls : List (List ℕ)) (r : Ran) : Type 0 where
  told : List (List ℕ)
  parts : answer_lines p ls ≡ told ++ answer_lines r.plan r.rest
  plan : r.plan ≡ leaves p (take (length told) ls)
  left : r.rest ≡ drop (length told) ls
  bytes : r.bytes ≡ flat told
  room_for : length (flat told) ≤ room
  fewer : length r.rest ≤ length ls
  further : longest_answer ≤ room → 0 < length ls → length r.rest < length ls

-- it writes nothing where the reserve is not free
unbegun : (room : ℕ) (p : Plan) (ls : List (List ℕ)) → room < longest_answer → Shared room p ls (record { bytes = []; rest = ls; plan = p; ended = false })
unbegun room p ls h = record { told = []; parts = refl; plan = refl; left = refl; bytes = refl; room_for = omega arith; fewer = omega arith; further = λ a b. absurd (omega arith) }

-- what a run does with the next line
ran_unbegun : (reserve room : ℕ) (p : Plan) (l : List ℕ) (ls : List (List ℕ)) → ltb room reserve ≡ true
    → ran false reserve room p (l ∷ ls) ≡ record { bytes = []; rest = l ∷ ls; plan = p; ended = false }
unfolding ran
ran_unbegun reserve room p l ls h = rw h

ran-fits : (reserve room : ℕ) (p : Plan) (l : List ℕ) (ls : List (List ℕ)) → ltb room reserve ≡ false → leb (length (text (line_step l p).answer)) room ≡ true
    → ran false reserve room p (l ∷ ls) ≡ behind_ran (text (line_step l p).answer) (ran false reserve (room - length (text (line_step l p).answer)) (line_step l p).plan ls)
unfolding ran
ran-fits reserve room p l ls h e = rw (h, e)

ran-none : (reserve room : ℕ) (p : Plan) → ran false reserve room p [] ≡ record { bytes = []; rest = []; plan = p; ended = false }
unfolding ran
ran-none reserve room p = refl

shared : (room : ℕ) (p : Plan) (ls : List (List ℕ)) → Narrow p.content → Shared room p ls (ran false longest_answer room p ls)
unfolding answer_lines
shared room p [] g = subst (Shared room p []) (sym (ran-none longest_answer room p))
    (record { told = []; parts = refl; plan = refl; left = refl; bytes = refl; room_for = omega arith; fewer = omega arith; further = λ a b. absurd (omega arith) })
shared room p (l ∷ ls) g =
    let t = text (line_step l p).answer in
    cases (ltb room longest_answer)
    (λ h. subst (Shared room p (l ∷ ls)) (sym (ran_unbegun longest_answer room p l ls h)) (unbegun room p (l ∷ ls) (ltb-true room longest_answer h)))
    (λ h.
    let k = longest l p g in
    let m = ltb-false room longest_answer h in
    let r = shared (room - length t) (line_step l p).plan ls (narrow_line l p g) in
    let e = length-append t (flat r.told) in
    subst (Shared room p (l ∷ ls)) (sym (ran-fits longest_answer room p l ls h (le-leb (length t) room (omega arith)))) (record {
      told = t ∷ r.told;
      parts = ap {B = List (List ℕ)} (λ ts. t ∷ ts) r.parts;
      plan = r.plan;
      left = r.left;
      bytes = ap (λ bs. t ++ bs) r.bytes;
      room_for = omega (arith, r.room_for);
      fewer = omega (arith, r.fewer);
      further = λ a b. omega (arith, r.fewer);
    }))

-- ---- lines

lines_one : (b : ℕ) (bs : List ℕ) → (0 < length (lines (b ∷ bs))) × (length (lines bs) ≤ length (lines (b ∷ bs)))
unfolding lines
lines_one b bs = cases (eqb b line_feed) (λ e. rw e (omega arith, omega arith)) (λ e. rw e (grown (lines bs)))
  where
    grown : (ls : List (List ℕ)) → (0 < length (grow b ls)) × (length ls ≤ length (grow b ls))
    grown [] = (omega arith, omega arith)
    grown (l ∷ ls) = (omega arith, omega arith)

lines-some : (bs : List ℕ) → 0 < length bs → 0 < length (lines bs)
lines-some [] h = absurd (omega arith)
lines-some (b ∷ bs) h = (lines_one b bs).0

lines_fewer : (n : ℕ) (bs : List ℕ) → length (lines (drop n bs)) ≤ length (lines bs)
lines_fewer zero bs = omega arith
lines_fewer (suc n) [] = omega arith
lines_fewer (suc n) (b ∷ bs) = let i = lines_fewer n bs in let l = (lines_one b bs).1 in omega arith

-- a later place of the sheet has as few lines left only if it is later
moved : (sheet : List ℕ) (from next : ℕ) → length (lines (drop next sheet)) < length (lines (drop from sheet)) → from < next
moved sheet from next h = cases (ltb from next)
    (λ e. ltb-true from next e)
    (λ e.
    let l = ltb-false from next e in
    let f = lines_fewer (from - next) (drop next sheet) in
    let n : next + (from - next) ≡ from = omega arith in
    let d : drop (from - next) (drop next sheet) ≡ drop from sheet = drop-drop (from - next) next sheet ∙ ap (λ k. drop k sheet) n in
    let k : length (lines (drop (from - next) (drop next sheet))) ≡ length (lines (drop from sheet)) = ap (λ bs. length (lines bs)) d in
    absurd (omega (arith, f, k, h)))

-- ---- a piece

module _ (sheet : List ℕ) (from : ℕ) (p : State) (lent : List ℕ) where
  -- of a sheet that is not too long
  pub piece-run : Ranged p → (q : State) (next written : ℕ) (ended : Bool) (after : List ℕ) → length sheet ≤ 65536 → Advanced false longest_answer sheet from (view p) lent (view q) next
      written ended after
      → Pieced sheet from p lent (record { state = q; next = next; written = written }) after
  piece-run g q next written ended after fits h =
      let s = shared (length lent) (view p) (lines (drop from sheet)) (narrow_view p g) in
      let short = le-ltb 65536 (length sheet) fits in
      let w = h.put ∙ ap length s.bytes in
      let here : due sheet from (view p) ≡ answer_lines (view p) (lines (drop from sheet)) = rw short in
      let there : due sheet next (view q) ≡ answer_lines (view q) (lines (drop next sheet)) = rw short in
      record {
        told = s.told;
        parts = here ∙ s.parts ∙ ap (λ ts. s.told ++ ts) (sym (there ∙ ap₂ answer_lines h.plan h.rest));
        plan = λ e. h.plan ∙ s.plan;
        rest = λ e. h.rest ∙ s.left;
        written = w;
        room = let m = s.room_for in omega (arith, w, m);
        buffer = h.buffer ∙ ap (λ bs. in_front bs lent) s.bytes;
        further = λ room left.
            let some = lines-some (drop from sheet) (let l = length-drop from sheet in omega arith) in
            let f = s.further room some in
            let e = ap length h.rest in
            moved sheet from next (omega (arith, f, e));
      }

  -- of one that is too long, where `no 52` has room
  module _ (far : 65536 < length sheet) (after : List ℕ) (put : Option ℕ) (f : after ≡ put_in alone lent) (e : put ≡ put_count alone lent) where
    pub piece-refused : (n : ℕ) → put ≡ Some n → from < length sheet → Pieced sheet from p lent (record { state = p; next = length sheet; written = n }) after
    unfolding text digits
    piece-refused n k left = let t = alone_some lent after put f e n k in record {
      told = text (no 52) ∷ [];
      parts = rw (lt-ltb 65536 (length sheet) far, lt-ltb from (length sheet) left, le-ltb (length sheet) (length sheet) (omega arith));
      plan = λ e. absurd (subst T (sym (lt-ltb 65536 (length sheet) far) ∙ e) tt);
      rest = λ e. absurd (subst T (sym (lt-ltb 65536 (length sheet) far) ∙ e) tt);
      written = t.0;
      room = omega (arith, t.0, t.1);
      buffer = t.2;
      further = λ a c. left;
    }

-- ---- all pieces

pub due-whole : (sheet : List ℕ) (p : Plan) → due sheet 0 p ≡ replies p sheet
unfolding replies
due-whole sheet p = cases (too_long sheet)
    (λ e. rw (e, lt-ltb 0 (length sheet) (let l = ltb-true 65536 (length sheet) e in omega arith)))
    (λ e. rw e)

due-over : (sheet : List ℕ) (from : ℕ) (p : Plan) → length sheet ≤ from → due sheet from p ≡ []
unfolding answer_lines lines
due-over sheet from p h = cases (too_long sheet)
    (λ e. rw (e, le-ltb from (length sheet) h))
    (λ e. rw (e, drop_of_length-le sheet {i = from} h))

flat_append : (ss ts : List (List ℕ)) → flat (ss ++ ts) ≡ flat ss ++ flat ts
flat_append [] ts = refl
flat_append (s ∷ ss) ts = ap (λ bs. s ++ bs) (flat_append ss ts) ∙ sym (append_assoc s (flat ss) (flat ts))

pieces_due : (sheet : List ℕ) (from : ℕ) (p : State) (bs : List (List ℕ)) → Pieces sheet from p bs → flat bs ≡ flat (due sheet from (view p))
pieces_due sheet from p bs (over _ _ h) = sym (ap flat (due-over sheet from (view p) h))
pieces_due sheet from p bs (piece lent r after h rest) =
    let front : take r.written after ≡ flat h.told = ap₂ take h.written h.buffer ∙ take-append_seam (flat h.told) _ in
    ap₂ (λ x y. x ++ y) front (pieces_due sheet r.next r.state _ rest) ∙ sym (ap flat h.parts ∙ flat_append h.told _)

-- The pieces of a run from the sheet's beginning, one behind the other, are the answers to the sheet on the plan that it began on.
pub pieces_whole : (sheet : List ℕ) (p : State) (bs : List (List ℕ)) → Pieces sheet 0 p bs → flat bs ≡ flat (replies (view p) sheet)
pieces_whole sheet p bs h = pieces_due sheet 0 p bs h ∙ ap flat (due-whole sheet (view p))
