-- How a run goes on from line to line, its end, and the invariant of its loop. Assumes nothing.
use Prim.Native.Nat.{ℕ, ◌+◌, ◌-◌, ◌<◌, ◌≤◌}
use native.Mathlib.Omega.{arith}
use mathlib.Core.Path.{◌≡◌, refl, sym, ap, subst, ◌∙◌}
use mathlib.Core.Bool.{Bool, true, false, not, cond}
use mathlib.Core.List.{List, [], ◌∷◌, ◌++◌, append-nil, append_assoc}
use borrow.Author.Tests.{lt-ltb, le-ltb, leb-true}
use borrow.Rule.Slice.PartMut.{put_mid}
use lib.Dec.{leb}
use lib.ListN.{length, take, drop, length-append, length-take, length-drop, drop_of_length-le, take-append-drop}
use lib.Seq.{drop-drop, take_all, take_at, drop_at}
use Rattle.std.specs.Prelude.{Option, Some, None, IfSome}
use Rattle.protocol.specs.Plan.{Plan}
use Rattle.protocol.proofs.Laws.{is_yes}
use Rattle.format.specs.Lines.{lines}
use Rattle.format.specs.Sheets.{text, line_step, in_front}
use Rattle.reader.specs.Cut.{first_line}
use Rattle.reader.proofs.Cut.{lines-over, lines_at}
use Rattle.state.specs.declared.State.{State}
use Rattle.state.specs.View.{view}
use Rattle.calls.specs.Makes.{Kept}
use Rattle.calls.specs.declared.Beside.{Beside}
use Rattle.run.specs.Progress.{Ran, behind_ran, ran, Advanced}
use Rattle.run.specs.Lines.{first_length, AnsweredLine}
use Rattle.run.proofs.Putting.{is_fit, is_unfit}

-- a run that goes on: the answers written so far, and what is still to come of the whole run
pub record Going (on : Bool) (reserve : ℕ) (sheet : List ℕ) (from : ℕ) (lent : List ℕ) (start : Plan) (area : List ℕ) (p : State) (b : Beside) (at i : ℕ) : Type 0 where
  pub kept : Kept b p
  pub same : length area ≡ length lent
  pub most : at ≤ length lent
  pub rest : drop at area ≡ drop at lent
  pub course : ran on reserve (length lent) start (lines (drop from sheet)) ≡ behind_ran (take at area) (ran on reserve (length lent - at) (view p) (lines (drop i sheet)))

behind_two : (xs ys : List ℕ) (r : Ran) → behind_ran xs (behind_ran ys r) ≡ behind_ran (xs ++ ys) r
behind_two xs ys r = ap (λ bs. record { bytes = bs; rest = r.rest; plan = r.plan; ended = r.ended }) (sym (append_assoc xs ys r.bytes))

-- ---- the beginning

pub begins : (on : Bool) (reserve : ℕ) (sheet : List ℕ) (from : ℕ) (lent : List ℕ) (p : State) (b : Beside) → Kept b p → Going on reserve sheet from lent (view p) lent p b 0 from
begins on reserve sheet from lent p b k = record {
  kept = k;
  same = refl;
  most = omega arith;
  rest = refl;
  course = (let e : length lent ≡ length lent - 0 = omega arith in ap (λ n. ran on reserve n (view p) (lines (drop from sheet))) e);
}

-- ---- the end

module _ {on : Bool} {reserve : ℕ} {sheet : List ℕ} {from : ℕ} {lent : List ℕ} {start : Plan} {area : List ℕ} {p : State} {b : Beside} {at i : ℕ}
    (g : Going on reserve sheet from lent start area p b at i) where
  -- a run of which the rest is known, and writes nothing more
  ends : (q : State) (next : ℕ) (e : Bool) → ran on reserve (length lent - at) (view p) (lines (drop i sheet)) ≡ record { bytes = []; rest = lines (drop next sheet); plan = view q; ended = e }
      → Advanced on reserve sheet from start lent (view q) next at e area
  ends q next e h =
      let c : ran on reserve (length lent) start (lines (drop from sheet)) ≡ behind_ran (take at area) (record { bytes = []; rest = lines (drop next sheet); plan = view q; ended = e }) = g.course
      ∙ ap (behind_ran (take at area)) h in
      let front : (ran on reserve (length lent) start (lines (drop from sheet))).bytes ≡ take at area = ap (λ r. r.bytes) c ∙ append-nil (take at area) in
      let n : length (take at area) ≡ at = (let l = length-take at area in let s = g.same in let m = g.most in omega arith) in
      record {
        plan = sym (ap (λ r. r.plan) c);
        rest = sym (ap (λ r. r.rest) c);
        put = sym (ap length front ∙ n);
        over = sym (ap (λ r. r.ended) c);
        buffer = sym (ap (λ bs. in_front bs lent) front ∙ ap (λ k. take at area ++ drop k lent) n ∙ ap (λ xs. take at area ++ xs) (sym g.rest) ∙ take-append-drop at area);
      }

  pub over : length sheet ≤ i → Advanced on reserve sheet from start lent (view p) i at false area
  unfolding ran
  over h = ends p i false (rw (lines-over sheet i h))

  -- the line at hand
  abbrev line : List ℕ
  line = first_line (drop i sheet)

  abbrev end : ℕ
  end = i + length line

  cut : i < length sheet → lines (drop i sheet) ≡ line ∷ lines (drop (end + 1) sheet)
  cut h = lines_at sheet i end refl h

  pub paused : i < length sheet → length lent - at < reserve → Advanced on reserve sheet from start lent (view p) i at false area
  unfolding ran
  paused h r = ends p i false (rw (cut h) (rw (lt-ltb (length lent - at) reserve r)))

  -- ---- a line made on the plan and answered

  module _ (h : i < length sheet) (r : reserve ≤ length lent - at) {put : Option ℕ} {q : State} {b' : Beside} {room' : List ℕ}
      (l : AnsweredLine (drop i sheet) p (drop at area) put q b' room') where
    abbrev bytes : List ℕ
    bytes = text (line_step line (view p)).answer

    room : length (drop at area) ≡ length lent - at
    room = length-drop at area ∙ ap (λ n. n - at) g.same

    stays : leb (length bytes) (length (drop at area)) ≡ false → take at area ++ room' ≡ area
    stays f = let e : room' ≡ drop at area = rw l.buffer (rw f) in ap (λ xs. take at area ++ xs) e ∙ take-append-drop at area

    -- one whose answer does not fit ends the run,
    pub unfit : on ≡ false → put ≡ None → Advanced on reserve sheet from start lent (view q) (end + 1) at true (take at area ++ room')
    unfolding ran
    unfit o e =
        let f = is_unfit bytes (drop at area) put l.count e in
        let n : leb (length bytes) (length lent - at) ≡ false = ap (leb (length bytes)) (sym room) ∙ f in
        rw (stays f) (ends q (end + 1) true (rw (cut h) (rw (le-ltb (length lent - at) reserve r, n, o, ← l.plan))))

    -- or is dropped, where the run is to go on
    pub dropped : on ≡ true → put ≡ None → Going on reserve sheet from lent start (take at area ++ room') q b' at (end + 1)
    unfolding ran
    dropped o e =
        let f = is_unfit bytes (drop at area) put l.count e in
        let n : leb (length bytes) (length lent - at) ≡ false = ap (leb (length bytes)) (sym room) ∙ f in
        let rest = ran on reserve (length lent - at) (view q) (lines (drop (end + 1) sheet)) in
        let stopped : Ran = record { bytes = []; rest = lines (drop (end + 1) sheet); plan = view q; ended = true } in
        let goes : ran on reserve (length lent - at) (view p) (lines (drop i sheet)) ≡ rest =
        rw (cut h) (rw (le-ltb (length lent - at) reserve r, n, ← l.plan) (ap (λ (y : Bool). cond y rest stopped) o)) in
        rw (stays f) (record { kept = l.kept; same = g.same; most = g.most; rest = g.rest; course = g.course ∙ ap (behind_ran (take at area)) goes })

    -- the answer is written, and the run goes on
    pub next_line : (n : ℕ) → put ≡ Some n → Going on reserve sheet from lent start (take at area ++ room') q b' (at + n) (end + 1)
    unfolding ran
    next_line n e =
        let f = is_fit bytes (drop at area) put l.count n e in
        let fits : leb (length bytes) (length lent - at) ≡ true = ap (leb (length bytes)) (sym room) ∙ f.0 in
        let goes : ran on reserve (length lent - at) (view p) (lines (drop i sheet)) ≡ behind_ran bytes (ran on reserve (length lent - at - length bytes) (view q) (lines (drop (end + 1) sheet))) =
        rw (cut h) (rw (le-ltb (length lent - at) reserve r, fits, ← l.plan)) in
        let filled : room' ≡ in_front bytes (drop at area) = rw l.buffer (rw f.0) in
        rw (filled, f.1) (written f.0 goes)
      where
        written : leb (length bytes) (length (drop at area)) ≡ true
            → ran on reserve (length lent - at) (view p) (lines (drop i sheet)) ≡ behind_ran bytes (ran on reserve (length lent - at - length bytes) (view q) (lines (drop (end + 1) sheet)))
            → Going on reserve sheet from lent start (take at area ++ in_front bytes (drop at area)) q b' (at + length bytes) (end + 1)
        written f goes =
            let w = leb-true (length bytes) (length (drop at area)) f in
            let n : length (take at area) ≡ at = (let x = length-take at area in let s = g.same in let m = g.most in omega arith) in
            let whole : length (take at area ++ in_front bytes (drop at area)) ≡ length lent =
            (let x = length-append (take at area) (in_front bytes (drop at area)) in let y = length-append bytes (drop (length bytes) (drop at area)) in let d = length-drop (length bytes)
            (drop at area) in let s = room in let m = g.most in omega arith) in
            let two : take at area ++ in_front bytes (drop at area) ≡ (take at area ++ bytes) ++ drop (length bytes) (drop at area) = sym
            (append_assoc (take at area) bytes (drop (length bytes) (drop at area))) in
            let long : length (take at area ++ bytes) ≡ at + length bytes = length-append (take at area) bytes ∙ ap (λ j. j + length bytes) n in
            let e : length lent - at - length bytes ≡ length lent - (at + length bytes) = omega arith in
            record {
              kept = l.kept;
              same = whole;
              most = (let s = room in let m = g.most in omega arith);
              rest = ap (drop (at + length bytes)) two ∙ drop_at (take at area ++ bytes) (drop (length bytes) (drop at area)) (at + length bytes) long ∙ ap (drop (length bytes)) g.rest
                  ∙ drop-drop (length bytes) at lent;
              course = g.course ∙ ap (behind_ran (take at area)) (goes ∙ ap (λ j. behind_ran bytes (ran on reserve j (view q) (lines (drop (end + 1) sheet)))) e)
                  ∙ behind_two (take at area) bytes (ran on reserve (length lent - (at + length bytes)) (view q) (lines (drop (end + 1) sheet)))
                  ∙ ap (λ xs. behind_ran xs (ran on reserve (length lent - (at + length bytes)) (view q) (lines (drop (end + 1) sheet))))
                  (sym (ap (take (at + length bytes)) two ∙ take_at (take at area ++ bytes) (drop (length bytes) (drop at area)) (at + length bytes) long));
            }

-- ---- a sheet and an area of which the rest is lent

abbrev pub lent_from : ℕ → List ℕ → List ℕ
lent_from at xs = take (length xs - at) (drop at xs)

lent_rest : (at : ℕ) (xs : List ℕ) → lent_from at xs ≡ drop at xs
lent_rest at xs = take_all (length xs - at) (drop at xs) (let e = length-drop at xs in omega arith)

put_back : (at : ℕ) (xs ys : List ℕ) → put_mid at (length xs - at) xs ys ≡ take at xs ++ ys
put_back at xs ys =
    let e : drop (length xs - at) (drop at xs) ≡ [] = drop_of_length-le (drop at xs) {i = length xs - at} (let d = length-drop at xs in omega arith) in
    rw (e, append-nil)

pub still_long : (at : ℕ) (xs ys : List ℕ) → at ≤ length xs → length ys ≡ length (lent_from at xs) → length (put_mid at (length xs - at) xs ys) ≡ length xs
still_long at xs ys h e =
    let r = ap length (lent_rest at xs) in let d = length-drop at xs in let t = length-take at xs in let a = length-append (take at xs) ys in
    ap length (put_back at xs ys) ∙ omega (arith, h, e, r, d, t, a)

pub lent_most : (at : ℕ) (xs : List ℕ) → length (lent_from at xs) ≡ length xs - at
lent_most at xs = ap length (lent_rest at xs) ∙ length-drop at xs

pub most_put : {put : Option ℕ} {room : ℕ} → IfSome put (λ n. n ≤ room) → (n : ℕ) → put ≡ Some n → n ≤ room
most_put {room = room} h n e = subst (λ o. IfSome o (λ k. k ≤ room)) e h

-- ---- the loop's invariant

-- The run is over, as an answer did not fit, or goes on.
pub record Course (on : Bool) (reserve : ℕ) (sheet : List ℕ) (from : ℕ) (lent : List ℕ) (start : Plan) (area : List ℕ) (p : State) (b : Beside) (at i : ℕ) (ended : Bool) : Type 0 where
  pub over : ended ≡ true → Advanced on reserve sheet from start lent (view p) i at true area
  pub under : ended ≡ false → Going on reserve sheet from lent start area p b at i

off : (on : Bool) → not on ≡ true → on ≡ false
off true e = sym e
off false e = refl

kept_on : (on : Bool) → not on ≡ false → on ≡ true
kept_on true e = refl
kept_on false e = sym e

module _ {on : Bool} {reserve : ℕ} {sheet : List ℕ} {from : ℕ} {lent : List ℕ} {start : Plan} {area : List ℕ} {p : State} {b : Beside} {at i : ℕ} {ended : Bool}
    (c : Course on reserve sheet from lent start area p b at i ended) where
  -- no line is begun, as an answer did not fit,
  pub ended_there : ended ≡ true → Advanced on reserve sheet from start lent (view p) i at ended area
  ended_there e = rw e (c.over e)

  -- or the sheet is over,
  pub ended_sheet : ended ≡ false → length sheet ≤ i → Advanced on reserve sheet from start lent (view p) i at ended area
  ended_sheet e h = rw e (over (c.under e) h)

  -- or too little room is left
  pub ended_room : ended ≡ false → i < length sheet → length area - at < reserve → Advanced on reserve sheet from start lent (view p) i at ended area
  ended_room e h r = let g = c.under e in rw e (paused g h (let s = g.same in omega (arith, r, s)))

  -- a line is made on the plan and answered
  module _ (e : ended ≡ false) (h : i < length sheet) (r : reserve ≤ length area - at) {put : Option ℕ} {q : State} {b' : Beside} {room' : List ℕ} {end : ℕ}
      (m : end ≡ first_length (lent_from i sheet)) (l : Kept b p → AnsweredLine (lent_from i sheet) p (lent_from at area) put q b' room') where
    g : Going on reserve sheet from lent start area p b at i
    g = c.under e

    enough : reserve ≤ length lent - at
    enough = let s = g.same in omega (arith, r, s)

    made : AnsweredLine (drop i sheet) p (drop at area) put q b' room'
    made = subst (λ xs. AnsweredLine xs p (drop at area) put q b' room') (lent_rest i sheet)
        (subst (λ xs. AnsweredLine (lent_from i sheet) p xs put q b' room') (lent_rest at area) (l g.kept))

    behind : i + length (first_line (drop i sheet)) + 1 ≡ i + (end + 1)
    behind = let k = m ∙ ap first_length (lent_rest i sheet) in omega (arith, k)

    pub written_on : (n : ℕ) → put ≡ Some n → Course on reserve sheet from lent start (put_mid at (length area - at) area room') q b' (at + n) (i + (end + 1)) ended
    written_on n f = rw (put_back at area room') (record {
      over = λ x. absurd (is_yes (sym e ∙ x));
      under = λ x. subst (Going on reserve sheet from lent start (take at area ++ room') q b' (at + n)) behind (next_line g h enough made n f);
    })

    pub left_out : put ≡ None → Course on reserve sheet from lent start (put_mid at (length area - at) area room') q b' at (i + (end + 1)) (not on)
    left_out f = rw (put_back at area room') (record {
      over = λ x. subst (λ j. Advanced on reserve sheet from start lent (view q) j at true (take at area ++ room')) behind (unfit g h enough made (off on x) f);
      under = λ x. subst (Going on reserve sheet from lent start (take at area ++ room') q b' at) behind (dropped g h enough made (kept_on on x) f);
    })
