-- A run with nothing held in reserve is the screen's. Assumes nothing.
use Prim.Native.Nat.{ℕ, ◌+◌, ◌*◌, ◌-◌, ◌<◌, ◌≤◌}
use native.Mathlib.Omega.{arith}
use mathlib.Core.Path.{◌≡◌, refl, sym, ap, ap₂, ◌∙◌}
use mathlib.Core.Bool.{Bool, true, false}
use mathlib.Core.List.{List, [], ◌∷◌}
use borrow.Author.Tests.{le-ltb, leb-true, leb-false, le-leb, lt-leb}
use lib.Dec.{leb, ltb}
use lib.ListN.{length, drop, length-append}
use Rattle.std.specs.Prelude.{Option, Some, None}
use Rattle.protocol.specs.Lists.{bit}
use Rattle.protocol.specs.Plan.{Plan}
use Rattle.protocol.specs.Calls.{no}
use Rattle.protocol.proofs.Laws.{cases}
use Rattle.format.specs.Lines.{lines}
use Rattle.format.specs.Numbers.{digits}
use Rattle.format.specs.Sheets.{text, line_step, answer_lines, replies, Fitted, behind, fitted, in_front, screened, screen}
use Rattle.run.specs.Progress.{Ran, ran, Advanced}
use Rattle.writer.specs.Writes.{put_in, put_count}
use Rattle.sheet.specs.Served.{alone}
use Rattle.sheet.specs.Runs.{handed_back}

abbrev whole_of : Ran → Fitted
whole_of r = record { bytes = r.bytes; ended = r.ended }

ran-fitted : (room : ℕ) (p : Plan) (ls : List (List ℕ)) → whole_of (ran false 0 room p ls) ≡ fitted room (answer_lines p ls)
unfolding ran fitted answer_lines
ran-fitted room p [] = refl
ran-fitted room p (l ∷ ls) =
    let t = text (line_step l p).answer in
    let ih = ran-fitted (room - length t) (line_step l p).plan ls in
    rw (le-ltb room 0 (omega arith)) (cases (leb (length t) room) (λ e. rw e (ap (behind t) ih)) (λ e. rw e))

-- what fits is no longer than the room
fitted_most : (room : ℕ) (ts : List (List ℕ)) → length (fitted room ts).bytes ≤ room
unfolding fitted
fitted_most room [] = omega arith
fitted_most room (t ∷ ts) =
    let ih = fitted_most (room - length t) ts in
    cases (leb (length t) room)
    (λ e. rw e (let a = length-append t (fitted (room - length t) ts).bytes in let h = leb-true (length t) room e in omega arith))
    (λ e. rw e (omega arith))

module _ (p : Plan) (sheet area after : List ℕ) (q : Plan) (next written : ℕ) (ended : Bool) (h : Advanced false 0 sheet 0 p area q next written ended after) where
  abbrev whole : Fitted
  whole = fitted (length area) (answer_lines p (lines sheet))

  ran-whole : whole_of (ran false 0 (length area) p (lines (drop 0 sheet))) ≡ whole
  ran-whole = ran-fitted (length area) p (lines sheet)

  pub written_is : written ≡ length whole.bytes
  written_is = h.put ∙ ap (λ f. length f.bytes) ran-whole

  pub written_most : written ≤ length area
  written_most = let e : written ≡ length whole.bytes = h.put ∙ ap (λ f. length f.bytes) ran-whole in let m = fitted_most (length area) (answer_lines p (lines sheet)) in omega (arith, e, m)

  pub screened-is : (n : ℕ) → n ≡ 2 * written + bit ended → ltb 65536 (length sheet) ≡ false → handed_back n after ≡ screen p sheet area
  unfolding screen replies
  screened-is n e f =
      let w = h.put ∙ ap (λ x. length x.bytes) ran-whole in
      let d = h.over ∙ ap (λ x. x.ended) ran-whole in
      let b = h.buffer ∙ ap (λ x. in_front x.bytes area) ran-whole in
      rw f (λ i. record { number = (e ∙ (λ j. 2 * w j + bit (d j))) i; buffer = b i })

-- ---- a sheet that is too long

alone-text : text (no 52) ≡ alone
unfolding text digits
alone-text = refl

-- it goes in whole, or not at all
module _ (area after : List ℕ) (put : Option ℕ) (f : after ≡ put_in alone area) (e : put ≡ put_count alone area) where
  pub alone_some : (n : ℕ) → put ≡ Some n → (n ≡ 6) × (6 ≤ length area) × (after ≡ in_front alone area)
  alone_some n k = cases (leb 6 (length area))
      (λ t. ((let y : ◌≡◌ {A = Option ℕ} (Some n) (Some 6) = sym k ∙ e ∙ rw t in cc), leb-true 6 (length area) t, rw f (rw t)))
      (λ t. let y : ◌≡◌ {A = Option ℕ} (Some n) None = sym k ∙ e ∙ rw t in absurd (let z : ◌≡◌ {A = ℕ} 0 1 = cc in omega arith))

  pub alone_none : put ≡ None → (length area < 6) × (after ≡ area)
  alone_none k = cases (leb 6 (length area))
      (λ t. let y : ◌≡◌ {A = Option ℕ} None (Some 6) = sym k ∙ e ∙ rw t in absurd (let z : ◌≡◌ {A = ℕ} 0 1 = cc in omega arith))
      (λ t. (leb-false 6 (length area) t, rw f (rw t)))

  -- and its number
  pub told_some : (n : ℕ) → put ≡ Some n → (m : ℕ) → m ≡ 2 * n + bit false → handed_back m after ≡ screened (fitted (length area) (text (no 52) ∷ [])) area
  unfolding fitted
  told_some n k m h = let t = alone_some n k in rw (alone-text, le-leb 6 (length area) t.1) (ap₂ handed_back (h ∙ ap (λ j. 2 * j + bit false) t.0) t.2)

  pub told_none : put ≡ None → (m : ℕ) → m ≡ 2 * 0 + bit true → handed_back m after ≡ screened (fitted (length area) (text (no 52) ∷ [])) area
  unfolding fitted
  told_none k m h = let t = alone_none k in rw (alone-text, lt-leb 6 (length area) t.0) (ap₂ handed_back h t.1)
