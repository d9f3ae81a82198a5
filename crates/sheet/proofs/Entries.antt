-- The entries of saved plans: a sheet's plan, and the numbers that are handed back. Assumes nothing.
use Prim.Native.Nat.{ℕ, suc, ◌+◌, ◌*◌, ◌-◌, ◌<◌, ◌≤◌}
use native.Mathlib.Omega.{arith}
use mathlib.Core.Path.{◌≡◌, refl, sym, ap, ap₂, subst, ◌∙◌}
use mathlib.Core.Bool.{Bool, true, false, cond}
use mathlib.Core.List.{List, [], ◌∷◌, ◌++◌, append-nil}
use lib.Seq.{take_all}
use borrow.Author.Tests.{le-ltb, lt-ltb, lt-leb}
use lib.Dec.{T, eqb, leb}
use lib.IntN.{ℤ, pos}
use lib.ListN.{length, take, drop, length-append, drop_of_length-le}
use Rattle.protocol.specs.Lists.{bit, one_to}
use Rattle.protocol.specs.Plan.{Plan}
use Rattle.protocol.specs.Calls as model
use Rattle.protocol.specs.Calls.{Call, Verdict, fine, refused, first, no, ok, Stepped, following, start}
use Rattle.protocol.proofs.Laws.{cases, range, bit_most}
use Rattle.format.specs.Lines.{line_feed, lines, grow}
use Rattle.format.specs.Sheets.{text, line_step, answer_lines, leaves, fitted, in_front, replies, too_long, Screened, screened, screen}
use Rattle.format.specs.Longest.{longest_answer}
use Rattle.format.proofs.Longest.{Narrow, short, narrow_step, narrow_line, longest}
use Rattle.file.specs.Saved.{saved, save, save_into, save_by, save_checks, filled_by}
use Rattle.file.specs.Loaded.{next_limit, renumbered, load}
use Rattle.file.proofs.Kept.{load_keeps}
use Rattle.guarantee.specs.Holding.{Holding}
use Rattle.guarantee.proofs.Holding.{holding_step, holding_start}
use Rattle.protocol.specs.declared.refusal.Refusal.{Refusal}
use Rattle.run.specs.Progress.{Ran, ran, Advanced}
use Rattle.std.specs.Prelude.{Option, Some, None, Result, Ok, Err}
use Rattle.state.specs.declared.State.{State}
use Rattle.state.specs.declared.Given.{Given}
use Rattle.state.specs.declared.Given.TheVariants.{Nothing, One, Two, Three}
use Rattle.state.specs.Spread.{spread}
use Rattle.state.specs.View.{view, blank_state}
use Rattle.state.specs.Meets.{answer_of, numbers_of}
use Rattle.calls.specs.Makes.{SoundIn}
use Rattle.sheet.specs.Runs.{handed_back}
use Rattle.sheet.specs.Served.{Begun, begun_as, saves, size_of, Outcome, outcome_of, entry_number, entry_of, saved_as, plan_saved, long_as, served_on, served_in, served}
use Rattle.sheet.specs.declared.Wanted.{Wanted}
use Rattle.sheet.specs.declared.Wanted.TheVariants.{Answers, Saved}
use Rattle.sheet.proofs.Runs.{written_is, written_most, screened-is}
use Rattle.sheet.specs.Entries.{load_entry, save_entry, save_on_entry, refused_with, giving, on_loaded, plan_of, saved_by, save_from}

-- ---- how much a run can write

answers_few : (room : ℕ) (p : Plan) (ls : List (List ℕ)) → Narrow p.content → length (fitted room (answer_lines p ls)).bytes ≤ longest_answer * length ls
unfolding fitted answer_lines
answers_few room p [] g = omega arith
answers_few room p (l ∷ ls) g =
    let t = text (line_step l p).answer in
    let ih = answers_few (room - length t) (line_step l p).plan ls (narrow_line l p g) in
    let k = longest l p g in
    cases (leb (length t) room)
    (λ e. rw e (let a = length-append t (fitted (room - length t) (answer_lines (line_step l p).plan ls)).bytes in omega arith))
    (λ e. rw e (omega arith))

lines_few : (bs : List ℕ) → length (lines bs) ≤ length bs
unfolding lines
lines_few [] = omega arith
lines_few (b ∷ bs) = let ih = lines_few bs in cases (eqb b line_feed) (λ e. rw e (omega arith)) (λ e. rw e (grown (lines bs) ih))
  where
    grown : (ls : List (List ℕ)) → length ls ≤ length bs → length (grow b ls) ≤ suc (length bs)
    grown [] h = omega arith
    grown (l ∷ ls) h = omega arith

pub number_small : (room : ℕ) (p : Plan) (sheet : List ℕ) → Narrow p.content → length sheet ≤ 65536 → (written : ℕ) → written ≡ length (fitted room (answer_lines p (lines sheet))).bytes
    → (ended : Bool) → (n : ℕ) → n ≡ 2 * written + bit ended → n < 4294967296
number_small room p sheet g h written e ended n k =
    let a = answers_few room p (lines sheet) g in
    let l = lines_few sheet in
    let few : written ≤ 387 * 65536 = bounded written (length (lines sheet)) (omega (arith, e, a)) (omega (arith, l, h)) in
    let b = bit_most ended in
    omega (arith, k, few, b)
  where
    bounded : (w m : ℕ) → w ≤ 387 * m → m ≤ 65536 → w ≤ 387 * 65536
    bounded w m x y = omega arith

-- ---- the plan that an entry begins on is narrow: what calls and another next number keep holds in it

begun_keeps : (P : Plan → Type 0) → ((c : Call) (p : Plan) → P p → P (following p c)) → ((n : ℕ) (p : Plan) → T (one_to next_limit n) → P p → P (renumbered n p)) → P start
    → (file : Option (List ℕ)) → P (begun_as file).plan
begun_keeps P by_call by_number g (Some file) = load_keeps P by_call by_number file start g
begun_keeps P by_call by_number g None = g

pub narrow_begun : (file : Option (List ℕ)) → Narrow (begun_as file).plan.content
narrow_begun = begun_keeps (λ p. Narrow p.content) narrow_step
    (λ n p t g. let r = range next_limit n t in record {
      rules = g.rules;
      next = short (pos n) (omega (arith, r.1));
      base = g.base;
      draft = g.draft;
      sides = g.sides;
      values = g.values;
      kept = g.kept;
      places = g.places;
    })
    (record { rules = omega arith; next = short (pos 1) (omega arith); base = tt; draft = tt; sides = omega arith; values = tt; kept = omega arith; places = tt })

-- and every rule holds in it
pub holding_begun : (file : Option (List ℕ)) → Holding (begun_as file).plan.mode (begun_as file).plan.content
holding_begun = begun_keeps (λ p. Holding p.mode p.content) holding_step (λ n p t g. record { alone = g.alone; sides = g.sides; base = g.base; draft = g.draft }) holding_start

-- ---- the plan of a sheet, played with no room for its answers

-- no answer is empty
text-some : (a : model.Answer) → 0 < length (text a)
unfolding text
text-some (no k) = omega arith
text-some (ok xs) = omega arith

pub played : (p : Plan) (ls : List (List ℕ)) → ran true 0 0 p ls ≡ record { bytes = []; rest = []; plan = leaves p ls; ended = false }
unfolding ran
played p [] = refl
played p (l ∷ ls) =
    let t = text (line_step l p).answer in
    let some = text-some (line_step l p).answer in
    rw (le-ltb 0 0 (omega arith), lt-leb (length t) 0 some) (played (line_step l p).plan ls)

-- ---- saving

-- what saving gives, and the buffer of one that is refused
save-given : (q : Plan) (room : ℕ) (xs : List ℤ) → (save room q).answer ≡ ok xs → (save room q).answer ≡ ok (pos (length (saved q)) ∷ [])
unfolding save
save-given q room xs = by (first (save_checks room q))
  where
    by : (v : Verdict) → (save_by v q).answer ≡ ok xs → (save_by v q).answer ≡ ok (pos (length (saved q)) ∷ [])
    by fine e = refl
    by (refused k) e = let z : no k ≡ ok xs = e in absurd (let y : ◌≡◌ {A = ℕ} 0 1 = cc in omega arith)

refused-buffer : (q : Plan) (buffer : List ℕ) (k : ℕ) → (save (length buffer) q).answer ≡ no k → save_into q buffer ≡ buffer
unfolding save_into
refused-buffer q buffer k e = ap (λ x. filled_by x (saved q) buffer) e

one_given : (g : Given) (n : ℕ) → ◌≡◌ {A = model.Answer} (ok (numbers_of g)) (ok (pos n ∷ [])) → size_of g ≡ n
one_given Nothing n e = cc
one_given (One a) n e = cc
one_given (Two a b) n e = cc
one_given (Three a b c) n e = cc

module _ (q : Plan) (buffer after : List ℕ) (f : after ≡ save_into q buffer) where
  -- a refusal leaves the buffer
  pub saved_refused : (k : ℕ) → no k ≡ (save (length buffer) q).answer → ◌≡◌ {A = Outcome} (Err (refused_with k after)) (plan_saved q buffer)
  saved_refused k x = subst (λ z. ◌≡◌ {A = Outcome} (Err (refused_with k after)) (saved_as z q buffer)) x (ap (λ b. Err (refused_with k b)) (f ∙ refused-buffer q buffer k (sym x)))

  -- an acceptance gives the length, and nothing else
  pub saved_given : (g : Given) → answer_of (Ok g) ≡ (save (length buffer) q).answer → ◌≡◌ {A = Outcome} (Ok (handed_back (size_of g) after)) (plan_saved q buffer)
  saved_given g x =
      let e : ◌≡◌ {A = model.Answer} (ok (numbers_of g)) (ok (pos (length (saved q)) ∷ [])) = x ∙ save-given q (length buffer) (numbers_of g) (sym x) in
      subst (λ z. ◌≡◌ {A = Outcome} (Ok (handed_back (size_of g) after)) (saved_as z q buffer)) x (ap₂ (λ m b. Ok (handed_back m b)) (one_given g (length (saved q)) e) f)

-- ---- what is wanted

answers_on : (w : Wanted) → saves w ≡ false → (sheet buffer : List ℕ) (p : Plan) {s : Screened} → s ≡ screen p sheet buffer → ◌≡◌ {A = Outcome} (Ok s) (served_on w sheet buffer p)
answers_on Answers e sheet buffer p j = ap Ok j
answers_on Saved e sheet buffer p j = cc

saves_on : (w : Wanted) → saves w ≡ true → (sheet buffer : List ℕ) (p : Plan) {s : Outcome} → s ≡ served_on Saved sheet buffer p → s ≡ served_on w sheet buffer p
saves_on Answers e sheet buffer p j = cc
saves_on Saved e sheet buffer p j = j

pub long_answers : (w : Wanted) → saves w ≡ false → (buffer : List ℕ) {s : Screened} → s ≡ screened (fitted (length buffer) (text (no 52) ∷ [])) buffer → ◌≡◌ {A = Outcome} (Ok s) (long_as w buffer)
long_answers Answers e buffer j = ap Ok j
long_answers Saved e buffer j = cc

-- ---- the run of an entry, in front of the buffer

module _ (w : Wanted) (sheet area : List ℕ) {p : Plan} {on : Bool} (on-is : on ≡ saves w) {room : ℕ} (room-is : room ≡ cond (saves w) 0 (length area)) {q : Plan} {next written : ℕ} {ended : Bool}
    {front : List ℕ} (h : Advanced on 0 sheet 0 p (take room area) q next written ended front) where
  -- one that answers has the whole of it
  module _ (e : on ≡ false) where
    all_room : room ≡ length area
    all_room = room-is ∙ ap (λ b. cond b 0 (length area)) (sym on-is ∙ e)

    lent_all : take room area ≡ area
    lent_all = ap (λ n. take n area) all_room ∙ take_all (length area) area (omega arith)

    answered : Advanced false 0 sheet 0 p area q next written ended front
    answered = subst (λ xs. Advanced false 0 sheet 0 p xs q next written ended front) lent_all (subst (λ b. Advanced b 0 sheet 0 p (take room area) q next written ended front) e h)

    pub run-written : written ≤ length area
    run-written = written_most p sheet area front q next written ended answered

    pub run_small : Narrow p.content → length sheet ≤ 65536 → (n : ℕ) → n ≡ 2 * written + bit ended → n < 4294967296
    run_small g l n k = number_small (length area) p sheet g l written (written_is p sheet area front q next written ended answered) ended n k

    pub run-served : length sheet ≤ 65536 → (n : ℕ) → n ≡ 2 * written + bit ended → ◌≡◌ {A = Outcome} (Ok (handed_back n (front ++ drop room area))) (served_on w sheet area p)
    run-served l n k =
        let s = screened-is p sheet area front q next written ended answered n k (le-ltb 65536 (length sheet) l) in
        let none : drop room area ≡ [] = drop_of_length-le area {i = room} (omega (arith, all_room)) in
        let b : front ++ drop room area ≡ front = ap (λ xs. front ++ xs) none ∙ append-nil front in
        answers_on w (sym on-is ∙ e) sheet area p (ap (handed_back n) b ∙ s)

  -- one that saves has none
  module _ (e : on ≡ true) where
    no_room : room ≡ 0
    no_room = room-is ∙ ap (λ b. cond b 0 (length area)) (sym on-is ∙ e)

    played_on : Advanced true 0 sheet 0 p [] q next written ended front
    played_on = subst (λ n. Advanced true 0 sheet 0 p (take n area) q next written ended front) no_room
        (subst (λ b. Advanced b 0 sheet 0 p (take room area) q next written ended front) e h)

    plan-is : q ≡ plan_of p sheet
    plan-is = played_on.plan ∙ ap (λ (r : Ran). r.plan) (played p (lines sheet))

    untouched : front ++ drop room area ≡ area
    untouched =
        let none : front ≡ [] = played_on.buffer ∙ ap (λ (r : Ran). in_front r.bytes []) (played p (lines sheet)) in
        ap₂ (λ xs n. xs ++ drop n area) none no_room

    pub save-served : length sheet ≤ 65536 → {s : Outcome} → s ≡ plan_saved q (front ++ drop room area) → s ≡ served_on w sheet area p
    save-served l k = let short = le-ltb 65536 (length sheet) l in saves_on w (sym on-is ∙ e) sheet area p (rw short (k ∙ ap₂ plan_saved plan-is untouched))

-- a sheet that is too long
pub long-served : (w : Wanted) (sheet area : List ℕ) (p : Plan) → 65536 < length sheet → long_as w area ≡ served_on w sheet area p
unfolding screen replies
long-served Answers sheet area p h = let t = lt-ltb 65536 (length sheet) h in rw t
long-served Saved sheet area p h = let t = lt-ltb 65536 (length sheet) h in rw t

-- ---- on the plan that an entry begins on

pub begun_from : {file : Option (List ℕ)} {p : State} {r : Result (Unit {0}) Refusal} {q : Plan} → Begun file (view p) r q → p ≡ blank_state → Begun file start r q
begun_from {file = file} {r = r} {q = q} b e = subst (λ s. Begun file (view s) r q) e b

-- a file that loads, or none
module _ (file : Option (List ℕ)) (u : Unit {0}) (p : State) (b : Begun file start (Ok u) (view p)) where
  pub begun_lent : SoundIn true (spread p)
  begun_lent e = subst (λ (q : Plan). Holding q.mode q.content) (sym b.plan) (holding_begun file)

  pub begun_narrow : Narrow (view p).content
  begun_narrow = subst (λ (q : Plan). Narrow q.content) (sym b.plan) (narrow_begun file)

  pub served_from : (w : Wanted) (sheet buffer : List ℕ) {s : Outcome} → s ≡ served_on w sheet buffer (view p) → s ≡ served file w sheet buffer
  served_from w sheet buffer j =
      let l = begun_as file in
      let g : Plan → Outcome = served_on w sheet buffer in
      j ∙ ap g b.plan ∙ subst (λ y. g l.plan ≡ served_in (record { answer = y; plan = l.plan }) buffer g) (sym b.answer) refl

-- ---- each entry from all

pub entry_handed : (v : Result ℕ Refusal) (buffer : List ℕ) {n : ℕ} {s : Outcome} → n ≡ entry_number v → outcome_of v buffer ≡ s → handed_back n buffer ≡ entry_of s
entry_handed (Ok m) buffer e j = ap (λ k. handed_back k buffer) e ∙ ap entry_of j
entry_handed (Err r) buffer e j = ap (λ k. handed_back k buffer) e ∙ ap entry_of j

pub run_on_entry : (file sheet buffer : List ℕ) → entry_of (served (Some file) Answers sheet buffer) ≡ load_entry file sheet buffer
unfolding load_entry
run_on_entry file sheet buffer = by (load file start).answer
  where
    by : (a : model.Answer) → entry_of (served_in (record { answer = a; plan = (load file start).plan }) buffer (served_on Answers sheet buffer))
        ≡ on_loaded (record { answer = a; plan = (load file start).plan }) buffer (λ p. giving (screen p sheet buffer))
    by (no k) = refl
    by (ok xs) = refl

saving-entry : (sheet buffer : List ℕ) (p : Plan) → entry_of (served_on Saved sheet buffer p) ≡ save_from p sheet buffer
unfolding save_from
saving-entry sheet buffer p = cases (too_long sheet)
    (λ e. rw e)
    (λ e. rw e (by (save (length buffer) (plan_of p sheet)).answer))
  where
    by : (a : model.Answer) → entry_of (saved_as a (plan_of p sheet) buffer) ≡ saved_by a (plan_of p sheet) buffer
    by (no k) = refl
    by (ok xs) = refl

pub save_of_entry : (sheet buffer : List ℕ) → entry_of (served None Saved sheet buffer) ≡ save_entry sheet buffer
unfolding save_entry
save_of_entry sheet buffer = saving-entry sheet buffer start

pub save_on_of_entry : (file sheet buffer : List ℕ) → entry_of (served (Some file) Saved sheet buffer) ≡ save_on_entry file sheet buffer
unfolding save_on_entry
save_on_of_entry file sheet buffer = by (load file start).answer
  where
    by : (a : model.Answer) → entry_of (served_in (record { answer = a; plan = (load file start).plan }) buffer (served_on Saved sheet buffer))
        ≡ on_loaded (record { answer = a; plan = (load file start).plan }) buffer (λ p. save_from p sheet buffer)
    by (no k) = refl
    by (ok xs) = saving-entry sheet buffer (load file start).plan
