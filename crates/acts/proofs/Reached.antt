-- What every list of acts keeps: the guarantee's own invariant, the limits, and that a blank plan is fresh. Assumes nothing.
use Prim.Native.Nat.{ℕ, ◌<◌}
use mathlib.Core.Path.{◌≡◌, refl, sym, ap, subst, ◌∙◌}
use mathlib.Core.Bool.{not}
use mathlib.Core.List.{List, [], ◌∷◌, ◌++◌, map, append_assoc}
use native.Mathlib.Omega.{arith}
use lib.Dec.{T, eqb}
use lib.ListN.{length}
use Rattle.protocol.specs.Lists.{one_to, all}
use Rattle.protocol.specs.Plan.{Plan, blank, whole, is, in_range, holds, absent_side}
use Rattle.protocol.specs.Calls.{Call, measure, open_plan, Verdict, fine, refused, first, first_values, checks, after, gives, Answer, no, ok, Stepped, step, following, end, start}
use Rattle.protocol.specs.History.{History, empty, entered, recorded}
use Rattle.protocol.proofs.Laws.{both, range, no-is, passed, all-nth}
use Rattle.guarantee.specs.Holding.{Holding}
use Rattle.guarantee.specs.Runs.{noting}
use Rattle.guarantee.proofs.Holding.{stepped}
use Rattle.guarantee.proofs.Consistent.{Consistent}
use Rattle.guarantee.proofs.Guaranteed.{Sound, sound_step, started}
use Rattle.file.specs.Saved.{save_checks, save_by, save}
use Rattle.file.specs.Loaded.{next_limit, slot_in, value_in, rule_in, measure_chain, rule_chain, next_number, read_checks, drawing, first_refusal, load_verdict, renumbered, load_by, load}
use Rattle.file.specs.Savable.{Savable}
use Rattle.file.proofs.Drawn.{both_fine}
use Rattle.file.proofs.Rising.{number_in}
use Rattle.acts.specs.Acts.{Act, call, loading, saving, act_step, following_act, work, done_by, entered_as, noting_act, run_acts, from_blank_acts, ActTrace, begun, acted}
use Rattle.acts.proofs.Proper.{Proper, SomeProper, proper_after, side_fit, first-length}
use Rattle.acts.proofs.Fresh.{drawn_history, Drawn, Fresh, fresh_step}

pub record Reached (p : Plan) (h : History) : Type 0 where
  pub sound : Sound p h
  pub proper : SomeProper p.mode p.content
  pub fresh : Fresh p h

pub reached_start : Reached start empty
reached_start = record {
  sound = started;
  proper = (0, record { measures = omega arith; some = λ w. absurd w; rules = omega arith; formed = tt; number = tt; sides = tt; base = λ w. absurd w; draft = λ w. absurd w });
  fresh = λ w. ([], [], refl, refl);
}

-- ---- calls

pub reached_step : (c : Call) (p : Plan) (h : History) → Reached p h → Reached (following p c) (noting p h c)
reached_step c p h t = record {
  sound = sound_step c p h t.sound;
  proper = stepped (λ r. SomeProper r.plan.mode r.plan.content) c p (proper_after c p.mode p.content t.sound.0 t.proper) (λ n. t.proper);
  fresh = fresh_step c p h t.fresh;
}

pub reached_run : (cs : List Call) (p : Plan) (h : History) → Reached p h → Reached (end cs p) (entered_as cs p h)
reached_run [] p h t = t
reached_run (c ∷ cs) p h t = reached_run cs (following p c) (noting p h c) (reached_step c p h t)

-- ---- an accepted load: what is drawn ends in an open that is accepted

run-append : (xs ys : List Call) (p : Plan) (h : History) → (end (xs ++ ys) p ≡ end ys (end xs p)) × (entered_as (xs ++ ys) p h ≡ entered_as ys (end xs p) (entered_as xs p h))
run-append [] ys p h = (refl, refl)
run-append (x ∷ xs) ys p h = run-append xs ys (following p x) (noting p h x)

refusal-append : (xs ys : List Call) (p : Plan) → first_refusal (xs ++ ys) p ≡ fine → first_refusal ys (end xs p) ≡ fine
unfolding first_refusal
refusal-append [] ys p e = e
refusal-append (x ∷ xs) ys p e = refusal-append xs ys (following p x) (both_fine (first (checks x p)) (first_refusal (xs ++ ys) (following p x)) e).1

-- an accepted open on a plan that is drawn

opened : (p : Plan) → first (checks open_plan p) ≡ fine → step open_plan p ≡ record { answer = ok []; plan = after open_plan p.mode p.content }
unfolding step gives
opened p f = rw f

drawn_opened : (p : Plan) (h : History) → Drawn p h → entered open_plan [] h ≡ drawn_history whole 1 (first_values p.content) p.content.rules
unfolding entered
drawn_opened p h (vs, rs, e, g) = rw (e, g)

abbrev Opened : Stepped → History → Type 0
Opened r h = (r.plan.mode ≡ whole) × (recorded open_plan r.answer h ≡ drawn_history whole 1 (first_values r.plan.content) r.plan.content.rules)

opens : (p : Plan) (h : History) → Fresh p h → first_refusal (open_plan ∷ []) p ≡ fine → Opened (step open_plan p) h
unfolding first_refusal after checks
opens p h t e =
    let f = (both_fine (first (checks open_plan p)) fine e).0 in
    subst (λ (r : Stepped). Opened r h) (sym (opened p f)) (refl, drawn_opened p h (t (passed (checks open_plan p) (rw f tt)).0))

-- all but the open
abbrev before_open : List ℕ → List Call
before_open f = map (λ k. measure (value_in (slot_in f k))) (measure_chain f) ++ map (λ k. rule_in (slot_in f k)) (rule_chain f)

drawing-is : (f : List ℕ) → drawing f ≡ before_open f ++ (open_plan ∷ [])
unfolding drawing
drawing-is f = sym (append_assoc (map (λ k. measure (value_in (slot_in f k))) (measure_chain f)) (map (λ k. rule_in (slot_in f k)) (rule_chain f)) (open_plan ∷ []))

renumbered_consistent : (p : Plan) (h : History) (n : ℕ) → 0 < n → Consistent whole p.content h → Consistent whole (renumbered n p).content h
renumbered_consistent p h n k c = record { mode = c.mode; rules = c.rules; next = k; reported = c.reported; ordered = c.ordered; stage = c.stage }

module _ (f : List ℕ) (p : Plan) (h : History) (t : Reached p h) (e : first_refusal (drawing f) p ≡ fine) where
  pub drawn_whole : ((end (drawing f) p).mode ≡ whole)
      × (entered_as (drawing f) p h ≡ drawn_history whole 1 (first_values (end (drawing f) p).content) (end (drawing f) p).content.rules)
  drawn_whole =
      let cs = before_open f in
      let a = run-append cs (open_plan ∷ []) p h in
      let o = opens (end cs p) (entered_as cs p h) (reached_run cs p h t).fresh (refusal-append cs (open_plan ∷ []) p (sym (ap (λ xs. first_refusal xs p) (drawing-is f)) ∙ e)) in
      rw (drawing-is f) (rw (a.0, a.1) o)

  -- the file's number stands in the invariant only as a number of its range
  load_reached : T (one_to next_limit (next_number f)) → Reached (renumbered (next_number f) (end (drawing f) p)) (entered_as (drawing f) p h)
  load_reached n =
      let r = reached_run (drawing f) p h t in
      let w = drawn_whole.0 in
      let g = r.sound.0 in
      let c = r.sound.1 in
      let q = r.proper.1 in
      record {
        sound = (
          record { alone = g.alone; sides = g.sides; base = g.base; draft = g.draft },
          rw w (renumbered_consistent (end (drawing f) p) (entered_as (drawing f) p h) (next_number f) (range next_limit (next_number f) n).0 (rw w at c)),
        );
        proper = (r.proper.0, record { measures = q.measures; some = q.some; rules = q.rules; formed = q.formed; number = n; sides = q.sides; base = q.base; draft = q.draft });
        fresh = λ b. absurd (rw w at b);
      }

-- ---- an act

-- a call that is entered as the one call whose work it does is entered as it was
pub call-noted : (c : Call) (p : Plan) (h : History) → noting_act p h (call c) ≡ noting p h c
call-noted c p h = by (step c p).answer refl
  where
    by : (x : Answer) → (step c p).answer ≡ x → entered_as (done_by x (c ∷ [])) p h ≡ noting p h c
    by (no k) e = rw e
    by (ok xs) e = refl

pub none_done : (x : Answer) → done_by x [] ≡ []
none_done (no k) = refl
none_done (ok xs) = refl

-- saving leaves the plan, and has no work to be entered
pub save_keeps : (room : ℕ) (p : Plan) → (save room p).plan ≡ p
unfolding save
save_keeps room p = by (first (save_checks room p))
  where
    by : (v : Verdict) → (save_by v p).plan ≡ p
    by fine = refl
    by (refused k) = refl

reached_load : (f : List ℕ) (p : Plan) (h : History) → Reached p h → Reached (load f p).plan (noting_act p h (loading f))
unfolding load
reached_load f p h t = by (load_verdict f p) (λ e.
    let b = both_fine (first (read_checks f p)) (first_refusal (drawing f) p) e in
    load_reached f p h t b.1 (number_in f p b.0))
  where
    by : (v : Verdict) → (v ≡ fine → Reached (renumbered (next_number f) (end (drawing f) p)) (entered_as (drawing f) p h))
        → Reached (load_by v f p).plan (entered_as (done_by (load_by v f p).answer (work (loading f))) p h)
    by fine g = g refl
    by (refused k) g = t

pub reached_act : (a : Act) (p : Plan) (h : History) → Reached p h → Reached (following_act p a) (noting_act p h a)
reached_act (call c) p h t = subst (λ (x : History). Reached (following p c) x) (sym (call-noted c p h)) (reached_step c p h t)
reached_act (loading f) p h t = reached_load f p h t
reached_act (saving room) p h t = rw (none_done (save room p).answer) (subst (λ (x : Plan). Reached x h) (sym (save_keeps room p)) t)

-- ---- lists of acts, and traces

reached_acts : (acts : List Act) (p : Plan) (h : History) → Reached p h → Reached (run_acts acts (record { plan = p; history = h })).plan (run_acts acts (record { plan = p; history = h })).history
reached_acts [] p h t = t
reached_acts (a ∷ acts) p h t = reached_acts acts (following_act p a) (noting_act p h a) (reached_act a p h t)

pub from_blank_lem : (acts : List Act) → Reached (from_blank_acts acts).plan (from_blank_acts acts).history
from_blank_lem acts = reached_acts acts start empty reached_start

-- one act of a trace, by its two equations
reached_acted : (a : Act) (p q : Plan) (h : History) (x : Answer) → x ≡ (act_step a p).answer → q ≡ (act_step a p).plan → Reached p h → Reached q (entered_as (done_by x (work a)) p h)
reached_acted a p q h x y z t =
    subst (λ (w : Plan). Reached w (entered_as (done_by x (work a)) p h)) (sym z)
    (subst (λ (w : Answer). Reached (act_step a p).plan (entered_as (done_by w (work a)) p h)) (sym y) (reached_act a p h t))

module _ {S : Type 0} (view : S → Plan) where
  pub traced : {s : S} {h : History} → ActTrace view s h → Reached (view s) h
  traced (begun s e) = rw e reached_start
  traced (acted {s} {h} t a r x y z) = reached_acted a (view s) (view r) h x y z (traced t)

-- ---- what follows for a plan

-- a whole plan can be saved
pub savable : (p : Plan) (h : History) → Reached p h → p.mode ≡ whole → Savable (first_values p.content) p.content.rules p.content.next
savable p h t e =
    let g : Holding whole p.content = rw e at t.sound.0 in
    let n = t.proper.0 in
    let q : Proper n whole p.content = rw e at t.proper.1 in
    let one = g.alone tt in
    let l = first-length n p.content one q.sides in
    let s = side_fit n p.content 1 q.sides (omega arith) (omega arith) in
    record {
      some = omega (arith, q.some tt);
      measures = omega (arith, q.measures);
      rules = q.rules;
      ranged = (both (eqb (length (first_values p.content)) n) (all in_range (first_values p.content)) s).1;
      formed = rw l q.formed;
      hold = all-nth (λ x. holds p.content.rules x.values) absent_side p.content.sides 1 (g.sides tt) (omega arith) (omega arith);
      number = q.number;
    }

-- from open on a load is refused
pub load-shut : (f : List ℕ) (p : Plan) → T (not (is blank p.mode)) → (load f p).answer ≡ no 31
unfolding load read_checks
load-shut f p k = rw (no-is (is blank p.mode) k)
