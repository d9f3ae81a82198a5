-- Loading, from what the program read and drew. Assumes nothing.
use Prim.Native.Nat.{ℕ, zero, suc, ◌<◌, min}
use native.Mathlib.Omega.{arith}
use mathlib.Core.Path.{◌≡◌, refl, sym, ap, ◌∙◌}
use mathlib.Core.List.{List, [], ◌∷◌, ◌++◌, map, append_assoc}
use borrow.Author.Tests.{eq-eqb, ne_eqb}
use lib.Dec.{T}
use lib.ListN.{length}
use Rattle.std.proofs.Common.{Ok, Err}
use Rattle.protocol.specs.Asked.{number_of}
use Rattle.protocol.specs.declared.refusal.Refusal.{Refusal}
use Rattle.draw.specs.Draw.{LeavesRest}
use Rattle.protocol.specs.Lists.{is_none}
use Rattle.protocol.specs.Plan.{Plan, whole}
use Rattle.protocol.specs.Calls.{Call, measure, open_plan, Verdict, fine, refused, first, checks, after, first_values, step, step_by, end, no, ok}
use Rattle.file.specs.Loaded.{slot_in, next_number, sized, untouched, read_checks, drawing, or_else, first_refusal, load_verdict, renumbered, load_by, load, measure_chain, rule_chain, value_in, rule_in}
use Rattle.file.proofs.Drawn.{both_fine}
use Rattle.rows.proofs.Spans.{length-span}
use Rattle.heads.specs.Heads.{mode_of, end_in, kept_in, measures_in}
use Rattle.records.specs.Records.{log_of}
use Rattle.slots.specs.declared.Slot.{Slot}
use Rattle.slots.specs.Words.{words_in}
use Rattle.state.specs.declared.State.{State}
use Rattle.state.specs.Spread.{spread}
use Rattle.state.specs.View.{view}
use Rattle.state.proofs.View.{plan-same, first-row, row-length}
use Rattle.state.proofs.Meets.{fine_pass}
use Rattle.load.specs.Reading.{untouched_in, head_checks}
use Rattle.load.specs.Drawing.{Drew, LoadedFrom}
use Rattle.load.specs.Loading.{MeetsLoad}
use Rattle.load.proofs.Reading.{number_is, sized-parts}
use Rattle.load.proofs.Drawing.{first-append, end-append, rest-same}

-- ---- the checks

none_capped : (n m : ℕ) → 0 < m → is_none (min n m) ≡ is_none n
none_capped zero m h = eq-eqb (min 0 m) 0 (omega arith)
none_capped (suc n) m h = ne_eqb (min (suc n) m) 0 (λ e. omega arith) ∙ sym (ne_eqb (suc n) 0 (λ e. omega arith))

untouched-is : (p : State) → untouched (view p) ≡ untouched_in p.head
untouched-is p =
    let m : length (first_values (view p).content) ≡ min p.head.measures 32 = ap length (first-row (spread p)) ∙ row-length p.values 0 (measures_in p.head) in
    let r : length (view p).content.rules ≡ min p.head.rules 64 = length-span 0 (min p.head.rules 64) _ in
    rw (m, r, none_capped p.head.measures 32 (omega arith), none_capped p.head.rules 64 (omega arith))

checks_are : (f : List ℕ) (p : State) → first (read_checks f (view p)) ≡ first (head_checks f p.head)
unfolding read_checks
checks_are f p = rw (untouched-is p)

module _ (f : List ℕ) (p : State) where
  -- refused, by the file's checks or by drawing it
  refused_by : {x : Refusal} {q : State} → load_verdict f (view p) ≡ refused (number_of x) → LeavesRest p q → LoadedFrom f p (Err x) q
  unfolding load
  refused_by e l = record { answer = ap (λ v. (load_by v f (view p)).answer) e; plan = tt; rest = l }

  -- the file cannot be read, and nothing is drawn
  pub load_unread : {x : Refusal} → refused (number_of x) ≡ first (head_checks f p.head) → LoadedFrom f p (Err x) p
  load_unread e = refused_by (ap (λ v. or_else v (first_refusal (drawing f) (view p))) (checks_are f p ∙ sym e)) (rest-same p)

  module _ (read : fine ≡ first (head_checks f p.head)) where
    pub read_sized : T (sized f)
    read_sized = (fine_pass (head_checks f p.head) (sym read)).1.0

    decides : (v : Verdict) → first_refusal (drawing f) (view p) ≡ v → load_verdict f (view p) ≡ v
    decides v e = ap (λ x. or_else x (first_refusal (drawing f) (view p))) (checks_are f p ∙ sym read) ∙ e

    -- drawing it is refused
    pub load_undrawn : {x : Refusal} {q : State} → Drew (drawing f) p (Err x) q → LoadedFrom f p (Err x) q
    load_undrawn {x} d = refused_by (decides (refused (number_of x)) d.verdict) d.rest

    -- ---- accepted

    open_last : (cs : List Call) (r : Plan) → first_refusal (cs ++ (open_plan ∷ [])) r ≡ fine → (end (cs ++ (open_plan ∷ [])) r).mode ≡ whole
    unfolding first_refusal step after
    open_last cs r e =
        let b = (both_fine (first_refusal cs r) (first_refusal (open_plan ∷ []) (end cs r)) (sym (first-append cs (open_plan ∷ []) r) ∙ e)).1 in
        let c = (both_fine (first (checks open_plan (end cs r))) fine b).0 in
        ap (λ (x : Plan). x.mode) (end-append cs (open_plan ∷ []) r) ∙ ap (λ v. (step_by v open_plan (end cs r)).plan.mode) c

    drawn_whole : first_refusal (drawing f) (view p) ≡ fine → (end (drawing f) (view p)).mode ≡ whole
    unfolding drawing
    drawn_whole e =
        let ms = map (λ k. measure (value_in (slot_in f k))) (measure_chain f) in
        let rs = map (λ k. rule_in (slot_in f k)) (rule_chain f) in
        let a : drawing f ≡ (ms ++ rs) ++ (open_plan ∷ []) = sym (append_assoc ms rs (open_plan ∷ [])) in
        ap (λ cs. (end cs (view p)).mode) a ∙ open_last (ms ++ rs) (view p) (ap (λ cs. first_refusal cs (view p)) (sym a) ∙ e)

    pub load_drawn : (q : State) (w : Slot) → Drew (drawing f) p (Ok tt) q → w ≡ words_in f 0 → LoadedFrom f p (Ok tt) (record q { head = record q.head { next = w.second } })
    unfolding load
    load_drawn q w d w-is =
        let h = q.head in
        let n = w.second in
        let e = decides fine d.verdict in
        let next-is : n ≡ next_number f = number_is f w w-is (sized-parts f read_sized).1 in
        let mode-is : mode_of h.mode ≡ whole = ap (λ (x : Plan). x.mode) d.plan ∙ drawn_whole d.verdict in
        let end_is : end_in (record h { next = n }) ≡ end_in h = rw mode-is in
        let shown : view (record q { head = record h { next = n } }) ≡ renumbered (next_number f) (view q) =
        plan-same refl refl next-is refl refl refl (ap (λ n. log_of n (kept_in h) q.edits) end_is) in
        let l = d.rest in
        record {
          answer = ap (λ x. (load_by x f (view p)).answer) e;
          plan = shown ∙ ap (renumbered (next_number f)) d.plan ∙ sym (ap (λ x. (load_by x f (view p)).plan) e);
          rest = record {
            added = l.added;
            kept = l.kept;
            mark = l.mark;
            based = l.based;
            drafted = l.drafted;
            base = l.base;
            draft = l.draft;
            arrived = l.arrived;
            confirmed = l.confirmed;
            edits = l.edits;
          };
        }

-- ---- by value

-- a refused load leaves the plan
refused_keeps : (v : Verdict) (f : List ℕ) (p : Plan) (k : ℕ) → (load_by v f p).answer ≡ no k → (load_by v f p).plan ≡ p
refused_keeps fine f p k e = let z : ok [] ≡ no k = e in absurd (let y : ◌≡◌ {A = ℕ} 0 1 = cc in omega arith)
refused_keeps (refused j) f p k e = refl

pub meets_refused : (f : List ℕ) {p q : State} {x : Refusal} → LoadedFrom f p (Err x) q → MeetsLoad f p (record { state = p; answer = Err x })
unfolding load
meets_refused f {p} {x = x} d = record { answer = sym d.answer; plan = sym (refused_keeps (load_verdict f (view p)) f (view p) (number_of x) d.answer); same = refl }
