-- The guarantee of every list of calls, loads and saves, for the program's own states. Assumes nothing.
use Prim.Native.Nat.{ℕ}
use mathlib.Core.Path.{◌≡◌, refl, sym, subst}
use mathlib.Core.List.{List, [], ◌∷◌}
use native.Mathlib.Omega.{arith}
use borrow.Author.Tests.{eqb-true}
use lib.Dec.{T, eqb, ltb, ltb→lt}
use lib.IntN.{ℤ}
use lib.ListN.{length}
use Rattle.protocol.specs.Lists.{all}
use Rattle.protocol.specs.Plan.{Plan}
use Rattle.protocol.specs.Calls.{Call, show, Answer, Check, Verdict, fine, refused, first, checks, further, step_by, step, start, shown_by, shown}
use Rattle.protocol.specs.History.{History, recorded}
use Rattle.protocol.proofs.Laws.{cases, both, Fine}
use Rattle.guarantee.proofs.Guaranteed.{reading}
use Rattle.acts.specs.Acts.{call, loading, work, done_by, entered_as, ActTrace, begun, acted}
use Rattle.acts.proofs.Reached.{call-noted}
use Rattle.acts.proofs.Acting.{guarantee_acts_traced}
use Rattle.state.specs.declared.State.{State}
use Rattle.state.specs.View.{view, blank_state}
use Rattle.state.specs.Meets.{answer_of}
use Rattle.plan.specs.Promise.{shown_answer, Reached, begun as from_blank, called as byCall, showed, loaded, saved, Promised}

blank-view : view blank_state ≡ start
blank-view = refl

-- the refusal number that show lends beside its part, 0 if it is accepted
abbrev number : Verdict → ℕ
number fine = 0
number (refused k) = k

-- no refusal has number 0
verdict-fine : (cs : List Check) → T (all (λ c. ltb 0 c.number) cs) → number (first cs) ≡ 0 → first cs ≡ fine
verdict-fine [] t z = refl
verdict-fine (c ∷ cs) t z =
    let b = both (ltb 0 c.number) (all (λ c. ltb 0 c.number) cs) t in
    let ih = verdict-fine cs b.1 in
    cases c.passes (λ y. rw y (ih (rw y at z))) (λ n. let p = ltb→lt 0 c.number b.0 in let q : c.number ≡ 0 = rw n at z in absurd (omega arith))

-- the refusal number and the part handed back tell show's answer
told : (v : Verdict) (c : Call) (p : Plan) (buffer : List ℤ) → (number v ≡ 0 → v ≡ fine) → shown_answer (shown_by (step_by v c p).answer buffer).refusal
    (shown_by (step_by v c p).answer buffer).front ≡ (step_by v c p).answer
told fine c p buffer h = refl
told (refused k) c p buffer h = cases (eqb k 0) (λ e. absurd (subst Fine (sym (h (eqb-true k 0 e))) tt)) (λ e. rw e)

shown_answer_lem : (s : ℤ) (p : Plan) (buffer : List ℤ) → shown_answer (shown s p buffer).refusal (shown s p buffer).front ≡ (step (show s (length buffer)) p).answer
unfolding shown step checks further
shown_answer_lem s p buffer =
    told (first (checks (show s (length buffer)) p)) (show s (length buffer)) p buffer (verdict-fine (checks (show s (length buffer)) p) tt)

-- what a call is entered as in a list of calls, and in a list of acts
entered : (c : Call) (p : Plan) (h : History) (x : Answer) → x ≡ (step c p).answer → entered_as (done_by x (work (call c))) p h ≡ recorded c x h
entered c p h x e = rw e (call-noted c p h)

-- a call is an act
trace_call : {p : State} {h : History} → ActTrace view p h → (c : Call) (r : State) (x : Answer) → x ≡ (step c (view p)).answer → view r ≡ (step c (view p)).plan
    → ActTrace view r (recorded c x h)
trace_call {p} {h} t c r x e f = subst (λ (k : History). ActTrace view r k) (entered c (view p) h x e) (acted t (call c) r x e f)

traced : {p : State} {h : History} → Reached p h → ActTrace view p h
traced from_blank = begun blank_state blank-view
traced (byCall t c r m) = trace_call (traced t) c r.state (answer_of r.answer) m.answer m.plan
traced (showed {p} {h} t s buffer refusal part e f) =
    trace_call (traced t) (show s (length buffer)) p (shown_answer refusal part) (rw (e, f) (shown_answer_lem s (view p) buffer)) (sym (reading (show s (length buffer)) (view p) h tt).0)
traced (loaded t f r m) = acted (traced t) (loading f) r.state (answer_of r.answer) m.answer m.plan
traced (saved t buffer after a e f) = traced t

pub promised : Promised
promised p h t = guarantee_acts_traced view p h (traced t)
