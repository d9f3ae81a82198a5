-- A join carried on with loads and saves among the calls: a load is refused and a save moves nothing, so it is the join of its calls. Assumes nothing.
use Prim.Native.Nat.{ℕ, ◌+◌}
use mathlib.Core.Path.{◌≡◌, refl, sym, ap, ap₂, subst, ◌∙◌}
use mathlib.Core.Logic.{◌⊎◌, inl, inr}
use mathlib.Core.Bool.{Bool, true, not, ◌&&◌, ◌||◌, and-false}
use mathlib.Core.List.{List, [], ◌∷◌, ◌++◌, append_assoc}
use native.Mathlib.Omega.{arith}
use lib.Dec.{T, T_not, not_T}
use lib.ListN.{length, length-append}
use Rattle.protocol.specs.Lists.{bit, all, snoc}
use Rattle.protocol.specs.Plan.{Mode, blank, whole, split, joining, closing, is, active, Plan}
use Rattle.protocol.specs.Calls.{Call, install, Verdict, fine, refused, Answer, no, ok, left_in, step}
use Rattle.protocol.specs.History.{History}
use Rattle.protocol.proofs.Laws.{on, both, which, and_in, yes_is}
use Rattle.guarantee.specs.Runs.{closes, edits, is_ok, accepts, quiet, closings}
use Rattle.guarantee.specs.Guarantee.{Stuck}
use Rattle.guarantee.proofs.Guaranteed.{which_closing, if_taken, stays_put, able_with, one_on, shut, not-editing}
use Rattle.file.specs.Loaded.{load_verdict, load_by, load}
use Rattle.file.specs.Saved.{save}
use Rattle.acts.specs.Acts.{Act, call, loading, saving, closes_act, of_file, takes, following_act, done_by, work, work_of, noting_act, end_acts, quiet_acts, done_acts}
use Rattle.acts.specs.Acting.{UnderwayActs, CompletedActs}
use Rattle.acts.proofs.Reached.{Reached, reached_act, none_done, save_keeps, load-shut}

-- ---- acts that do nothing

pub undone : (x : Answer) (cs : List Call) → T (not (is_ok x)) → done_by x cs ≡ []
undone (no k) cs t = refl
undone (ok xs) cs t = absurd t

pub load_keeps : (f : List ℕ) (p : Plan) → T (not (takes p (loading f))) → (load f p).plan ≡ p
unfolding load
load_keeps f p t = by (load_verdict f p) t
  where
    by : (v : Verdict) → T (not (is_ok (load_by v f p).answer)) → (load_by v f p).plan ≡ p
    by fine t = absurd t
    by (refused k) t = refl

-- the act leaves the plan and does no call's work
abbrev Idle : Act → Plan → Type 0
Idle a p = (following_act p a ≡ p) × (work_of a p ≡ [])

file_idle : (a : Act) (p : Plan) → T (of_file a) → T (not (is blank p.mode)) → Idle a p
file_idle (call c) p f k = absurd f
file_idle (loading f) p t k =
    let e = load-shut f p k in
    let n : T (not (takes p (loading f))) = rw e tt in
    (load_keeps f p n, undone (load f p).answer (work (loading f)) n)
file_idle (saving room) p f k = (save_keeps room p, none_done (save room p).answer)

pub active_open : (m : Mode) → T (active m) → T (not (is blank m))
active_open blank a = a
active_open whole a = absurd a
active_open split a = absurd a
active_open joining a = tt
active_open closing a = tt

-- ---- the calls whose work an act does

call-closings : (c : Call) (p : Plan) → closings (work_of (call c) p) p ≡ bit (closes c && accepts p c)
call-closings c p = by (step c p).answer refl
  where
    by : (x : Answer) → (step c p).answer ≡ x → closings (done_by x (c ∷ [])) p ≡ bit (closes c && is_ok (step c p).answer)
    by (no k) e = rw (e, and-false (closes c))
    by (ok xs) e = omega arith

call-quiet : (c : Call) (p : Plan) → T (quiet (work_of (call c) p) p) → T (not (edits c && accepts p c))
call-quiet c p = by (step c p).answer refl
  where
    by : (x : Answer) → (step c p).answer ≡ x → T (quiet (done_by x (c ∷ [])) p) → T (not (edits c && is_ok (step c p).answer))
    by (no k) e q = rw (e, and-false (edits c)) tt
    by (ok xs) e q = (both (not (edits c && accepts p c)) true q).0

-- one act on, with no accepted edit: the join is under way as before and the number left has fallen by the act's share, or the act was its install
abbrev On : Act → Plan → Type 0
On a p = T (active (following_act p a).mode) × (left_in p ≡ closings (work_of a p) p + left_in (following_act p a))

abbrev Over : Act → Plan → Type 0
Over a p = (a ≡ call install) × T (takes p a) × ((following_act p a).mode ≡ whole) × (left_in p ≡ 1)

idle_on : (a : Act) (p : Plan) → T (active p.mode) → Idle a p → On a p
idle_on a p k i =
    let w = ap (λ cs. closings cs p) i.1 in
    let l = ap left_in i.0 in
    (subst (λ (x : Plan). T (active x.mode)) (sym i.0) k, omega arith)

act_on : (a : Act) (p : Plan) (h : History) → Reached p h → T (active p.mode) → T (quiet (work_of a p) p) → On a p ⊎ Over a p
act_on (call c) p h t k q = on (one_on c p h t.sound k (call-quiet c p q))
    (λ o. let e = call-closings c p in inl (o.0, omega (arith, e, o.1)))
    (λ i. inr (ap call i.0, i.1, i.2, i.3))
act_on (loading f) p h t k q = inl (idle_on (loading f) p k (file_idle (loading f) p tt (active_open p.mode k)))
act_on (saving room) p h t k q = inl (idle_on (saving room) p k (file_idle (saving room) p tt (active_open p.mode k)))

-- ---- carried on

longer : (a : Act) (acts : List Act) (p : Plan) → T (active p.mode) → On a p → UnderwayActs acts (following_act p a) ⊎ CompletedActs acts (following_act p a)
    → UnderwayActs (a ∷ acts) p ⊎ CompletedActs (a ∷ acts) p
longer a acts p k o (inl u) = inl (record { active_still = u.active_still; fallen = omega (arith, o.1, u.fallen); able_still = u.able_still })
longer a acts p k o (inr u) = inr (record {
  before = a ∷ u.before;
  rest = u.rest;
  parts = ap {B = List Act} (λ xs. a ∷ xs) u.parts;
  active_until = u.active_until;
  taken_then = u.taken_then;
  exact = omega (arith, o.1, u.exact);
})

-- A list of acts without an accepted edit leaves the join under way or completes it.
pub carried_acts : (acts : List Act) (p : Plan) (h : History) → Reached p h → T (active p.mode) → T (quiet_acts acts p) → UnderwayActs acts p ⊎ CompletedActs acts p
carried_acts [] p h t k q = inl (record { active_still = k; fallen = omega arith; able_still = able_with p h t.sound k })
carried_acts (a ∷ acts) p h t k q =
    let ih = carried_acts acts (following_act p a) (noting_act p h a) (reached_act a p h t) in
    let b = both (quiet (work_of a p) p) (quiet_acts acts (following_act p a)) q in
    on (act_on a p h t k b.0)
    (λ o. longer a acts p k o (ih o.0 b.1))
    (λ i. inr (record {
      before = [];
      rest = acts;
      parts = ap {B = List Act} (λ x. x ∷ acts) i.0;
      active_until = k;
      taken_then = subst (λ (x : Act). T (takes p x)) i.0 i.1;
      exact = let z = i.3 in omega arith;
    }))

-- ---- carried on for as long as a closing move is accepted

abbrev moving : Act → Bool
moving a = closes_act a || of_file a

whole_idle : (a : Act) (p : Plan) → p.mode ≡ whole → T (moving a) → Idle a p
whole_idle (call c) p e t = which (closes c) (of_file (call c)) t
    (λ k.
    let n = not_T (accepts p c) (λ y. shut (which_closing c k) p.content (rw e at (if_taken c p y))) in
    (stays_put c p n, undone (step c p).answer (c ∷ []) n))
    (λ k. absurd k)
whole_idle (loading f) p e t = file_idle (loading f) p tt (rw e tt)
whole_idle (saving room) p e t = file_idle (saving room) p tt (rw e tt)

none_left : (acts : List Act) (p : Plan) → p.mode ≡ whole → T (all moving acts) → done_acts acts p ≡ []
none_left [] p e t = refl
none_left (a ∷ acts) p e t =
    let b = both (moving a) (all moving acts) t in
    let i = whole_idle a p e b.0 in
    ap₂ (λ xs ys. xs ++ ys) i.1 (ap (done_acts acts) i.0 ∙ none_left acts p e b.1)

-- its work is closing moves that are accepted, and no edit
abbrev Moves : List Call → Plan → Type 0
Moves cs p = T (quiet cs p) × (length cs ≡ closings cs p)

moves-by : (a : Act) (p : Plan) → T (active p.mode) → T (moving a) → Moves (work_of a p) p
moves-by (call c) p k t = which (closes c) (of_file (call c)) t (λ y. by y (step c p).answer refl) (λ y. absurd y)
  where
    by : T (closes c) → (x : Answer) → (step c p).answer ≡ x → Moves (done_by x (c ∷ [])) p
    by y (no n) e = (tt, refl)
    by y (ok xs) e = (and_in (not (edits c && accepts p c)) true (not-editing c (accepts p c) y) tt, rw (yes_is (closes c) y, e))
moves-by (loading f) p k t = subst (λ (cs : List Call). Moves cs p) (sym (file_idle (loading f) p tt (active_open p.mode k)).1) (tt, refl)
moves-by (saving room) p k t = subst (λ (cs : List Call). Moves cs p) (sym (file_idle (saving room) p tt (active_open p.mode k)).1) (tt, refl)

-- Closing moves with loads and saves among them: the accepted ones are as many as the number left, and install is the last.
pub exhausted_acts : (acts : List Act) (p : Plan) (h : History) → Reached p h → T (active p.mode) → T (all moving acts) → Stuck (end_acts acts p)
    → (length (done_acts acts p) ≡ left_in p) × ((before : List Call) × (done_acts acts p ≡ snoc before install))
exhausted_acts [] p h t k m s = let c = able_with p h t.sound k in absurd (T_not (accepts p c.0) (s c.0 c.1) c.2)
exhausted_acts (a ∷ acts) p h t k m s =
    let ih = exhausted_acts acts (following_act p a) (noting_act p h a) (reached_act a p h t) in
    let b = both (moving a) (all moving acts) m in
    let w = moves-by a p k b.0 in
    let len = length-append (work_of a p) (done_acts acts (following_act p a)) in
    on (act_on a p h t k w.0)
    (λ o.
    let q = ih o.0 b.1 s in
    (omega (arith, len, w.1, o.1, q.0), (work_of a p ++ q.1.0, ap (λ xs. work_of a p ++ xs) q.1.1 ∙ sym (append_assoc (work_of a p) q.1.0 (install ∷ [])))))
    (λ i.
    let one : work_of a p ≡ install ∷ [] = installing a p i.0 i.1 in
    let r = none_left acts (following_act p a) i.2 b.1 in
    let d : done_acts (a ∷ acts) p ≡ install ∷ [] = ap₂ (λ xs ys. xs ++ ys) one r in
    (ap length d ∙ sym i.3, ([], d)))
  where
    installing : (a : Act) (p : Plan) → a ≡ call install → T (takes p a) → work_of a p ≡ install ∷ []
    installing a p e y = subst (λ (x : Act). T (takes p x) → work_of x p ≡ install ∷ []) (sym e) (λ z. done (step install p).answer z) y
      where
        done : (x : Answer) → T (is_ok x) → done_by x (install ∷ []) ≡ install ∷ []
        done (no k) z = absurd z
        done (ok xs) z = refl
