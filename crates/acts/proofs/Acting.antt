-- The guarantee for every list of calls, loads and saves. Assumes nothing.
use Prim.Native.Nat.{ℕ, zero, suc}
use mathlib.Core.Path.{◌≡◌, refl, sym, ap, ap₂, subst, ◌∙◌}
use mathlib.Core.Bool.{not, cond}
use mathlib.Core.List.{List, [], ◌∷◌}
use native.Mathlib.Omega.{arith}
use lib.Dec.{T, eqb, leb}
use lib.IntN.{ℤ, pos}
use lib.ListN.{length}
use Rattle.protocol.specs.Lists.{one_to, natural, all, any, nth}
use Rattle.protocol.specs.Plan.{Side, blank, whole, is, active, Plan, Content, absent_side, side_at}
use Rattle.protocol.specs.Calls.{Call, edit, show, is_refusal, Check, Verdict, fine, refused, first, first_values, checks, further, gives, fresh_side, Answer, no, ok, left_in, step_by, step, following, end, start}
use Rattle.protocol.specs.History.{History, empty}
use Rattle.protocol.proofs.Laws.{cases, both, or_left, or_right, passed}
use Rattle.protocol.proofs.Refusals.{AnswerAgreed, answer-agreed}
use Rattle.guarantee.specs.Runs.{is_ok}
use Rattle.guarantee.specs.Guarantee.{Guarantee}
use Rattle.guarantee.proofs.Holding.{only, plan}
use Rattle.guarantee.proofs.Guaranteed.{guaranteed, keeps, reading}
use Rattle.file.specs.Saved.{save_checks, save_by, save, saved}
use Rattle.file.specs.Loaded.{next_number, file_refusals, untouched, read_checks, or_else, drawing, first_refusal, load_verdict, renumbered, load_by, load}
use Rattle.file.specs.Promises.{whole_with, without_kept, values_of, rules_of}
use Rattle.file.proofs.Drawn.{both_fine}
use Rattle.file.proofs.Round.{round_trip}
use Rattle.file.proofs.Rising.{accepted, loads}
use Rattle.acts.specs.Acts.{Act, call, loading, saving, closes_act, edits_act, reads_act, is_act_refusal, act_step, takes, following_act, work, done_by, entered_as, noting_act, from_blank_acts}
use Rattle.acts.specs.Acting.{Loaded, GuaranteeActs, ForEveryActs, ForEveryActTrace}
use Rattle.acts.proofs.Fresh.{drawn_history, untouched-start}
use Rattle.acts.proofs.Reached.{Reached, reached_start, drawn_whole, call-noted, none_done, save_keeps, from_blank_lem, traced, savable, load-shut}
use Rattle.acts.proofs.Carried.{undone, load_keeps, active_open, carried_acts, exhausted_acts}

-- ---- refused and reading acts

refused_act : (a : Act) (p : Plan) (h : History) → T (not (takes p a)) → (following_act p a ≡ p) × (noting_act p h a ≡ h)
refused_act (call c) p h n = let k = keeps c p h n in (k.0, call-noted c p h ∙ k.1)
refused_act (loading f) p h n = (load_keeps f p n, ap (λ cs. entered_as cs p h) (undone (load f p).answer (work (loading f)) n))
refused_act (saving room) p h n = (save_keeps room p, ap (λ cs. entered_as cs p h) (none_done (save room p).answer))

reading_act : (a : Act) (p : Plan) (h : History) → T (reads_act a) → (following_act p a ≡ p) × (noting_act p h a ≡ h)
reading_act (call c) p h r = let k = reading c p h r in (k.0, call-noted c p h ∙ k.1)
reading_act (loading f) p h r = absurd r
reading_act (saving room) p h r = (save_keeps room p, ap (λ cs. entered_as cs p h) (none_done (save room p).answer))

-- ---- the agreed list

abbrev Agreed : Verdict → Type 0
Agreed fine = Unit {0}
Agreed (refused k) = T (is_act_refusal k)

agreed_else : (v w : Verdict) → Agreed v → Agreed w → Agreed (or_else v w)
agreed_else fine w a b = b
agreed_else (refused k) w a b = a

first-agreed : (cs : List Check) → T (all (λ c. is_act_refusal c.number) cs) → Agreed (first cs)
first-agreed [] t = tt
first-agreed (c ∷ cs) t =
    let b = both (is_act_refusal c.number) (all (λ c. is_act_refusal c.number) cs) t in
    cases c.passes (λ e. rw e (first-agreed cs b.1)) (λ e. rw e b.0)

call-agreed : (c : Call) (p : Plan) → Agreed (first (checks c p))
unfolding step
call-agreed c p = by (first (checks c p)) (answer-agreed c p)
  where
    by : (v : Verdict) → AnswerAgreed (step_by v c p).answer → Agreed v
    by fine t = tt
    by (refused k) t = or_left (is_refusal k) (any (eqb k) file_refusals) t

drawing-agreed : (cs : List Call) (p : Plan) → Agreed (first_refusal cs p)
unfolding first_refusal
drawing-agreed [] p = tt
drawing-agreed (c ∷ cs) p = agreed_else (first (checks c p)) (first_refusal cs (following p c)) (call-agreed c p) (drawing-agreed cs (following p c))

abbrev AnswerIn : Answer → Type 0
AnswerIn (no k) = T (is_act_refusal k)
AnswerIn (ok xs) = Unit {0}

agreed_act : (a : Act) (p : Plan) → AnswerIn (act_step a p).answer
unfolding step load save save_checks read_checks
agreed_act (call c) p = by (first (checks c p)) (call-agreed c p)
  where
    by : (v : Verdict) → Agreed v → AnswerIn (step_by v c p).answer
    by fine t = tt
    by (refused n) t = t
agreed_act (loading f) p =
    by (load_verdict f p) (agreed_else (first (read_checks f p)) (first_refusal (drawing f) p) (first-agreed (read_checks f p) tt) (drawing-agreed (drawing f) p))
  where
    by : (v : Verdict) → Agreed v → AnswerIn (load_by v f p).answer
    by fine t = tt
    by (refused n) t = t
agreed_act (saving room) p = by (first (save_checks room p)) (first-agreed (save_checks room p) tt)
  where
    by : (v : Verdict) → Agreed v → AnswerIn (save_by v p).answer
    by fine t = tt
    by (refused n) t = t

-- ---- just after a load

edit-gives : (p : Plan) (s client n m kind k : ℤ) (xs : List ℤ) → (step (edit s client n m kind k) p).answer ≡ ok xs → xs ≡ pos p.content.next ∷ []
unfolding step gives
edit-gives p s client n m kind k xs e = by (first (checks (edit s client n m kind k) p)) e
  where
    by : (v : Verdict) → (step_by v (edit s client n m kind k) p).answer ≡ ok xs → xs ≡ pos p.content.next ∷ []
    by fine e = let z : ok (pos p.content.next ∷ []) ≡ ok xs = e in cc
    by (refused r) e = let z : no r ≡ ok xs = e in cc

ok-is : (x : Answer) → T (is_ok x) → (xs : List ℤ) × (x ≡ ok xs)
ok-is (no k) t = absurd t
ok-is (ok xs) t = (xs, refl)

-- into the blank plan that a list begins with
module _ (f : List ℕ) (xs : List ℤ) (e : (load f start).answer ≡ ok xs) where
  to_plan : (load f start).plan ≡ whole_with (values_of f) (rules_of f) (next_number f)
  to_plan = (loads f xs e).plan

  drawn_plan : (load f start).plan ≡ renumbered (next_number f) (end (drawing f) start)
  unfolding load
  drawn_plan = rw (accepted f start xs e)

  loaded-start : Loaded f (following_act start (loading f)) (noting_act start empty (loading f))
  loaded-start =
      let b = both_fine (first (read_checks f start)) (first_refusal (drawing f) start) (accepted f start xs e) in
      let same = sym drawn_plan ∙ to_plan in
      let vs = ap (λ q. first_values q.content) same in
      let rs = ap (λ q. q.content.rules) same in
      record {
        plan = to_plan;
        history = ap (λ x. entered_as (done_by x (work (loading f))) start empty) e ∙ (drawn_whole f start empty reached_start b.1).1 ∙ ap₂ (drawn_history whole 1) vs rs;
        number = λ s client n m kind k ys g. edit-gives (load f start).plan s client n m kind k ys g ∙ ap (λ q. pos q.content.next ∷ []) to_plan;
      }

-- an accepted load finds an untouched plan
load-untouched : (f : List ℕ) (p : Plan) → T (takes p (loading f)) → T (untouched p)
unfolding read_checks
load-untouched f p y =
    let x = ok-is (load f p).answer y in
    let b = both_fine (first (read_checks f p)) (first_refusal (drawing f) p) (accepted f p x.0 x.1) in
    (passed (read_checks f p) (rw b.0 tt)).0

loaded_act : (f : List ℕ) (p : Plan) (h : History) → Reached p h → T (takes p (loading f)) → Loaded f (following_act p (loading f)) (noting_act p h (loading f))
loaded_act f p h t y =
    let s = untouched-start p h t.fresh (load-untouched f p y) in
    let z : T (takes start (loading f)) = subst (λ (q : Plan). T (takes q (loading f))) s.0 y in
    let x = ok-is (load f start).answer z in
    subst (λ (q : Plan). Loaded f (following_act q (loading f)) (noting_act q h (loading f))) (sym s.0)
    (subst (λ (k : History). Loaded f (following_act start (loading f)) (noting_act start k (loading f))) (sym s.1) (loaded-start f x.0 x.1))

-- ---- saved and loaded

saved_into : (p q : Plan) (h k : History) → Reached p h → Reached q k → T (is whole p.mode) → T (untouched q) → load (saved p) q ≡ record { answer = ok []; plan = without_kept p }
saved_into p q h k t r w u =
    let s = (untouched-start q k r.fresh u).0 in
    ap (load (saved p)) s ∙ round_trip p (savable p h t (only whole p.mode w))

same-values : (xs : List Side) (n : ℕ) → length xs ≡ 1 → (nth absent_side (fresh_side (nth absent_side xs 1).values ∷ []) n).values ≡ (nth absent_side xs n).values
same-values [] n l = absurd (omega arith)
same-values (x ∷ []) zero l = refl
same-values (x ∷ []) (suc zero) l = refl
same-values (x ∷ []) (suc (suc n)) l = refl
same-values (x ∷ y ∷ xs) n l = absurd (omega arith)

-- show looks at nothing but how many sides there are, and at the values of the one that it names
abbrev shown_with : ℕ → List ℤ → ℤ → ℕ → Answer
shown_with n vs s room = cond (one_to n (natural s)) (cond (leb (length vs) room) (ok vs) (no 41)) (no 21)

show-answer : (d : Content) (s : ℤ) (room : ℕ) → (step (show s room) (plan whole d)).answer ≡ shown_with (length d.sides) (side_at d (natural s)).values s room
unfolding step checks further gives
show-answer d s room = cases (one_to (length d.sides) (natural s)) (λ a. rw a (cases (leb (length (side_at d (natural s)).values) room) (λ b. rw b) (λ b. rw b))) (λ a. rw a)

shows-by : (d : Content) → length d.sides ≡ 1 → (s : ℤ) (room : ℕ) → (step (show s room) (without_kept (plan whole d))).answer ≡ (step (show s room) (plan whole d)).answer
shows-by d one s room =
    show-answer (without_kept (plan whole d)).content s room
    ∙ ap₂ (λ n vs. shown_with n vs s room) (sym one) (same-values d.sides (natural s) one)
    ∙ sym (show-answer d s room)

shows_act : (p : Plan) (h : History) → Reached p h → T (is whole p.mode) → (s : ℤ) (room : ℕ) → (step (show s room) (without_kept p)).answer ≡ (step (show s room) p).answer
shows_act p h t w s room =
    let e = only whole p.mode w in
    let one = t.sound.0.alone (or_right (is blank p.mode) _ w) in
    shows-by p.content one s room ∙ ap (λ m. (step (show s room) (plan m p.content)).answer) (sym e)

-- ---- the whole

lowers_act : (p : Plan) (h : History) → Guarantee p h → T (active p.mode) → (a : Act) → T (closes_act a) → T (takes p a) → left_in p ≡ suc (left_in (following_act p a))
lowers_act p h g k (call c) t y = g.lowers k c t y
lowers_act p h g k (loading f) t y = absurd t
lowers_act p h g k (saving room) t y = absurd t

stays_act : (p : Plan) (h : History) → Guarantee p h → T (active p.mode) → (a : Act) → T (not (closes_act a)) → T (not (edits_act a)) → left_in (following_act p a) ≡ left_in p
stays_act p h g k (call c) t y = g.stays k c t y
stays_act p h g k (loading f) t y = ap left_in (load_keeps f p (rw (load-shut f p (active_open p.mode k)) tt))
stays_act p h g k (saving room) t y = ap left_in (save_keeps room p)

acting : (p : Plan) (h : History) → Reached p h → GuaranteeActs p h
acting p h t =
    let g = guaranteed p h t.sound in
    record {
      calls = g;
      refused_keeps = λ a n. refused_act a p h n;
      reading_keeps = λ a r. reading_act a p h r;
      agreed = λ a k e. subst AnswerIn e (agreed_act a p);
      lowers = lowers_act p h g;
      stays = stays_act p h g;
      carried = λ k acts q. carried_acts acts p h t k q;
      exhausted = λ k acts m s. exhausted_acts acts p h t k m s;
      loaded = λ f y. loaded_act f p h t y;
      shut = λ k f. load-shut f p k;
      saved-same = λ w acts u. saved_into p (from_blank_acts acts).plan h (from_blank_acts acts).history t (from_blank_lem acts) w u;
      shows_same = λ w s room. shows_act p h t w s room;
    }

-- What is guaranteed holds of every list of calls, loads and saves.
pub guarantee_acts : ForEveryActs
guarantee_acts acts = acting _ _ (from_blank_lem acts)

-- And of every state that such acts lead to, each made as its two equations say.
module _ {S : Type 0} (view : S → Plan) where
  pub guarantee_acts_traced : ForEveryActTrace view
  guarantee_acts_traced s h t = acting (view s) h (traced view t)
