-- That the rules hold in a plan, whatever history led to it; every call keeps it. Assumes nothing.
use Prim.Native.Nat.{ℕ, zero, suc}
use mathlib.Core.Path.{◌≡◌, refl, sym, ap, ◌∙◌}
use mathlib.Core.Bool.{Bool, true}
use native.Mathlib.Omega.{arith}
use lib.ListN.{length}
use lib.Dec.{T, eqb→eq}
use Rattle.protocol.specs.Lists.{one_to, natural, all, snoc}
use Rattle.protocol.specs.Plan.{Side, Mode, blank, whole, split, joining, closing, mode_number, is, Content, Plan, holds, made, absent_side, side_at}
use Rattle.protocol.specs.Calls.{Call, measure, rule, open_plan, split-side, edit, join, send, replay, stop, confirm, install, show, fate_of_edit, left, Verdict, fine, refused, first, checks, further, change_of, fresh_side, reset, on_values, has_arrived, has_confirmed, replayable, after, Stepped, step_by, step, start}
use Rattle.guarantee.specs.Holding.{Holding}
use Rattle.protocol.proofs.Laws.{cases, is_yes, and_in, which, or_right, or_left, range, Fine, Pass, passed, length-modify, all-nth, all_snoc, all_map, all-modify, all-kept, all_one}
use Rattle.protocol.proofs.Replays.{accepted-holds}

-- ---- the mode that a test found

decode : ℕ → Mode
decode zero = blank
decode (suc zero) = whole
decode (suc (suc zero)) = split
decode (suc (suc (suc zero))) = joining
decode (suc (suc (suc (suc n)))) = closing

coded : (m : Mode) → decode (mode_number m) ≡ m
unfolding decode
coded blank = refl
coded whole = refl
coded split = refl
coded joining = refl
coded closing = refl

pub only : (k m : Mode) → T (is k m) → m ≡ k
only k m t = sym (coded m) ∙ ap decode (eqb→eq (mode_number m) (mode_number k) t) ∙ coded k

-- ---- a call made on a plan

abbrev pub plan : Mode → Content → Plan
plan m d = record { mode = m; content = d }

-- what holds after the call if it is accepted, and if it is refused
pub stepped : (P : Stepped → Type 0) (c : Call) (p : Plan) → (Pass (checks c p) → P (step_by fine c p)) → ((n : ℕ) → P (step_by (refused n) c p)) → P (step c p)
unfolding step
stepped P c p f g = by (first (checks c p)) (λ k. passed (checks c p) k)
  where
    by : (v : Verdict) → (Fine v → Pass (checks c p)) → P (step_by v c p)
    by fine k = f (k tt)
    by (refused n) k = g n

-- ---- the rules

abbrev keeps_rules : Content → Side → Bool
keeps_rules d x = holds d.rules x.values

-- they hold on a new side, which has the values of an old one
split-holds : (d : Content) (s : ℕ) → T (one_to (length d.sides) s) → T (all (keeps_rules d) d.sides) → T (all (keeps_rules d) (snoc d.sides (fresh_side (side_at d s).values)))
split-holds d s has hold =
    let i = range (length d.sides) s has in
    all_snoc (keeps_rules d) d.sides (fresh_side (side_at d s).values) hold (all-nth (keeps_rules d) absent_side d.sides s hold i.0 i.1)

-- ---- by call

pub holding_after : (c : Call) (m : Mode) (d : Content) → Holding m d → Pass (checks c (plan m d)) → Holding (after c m d).mode (after c m d).content
unfolding after checks further
holding_after (measure v) m d g k =
    let e = only blank m k.0 in
    let g' : Holding blank d = rw e at g in
    rw e (record { alone = λ w. length-modify 1 _ d.sides ∙ g'.alone w; sides = λ w. absurd w; base = λ w. absurd w; draft = λ w. absurd w })
holding_after (rule a c b f) m d g k =
    let e = only blank m k.0 in
    let g' : Holding blank d = rw e at g in
    rw e (record { alone = g'.alone; sides = λ w. absurd w; base = λ w. absurd w; draft = λ w. absurd w })
holding_after open_plan m d g k =
    let one = g.alone (or_left (is blank m) _ k.0) in
    record { alone = λ w. one; sides = λ w. all_one (keeps_rules d) absent_side d.sides one k.1.1.0; base = λ w. absurd w; draft = λ w. absurd w }
holding_after (split-side s) m d g k = which (is whole m) (is split m) k.0
    (λ w.
    let e = only whole m w in
    let g' : Holding whole d = rw e at g in
    rw e (record {
      alone = λ w. absurd w;
      sides = λ w. split-holds d (natural s) k.1.0 (g'.sides tt);
      base = λ w. all-nth (keeps_rules d) absent_side d.sides 1 (g'.sides tt) (omega arith) (omega (arith, g'.alone tt));
      draft = λ w. absurd w;
    }))
    (λ w.
    let e = only split m w in
    let g' : Holding split d = rw e at g in
    rw e (record { alone = λ w. absurd w; sides = λ w. split-holds d (natural s) k.1.0 (g'.sides tt); base = g'.base; draft = λ w. absurd w }))
holding_after (edit s client n x kind y) m d g k = record {
  alone = λ w. length-modify (natural s) _ d.sides ∙ g.alone w;
  sides = λ w. all-modify (keeps_rules d) absent_side (natural s) (on_values (made (natural x) (change_of kind y))) d.sides (g.sides w) k.1.1.1.1.1.1.1.1.1.1.0;
  base = g.base;
  draft = g.draft;
}
holding_after join m d g k =
    let g' : Holding split d = rw (only split m k.0) at g in
    record { alone = λ w. absurd w; sides = λ w. rw (all_map (keeps_rules d) reset d.sides (λ x. refl)) (g'.sides tt); base = λ w. g'.base tt; draft = λ w. g'.base tt }
holding_after (send s) m d g k = record {
  alone = λ w. length-modify (natural s) has_arrived d.sides ∙ g.alone w;
  sides = λ w. rw (all-kept (keeps_rules d) (natural s) has_arrived d.sides (λ x. refl)) (g.sides w);
  base = g.base;
  draft = g.draft;
}
holding_after (replay n) m d g k = record {
  alone = g.alone;
  sides = g.sides;
  base = g.base;
  draft = λ w. cases (replayable d (natural n)) (λ e. rw e (accepted-holds d (natural n) (is_yes e))) (λ e. rw e (g.draft w));
}
holding_after stop m d g k =
    let g' : Holding joining d = rw (only joining m k.0) at g in
    record { alone = λ w. absurd w; sides = g'.sides; base = g'.base; draft = g'.draft }
holding_after (confirm s) m d g k = record {
  alone = λ w. length-modify (natural s) has_confirmed d.sides ∙ g.alone w;
  sides = λ w. rw (all-kept (keeps_rules d) (natural s) has_confirmed d.sides (λ x. refl)) (g.sides w);
  base = g.base;
  draft = g.draft;
}
holding_after install m d g k = record {
  alone = λ w. refl;
  sides = λ w. and_in (holds d.rules d.draft) true (g.draft (or_right (is joining m) (is closing m) k.0)) tt;
  base = λ w. absurd w;
  draft = λ w. absurd w;
}
holding_after (show s room) m d g k = g
holding_after (fate_of_edit n) m d g k = g
holding_after left m d g k = g

pub holding_step : (c : Call) (p : Plan) → Holding p.mode p.content → Holding (step c p).plan.mode (step c p).plan.content
holding_step c p g = stepped (λ r. Holding r.plan.mode r.plan.content) c p (holding_after c p.mode p.content g) (λ n. g)

pub holding_start : Holding start.mode start.content
holding_start = record { alone = λ w. refl; sides = λ w. absurd w; base = λ w. absurd w; draft = λ w. absurd w }
