use Prim.Native.Nat.{ℕ, min}
use native.Mathlib.Omega.{arith}
use mathlib.Core.Bool.{cond}
use mathlib.Core.Path.{◌≡◌, sym, ap, ◌∙◌}
use mathlib.Core.List.{List}
use lib.IntN.{ℤ, pos}
use lib.ListN.{get_or}
use mir.Syntax.{w32}
use mir.Val.{to_z, of_z}
use borrow.Author.Rules.{rules}
use Rattle.std.specs.Prelude.{option_copied}
use Rattle.protocol.specs.Lists.{one_to}
use Rattle.protocol.specs.Plan.{value, applied}
use Rattle.change.specs.Change.{view_change, ranged_of}
use Rattle.rules.specs.Index.{tested_with}
use Rattle.rules.specs.Rules.{numbered}
use Rattle.rules.specs.Table.{lowers, gaps, uppers}
use Rattle.state.specs.Spread.{spread}
use Rattle.replay.specs.Replays.{draft_in, point_of}
use Rattle.replay.proofs.Trials.{value_there, tried-out, tried-broken, tried-passes}
use Rattle.replay.proofs.try_draft.Goals as goal
use Rattle.replay.proofs.try_draft.Goals.{then-here, else-here}
use Rattle.replay.proofs.try_draft.Lts as lts
use Rattle.replay.proofs.try_draft.Tie as tie
use Rattle.replay.proofs.try_draft.Reads as reads

abbrev After-broken : Type 0
After-broken = lts.After-broken tie.the-claims reads.Pre reads.Post

abbrev After-apply : Type 0
After-apply = lts.After-apply tie.the-claims reads.Pre reads.Post

module _ (c : After-apply) where
  abbrev draft : List ℤ
  draft = c.args.p.now.draft

  here : c.one_to-here.result ≡ one_to (min c.args.p.now.head.drafted 32) c.args.e.now.measure
  here = c.one_to-here.ensures ∙ (λ i. one_to (c.capped.ensures i) (c.from-m.ensures i))

  old : get_or draft c.point.result (pos 0) ≡ get_or draft (point_of c.args.e.now.measure) (pos 0)
  old = ap (λ i. get_or draft i (pos 0)) (c.point.ensures.0 ∙ ap point_of c.from-m.ensures)

  read : to_z w32 (of_z w32 (get_or draft c.point.result (pos 0))) ≡ get_or draft c.point.result (pos 0)
  read = search rules

  counted : to_z w32 c.if-here.apply-bits ≡ cond (one_to (min c.args.p.now.head.drafted 32) c.args.e.now.measure) (get_or draft (point_of c.args.e.now.measure) (pos 0)) (pos 0)
  counted = elim c.if-here.branch [
    | then-here w ↦ rw (sym here ∙ w.if-here.true) (w.apply-is ∙ read ∙ old)
    | else-here w ↦ rw (sym here ∙ w.if-here.false) w.apply-is
  ]

  gives : c.apply.result ≡ ranged_of (applied (view_change c.args.e.now.change) (value (draft_in c.args.p.now.head draft) c.args.e.now.measure))
  gives = c.apply.ensures ∙ ap (λ y. ranged_of (applied (view_change c.args.e.now.change) y)) (counted ∙ value_there draft (min c.args.p.now.head.drafted 32) c.args.e.now.measure (omega arith))

module _ (c : After-broken) where
  -- the value that the change made, kept as bits
  kept : to_z w32 (of_z w32 c.in-Some.x) ≡ c.in-Some.x
  kept = search rules

  abbrev test : ℕ → ℤ → ℕ
  test m x =
      let a = c.args in
      let t = a.p.now.table in
      tested_with (option_copied a.index) m (lowers t) (gaps t) (uppers t) (min a.p.now.head.rules 64) x (draft_in a.p.now.head a.p.now.draft)

  tested : c.broken-broken.result ≡ numbered (test c.args.e.now.measure c.in-Some.x)
  tested = c.broken-broken.ensures (omega arith) ∙ (λ i. numbered (test (c.from-m.ensures i) (kept i)))

pub returns-in_default : goal.returns-in_default
returns-in_default c =
    let a = c.args in
    tried-out (tested_with (option_copied a.index)) (spread a.p.now) a.e.now (sym c.in_default.is ∙ gives c.before.before)

pub returns-in-Some-broken : goal.returns-in-Some-broken
returns-in-Some-broken c =
    let a = c.args in
    tried-broken (tested_with (option_copied a.index)) (spread a.p.now) a.e.now c.in-Some.x c.in-Some-broken.rule (sym c.in-Some.is ∙ gives c.before.before.before.before)
    (sym c.in-Some-broken.is ∙ tested c.before.before)

pub returns-then-here-2 : goal.returns-then-here-2
returns-then-here-2 c =
    let a = c.args in
    let t = c.before.before.before.before.before in
    tried-passes (tested_with (option_copied a.index)) (spread a.p.now) a.e.now c.in-Some.x (sym c.in-Some.is ∙ gives t)
    (sym c.in_default-broken.is ∙ tested c.before.before.before) (rw (sym (here t) ∙ c.if-here-2.true) (kept c.before.before.before))

pub returns-else-here-2 : goal.returns-else-here-2
returns-else-here-2 c =
    let a = c.args in
    let t = c.before.before.before.before.before in
    tried-passes (tested_with (option_copied a.index)) (spread a.p.now) a.e.now c.in-Some.x (sym c.in-Some.is ∙ gives t)
    (sym c.in_default-broken.is ∙ tested c.before.before.before) (rw (sym (here t) ∙ c.if-here-2.false) (read t ∙ old t))
