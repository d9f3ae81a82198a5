use borrow.Author.Rules.{rules}
use mathlib.Core.Path.{◌≡◌, refl, ap, subst}
use mir.Syntax.{w32}
use mir.Val.{to_z, of_z}
use Rattle.std.specs.Prelude.{is_ok}
use Rattle.protocol.specs.Calls as model
use Rattle.protocol.specs.declared.call.Call.TheVariants.{Rule, Send, Replay, Confirm, Fate, Left}
use Rattle.heads.specs.declared.Head.{Head}
use Rattle.state.specs.View.{view}
use Rattle.state.specs.Meets.{Makes}
use Rattle.calls.proofs.Making.{drawn, moved, unsent_is, read, fate-plan, left_plan, readied, replay-trusted}
use Rattle.calls.proofs.changed.Goals as goal

pub returns-in-Rule : goal.returns-in-Rule
returns-in-Rule c k = let i = c.in-Rule in rw i.is (drawn c.args.beside.now (Rule i.r) c.rule.ensures.makes refl)

pub returns-in-Replay : goal.returns-in-Replay
returns-in-Replay c k =
    let n = c.in-Replay.n in
    let z : to_z w32 (of_z w32 n) ≡ n = search rules in
    let w = rw c.in-Replay.is at k in
    let m = c.replay.ensures.step (replay-trusted c.ready.ensures c.asked.ensures w.held w.indexed (w.tallied refl)) in
    let r = c.replay.ensures.rules in
    rw c.in-Replay.is (readied (Replay n) refl c.ready.ensures (subst (λ x. Makes (model.replay x) c.args.p.now c.replay.result c.replay.new.p) z m) (r.0, ap (λ (h : Head). h.rules) r.1))

pub returns-in-Send : goal.returns-in-Send
returns-in-Send c k =
    let a = c.args in
    let s = c.in-Send.s in
    let z : to_z w32 (of_z w32 s) ≡ s = search rules in
    let tallied = (rw c.in-Send.is at k).tallied refl in
    let n = c.unsent.ensures in
    let m = c.send.ensures.step (unsent_is a.p.now a.beside.now.counts tallied _ n) in
    rw c.in-Send.is (moved a.beside.now (Send s) (subst (λ x. Makes (model.send x) a.p.now c.send.result c.send.new.p) z m) c.send.ensures.rules)

pub returns-in-Confirm : goal.returns-in-Confirm
returns-in-Confirm c k =
    let a = c.args in
    let s = c.in-Confirm.s in
    let z : to_z w32 (of_z w32 s) ≡ s = search rules in
    let tallied = (rw c.in-Confirm.is at k).tallied refl in
    let n = c.unsent-in-Confirm.ensures in
    let m = c.confirm.ensures.step (unsent_is a.p.now a.beside.now.counts tallied _ n) in
    rw c.in-Confirm.is (moved a.beside.now (Confirm s) (subst (λ x. Makes (model.confirm x) a.p.now c.confirm.result c.confirm.new.p) z m) c.confirm.ensures.rules)

pub returns-in-Fate : goal.returns-in-Fate
returns-in-Fate c k =
    let a = c.args in
    let n = c.in-Fate.n in
    let z : to_z w32 (of_z w32 n) ≡ n = search rules in
    let m = read c.fate.ensures.0 c.fate.ensures.1 (fate-plan (view a.p.now) (to_z w32 (of_z w32 n))) in
    rw c.in-Fate.is (moved a.beside.now (Fate n) (subst (λ x. Makes (model.fate_of_edit x) a.p.now c.fate.result a.p.now) z m) (refl, refl))

pub returns-in-Left : goal.returns-in-Left
returns-in-Left c k =
    let a = c.args in
    let tallied = (rw c.in-Left.is at k).tallied refl in
    let m = read (c.left.ensures.step tallied) (ap is_ok c.left.ensures.exact) (left_plan (view a.p.now)) in
    rw c.in-Left.is (moved a.beside.now Left m (refl, refl))
