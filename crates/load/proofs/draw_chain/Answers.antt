use Rattle.std.proofs.Common.{◌≡◌, rules, Err}
use Rattle.load.proofs.Reading.{sized-parts}
use Rattle.load.proofs.Drawing.{words_any, along_begin, along_refused, along_on}
use Rattle.load.proofs.draw_chain.Goals as goal

pub loop-init : goal.loop-init
loop-init c = along_begin c.args.f.now c.args.kind c.args.start c.args.p.now

pub returns-in_err-draw_slot : goal.returns-in_err-draw_slot
returns-in_err-draw_slot c = let a = c.args in
    let w = words_any a.f.now c.loop.k _ (sized-parts a.f.now c.requires).0 c.read-w.ensures.0 c.read-w.ensures.1 in
    let r : c.from_residual.result ≡ Err c.in_err-draw_slot.field-0.0 = search rules in
    rw r (along_refused a.f.now a.kind a.start c.loop.invariant c.if-k-eq0.false c.loop-test.true (c.in_err-draw_slot.ensures _ w.0 w.1))

pub loop-preserved : goal.loop-preserved
loop-preserved c = let a = c.args in
    let w = words_any a.f.now c.loop.k _ (sized-parts a.f.now c.requires).0 c.read-w.ensures.0 c.read-w.ensures.1 in
    along_on a.f.now a.kind a.start c.loop.invariant c.if-k-eq0.false c.loop-test.true (c.in_ok-draw_slot.ensures _ w.0 w.1) _ w.0 w.1 c.low-k.ensures
