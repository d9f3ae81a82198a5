use Rattle.std.proofs.Common.{pos, get_or, length, refl, ap, ◌∙◌, arith}
use Rattle.format.specs.Numbers.{written}
use Rattle.writer.proofs.Widths.{value_read, fitting_stop, fitting_next, fitting_over}
use Rattle.writer.proofs.row_fits.Goals as goal

pub returns-then-left-w : goal.returns-then-left-w
returns-then-left-w c =
    let x = get_or c.args.row.now c.loop-x.x-index (pos 0) in
    let e = value_read x (omega arith) in
    fitting_stop c.args.row.now c.args.room c.loop-x.left c.loop-x.x-index c.loop-x.invariant x _ (omega arith) refl (c.signed_width-w.ensures.0 ∙ ap (λ y. length (written y)) e) c.if-left-w.true

pub loop-x-preserved : goal.loop-x-preserved
loop-x-preserved c =
    let x = get_or c.args.row.now c.loop-x.x-index (pos 0) in
    let e = value_read x (omega arith) in
    fitting_next c.args.row.now c.args.room c.loop-x.left c.loop-x.x-index c.loop-x.invariant x _ (omega arith) refl (c.signed_width-w.ensures.0 ∙ ap (λ y. length (written y)) e) c.if-left-w.false

pub returns : goal.returns
returns c = fitting_over c.args.row.now c.args.room c.loop-x.left c.loop-x.x-index c.loop-x.invariant (omega arith)
