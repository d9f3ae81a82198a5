use Rattle.std.proofs.Common.{pos, get_or, set, length, length-set, refl, ap, ◌∙◌, ◌+◌, arith}
use Rattle.std.proofs.lemmas.List.Edits.{sets}
use Rattle.format.specs.Numbers.{written}
use Rattle.writer.proofs.Widths.{value_read}
use Rattle.writer.proofs.Writes.{rowing_room, rowing_next, rowing_over}
use Rattle.writer.proofs.put_row.Goals as goal

pub bounds-area-end : goal.bounds-area-end
bounds-area-end c =
    let room = rowing_room c.loop-x.invariant (get_or c.args.row.now c.loop-x.x-index (pos 0)) (omega arith) refl in
    omega (arith, room, c.requires)

pub put_signed-end-requires : goal.put_signed-end-requires
put_signed-end-requires c =
    let x = get_or c.args.row.now c.loop-x.x-index (pos 0) in
    let e = ap (λ y. length (written y)) (value_read x (omega arith)) in
    let room = rowing_room c.loop-x.invariant x (omega arith) refl in
    omega (arith, e, room, c.requires, length-set c.loop-x.area c.loop-x.end 32)

pub loop-x-preserved : goal.loop-x-preserved
loop-x-preserved c =
    let l = c.loop-x in
    let x = get_or c.args.row.now l.x-index (pos 0) in
    let e = value_read x (omega arith) in
    rowing_next l.invariant x (omega arith) refl _ _
    (c.put_signed-end.ensures.0 ∙ ap (λ y. sets (set l.area l.end 32) (l.end + 1) (written y)) e)
    (c.put_signed-end.ensures.1 ∙ ap (λ y. l.end + 1 + length (written y)) e)

pub returns : goal.returns
returns c = rowing_over c.loop-x.invariant (omega arith)
