use native.Mathlib.Omega.{arith}
use mathlib.Core.Path.{◌∙◌}
use Rattle.run.proofs.Running.{still_long, lent_most, most_put, ended_there, ended_sheet, ended_room, written_on, left_out}
use Rattle.run.proofs.advance.Goals as goal
use Rattle.run.proofs.advance.Goals.{in-Some, in-None}

pub loop-ended-preserved : goal.loop-ended-preserved
loop-ended-preserved c = let l = c.loop-ended in
    let t = c.take_line-line in
    let long = still_long l.written l.area t.new.room l.invariant.1 t.ensures.put.0 in (
      long ∙ l.invariant.0,
      elim c.match-line.branch [
        | in-Some w ↦ let n = most_put t.ensures.put.1 _ w.in-Some.is in let r = lent_most l.written l.area in omega (arith, long, n, r, w.written-is, l.invariant.1)
        | in-None w ↦ omega (arith, long, w.written-is, l.invariant.1)
      ],
      λ x.
          let k = l.invariant.2 x in
          elim c.match-line.branch [
            | in-Some w ↦ rw (w.written-is, w.ended-is) (written_on k c.loop-ended-test.true c.if-next-sheet.true c.if-way-area.true t.ensures.end.0 t.ensures.line _ w.in-Some.is)
            | in-None w ↦ rw (w.written-is, w.ended-is) (left_out k c.loop-ended-test.true c.if-next-sheet.true c.if-way-area.true t.ensures.end.0 t.ensures.line w.in-None.is)
          ],
    )

pub returns-else-way-area : goal.returns-else-way-area
returns-else-way-area c x = ended_room (c.loop-ended.invariant.2 x) c.loop-ended-test.true c.if-next-sheet.true c.if-way-area.false

pub returns-else-next-sheet : goal.returns-else-next-sheet
returns-else-next-sheet c x = ended_sheet (c.loop-ended.invariant.2 x) c.loop-ended-test.true c.if-next-sheet.false

pub returns-after-loop-ended : goal.returns-after-loop-ended
returns-after-loop-ended c x = ended_there (c.loop-ended.invariant.2 x) c.loop-ended-test.false
