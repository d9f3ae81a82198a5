use Rattle.std.proofs.Common.{◌≡◌, ◌++◌, ◌+◌, length, length-append, sym, ◌∙◌, arith}
use borrow.Author.Tests.{leb-true}
use Rattle.format.specs.Sheets.{spaced}
use Rattle.writer.specs.Writes.{head_of, ok_letters}
use Rattle.writer.proofs.Parts.{is-ended, put-behind}
use Rattle.writer.proofs.put_parts.Goals as goal

pub returns : goal.returns
returns c =
    let s = c.args in
    let head = head_of ok_letters s.given in
    let wide : 2 + c.numbers_width-w.result ≡ length head = omega (arith, c.numbers_width-w.ensures) in
    -- the row has the room that the head and the line feed leave
    let room = leb-true (length (spaced s.row.now)) c.in_ok-room.room (sym c.row_fits.ensures ∙ c.if-not-row_fits.false) in
    let row_put = put-behind s.area.now _ _ _ head (spaced s.row.now) c.put_head.ensures wide c.put_row-end.ensures.0 in
    is-ended (head ++ spaced s.row.now) s.area.now _ _ row_put (omega (arith, wide, c.put_row-end.ensures.1, length-append head (spaced s.row.now))) (omega (arith, room, c.in_ok-room.ensures, c.put_row-end.ensures.1))
