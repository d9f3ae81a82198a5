use native.Mathlib.Omega.{arith}
use Rattle.sheet.proofs.Pieces.{piece-refused}
use Rattle.sheet.proofs.refuse_piece.Goals as goal

pub returns-in-Some : goal.returns-in-Some
returns-in-Some c = let a = c.args in
    let r = c.refuse_sheet in
    piece-refused a.sheet.now a.from a.p a.area.now c.requires r.new.area r.result r.ensures.0 r.ensures.1 _ c.in-Some.is (omega (arith, c.if-sheet-from.false))
