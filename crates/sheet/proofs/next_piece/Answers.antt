use mathlib.Core.Path.{sym, ◌∙◌}
use Rattle.state.specs.Spread.{spread}
use Rattle.state.proofs.Owned.{owned_ranged}
use Rattle.run.proofs.Sound.{sound_holds}
use Rattle.sheet.proofs.Pieces.{piece-run}
use Rattle.sheet.proofs.next_piece.Goals as goal

pub returns : goal.returns
returns c = let a = c.args in
    let r = c.advance-r in
    piece-run a.sheet.now a.from a.p a.area.now (owned_ranged a.p c.well_formed.0) r.new.p r.result.next r.result.written r.result.ended r.new.area c.if-sheet-gt-LIMIT.false
    (r.ensures (λ e. sound_holds (spread a.p) (sym c.is_sound.ensures ∙ e)))
