use borrow.Author.Rules.{rules}
use lib.ListN.{length}
use mathlib.Core.Path.{◌≡◌, ap, ◌∙◌}
use mir.Facts.{to_z-of_z}
use Rattle.heads.specs.Heads.{named_at, seat}
use Rattle.records.specs.Records.{found_at}
use Rattle.query.specs.Reads.{fate_answer}
use Rattle.state.specs.Meets.{answer_of}
use Rattle.query.proofs.Readings.{fate_is}
use Rattle.query.proofs.fate_of.Goals as goal

pub returns : goal.returns
returns c =
    let a = c.args in
    let long : length a.edits.now ≡ 256 = search rules in
    let n = to_z-of_z c.ranges.n in
    (ap answer_of (c.fate_answer.ensures.0 ∙ ap fate_answer (c.find.ensures ∙ ap (found_at a.edits.now) (c.named.ensures.0 ∙ ap (λ z. seat (named_at a.h.now z)) n))) ∙ fate_is a.h.now a.edits.now a.n long, c.fate_answer.ensures.1)
