use Rattle.std.proofs.Common.{◌≡◌, get_or, set, ap, ◌∙◌, arith}
use Rattle.std.proofs.lemmas.List.Edits.{sets}
use Rattle.state.specs.declared.Given.TheVariants.{One}
use Rattle.writer.specs.Writes.{told, head_of}
use Rattle.writer.proofs.Parts.{is-ended}
use Rattle.writer.proofs.put_one.Goals as goal

pub returns : goal.returns
returns c =
    let s = c.args in
    let at : c.put_spaced.result ≡ 2 = omega (arith, c.put_spaced.ensures.1, c.width-w.ensures.0) in
    let letters = set (set s.area.now 0 (get_or s.letters 0 0)) 1 (get_or s.letters 1 0) in
    is-ended (head_of s.letters (One s.n)) s.area.now _ _ (c.put_spaced.ensures.0 ∙ ap (λ k. sets letters k (told s.n)) at) (omega (arith, c.width-w.ensures.0)) (omega arith)
