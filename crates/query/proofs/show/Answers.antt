use native.Mathlib.Omega.{arith}
use mathlib.Core.Path.{sym, ap, ap₂, ◌∙◌}
use lib.ListN.{length, take}
use lib.Seq.{length-take-le}
use Rattle.query.proofs.Readings.{shown-front, shown-room}
use Rattle.state.specs.View.{view}
use Rattle.protocol.specs.Calls.{shown}
use mir.Facts.{to_z-of_z}
use Rattle.query.proofs.show.Goals as goal

pub slice_bounds-result-end : goal.slice_bounds-result-end
slice_bounds-result-end c =
    let a = c.args in
    let h = c.show_in-n.ensures in
    let z = to_z-of_z c.ranges.s in
    let n = h.0 ∙ ap (λ x. length (shown x (view a.p) a.buffer.now).front) z in
    let l = ap length (h.2 ∙ ap (λ x. (shown x (view a.p) a.buffer.now).buffer) z) in
    let r = shown-room a.s (view a.p) a.buffer.now in
    sym (length-take-le c.show_in-n.result _ (omega (arith, n, l, r)))

pub returns : goal.returns
returns c =
    let a = c.args in
    let h = c.show_in-n.ensures in
    let z = to_z-of_z c.ranges.s in (
      h.1 ∙ ap (λ x. (shown x (view a.p) a.buffer.now).refusal) z,
      ap₂ take (h.0 ∙ ap (λ x. length (shown x (view a.p) a.buffer.now).front) z) (h.2 ∙ ap (λ x. (shown x (view a.p) a.buffer.now).buffer) z) ∙ shown-front a.s (view a.p)
          a.buffer.now,
    )
