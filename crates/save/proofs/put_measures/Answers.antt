use Rattle.std.proofs.Common.{◌≡◌, ◌+◌, length, get_or, pos, sym, refl, ap, ◌∙◌, arith, to_z-of_z, rules}
use Rattle.exact.proofs.Ints.{fits32}
use Rattle.file.specs.Saved.{measure_slot}
use Rattle.file.proofs.Sums.{measure_16}
use Rattle.save.specs.Parts.{link_to}
use Rattle.save.proofs.Slots.{full-first, full-last, full_put, put_length_lem}
use Rattle.save.proofs.put_measures.Goals as goal

pub loop-i-init : goal.loop-i-init
loop-i-init c = (refl, full-first measure_slot 1 c.args.values.now c.args.area.now)

pub loop-i-preserved : goal.loop-i-preserved
loop-i-preserved c = let vs = c.args.values.now in
    let r = c.requires in
    let at = c.loop-i.area in
    let i = c.loop-i.i in
    let inv = c.loop-i.invariant in
    let l = inv.0 in
    let t = c.loop-i-test.true in
    let e : 2 + i ≡ 1 + i + 1 = omega arith in
    let link = c.link.ensures ∙ ap (λ k. link_to k (1 + length vs)) e in
    let slot = c.measure_slot.ensures ∙ ap (measure_slot c.link.result) (to_z-of_z (fits32 (get_or vs i (pos 0)) (search rules))) in
    let put = c.put.ensures in (
      put_length_lem at _ (1 + i) _ (omega (arith, t, l, r)) put ∙ l,
      full_put measure_slot measure_16 1 vs (pos 0) at i t _ _ _ (omega (arith, l, r)) put slot link ∙ inv.1,
    )

pub returns : goal.returns
returns c = sym (full-last measure_slot 1 c.args.values.now c.loop-i.area c.loop-i.i c.loop-i-test.false) ∙ c.loop-i.invariant.1
