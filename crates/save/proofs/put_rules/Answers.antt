use Rattle.std.proofs.Common.{◌≡◌, ◌+◌, ◌*◌, length, map, take, sym, refl, ap, ◌∙◌, arith, rules}
use Rattle.std.proofs.lemmas.List.{length-map}
use lib.Seq.{sets}
use lib.ListN.{get_or-map}
use Rattle.file.specs.Saved.{rule_slot, slots_from}
use Rattle.file.proofs.Sums.{rule_16}
use Rattle.rules.proofs.Table.{none}
use Rattle.save.specs.Parts.{rule_of, link_to}
use Rattle.save.proofs.Slots.{full-first, full-last, full_put, put_length_lem}
use Rattle.save.proofs.Files.{rules-are}
use Rattle.save.proofs.put_rules.Goals as goal

table-length : (c : goal.After-loop-i) → length c.args.table.now ≡ 64
table-length c = search rules

pub loop-i-init : goal.loop-i-init
loop-i-init c = (refl, full-first rule_slot c.args.k (map rule_of (take c.args.m c.args.table.now)) c.args.area.now)

pub loop-i-preserved : goal.loop-i-preserved
loop-i-preserved c = let rs = take c.args.m c.args.table.now in
    let r = c.requires in
    let k = c.args.k in
    let at = c.loop-i.area in
    let i = c.loop-i.i in
    let inv = c.loop-i.invariant in
    let l = inv.0 in
    let t = c.loop-i-test.true in
    let n = length-map rs rule_of in
    let link = c.link.ensures ∙ ap (λ n. link_to (k + i + 1) (k + n)) (sym n) in
    let slot = c.rule_slot.ensures ∙ ap (rule_slot c.link.result) (sym (get_or-map rule_of rs i none)) in
    let put = c.put.ensures in (
      put_length_lem at _ (k + i) _ (omega (arith, t, l, r)) put ∙ l,
      full_put rule_slot rule_16 k (map rule_of rs) (rule_of none) at i (omega (arith, n, t)) _ _ _ (omega (arith, l, r, n)) put slot link ∙ inv.1,
    )

pub returns : goal.returns
returns c = let s = c.args in
    let rs = take s.m s.table.now in
    let n = length-map rs rule_of in
    let t = c.loop-i-test.false in
    sym (full-last rule_slot s.k (map rule_of rs) c.loop-i.area c.loop-i.i (omega (arith, n, t))) ∙ c.loop-i.invariant.1
    ∙ ap (λ xs. sets s.area.now (16 * s.k) (slots_from rule_slot s.k xs)) (rules-are s.table.now s.m (let l = table-length c in omega (arith, l, c.requires)))
