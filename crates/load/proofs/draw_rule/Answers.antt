use Rattle.std.proofs.Common.{pos, ◌≡◌, ap, ◌∙◌, rules, Err, to_z-of_z, FitsSigned, w32}
use Rattle.exact.proofs.Ints.{fits32}
use Rattle.load.proofs.Drawing.{drew_refused, drew_given, same-call, rule_asked}
use Rattle.load.proofs.draw_rule.Goals as goal

pub returns-in_err-rule : goal.returns-in_err-rule
returns-in_err-rule c = λ s w-is p.
    let in-lower : FitsSigned w32 (pos c.low.result) = search rules in
    let in-upper : FitsSigned w32 (pos c.high.result) = search rules in
    let asked = rule_asked s c.args.w w-is p (to_z-of_z in-lower ∙ ap pos c.low.ensures) (to_z-of_z (fits32 _ c.value.type_inv) ∙ c.value.ensures)
    (to_z-of_z in-upper ∙ ap pos c.high.ensures) (to_z-of_z (fits32 _ c.from.type_inv) ∙ c.from.ensures) c.mark_byte.ensures c.firm_of.ensures in
    let r : c.from_residual.result ≡ Err c.in_err-rule.field-0.0 = search rules in
    rw r (same-call asked (drew_refused c.in_err-rule.ensures.makes c.in_err-rule.ensures.rest))

pub returns : goal.returns
returns c = λ s w-is p.
    let in-lower : FitsSigned w32 (pos c.low.result) = search rules in
    let in-upper : FitsSigned w32 (pos c.high.result) = search rules in
    let asked = rule_asked s c.args.w w-is p (to_z-of_z in-lower ∙ ap pos c.low.ensures) (to_z-of_z (fits32 _ c.value.type_inv) ∙ c.value.ensures)
    (to_z-of_z in-upper ∙ ap pos c.high.ensures) (to_z-of_z (fits32 _ c.from.type_inv) ∙ c.from.ensures) c.mark_byte.ensures c.firm_of.ensures in
    same-call asked (drew_given c.in_ok-rule.ensures.makes c.in_ok-rule.ensures.rest)
