use Prim.Native.Nat.{◌+◌, ◌<◌, min}
use mathlib.Core.Path.{◌≡◌, sym, ap, subst, ◌∙◌}
use mathlib.Core.List.{List}
use native.Mathlib.Omega.{arith}
use Rattle.std.proofs.Common.{rules, Err}
use Rattle.protocol.specs.declared.call.Rule.{Rule as Asked}
use Rattle.rules.specs.declared.Rule.{Rule}
use Rattle.rules.specs.Table.{with_rule}
use Rattle.state.specs.declared.State.{State}
use Rattle.state.specs.Meets.{Makes, number}
use Rattle.draw.specs.Draw.{rule_asked, ruled}
use Rattle.draw.proofs.Draw.{called, rule_refused, rule_drawn}
use Rattle.draw.proofs.rule.Goals as goal

-- the state with a table
abbrev with_table : State → List Rule → State
with_table p t = record p { head = record p.head { rules = p.head.rules + 1 }; table = t }

-- the table, with the rule behind the others
put : (p : State) (r : Asked) {t : List Rule} {x : Rule} → p.head.rules < 64 → t ≡ with_rule p.table (min p.head.rules 63) x → x ≡ rule_asked r → t ≡ (ruled p r).table
put p r h t-is x-is =
    let last : min p.head.rules 63 ≡ p.head.rules = omega arith in
    t-is ∙ ap (with_rule p.table (min p.head.rules 63)) x-is ∙ ap (λ k. with_rule p.table k (rule_asked r)) last

pub returns-in_err-check_rule-clause-makes : goal.returns-in_err-check_rule-clause-makes
returns-in_err-check_rule-clause-makes c =
    let a = c.args in
    let r : c.from_residual.result ≡ Err c.in_err-check_rule.field-0.0 = search rules in
    rw r (rule_refused a.p.now a.r c.in_err-check_rule.ensures.verdict)

pub returns-clause-stored : goal.returns-clause-stored
returns-clause-stored c =
    ap (with_table c.args.p.now) (put c.args.p.now c.args.r c.in_ok-check_rule.ensures.room.0 c.put_rule.ensures c.of.ensures)

pub returns-clause-makes : goal.returns-clause-makes
returns-clause-makes c =
    let p = c.args.p.now in
    let found = c.in_ok-check_rule.ensures in
    subst (λ t. Makes (called c.args.r) p (number (p.head.rules + 1)) (with_table p t)) (sym (put p c.args.r found.room.0 c.put_rule.ensures c.of.ensures))
    (rule_drawn p c.args.r found.room.0 found.room.1 found.verdict)
