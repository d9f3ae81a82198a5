use mathlib.Core.Path.{sym, ap, ◌∙◌}
use mir.Facts.{to_z-of_z}
use Rattle.exact.proofs.Ints.{fits32}
use Rattle.protocol.specs.Plan.{value}
use Rattle.rules.specs.Rules.{with_value}
use Rattle.rules.proofs.Rules.{with_same, with_other, with_out}
use Rattle.rules.proofs.value_with.Goals as goal
use Rattle.rules.proofs.value_with.Goals.{else-k-m-via-then-k-m+else-one_to, else-k-m-via-else-k-m}

pub returns-then-one_to : goal.returns-then-one_to
returns-then-one_to c = let a = c.args in
    to_z-of_z c.ranges.x ∙ with_same a.m a.x a.row.now (sym c.one_to.ensures ∙ c.if-one_to.true) ∙ ap (value (with_value a.m a.x a.row.now)) (sym c.if-k-m.true)

pub returns : goal.returns
returns c = let a = c.args in
    to_z-of_z (fits32 c.value_at.result c.value_at.type_inv)
    ∙ c.value_at.ensures
    ∙ elim c.else-k-m.branch [
      | else-k-m-via-then-k-m+else-one_to w ↦ with_out a.m a.x a.row.now (sym w.one_to.ensures ∙ w.if-one_to.false) a.k
      | else-k-m-via-else-k-m w ↦ with_other a.m a.x a.row.now a.k w.if-k-m.false
    ]
