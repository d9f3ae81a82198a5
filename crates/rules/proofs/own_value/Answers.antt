use native.Mathlib.Omega.{arith}
use mathlib.Core.Path.{sym, ◌∙◌}
use lib.ListN.{length}
use mir.Facts.{to_z-of_z}
use Rattle.rules.proofs.Rules.{with_same, with_out, value_out}
use Rattle.rules.proofs.own_value.Goals as goal

pub returns-then-one_to : goal.returns-then-one_to
returns-then-one_to c = let a = c.args in
    to_z-of_z c.ranges.x ∙ with_same a.m a.x a.row.now (sym c.one_to.ensures ∙ c.if-one_to.true)

pub returns-else-one_to : goal.returns-else-one_to
returns-else-one_to c = let a = c.args in let out = sym c.one_to.ensures ∙ c.if-one_to.false in
    sym (value_out (length a.row.now) a.row.now a.m (omega arith) out) ∙ with_out a.m a.x a.row.now out a.m
