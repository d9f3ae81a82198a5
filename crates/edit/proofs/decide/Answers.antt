use mathlib.Core.Path.{◌≡◌}
use borrow.Author.Rules.{rules}
use Rattle.std.specs.Prelude.{Err}
use Rattle.protocol.specs.declared.refusal.Refusal.TheVariants.{NoSuchChange, ResultOutOfRange}
use Rattle.edit.proofs.Rulings.{place_refused, change_refused, earlier_refused, room_refused, result_refused, rule_refused, grants}
use Rattle.edit.proofs.decide.Goals as goal

pub returns-in_err-place_check : goal.returns-in_err-place_check
returns-in_err-place_check c =
    let r = c.in_err-place_check.field-0.0 in
    let e : c.from_residual.result ≡ Err r = search rules in
    rw e (place_refused _ _ _ _ (search rules))

pub returns-in_err-change : goal.returns-in_err-change
returns-in_err-change c =
    let e : c.from_residual-in_err-change.result ≡ Err NoSuchChange = search rules in
    rw e (change_refused _ _ _ _ (search rules) (search rules))

pub returns-then-not-may_follow : goal.returns-then-not-may_follow
returns-then-not-may_follow c =
    earlier_refused _ _ _ _ (search rules) {c = c.in_ok-change.change} (search rules) (search rules)

pub returns-in_err-room_check : goal.returns-in_err-room_check
returns-in_err-room_check c =
    let r = c.in_err-room_check.field-0.0 in
    let e : c.from_residual-in_err-room_check.result ≡ Err r = search rules in
    rw e (room_refused _ _ _ _ (search rules) {c = c.in_ok-change.change} (search rules) (search rules) (search rules))

pub returns-in_err-value : goal.returns-in_err-value
returns-in_err-value c =
    let e : c.from_residual-in_err-value.result ≡ Err ResultOutOfRange = search rules in
    rw e (result_refused _ _ _ _ (search rules) {c = c.in_ok-change.change} (search rules) (search rules) (search rules)
    (search rules))

pub returns-in-Some : goal.returns-in-Some
returns-in-Some c =
    rule_refused _ _ _ _ (search rules) {c = c.in_ok-change.change} (search rules) (search rules) (search rules)
    {x = c.in_ok-value.value} (search rules) (search rules)

pub returns : goal.returns
returns c =
    grants _ _ _ _ (search rules) {c = c.in_ok-change.change} (search rules) (search rules) (search rules)
    {x = c.in_ok-value.value} (search rules) (search rules) (search rules)
