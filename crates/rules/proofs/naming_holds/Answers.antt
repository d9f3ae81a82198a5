use Prim.Native.Nat.{◌<◌, ◌≤◌}
use native.Mathlib.Omega.{arith}
use mathlib.Core.Bool.{cond}
use mathlib.Core.Path.{◌≡◌, ap, ap₂, ◌∙◌}
use lib.Dec.{eqb}
use lib.IntN.{pos, ◌+ℤ◌, ◌-ℤ◌}
use lib.ListN.{length, get_or}
use lib.Signed.{lt_z}
use mir.Syntax.{w32, w64}
use mir.Val.{to_z, of_z}
use mir.Facts.{to_z-of_z}
use Rattle.std.proofs.Common.{rules}
use Rattle.exact.proofs.Ints.{fits64}
use Rattle.rules.proofs.Namings.{near_is, far_is}
use Rattle.rules.proofs.Limits.{far_upper, far_lower, minus-fits}
use Rattle.rules.proofs.naming_holds.Goals as goal

pub returns-in-Some : goal.returns-in-Some
returns-in-Some c = let a = c.args in
    let vs = a.row.now in
    let p = c.in-Below.p in
    let near : p < length vs = omega (arith, c.in-Some.ensures.lookup.3.0) in
    let v-fits : to_z w32 (of_z w32 c.in-Some.v.now) ≡ c.in-Some.v.now = search rules in
    let g-fits : to_z w32 (of_z w32 a.naming.now.gap) ≡ a.naming.now.gap = search rules in
    let v = v-fits ∙ c.in-Some.ensures.lookup.3.1 (pos 0) ∙ ap (λ k. get_or vs k (pos 0)) c.from.ensures ∙ near_is vs a.y p c.requires near in
    rw c.in-Below.is (c.less_by.ensures ∙ ap₂ lt_z (ap₂ ◌+ℤ◌ v g-fits) (to_z-of_z c.ranges.y))

pub returns-in-None : goal.returns-in-None
returns-in-None c = let a = c.args in
    let vs = a.row.now in
    let p = c.in-Below.p in
    let g = c.from-in-None in
    let y = c.from-in-None-2 in
    let far = c.far_limit in
    let past : length vs ≤ p = omega (arith, c.in-None.ensures.lookup.3) in
    let g-fits : to_z w32 (of_z w32 a.naming.now.gap) ≡ a.naming.now.gap = search rules in
    rw c.in-Below.is
    (ap₂ lt_z (to_z-of_z (fits64 g.result g.type_inv) ∙ g.ensures ∙ g-fits)
    (to_z-of_z (fits64 far.result far.type_inv) ∙ far.ensures ∙ ap (cond (eqb p 33) (pos 0)) (to_z-of_z (fits64 y.result y.type_inv) ∙ y.ensures ∙ to_z-of_z c.ranges.y))
    ∙ far_upper p a.y a.naming.now.gap ∙ ap (λ v. lt_z (v +ℤ a.naming.now.gap) a.y) (far_is vs a.y p past))

pub returns-in-Some-get : goal.returns-in-Some-get
returns-in-Some-get c = let a = c.args in
    let vs = a.row.now in
    let p = c.in-Above.p in
    let near : p < length vs = omega (arith, c.in-Some-get.ensures.lookup.3.0) in
    let v-fits : to_z w32 (of_z w32 c.in-Some-get.v.now) ≡ c.in-Some-get.v.now = search rules in
    let g-fits : to_z w32 (of_z w32 a.naming.now.gap) ≡ a.naming.now.gap = search rules in
    let v = v-fits ∙ c.in-Some-get.ensures.lookup.3.1 (pos 0) ∙ ap (λ k. get_or vs k (pos 0)) c.from-in-Above.ensures ∙ near_is vs a.y p c.requires near in
    rw c.in-Above.is (c.less_by-in-Some-get.ensures ∙ ap₂ lt_z (ap₂ ◌+ℤ◌ (to_z-of_z c.ranges.y) g-fits) v)

pub returns-in-None-get : goal.returns-in-None-get
returns-in-None-get c = let a = c.args in
    let vs = a.row.now in
    let p = c.in-Above.p in
    let g = c.from-in-None-get in
    let y = c.from-in-None-get-2 in
    let far = c.far_limit-in-None-get in
    let past : length vs ≤ p = omega (arith, c.in-None-get.ensures.lookup.3) in
    let g-fits : to_z w32 (of_z w32 a.naming.now.gap) ≡ a.naming.now.gap = search rules in
    let y-is = to_z-of_z (fits64 y.result y.type_inv) ∙ y.ensures ∙ to_z-of_z c.ranges.y in
    let minus = ap (λ z. to_z w64 (of_z w64 (pos 0 -ℤ z))) y-is ∙ to_z-of_z (minus-fits c.ranges.y) in
    rw c.in-Above.is
    (ap₂ lt_z (to_z-of_z (fits64 g.result g.type_inv) ∙ g.ensures ∙ g-fits) (to_z-of_z (fits64 far.result far.type_inv) ∙ far.ensures ∙ ap (cond (eqb p 33) (pos 0)) minus)
    ∙ far_lower p a.y a.naming.now.gap ∙ ap (λ v. lt_z (a.y +ℤ a.naming.now.gap) v) (far_is vs a.y p past))
