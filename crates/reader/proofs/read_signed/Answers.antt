use native.Mathlib.Omega.{arith}
use Prim.Native.Nat.{ℕ, ◌+◌}
use mathlib.Core.List.{List}
use mathlib.Core.Path.{◌≡◌, sym, ap, ◌∙◌}
use borrow.Author.Tests.{eq-eqb, ne_eqb}
use lib.Dec.{eqb}
use lib.IntN.{ℤ}
use Rattle.std.specs.Prelude.{Option}
use Rattle.protocol.specs.Lists.{bit}
use Rattle.reader.specs.declared.Found.{Found}
use Rattle.reader.specs.Cut.{first_line}
use Rattle.reader.specs.Reads.{behind_it, magnitude_at}
use Rattle.reader.proofs.Scans.{small_signed, below_nought, neg-fits, negated, magnitude_small, signed-room, signed-not, signed-minus, signed-plain}
use Rattle.reader.proofs.read_signed.Goals as goal

-- the digits read are those behind the sign
behind-sign : (bs : List ℕ) (at from x : ℕ) (m : Option (Found ℕ)) → from ≡ at + bit (eqb x 45) → m ≡ magnitude_at (first_line bs) from → magnitude_at (first_line bs) (at + bit (eqb x 45)) ≡ m
behind-sign bs at from x m e f = ap (magnitude_at (first_line bs)) (sym e) ∙ sym f

pub read_digits-requires : goal.read_digits-requires
read_digits-requires c =
    let r = signed-room c.args.sheet.now c.args.at c.requires.0 c.byte_at-minus.result c.byte_at-minus.ensures in
    let e : c.args.at + c.from.result ≡ c.args.at + bit (eqb c.byte_at-minus.result 45) = ap (λ k. c.args.at + k) c.from.ensures in
    omega (arith, r, e)

pub returns-in_err-size : goal.returns-in_err-size
returns-in_err-size c =
    c.from_residual.ensures
    ∙ signed-not c.args.sheet.now c.args.at c.requires.0 c.byte_at-minus.result c.byte_at-minus.ensures c.read_digits.result
    (behind-sign c.args.sheet.now c.args.at _ c.byte_at-minus.result _ (ap (λ k. c.args.at + k) c.from.ensures) c.read_digits.ensures) c.requires.1 c.in_err-size.was

pub overflow_sub-result : goal.overflow_sub-result
overflow_sub-result c =
    let n = c.in_ok-size.size.value in
    let m = magnitude_small _ _ n c.in_ok-size.size.next (sym c.read_digits.ensures ∙ c.in_ok-size.was) in
    rw (c.cast_signed-n.ensures, small_signed n m, small_signed n m, below_nought n) (neg-fits n m)

pub returns-then-minus : goal.returns-then-minus
returns-then-minus c =
    let n = c.in_ok-size.size.value in
    let next = c.in_ok-size.size.next in
    let m = magnitude_small _ _ n next (sym c.read_digits.ensures ∙ c.in_ok-size.was) in
    rw (c.cast_signed-n.ensures, small_signed n m)
    (ap (λ (x : ℤ). behind_it x next) (negated n m)
    ∙ signed-minus c.args.sheet.now c.args.at c.requires.0 c.byte_at-minus.result c.byte_at-minus.ensures c.read_digits.result
    (behind-sign c.args.sheet.now c.args.at _ c.byte_at-minus.result _ (ap (λ k. c.args.at + k) c.from.ensures) c.read_digits.ensures) n next (eq-eqb _ _ c.if-minus.true) c.in_ok-size.was)

pub returns-else-minus : goal.returns-else-minus
returns-else-minus c =
    let n = c.in_ok-size.size.value in
    let next = c.in_ok-size.size.next in
    let m = magnitude_small _ _ n next (sym c.read_digits.ensures ∙ c.in_ok-size.was) in
    rw (c.cast_signed-n.ensures, small_signed n m)
    (ap (λ (x : ℤ). behind_it x next) (small_signed n m)
    ∙ signed-plain c.args.sheet.now c.args.at c.requires.0 c.byte_at-minus.result c.byte_at-minus.ensures c.read_digits.result
    (behind-sign c.args.sheet.now c.args.at _ c.byte_at-minus.result _ (ap (λ k. c.args.at + k) c.from.ensures) c.read_digits.ensures) n next (ne_eqb _ _ c.if-minus.false) c.in_ok-size.was)
