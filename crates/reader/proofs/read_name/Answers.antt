use native.Mathlib.Omega.{arith}
use Prim.Native.Nat.{◌-◌, ◌<◌}
use mathlib.Core.Path.{◌≡◌, sym, ap, ◌∙◌, subst}
use mathlib.Core.Logic.{inl, inr}
use lib.ListN.{length, take}
use Rattle.reader.specs.Cut.{first_line}
use Rattle.reader.specs.Reads.{is_end, op_of, Named}
use Rattle.reader.proofs.Names.{reaching_next, name_long, name_short, name_none, name_some}
use Rattle.reader.proofs.read_name.Goals as goal

pub returns-in_err-get : goal.returns-in_err-get
returns-in_err-get c =
    let h = rw c.in_err-get.was at c.get.ensures.lookup in
    let s : length c.args.sheet.now < c.loop-next.next = elim h.0 [ inl z ↦ absurd (omega arith) | inr z ↦ z ] in
    subst (Named (first_line c.args.sheet.now)) (sym c.from_residual.ensures) (name_short c.args.sheet.now c.loop-next.next c.loop-next.invariant s)

pub returns-in_err-op_named : goal.returns-in_err-op_named
returns-in_err-op_named c =
    let bs = c.args.sheet.now in
    let i = c.loop-next.next in
    let h = rw c.in_ok-get.was at c.get.ensures.lookup in
    let z : i - 0 ≡ i = omega arith in
    subst (Named (first_line bs)) (sym c.from_residual-in_err-op_named.ensures)
    (name_none bs i c.loop-next.invariant (ap is_end (sym c.byte_at.ensures) ∙ sym c.ends.ensures ∙ c.if-ends.true) c.op_named.result
    (c.op_named.ensures ∙ ap op_of (h.0.2 ∙ ap (λ k. take k bs) z)) c.in_err-op_named.was)

pub returns-then-ends : goal.returns-then-ends
returns-then-ends c =
    let bs = c.args.sheet.now in
    let i = c.loop-next.next in
    let h = rw c.in_ok-get.was at c.get.ensures.lookup in
    let z : i - 0 ≡ i = omega arith in
    name_some bs i c.loop-next.invariant (ap is_end (sym c.byte_at.ensures) ∙ sym c.ends.ensures ∙ c.if-ends.true) c.op_named.result _
    (c.op_named.ensures ∙ ap op_of (h.0.2 ∙ ap (λ k. take k bs) z)) c.in_ok-op_named.was

pub loop-next-preserved : goal.loop-next-preserved
loop-next-preserved c = reaching_next c.args.sheet.now c.loop-next.next c.loop-next.invariant (ap is_end (sym c.byte_at.ensures) ∙ sym c.ends.ensures ∙ c.if-ends.false)

pub returns : goal.returns
returns c = name_long c.args.sheet.now c.loop-next.next c.loop-next.invariant (omega arith)
