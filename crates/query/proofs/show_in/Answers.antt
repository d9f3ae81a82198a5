use Prim.Native.Nat.{ℕ}
use mathlib.Core.List.{◌++◌}
use lib.IntN.{ℤ}
use mir.Facts.{to_z-of_z}
use Rattle.heads.specs.declared.Head.{Head}
use mathlib.Core.Path.{◌≡◌, sym, ap, ap₂, ◌∙◌}
use lib.ListN.{length, drop}
use Rattle.protocol.specs.Lists.{natural}
use Rattle.protocol.specs.Calls.{Verdict, first}
use Rattle.rows.specs.Rows.{row}
use Rattle.heads.specs.Heads.{measures_in, offset_of}
use Rattle.state.specs.Spread.{spread}
use Rattle.state.proofs.View.{row-length}
use Rattle.query.specs.Reads.{show_checks}
use Rattle.query.proofs.Readings.{shown-refused, shown-fine}
use Rattle.query.proofs.show_in.Goals as goal

-- what was asked of, and of which side
found : (h : Head) (s : ℤ) (room n : ℕ) {v : Verdict} → n ≡ natural s → v ≡ first (show_checks h n room) → first (show_checks h (natural s) room) ≡ v
found h s room n side e = sym (e ∙ ap (λ m. first (show_checks h m room)) side)

pub returns-in-Err : goal.returns-in-Err
returns-in-Err c =
    let a = c.args in
    let side = c.number-side.ensures ∙ ap natural (to_z-of_z c.ranges.s) in
    let e = shown-refused (spread a.p) a.s a.buffer.now _ (found a.p.head a.s (length a.buffer.now) _ side c.in-Err.ensures) in
    (sym (ap (λ x. length x.front) e), c.number.ensures ∙ sym (ap (λ x. x.refusal) e), sym (ap (λ x. x.buffer) e))

pub returns : goal.returns
returns c =
    let a = c.args in
    let side = c.number-side.ensures ∙ ap natural (to_z-of_z c.ranges.s) in
    let e = shown-fine (spread a.p) a.s a.buffer.now (found a.p.head a.s (length a.buffer.now) _ side c.in_default.ensures) in
    let n = c.capped-n.ensures in
    let o = c.offset.ensures.0 ∙ ap offset_of side in (
      n ∙ sym (row-length a.p.values (offset_of (natural a.s)) (measures_in a.p.head)) ∙ sym (ap (λ x. length x.front) e),
      sym (ap (λ x. x.refusal) e),
      c.fill.ensures ∙ ap₂ (λ at m. row a.p.values at m ++ drop m a.buffer.now) o n ∙ sym (ap (λ x. x.buffer) e),
    )
