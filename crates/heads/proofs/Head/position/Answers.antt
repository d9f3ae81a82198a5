use native.Mathlib.Omega.{arith}
use Prim.Native.Nat.{◌-◌}
use mathlib.Core.Path.{◌≡◌}
use borrow.Author.Tests.{eq-eqb, ne_eqb, lt-ltb, le-ltb, le-leb, lt-leb}
use Rattle.heads.specs.Heads.{end_in, kept_in, position_of}
use Rattle.heads.proofs.Head.position.Goals as goal
use Rattle.heads.proofs.Head.position.Goals.{else-kept-gt0-via-then-kept-gt0+else-end-kept, else-kept-gt0-via-else-kept-gt0, else-n-end-via-then-n-end+else-end-n, else-n-end-via-else-n-end}

pub returns-then-end-kept : goal.returns-then-end-kept
unfolding position_of
returns-then-end-kept c = let h = c.args.self.now in
    let e = c.end-end.ensures in
    (rw (eq-eqb _ 0 (c.if-n-eq0.true), lt-ltb 0 (kept_in h) (omega (arith, c.if-kept-gt0.true)), le-leb (end_in h) (kept_in h) (omega (arith, c.if-end-kept.true))), omega arith)

pub returns-else-kept-gt0 : goal.returns-else-kept-gt0
unfolding position_of
returns-else-kept-gt0 c = let h = c.args.self.now in
    let e = c.end-end.ensures in
    elim c.else-kept-gt0.branch [
      | else-kept-gt0-via-then-kept-gt0+else-end-kept w ↦ (rw (eq-eqb _ 0 (c.if-n-eq0.true), lt-ltb 0 (kept_in h) (omega (arith, w.if-kept-gt0.true)), lt-leb (end_in h) (kept_in h) (omega (arith, w.if-end-kept.false))), tt)
      | else-kept-gt0-via-else-kept-gt0 w ↦ (rw (eq-eqb _ 0 (c.if-n-eq0.true), le-ltb 0 (kept_in h) (omega (arith, w.if-kept-gt0.false))), tt)
    ]

pub returns-then-end-n : goal.returns-then-end-n
unfolding position_of
returns-then-end-n c = let h = c.args.self.now in
    let n = c.args.n in
    let e = c.end-end.ensures in
    let k = c.capped-kept.ensures in
    let same : c.capped-kept.result - (c.end-end.result - n) ≡ kept_in h - (end_in h - n) = omega (arith, e, k) in
    (rw (ne_eqb n 0 (c.if-n-eq0.false), lt-ltb n (end_in h) (omega (arith, c.if-n-end.true)), le-leb (end_in h - n) (kept_in h) (omega (arith, c.if-end-n.true)), same), omega (arith, c.if-n-end.true, c.if-end-n.true))

pub returns-else-n-end : goal.returns-else-n-end
unfolding position_of
returns-else-n-end c = let h = c.args.self.now in
    let n = c.args.n in
    let e = c.end-end.ensures in
    elim c.else-n-end.branch [
      | else-n-end-via-then-n-end+else-end-n w ↦ (rw (ne_eqb n 0 (c.if-n-eq0.false), lt-ltb n (end_in h) (omega (arith, w.if-n-end.true)), lt-leb (end_in h - n) (kept_in h) (omega (arith, w.if-end-n.false))), tt)
      | else-n-end-via-else-n-end w ↦ (rw (ne_eqb n 0 (c.if-n-eq0.false), le-ltb n (end_in h) (omega (arith, w.if-n-end.false))), tt)
    ]
