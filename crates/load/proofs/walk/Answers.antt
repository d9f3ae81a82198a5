use Rattle.std.proofs.Common.{[], sym, ◌∙◌}
use Rattle.load.proofs.Walking.{stop-outside, stop_again, stop_unfit, walks_on, walks_ended}
use Rattle.load.proofs.walk.Goals as goal
use Rattle.load.proofs.walk.Goals.{then-count-k-via-then-count-k, then-count-k-via-else-count-k+then-seen-k}

pub returns-then-k-eq0-clause-walks : goal.returns-then-k-eq0-clause-walks
returns-then-k-eq0-clause-walks c = let a = c.args in walks_ended a.f.now a.kind a.start a.met a.seen.now _ _ _ c.loop-i.invariant c.if-k-eq0.true

pub returns-then-count-k-clause-walks : goal.returns-then-count-k-clause-walks
returns-then-count-k-clause-walks c = let a = c.args in
    elim c.then-count-k.branch [
      | then-count-k-via-then-count-k w ↦
          stop-outside a.f.now a.kind a.start a.met a.seen.now _ _ _ c.loop-i.invariant c.if-k-eq0.false _ c.loop-i-test.true w.if-count-k.true
      | then-count-k-via-else-count-k+then-seen-k w ↦
          stop_again a.f.now a.kind a.start a.met a.seen.now _ _ _ c.loop-i.invariant c.if-k-eq0.false _ c.loop-i-test.true w.if-count-k.false c.requires.0 w.if-seen-k.true
    ]

pub returns-then-not-fits-clause-walks : goal.returns-then-not-fits-clause-walks
returns-then-not-fits-clause-walks c = let a = c.args in
    let inside = c.if-count-k.false in
    stop_unfit a.f.now a.kind a.start a.met a.seen.now _ _ _ c.loop-i.invariant c.if-k-eq0.false _ c.loop-i-test.true inside c.requires.0 c.if-seen-k.false _
    c.read-w.ensures.0 (c.read-w.ensures.1 inside) (sym c.fits.ensures ∙ c.if-not-fits.true)

pub loop-i-preserved : goal.loop-i-preserved
loop-i-preserved c = let a = c.args in
    let inside = c.if-count-k.false in
    walks_on a.f.now a.kind a.start a.met a.seen.now _ _ _ c.loop-i.invariant c.if-k-eq0.false [] c.loop-i-test.true inside c.requires.0 c.if-seen-k.false _
    c.read-w.ensures.0 (c.read-w.ensures.1 inside) (sym c.fits.ensures ∙ c.if-not-fits.false) _ c.low-k.ensures
