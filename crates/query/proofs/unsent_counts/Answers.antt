use mathlib.Core.Path.{refl, sym, ap, ap₂, ◌∙◌}
use native.Mathlib.Numerals.{add-one}
use lib.ListN.{set}
use Rattle.protocol.specs.Plan.{unsent_of}
use Rattle.records.specs.Records.{kept_of}
use Rattle.query.specs.Reads.{unsent_counts}
use Rattle.query.proofs.unsent_counts.Goals as goal

pub loop-i-init : goal.loop-i-init
unfolding unsent_counts
loop-i-init c = refl

pub loop-i-preserved : goal.loop-i-preserved
unfolding unsent_counts
loop-i-preserved c =
    let i = c.loop-i.i in
    let h = c.args.h.now in
    let es = c.args.edits.now in
    ap₂ (λ cs n. set cs i n) c.loop-i.invariant (c.count.ensures.0 ∙ ap (λ s. unsent_of s (kept_of h es)) (add-one i)) ∙ sym (ap (unsent_counts h es) (add-one i))
