use Rattle.std.proofs.Common.{rules, length, ◌≡◌}
use mathlib.Core.Path.{ap, ◌∙◌}
use native.Mathlib.Numerals.{add-one}
use Prim.Native.Nat.{◌+◌}
use Rattle.heads.specs.Heads.{offset_of, index_of}
use Rattle.protocol.specs.Lists.{natural}
use Rattle.state.specs.Spread.{spread}
use Rattle.moves.proofs.Makes.{refused_by}
use Rattle.state.proofs.Steps.{given_makes}
use Rattle.moves.proofs.Parting.{split_checked, split-accepts}
use Rattle.moves.proofs.split.Goals as goal

pub returns-in_err-split_check-clause-step : goal.returns-in_err-split_check-clause-step
returns-in_err-split_check-clause-step c = let a = c.args in
    let w : c.number-from.result ≡ natural a.s = search rules in
    refused_by (split_checked (spread a.p.now) a.s w) (search rules) c.in_err-split_check.ensures

pub returns-clause-step : goal.returns-clause-step
returns-clause-step c = let a = c.args in
    let w : c.number-from.result ≡ natural a.s = search rules in
    let p = spread a.p.now in
    let arrived : length p.arrived ≡ 8 = search rules in
    let confirmed : length p.confirmed ≡ 8 = search rules in
    let values : length p.values ≡ 256 = search rules in
    let sides = c.side_count-sides.ensures.0 in
    -- the new side's number, as the head before counts it
    let to = ap (λ n. offset_of (n + 1)) sides in
    let place = ap (λ n. index_of (n + 1)) sides in
    rw (c.copy_within.ensures.after, c.begin.ensures, sides)
    (given_makes (split-accepts p a.s w (split_checked p a.s w) (add-one _) c.offset-row.ensures.0 (c.offset-new_row.ensures.0 ∙ to) (c.index-place.ensures.0 ∙ place) values arrived confirmed
    c.in_ok-split_check.ensures))
