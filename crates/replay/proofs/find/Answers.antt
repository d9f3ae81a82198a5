use mathlib.Core.Bool.{false}
use mathlib.Core.Path.{◌≡◌, sym, ap, ◌∙◌}
use mir.Facts.{to_z-of_z}
use Rattle.std.specs.Prelude.{Result, Err, option_copied}
use Rattle.protocol.specs.declared.refusal.Refusal.{Refusal}
use Rattle.replay.specs.declared.Found.{Found}
use Rattle.protocol.specs.Calls.{first}
use Rattle.heads.specs.Heads.{named_at, seat}
use borrow.Author.Rules.{rules}
use Rattle.rules.specs.Rules.{tested_in}
use Rattle.rules.specs.Index.{tested_with}
use Rattle.state.specs.Spread.{spread}
use Rattle.replay.specs.Replays.{checks_in, outcome_of, found_outcome}
use Rattle.replay.proofs.Checks.{named_at_place}
use Rattle.replay.proofs.Replays.{decided_refused, replay_decided, replay-rule}
use Rattle.replay.proofs.find.Goals as goal

refused_found : {a : Result Found Refusal} {r : Refusal} → a ≡ Err r → found_outcome a ≡ Err r
refused_found e = ap found_outcome e

pub returns-in_err-place-clause-rule : goal.returns-in_err-place-clause-rule
returns-in_err-place-clause-rule c =
    let a = c.args in
    let q = spread a.p.now in
    let refusal = c.in_err-place.ensures.0 ∙ ap (λ n. first (checks_in q a.missing n)) (to_z-of_z c.ranges.n) in
    λ known. replay-rule q a.n (found_outcome c.from_residual.result) known.missing (decided_refused (tested_in false) q a.n (refused_found (search rules)) refusal)

pub returns-clause-exact : goal.returns-clause-exact
returns-clause-exact c =
    let a = c.args in
    let p = a.p.now in
    let test = tested_with (option_copied a.index) in
    let number = to_z-of_z c.ranges.n in
    let there = c.in_ok-place.ensures.1 in
    record {
      verdict = c.in_ok-place.ensures.0 ∙ ap (λ n. first (checks_in (spread p) a.missing n)) number;
      outcome = c.trial-outcome.ensures ∙ ap (outcome_of test (spread p)) (named_at_place p a.n c.in_ok-place.place (ap (λ n. seat (named_at p.head n)) (sym number) ∙ there.1) there.0);
    }

pub returns-clause-rule : goal.returns-clause-rule
returns-clause-rule c =
    let a = c.args in
    let p = a.p.now in
    λ known. replay-rule (spread p) a.n _ known.missing (replay_decided p a.n _ known (returns-clause-exact c))
