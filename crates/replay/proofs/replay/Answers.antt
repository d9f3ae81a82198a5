use Prim.Native.Nat.{ℕ, ◌<◌}
use mathlib.Core.Path.{◌≡◌, sym, ap, ◌∙◌}
use mir.Syntax.{w32}
use mir.Val.{to_z, of_z}
use mir.Facts.{to_z-of_z}
use borrow.Author.Rules.{rules}
use Rattle.std.specs.Prelude.{Some, option_copied}
use Rattle.protocol.specs.Plan.{fate_number}
use Rattle.protocol.specs.Calls.{fine, first}
use Rattle.heads.specs.Heads.{named_at, named_slot, slot_at, seat}
use Rattle.heads.proofs.Positions.{seat_some, slot_suc}
use Rattle.records.specs.Records.{fate_of}
use Rattle.rules.specs.Index.{tested_with}
use Rattle.state.specs.declared.State.{State}
use Rattle.state.specs.Meets.{number}
use Rattle.state.specs.Spread.{spread}
use Rattle.replay.specs.Replays.{checks_in, outcome_in, outcome_fate, settled_in}
use Rattle.replay.proofs.Replays.{replay_refused, replay_meets}
use Rattle.replay.proofs.replay.Goals as goal
use Rattle.replay.proofs.replay.Lts as lts
use Rattle.replay.proofs.replay.Tie as tie
use Rattle.replay.proofs.replay.Reads as reads

abbrev After-number : Type 0
After-number = lts.After-number tie.the-claims reads.Pre reads.Post tie.handed_clauses

pub returns-in_err-found-clause-step : goal.returns-in_err-found-clause-step
returns-in_err-found-clause-step c =
    let a = c.args in
    λ known. replay_refused a.p.now a.n known (search rules) (c.in_err-found.ensures.exact.verdict ∙ ap (λ n. first (checks_in (spread a.p.now) a.missing n)) (to_z-of_z c.ranges.n))

module _ (c : After-number) where
  abbrev p : State
  p = c.args.p.now

  abbrev i : ℕ
  i = c.in_ok-found.found.place

  number_is : to_z w32 (of_z w32 c.args.n) ≡ c.args.n
  number_is = to_z-of_z c.ranges.n

  passes : first (checks_in (spread p) c.args.missing c.args.n) ≡ fine
  passes = ap (λ n. first (checks_in (spread p) c.args.missing n)) (sym number_is) ∙ sym c.in_ok-found.ensures.exact.verdict

  few : i < 256
  few = c.in_ok-found.ensures.place.0

  at : seat (named_at p.head c.args.n) ≡ Some i
  at = ap (λ n. seat (named_at p.head n)) (sym number_is) ∙ c.in_ok-found.ensures.place.1

  -- what it comes to
  comes : c.in_ok-found.found.outcome ≡ outcome_in (tested_with (option_copied c.args.index)) (spread p) c.args.n
  comes = c.in_ok-found.ensures.exact.outcome ∙ ap (outcome_in (tested_with (option_copied c.args.index)) (spread p)) number_is

  gives : c.number.result ≡ fate_number (fate_of (outcome_fate c.in_ok-found.found.outcome))
  gives = c.number.ensures ∙ ap (λ f. fate_number (fate_of f)) c.fate.ensures

pub returns-clause-exact : goal.returns-clause-exact
returns-clause-exact c =
    let slot : i c ≡ named_slot (p c).head c.args.n = sym (ap slot_at (seat_some (named_at (p c).head c.args.n) (i c) (at c)) ∙ slot_suc (i c) (few c)) in
    record {
      verdict = sym (passes c);
      refused = tt;
      answer = ap (λ k. number k) (gives c ∙ ap (λ o. fate_number (fate_of (outcome_fate o))) (comes c));
      next = c.settle.ensures.0 ∙ (λ j. settled_in (p c) (slot j) (comes c j) c.args.settled);
    }

pub returns-clause-step : goal.returns-clause-step
returns-clause-step c =
    λ known. rw (c.settle.ensures.0, gives c) (replay_meets (p c) c.args.n (i c) c.settle.ensures.2 c.settle.ensures.1 known (passes c) (at c) (few c) (comes c))
