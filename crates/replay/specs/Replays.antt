-- Scaffolding: the checks of a replay from its parts, what it decides, the state after it, and what is known of a state beside it. Assumes nothing.
use Rattle.std.specs.Prelude.{ℕ, ◌+◌, ◌-◌, min, Bool, true, cond, ◌&&◌, T, List, [], ◌∷◌, ℤ, pos, get_or, set, Option, None, IsSome, Result, IfOk, IfErr, ◌≡◌, Ok, Err}
use Rattle.protocol.specs.Asked.{verdict_of}
use Rattle.protocol.specs.Lists.{is_none, natural, one_to, count}
use Rattle.protocol.specs.Plan as model
use Rattle.protocol.specs.Plan.{active, holds, is_waiting, is_revoked, is_settled, fits, made, applied, value, lookup, fate_number, measure_limit, rule_limit, kept_limit}
use Rattle.protocol.specs.Broken.{broken_rule}
use Rattle.protocol.specs.Calls.{replay, Check, ◌unless◌, ◌when◌, Verdict, fine, refused, first, checks, built_on_revoked}
use Rattle.protocol.specs.Sizes.{last_measure}
use Rattle.protocol.specs.declared.refusal.Refusal.{Refusal}
use Rattle.change.specs.Change.{view_change}
use Rattle.rows.specs.Rows.{row}
use Rattle.rules.specs.Rules.{RuleTest, numbered}
use Rattle.rules.specs.declared.Index.{Index}
use Rattle.rules.specs.Index.{IndexedIfSome}
use Rattle.rules.specs.Table.{lowers, gaps, uppers, firms}
use Rattle.records.specs.declared.EditRecord.{EditRecord}
use Rattle.records.specs.declared.Fate.{Fate}
use Rattle.records.specs.declared.Fate.TheVariants.{Accepted as Taken, Revoked as Dropped}
use Rattle.records.specs.Records.{fate_of, kept_at, kept_of, no_record}
use Rattle.heads.specs.declared.Head.{Head}
use Rattle.heads.specs.Heads.{mode_of, sides_in, named_slot, unset_in}
use Rattle.state.specs.declared.State.{State}
use Rattle.state.specs.Meets.{Answer, number}
use Rattle.state.specs.Spread.{Spread, spread, rules_of, named_in}
use Rattle.replay.specs.declared.Outcome.{Outcome}
use Rattle.replay.specs.declared.Found.{Found}
use Rattle.replay.specs.declared.Outcome.TheVariants.{Accepted, Revoked}

-- ---- checks

abbrev pub replay_checks : model.Mode → ℕ → model.Kept → model.Kept → List Check
replay_checks mode missing e earlier = (31 unless active mode) ∷ (34 unless is_none missing) ∷ (35 unless is_waiting e) ∷ (36 when is_waiting earlier) ∷ []

-- those of a state, from how many first logs are missing
abbrev pub checks_in : Spread → ℕ → ℤ → List Check
checks_in p missing n =
    let e = named_in p (natural n) in
    replay_checks (mode_of p.head.mode) missing (kept_at 0 e) (kept_at 0 (named_in p e.earlier))

-- ---- the trial on the draft

abbrev pub draft_in : Head → List ℤ → List ℤ
draft_in h draft = row draft 0 (min h.drafted measure_limit)

abbrev pub point_of : ℕ → ℕ
point_of m = min (m - 1) last_measure

-- whether a change takes effect, with the rules of three arrays and any test of them
unfoldable pub effective_in : RuleTest → List ℕ → List ℤ → List ℕ → ℕ → ℕ → model.Change → List ℤ → Bool
unfolding fits
effective_in test lower gap upper k m ch vs = fits m ch vs && is_none (test m lower gap upper k (applied ch (value vs m)) vs)

-- the rule that it breaks; 0 if it breaks none, and where its result is out of range, which is not tested (02, S-3)
unfoldable pub broken_in : RuleTest → List ℕ → List ℤ → List ℕ → ℕ → ℕ → model.Change → List ℤ → ℕ
unfolding fits
broken_in test lower gap upper k m ch vs = cond (fits m ch vs) (test m lower gap upper k (applied ch (value vs m)) vs) 0

-- the value at the measure's place, where a change takes effect: what it makes, on a measure of the draft
abbrev pub amount_of : Spread → EditRecord → ℤ
amount_of p e =
    cond (one_to (min p.head.drafted measure_limit) e.measure) (applied (view_change e.change) (value (draft_in p.head p.draft) e.measure))
    (get_or p.draft (point_of e.measure) (pos 0))

unfoldable pub tried_of : RuleTest → Spread → EditRecord → Outcome
tried_of test p e =
    let vs = draft_in p.head p.draft in
    let k = min p.head.rules rule_limit in
    cond (effective_in test p.lower p.gap p.upper k e.measure (view_change e.change) vs) (Accepted (amount_of p e))
    (Revoked (numbered (broken_in test p.lower p.gap p.upper k e.measure (view_change e.change) vs)))

-- an edit built on a revoked one is revoked, untested, and the value stays (02, S-2)
abbrev pub outcome_of : RuleTest → Spread → EditRecord → Outcome
outcome_of test p e = cond (is_revoked (kept_at 0 (named_in p e.earlier))) (Revoked None) (tried_of test p e)

abbrev pub outcome_in : RuleTest → Spread → ℤ → Outcome
outcome_in test p n = outcome_of test p (named_in p (natural n))

abbrev pub outcome_fate : Outcome → Fate
outcome_fate (Accepted x) = Taken
outcome_fate (Revoked rule) = Dropped

-- the rule for which it is revoked
abbrev pub outcome_rule : Outcome → Option ℕ
outcome_rule (Accepted x) = None
outcome_rule (Revoked rule) = rule

-- what is decided: the checks' verdict, and what the replay comes to where they pass
pub record Decided (test : RuleTest) (p : Spread) (n : ℤ) (missing : ℕ) (r : Result Outcome Refusal) : Type 0 where
  pub verdict : verdict_of r ≡ first (checks_in p missing n)
  pub outcome : IfOk r (λ o. o ≡ outcome_in test p n)

-- what is decided, of what was found
abbrev pub found_outcome : Result Found Refusal → Result Outcome Refusal
found_outcome (Ok f) = Ok f.outcome
found_outcome (Err r) = Err r

-- the rule that a decision names: none where the replay is refused
abbrev pub decided_rule : Result Outcome Refusal → Option ℕ
decided_rule (Ok o) = outcome_rule o
decided_rule (Err r) = None

-- the rule that the protocol's test of the draft with the change made finds broken; 0 if none, and where that is not tested: the edit is built on a revoked one, or the
-- result is out of range (02, S-2 and S-3)
abbrev pub broken_of : model.Content → ℕ → ℕ
broken_of d n =
    let e = (lookup n d.kept).edit in
    cond (built_on_revoked d n) 0 (cond (fits e.measure e.change d.draft) (broken_rule d.rules (made e.measure e.change d.draft)) 0)

-- the rule of a verdict: none where the replay is refused
abbrev pub rule_if_settled : Verdict → ℕ → ℕ
rule_if_settled fine rule = rule
rule_if_settled (refused k) rule = 0

-- a decision names the protocol's rule
abbrev pub NamesRule : model.Plan → ℤ → Result Outcome Refusal → Type 0
NamesRule p n r = decided_rule r ≡ numbered (rule_if_settled (first (checks (replay n) p)) (broken_of p.content (natural n)))

-- ---- what is stored

abbrev pub settled_record : EditRecord → Fate → ℕ → EditRecord
settled_record e fate place = record e { fate = fate; place = place }

-- the draft, where the edit is accepted with a value at a place
abbrev pub draft_after : List ℤ → ℕ → Outcome → List ℤ
draft_after draft point (Accepted x) = set draft point x
draft_after draft point (Revoked rule) = draft

-- the edit at a place is settled, behind as many as there are
abbrev pub settled_in : State → ℕ → Outcome → ℕ → State
settled_in p i o settled =
    let e = get_or p.edits i no_record in
    record p {
      draft = draft_after p.draft (point_of e.measure) o;
      edits = set p.edits i (settled_record e (outcome_fate o) (min settled kept_limit + 1));
    }

-- what a replay does: a refusal leaves the state as it was
pub record Replayed (test : RuleTest) (p : State) (n : ℤ) (missing settled : ℕ) (a : Answer) (q : State) : Type 0 where
  pub verdict : verdict_of a ≡ first (checks_in (spread p) missing n)
  pub refused : IfErr a (λ r. q ≡ p)
  pub answer : IfOk a (λ g. a ≡ number (fate_number (fate_of (outcome_fate (outcome_in test (spread p) n)))))
  pub next : IfOk a (λ g. q ≡ settled_in p (named_slot p.head n) (outcome_in test (spread p) n) settled)

-- ---- what is known of a state beside it

-- While a join is under way the owner's counts are the plan's; and if an index is asked, it is that of the rules, and they hold on the draft.
pub record Trusted (p : State) (first_logs places : ℕ) (asked : Option Index) : Type 0 where
  pub missing : T (active (mode_of p.head.mode)) → first_logs ≡ unset_in p.arrived (sides_in p.head)
  pub settled : T (active (mode_of p.head.mode)) → places ≡ count is_settled (kept_of p.head p.edits)
  pub indexed : T (active (mode_of p.head.mode)) → IndexedIfSome asked (lowers p.table) (gaps p.table) (uppers p.table) (firms p.table) (min p.head.rules rule_limit)
  pub held : IsSome asked → T (active (mode_of p.head.mode)) → holds (rules_of (spread p)) (draft_in p.head p.draft) ≡ true

-- the same where nobody has counted the settled edits
abbrev pub TrustedUncounted : State → ℕ → Option Index → Type 0
TrustedUncounted p missing asked = Trusted p missing (count is_settled (kept_of p.head p.edits)) asked
