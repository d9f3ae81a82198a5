-- Scaffolding: the checks of an edit from its parts, what it decides, and the state after the stores. Assumes nothing.
use Rattle.std.specs.Prelude.{ℕ, ◌+◌, ◌-◌, ◌%◌, min, Bool, true, not, cond, ◌&&◌, ◌||◌, List, [], ◌∷◌, leb, ℤ, length, set, T, ◌≡◌, Option, Some, IsSome, Result, Ok, Err, IfOk}
use Rattle.protocol.specs.Lists.{is_none, natural, one_to}
use Rattle.protocol.specs.Plan as model
use Rattle.protocol.specs.Plan.{is, blank, whole, split, applied, value, holds, made, side_at, kept_limit, rule_limit, number_limit}
use Rattle.protocol.specs.Broken.{broken_rule}
use Rattle.protocol.specs.Calls.{Check, ◌unless◌, ◌when◌, first, apart, no22, no24, no25, no28, no30, change_of}
use Rattle.protocol.specs.Sizes.{last_measure, last_edit}
use Rattle.protocol.specs.Asked.{verdict_of}
use Rattle.protocol.specs.declared.call.Edit.{Edit}
use Rattle.protocol.specs.declared.refusal.Refusal.{Refusal}
use Rattle.protocol.specs.declared.refusal.Refusal.TheVariants.{RuleBroken}
use Rattle.change.specs.Change.{made_of}
use Rattle.rows.specs.Rows.{row}
use Rattle.rules.specs.Rules.{RuleTest}
use Rattle.rules.specs.declared.Index.{Index}
use Rattle.rules.specs.Index.{FirmTest, IndexedIfSome}
use Rattle.records.specs.declared.EditRecord.{EditRecord}
use Rattle.records.specs.declared.Fate.TheVariants.{Unsent}
use Rattle.heads.specs.declared.Head.{Head}
use Rattle.heads.specs.Heads.{mode_of, sides_in, measures_in, offset_of, kept_in}
use Rattle.records.specs.Records.{kept_at}
use Rattle.state.specs.declared.State.{State}
use Rattle.state.specs.Spread.{Spread, spread, rules_of, named_in}
use Rattle.state.specs.Meets.{Answer, IfRefused, number, refusal}
use Rattle.state.specs.View.{view}
use Rattle.edit.specs.declared.Granted.{Granted}

-- ---- checks, in 01's order, from the parts of a plan that they look at; `held` says what the test of the rules found, `firm` whether a firm one names the measure

-- who edits what
abbrev pub place_checks : Head → ℕ → ℤ → ℕ → List Check
place_checks h s client m =
    (31 unless (is whole (mode_of h.mode) || apart (mode_of h.mode))) ∷ (21 unless one_to (sides_in h) s) ∷ no22 client ∷ (23 unless one_to (measures_in h) m) ∷ []

-- whether there is room for one edit more
abbrev pub room_checks : Head → Bool → List Check
room_checks h firm = (26 when (apart (mode_of h.mode) && firm)) ∷ (27 when (apart (mode_of h.mode) && leb kept_limit (kept_in h))) ∷ no30 h.next ∷ []

abbrev pub edit_checks : Bool → model.Mode → ℕ → Bool → model.Kept → ℕ → ℕ → List ℤ → ℕ → ℤ → ℤ → ℕ → model.Change → List Check
edit_checks held mode sides firm named kept next vs s client n m ch =
    (31 unless (is whole mode || apart mode)) ∷ (21 unless one_to sides s) ∷ no22 client ∷ (23 unless one_to (length vs) m) ∷ no24 ch ∷ no25 named client n
    ∷ (26 when (apart mode && firm)) ∷ (27 when (apart mode && leb kept_limit kept)) ∷ no30 next ∷ no28 vs m ch ∷ (29 unless held) ∷ []

-- ---- what they find, with any tests of the rules

-- the values of the side that an edit names, and the value that its measure is to have
abbrev pub row_of : Spread → Edit → List ℤ
row_of p e = row p.values (offset_of (natural e.side)) (measures_in p.head)

abbrev pub asks : Edit → model.Change
asks e = change_of e.kind e.constant

abbrev pub result_of : Spread → Edit → ℤ
result_of p e = applied (asks e) (value (row_of p e) (natural e.measure))

-- the number of the broken rule that a test gives, or 0; and whether a firm one names the measure
abbrev pub rule_by : RuleTest → Spread → Edit → ℕ
rule_by test p e = test (natural e.measure) p.lower p.gap p.upper (min p.head.rules rule_limit) (result_of p e) (row_of p e)

abbrev pub frozen_by : FirmTest → Spread → Edit → Bool
frozen_by firmly p e = firmly p.lower p.upper p.firm (min p.head.rules rule_limit) (natural e.measure)

abbrev pub checks_by : RuleTest → FirmTest → Spread → Edit → List Check
checks_by test firmly p e =
    edit_checks (is_none (rule_by test p e)) (mode_of p.head.mode) (sides_in p.head) (frozen_by firmly p e) (kept_at 0 (named_in p (natural e.after))) (kept_in p.head) p.head.next
    (row_of p e) (natural e.side) e.client e.after (natural e.measure) (asks e)

-- What an edit decides: the verdict of its checks; where they pass, its change and the new value; and a refusal with 29 names the rule that the test found broken
-- (02, S-3).
pub record Ruled (test : RuleTest) (firmly : FirmTest) (p : Spread) (e : Edit) (r : Result Granted Refusal) : Type 0 where
  pub verdict : verdict_of r ≡ first (checks_by test firmly p e)
  pub granted : IfOk r (λ g. (Some g.change ≡ made_of (natural e.kind) e.constant) × (g.value ≡ result_of p e))
  pub rule : (k : ℕ) → r ≡ Err (RuleBroken k) → k ≡ rule_by test p e

-- ---- what is known of a plan beside it

-- If an index is asked, it is that of the rules, and every rule holds on the row of the side that the edit names.
pub record Trusted (asked : Option Index) (p : State) (e : Edit) : Type 0 where
  pub indexed : T (not (is blank (mode_of p.head.mode)))
      → IndexedIfSome asked (spread p).lower (spread p).gap (spread p).upper (spread p).firm (min p.head.rules rule_limit)
  pub held : IsSome asked → T (not (is blank (mode_of p.head.mode))) → T (one_to (sides_in p.head) (natural e.side)) → holds (rules_of (spread p)) (row_of (spread p) e) ≡ true

-- ---- what is stored

-- where a side's measure stands among all values
abbrev pub spot_of : ℕ → ℕ → ℕ
spot_of s m = offset_of s + min (m - 1) last_measure

abbrev pub edit_head : Head → Head
edit_head h = record h { kept = cond (is whole (mode_of h.mode)) h.kept (min h.kept last_edit + 1); next = min h.next number_limit + 1 }

-- the record of an edit in a plan that keeps it; side and measure are kept as bytes
abbrev pub edit_record : Head → Edit → Granted → EditRecord
edit_record h e g =
    record {
      change = g.change;
      fate = Unsent;
      side = natural e.side % 256;
      client = natural e.client;
      earlier = natural e.after;
      measure = natural e.measure % 256;
      place = 0;
      replied = is split (mode_of h.mode);
    }

abbrev pub edited : State → Edit → Granted → State
edited p e g =
    record p {
      head = edit_head p.head;
      values = set p.values (spot_of (natural e.side) (natural e.measure)) g.value;
      edits = cond (is whole (mode_of p.head.mode)) p.edits (set p.edits (min p.head.kept last_edit) (edit_record p.head e g));
    }

-- ---- what the call promises beside the protocol's step

-- the rule that a refusal names is the broken one that the protocol's test gives
abbrev pub BrokenNamed : State → Edit → Answer → Type 0
BrokenNamed p e a =
    (k : ℕ) → a ≡ Err (RuleBroken k)
    → k ≡ broken_rule (view p).content.rules (made (natural e.measure) (asks e) (side_at (view p).content (natural e.side)).values)

abbrev pub StaysIfRefused : State → Answer → State → Type 0
StaysIfRefused p a q = IfRefused a (q ≡ p)

-- a decision carried out: a refusal leaves the state
abbrev pub CarriedOut : State → Edit → Result Granted Refusal → Answer → State → Type 0
CarriedOut p e (Ok g) a q = (a ≡ number p.head.next) × (q ≡ edited p e g)
CarriedOut p e (Err r) a q = (a ≡ refusal r) × (q ≡ p)

-- what the call comes to, whatever is known of the rules
pub record Edited (test : RuleTest) (firmly : FirmTest) (p : State) (e : Edit) (a : Answer) (q : State) : Type 0 where
  pub decided : Result Granted Refusal
  pub ruled : Ruled test firmly (spread p) e decided
  pub carried : CarriedOut p e decided a q
