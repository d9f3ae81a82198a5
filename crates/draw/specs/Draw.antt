-- Scaffolding: the checks of measure, rule and open by what they read of the state, what each stores, and what the three leave as it was. Assumes nothing.
use Rattle.std.specs.Prelude.{ℕ, ◌+◌, min, ◌≡◌, not, ◌&&◌, List, [], ◌∷◌, eqb, ltb, ℤ, set}
use Rattle.protocol.specs.declared.call.Rule.{Rule as Asked}
use Rattle.protocol.specs.Lists.{natural, is_none, one_to}
use Rattle.protocol.specs.Plan.{blank, is, measure_limit, rule_limit}
use Rattle.protocol.specs.Calls.{Check, ◌unless◌, ◌when◌, no11, no15}
use Rattle.rows.specs.Rows.{row}
use Rattle.rules.specs.Rules.{holds_in}
use Rattle.rules.specs.declared.Rule.{Rule}
use Rattle.rules.specs.Table.{with_rule}
use Rattle.heads.specs.declared.Head.{Head}
use Rattle.heads.specs.declared.Mode.TheVariants.{Whole}
use Rattle.heads.specs.Heads.{mode_of, measures_in}
use Rattle.state.specs.declared.State.{State}

-- ---- checks

abbrev pub measure_checks : Head → ℤ → List Check
measure_checks h v = (31 unless is blank (mode_of h.mode)) ∷ (12 unless ltb (measures_in h) measure_limit) ∷ no11 v ∷ []

abbrev pub rule_checks : Head → Asked → List Check
rule_checks h r =
    (31 unless is blank (mode_of h.mode))
    ∷ (13 unless ltb (min h.rules rule_limit) rule_limit)
    ∷ (14 unless (one_to (measures_in h) (natural r.lower) && one_to (measures_in h) (natural r.upper) && not (eqb (natural r.lower) (natural r.upper))))
    ∷ no15 r.gap r.firm ∷ []

abbrev pub open_checks : Head → List ℕ → List ℤ → List ℕ → List ℤ → List Check
open_checks h lower gap upper values =
    (31 unless is blank (mode_of h.mode))
    ∷ (16 when is_none (measures_in h))
    ∷ (17 unless holds_in lower gap upper (min h.rules rule_limit) (row values 0 (measures_in h)))
    ∷ []

-- ---- what each stores where it is accepted

abbrev pub measured : State → ℤ → State
measured p v = record p { head = record p.head { measures = p.head.measures + 1 }; values = set p.values p.head.measures v }

-- the rule of a call's numbers
abbrev pub rule_asked : Asked → Rule
rule_asked r = record { lower = natural r.lower; gap = r.gap; upper = natural r.upper; firm = eqb (natural r.firm) 1 }

abbrev pub ruled : State → Asked → State
ruled p r = record p { head = record p.head { rules = p.head.rules + 1 }; table = with_rule p.table p.head.rules (rule_asked r) }

abbrev pub opened : State → State
opened p = record p { head = record p.head { mode = Whole; next = 1 } }

-- ---- the rest

-- Drawing changes the values, the rules, their counts, the mode and the next number; the rest stays as it was, also when it is refused.
pub record LeavesRest (p q : State) : Type 0 where
  pub added : q.head.added ≡ p.head.added
  pub kept : q.head.kept ≡ p.head.kept
  pub mark : q.head.mark ≡ p.head.mark
  pub based : q.head.based ≡ p.head.based
  pub drafted : q.head.drafted ≡ p.head.drafted
  pub base : q.base ≡ p.base
  pub draft : q.draft ≡ p.draft
  pub arrived : q.arrived ≡ p.arrived
  pub confirmed : q.confirmed ≡ p.confirmed
  pub edits : q.edits ≡ p.edits
