-- Scaffolding: the numbers from which a saved plan is written, and what saving promises of them. Assumes nothing.
use Rattle.std.specs.Prelude.{◌≡◌, ℕ, ◌+◌, cond, List, length, nat_lt}
use Rattle.protocol.specs.Plan as model
use Rattle.protocol.specs.Plan.{Plan}
use Rattle.file.specs.Saved.{slot_zero, save, save_into}
use Rattle.rules.specs.declared.Rule.{Rule}
use Rattle.rules.specs.Table.{rules_in, lowers, gaps, uppers, firms}
use Rattle.state.specs.Meets.{Answer, answer_of}

-- the slot k of a chain whose slots lie below an end; 0 where there is none
abbrev pub link_to : ℕ → ℕ → ℕ
link_to k end = cond (nat_lt k end) k 0

-- slot 0 of a plan with n measures and m rules
abbrev pub head_of : (n m next check : ℕ) → List ℕ
head_of n m next check = slot_zero (link_to 1 (1 + n)) (link_to (1 + n) (1 + n + m)) next check (1 + n + m)

-- a rule of the table as the protocol has it, and the table's first m rules
abbrev pub rule_of : Rule → model.Rule
rule_of r = record { lower = r.lower; gap = r.gap; upper = r.upper; firm = r.firm }

abbrev pub rules_of : List Rule → ℕ → List model.Rule
rules_of table m = rules_in (lowers table) (gaps table) (uppers table) (firms table) m

-- what `save` promises: the answer, and the whole area after it
abbrev pub MeetsSave : Plan → List ℕ → Answer → List ℕ → Type 0
MeetsSave p area r after = (answer_of r ≡ (save (length area) p).answer) × (after ≡ save_into p area)
