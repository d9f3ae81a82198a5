-- Scaffolding: a state with its table of rules read as four lists, over which the laws of the calls are stated. Its plan is the state's own, by definition.
-- Assumes nothing.
use Rattle.std.specs.Prelude.{ℕ, min, ◌≡◌, Bool, false, List, ℤ, get_or}
use Rattle.protocol.specs.Plan as model
use Rattle.protocol.specs.Calls.{Call, step}
use Rattle.protocol.specs.Plan.{measure_limit, rule_limit}
use Rattle.rows.specs.Rows.{span, row}
use Rattle.rules.specs.Table.{rules_in, lowers, gaps, uppers, firms}
use Rattle.heads.specs.declared.Head.{Head}
use Rattle.heads.specs.Heads.{mode_of, sides_in, index_of, offset_of, measures_in, end_in, kept_in, position_of, slot_at}
use Rattle.records.specs.declared.EditRecord.{EditRecord}
use Rattle.records.specs.Records.{kept_of, no_record, record_of}
use Rattle.state.specs.declared.State.{State}
use Rattle.protocol.specs.declared.refusal.Refusal.{Refusal}
use Rattle.state.specs.Meets.{Answer, answer_of, refusal, IfRefused}

pub record Spread : Type 0 where
  pub head : Head
  pub base : List ℤ
  pub draft : List ℤ
  pub values : List ℤ
  pub arrived : List Bool
  pub confirmed : List Bool
  pub lower : List ℕ
  pub gap : List ℤ
  pub upper : List ℕ
  pub firm : List Bool
  pub edits : List EditRecord

abbrev pub spread : State → Spread
spread p =
    record {
      head = p.head;
      base = p.base;
      draft = p.draft;
      values = p.values;
      arrived = p.arrived;
      confirmed = p.confirmed;
      lower = lowers p.table;
      gap = gaps p.table;
      upper = uppers p.table;
      firm = firms p.table;
      edits = p.edits;
    }

abbrev pub side_of : Spread → ℕ → model.Side
side_of p s =
    record {
      values = row p.values (offset_of s) (measures_in p.head);
      arrived = get_or p.arrived (index_of s) false;
      confirmed = get_or p.confirmed (index_of s) false;
    }

abbrev pub rules_of : Spread → List model.Rule
rules_of p = rules_in p.lower p.gap p.upper p.firm (min p.head.rules rule_limit)

abbrev pub plan_of : Spread → model.Plan
plan_of p =
    record {
      mode = mode_of p.head.mode;
      content =
          record {
            rules = rules_of p;
            next = p.head.next;
            base = row p.base 0 (min p.head.based measure_limit);
            draft = row p.draft 0 (min p.head.drafted measure_limit);
            sides = span 1 (sides_in p.head) (side_of p);
            kept = kept_of p.head p.edits;
          };
    }

-- the edit that a number names
abbrev pub named_in : Spread → ℕ → EditRecord
named_in p n = let i = position_of (end_in p.head) (kept_in p.head) n in record_of i (get_or p.edits (slot_at i) no_record)

pub record SpreadAnswered : Type 0 where
  pub state : Spread
  pub answer : Answer

abbrev pub refused_as : Spread → Refusal → SpreadAnswered
refused_as p r = record { state = p; answer = refusal r }

abbrev pub SameIfRefused : Answer → Spread → Spread → Type 0
SameIfRefused a p q = IfRefused a (q ≡ p)

pub record MeetsSpread (c : Call) (p : Spread) (r : SpreadAnswered) : Type 0 where
  pub answer : answer_of r.answer ≡ (step c (plan_of p)).answer
  pub plan : plan_of r.state ≡ (step c (plan_of p)).plan
  pub same : SameIfRefused r.answer p r.state
