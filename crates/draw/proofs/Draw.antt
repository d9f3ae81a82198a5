-- What measure, rule and open store where their checks pass is the protocol's step. Assumes nothing.
use Prim.Native.Nat.{ℕ, zero, suc, ◌+◌, ◌<◌, min}
use native.Mathlib.Omega.{arith}
use mathlib.Core.Bool.{Bool, true, false, not}
use mathlib.Core.Path.{◌≡◌, refl, sym, ap, ap₂, ◌∙◌}
use mathlib.Core.List.{List, [], ◌∷◌}
use borrow.Author.Tests.{ne_eqb}
use lib.IntN.{ℤ, pos}
use lib.Dec.{eqb→eq}
use lib.ListN.{length, get_or, set}
use Rattle.std.proofs.Common.{Err}
use Rattle.protocol.specs.Asked.{number_of}
use Rattle.protocol.specs.Lists.{is_none, snoc}
use Rattle.protocol.specs.Plan.{Rule, blank, is, mode_number}
use Rattle.protocol.specs.Calls.{Call, measure, rule, open_plan, Check, fine, refused, first, checks, further, first_values, on_values, rule_of, after, gives, ok}
use Rattle.protocol.specs.declared.call.Rule.{Rule as Asked}
use Rattle.protocol.specs.declared.refusal.Refusal.{Refusal}
use Rattle.protocol.proofs.Laws.{is_yes, yes_is}
use Rattle.rows.specs.Rows.{row}
use Rattle.rules.specs.Rules.{numbered, with_value}
use Rattle.std.specs.Option.{is_some}
use Rattle.rules.specs.declared.Rule as stored
use Rattle.rules.specs.Table.{rules_in, lowers, gaps, uppers, firms}
use Rattle.rules.proofs.Table.{none, at_lower, at_gap, at_upper, at_firm}
use Rattle.rows.proofs.Spans.{length-span, span_same, span-snoc, get_d_set, get_or-other}
use Rattle.rules.proofs.Rules.{holds-is}
use Rattle.heads.specs.declared.Head.{Head}
use Rattle.heads.specs.Heads.{mode_of, sides_in, measures_in}
use Rattle.state.specs.declared.State.{State}
use Rattle.state.specs.View.{view}
use Rattle.state.specs.Spread.{Spread, spread, side_of, rules_of}
use Rattle.state.specs.Meets.{Makes, number, done}
use Rattle.state.proofs.View.{plan-same, sides-modify, sides-least, first-row, row_snoc, row-length}
use Rattle.state.proofs.Steps.{refuses, accepts, refused_makes, given_makes}
use Rattle.draw.specs.Draw.{measure_checks, rule_checks, open_checks, measured, rule_asked, ruled, opened, LeavesRest}

-- ---- what is promised of a state, from what its lists show

checked_refused : {c : Call} {p : State} {r : Refusal} (cs : List Check) → first (checks c (view p)) ≡ first cs → refused (number_of r) ≡ first cs → Makes c p (Err r) p
checked_refused {c} {p} {r} cs w e = refused_makes refl (refuses {c = c} {p = spread p} cs r w (sym e))

-- ---- measure

drawn_length : (p : State) → length (first_values (view p).content) ≡ measures_in p.head
drawn_length p = ap length (first-row (spread p)) ∙ row-length p.values 0 (measures_in p.head)

-- a blank plan has one side
alone : (h : Head) → is blank (mode_of h.mode) ≡ true → sides_in h ≡ 1
alone h e = rw (eqb→eq (mode_number (mode_of h.mode)) 0 (is_yes e))

measure_checks_lem : (p : State) (v : ℤ) → first (checks (measure v) (view p)) ≡ first (measure_checks p.head v)
unfolding checks further
measure_checks_lem p v = rw (drawn_length p)

pub measure_refused : (p : State) (v : ℤ) {r : Refusal} → refused (number_of r) ≡ first (measure_checks p.head v) → Makes (measure v) p (Err r) p
measure_refused p v e = checked_refused (measure_checks p.head v) (measure_checks_lem p v) e

longer : (p : State) (v : ℤ) → length p.values ≡ 256 → p.head.measures < 32
    → row (set p.values p.head.measures v) 0 (min (p.head.measures + 1) 32) ≡ snoc (row p.values 0 (measures_in p.head)) v
longer p v l h =
    let n = p.head.measures in
    let m : min (n + 1) 32 ≡ suc n = omega arith in
    let o : n ≡ measures_in p.head = omega arith in
    let f : 0 + n ≡ n = omega arith in
    ap (row (set p.values n v) 0) m ∙ ap (λ k. row (set p.values k v) 0 (suc n)) (sym f) ∙ row_snoc p.values 0 n v (omega arith)
    ∙ ap (λ k. snoc (row p.values 0 k) v) o

measure-next : (p : State) (v : ℤ) → length p.values ≡ 256 → p.head.measures < 32 → is blank (mode_of p.head.mode) ≡ true
    → view (measured p v) ≡ after (measure v) (view p).mode (view p).content
unfolding after
measure-next p v l h b =
    plan-same refl refl refl refl refl
    (sides-modify 1 (sides_in p.head) (on_values (λ vs. snoc vs v)) (side_of (spread p)) (side_of (spread (measured p v))) (omega arith) (sides-least p.head)
    (λ i. record { values = longer p v l h i; arrived = get_or p.arrived 0 false; confirmed = get_or p.confirmed 0 false })
    (λ k a c ne. absurd (ne (let one = alone p.head b in omega arith))))
    refl

measure-given : (p : State) (v : ℤ) → p.head.measures < 32 → ◌≡◌ {A = List ℤ} (pos (p.head.measures + 1) ∷ []) (gives (measure v) (view p).mode (view p).content)
unfolding gives
measure-given p v h =
    let e = drawn_length p in
    let n : p.head.measures + 1 ≡ suc (length (first_values (view p).content)) = omega arith in
    ap {B = List ℤ} (λ k. pos k ∷ []) n

pub measure_drawn : (p : State) (v : ℤ) → length p.values ≡ 256 → p.head.measures < 32 → fine ≡ first (measure_checks p.head v) → Makes (measure v) p (number (p.head.measures + 1)) (measured p v)
measure_drawn p v l h e =
    given_makes
    (accepts (measure_checks p.head v) (record { state = spread (measured p v); answer = number (p.head.measures + 1) }) (measure_checks_lem p v) (sym e)
    (λ t. ap ok (measure-given p v h)) (λ t. measure-next p v l h (yes_is _ t.0)) tt)

-- ---- rule

pub rules-length : (p : Spread) → length (rules_of p) ≡ min p.head.rules 64
rules-length p = length-span 0 (min p.head.rules 64) _

-- the call of its numbers
abbrev pub called : Asked → Call
called r = rule r.lower r.gap r.upper r.firm

rule_checks_lem : (p : State) (r : Asked) → first (checks (called r) (view p)) ≡ first (rule_checks p.head r)
unfolding checks further
rule_checks_lem p r = rw (drawn_length p, rules-length (spread p))

pub rule_refused : (p : State) (r : Asked) {k : Refusal} → refused (number_of k) ≡ first (rule_checks p.head r) → Makes (called r) p (Err k) p
rule_refused p r e = checked_refused (rule_checks p.head r) (rule_checks_lem p r) e

-- a rule as the protocol has it, and rule k of a table
abbrev drawn_as : stored.Rule → Rule
drawn_as r = record { lower = r.lower; gap = r.gap; upper = r.upper; firm = r.firm }

abbrev rule_at : List stored.Rule → ℕ → Rule
rule_at table k = record { lower = get_or (lowers table) k 0; gap = get_or (gaps table) k (pos 0); upper = get_or (uppers table) k 0; firm = get_or (firms table) k false }

stands_at : (table : List stored.Rule) (k : ℕ) → rule_at table k ≡ drawn_as (get_or table k none)
stands_at table k = λ i. record { lower = at_lower table k i; gap = at_gap table k i; upper = at_upper table k i; firm = at_firm table k i }

-- one written behind the first n
written : (table : List stored.Rule) (n : ℕ) (r : stored.Rule) → n < length table → let t = set table n r in
    rules_in (lowers t) (gaps t) (uppers t) (firms t) (suc n) ≡ snoc (rules_in (lowers table) (gaps table) (uppers table) (firms table) n) (drawn_as r)
written table n r h =
    let e : 0 + n ≡ n = omega arith in
    span-snoc 0 n (rule_at t) ∙ ap₂ (λ xs x. snoc xs x) (span_same 0 n _ _ (λ k a b. before k (omega arith))) (ap (rule_at t) e ∙ last)
  where
    t : List stored.Rule
    t = set table n r

    before : (k : ℕ) → k < n → rule_at t k ≡ rule_at table k
    before k b = stands_at t k ∙ ap drawn_as (get_or-other table n k r none (λ e. omega arith)) ∙ sym (stands_at table k)

    last : rule_at t n ≡ drawn_as r
    last = stands_at t n ∙ ap drawn_as (get_d_set table n r none h)

rule-next : (p : State) (r : Asked) → p.head.rules < 64 → p.head.rules < length p.table → view (ruled p r) ≡ after (called r) (view p).mode (view p).content
unfolding after
rule-next p r h l =
    let n = p.head.rules in
    let t = (ruled p r).table in
    let m : min (n + 1) 64 ≡ suc n = omega arith in
    let o : n ≡ min n 64 = omega arith in
    plan-same refl
    (ap (rules_in (lowers t) (gaps t) (uppers t) (firms t)) m ∙ written p.table n (rule_asked r) l
    ∙ ap (λ k. snoc (rules_in (lowers p.table) (gaps p.table) (uppers p.table) (firms p.table) k) (rule_of r.lower r.gap r.upper r.firm)) o)
    refl refl refl refl refl

rule-given : (p : State) (r : Asked) → p.head.rules < 64 → ◌≡◌ {A = List ℤ} (pos (p.head.rules + 1) ∷ []) (gives (called r) (view p).mode (view p).content)
unfolding gives
rule-given p r h =
    let e = rules-length (spread p) in
    let n : p.head.rules + 1 ≡ suc (length (view p).content.rules) = omega arith in
    ap {B = List ℤ} (λ k. pos k ∷ []) n

pub rule_drawn : (p : State) (r : Asked) → p.head.rules < 64 → p.head.rules < length p.table → fine ≡ first (rule_checks p.head r)
    → Makes (called r) p (number (p.head.rules + 1)) (ruled p r)
rule_drawn p r h l e =
    given_makes
    (accepts (rule_checks p.head r) (record { state = spread (ruled p r); answer = number (p.head.rules + 1) }) (rule_checks_lem p r) (sym e)
    (λ _. ap ok (rule-given p r h)) (λ _. rule-next p r h l) tt)

-- ---- open

-- no measure is numbered 0
pub no_value : (x : ℤ) (vs : List ℤ) → with_value 0 x vs ≡ vs
unfolding with_value
no_value x vs = refl

-- no rule is broken
pub unbroken : (i : ℕ) (b : Bool) → is_some (numbered i) ≡ not b → b ≡ is_none i
unbroken zero true e = refl
unbroken zero false e = cc
unbroken (suc i) true e = cc
unbroken (suc i) false e = sym (ne_eqb (suc i) 0 (λ z. omega arith))

open_checks_lem : (p : State) → first (checks open_plan (view p)) ≡ first (open_checks p.head (lowers p.table) (gaps p.table) (uppers p.table) p.values)
unfolding checks further
open_checks_lem p =
    rw (drawn_length p, first-row (spread p), holds-is (lowers p.table) (gaps p.table) (uppers p.table) (firms p.table) (min p.head.rules 64) (row p.values 0 (measures_in p.head)))

pub open_refused : (p : State) {r : Refusal} → refused (number_of r) ≡ first (open_checks p.head (lowers p.table) (gaps p.table) (uppers p.table) p.values) → Makes open_plan p (Err r) p
open_refused p e = checked_refused (open_checks p.head (lowers p.table) (gaps p.table) (uppers p.table) p.values) (open_checks_lem p) e

open_next : (p : State) → is blank (mode_of p.head.mode) ≡ true → view (opened p) ≡ after open_plan (view p).mode (view p).content
unfolding after
open_next p b =
    let e = eqb→eq (mode_number (mode_of p.head.mode)) 0 (is_yes b) in
    plan-same refl refl refl refl refl (rw e) (rw e)

pub open_drawn : (p : State) → fine ≡ first (open_checks p.head (lowers p.table) (gaps p.table) (uppers p.table) p.values) → Makes open_plan p done (opened p)
unfolding gives
open_drawn p e =
    given_makes
    (accepts (open_checks p.head (lowers p.table) (gaps p.table) (uppers p.table) p.values) (record { state = spread (opened p); answer = done }) (open_checks_lem p) (sym e)
    (λ _. refl) (λ t. open_next p (yes_is _ t.0)) tt)

-- ---- the rest

-- with the head, the values and the table put back, all is as it was
pub put_back : {p q : State} → LeavesRest p q → record q { head = p.head; values = p.values; table = p.table } ≡ p
put_back {p} {q} a =
    λ i. record {
      head = p.head;
      base = a.base i;
      draft = a.draft i;
      values = p.values;
      arrived = a.arrived i;
      confirmed = a.confirmed i;
      table = p.table;
      edits = a.edits i;
    }
