-- An edit's decision, carried out, is the protocol's step. Assumes nothing.
use Prim.Native.Nat.{ℕ, suc, min, ◌+◌, ◌-◌, ◌%◌, ◌<◌, ◌≤◌}
use native.Mathlib.Omega.{arith}
use mathlib.Core.Bool.{Bool, true, false, not, cond, ◌&&◌, ◌||◌}
use mathlib.Core.Path.{◌≡◌, refl, sym, ap, ap₂, ◌∙◌}
use mathlib.Core.Logic.{◌≢◌}
use mathlib.Core.List.{List}
use lib.IntN.{ℤ, pos}
use lib.Dec.{T, T_not, leb, nltb→le, eqb→eq}
use lib.ListN.{length, get_or, set}
use borrow.Author.Tests.{leb-false}
use Rattle.std.specs.Prelude.{Option, is_some, Result, Ok, Err}
use Rattle.protocol.specs.Lists.{is_none, natural, one_to, modify, snoc}
use Rattle.protocol.specs.Asked.{verdict_of}
use Rattle.protocol.specs.Plan as model
use Rattle.protocol.specs.Plan.{is, blank, whole, split, joining, mode_number, holds, firmly_named, value, made, unsent, side_at}
use Rattle.protocol.specs.Broken.{broken_rule}
use Rattle.protocol.specs.Calls.{Call, edit, Check, Verdict, refused, first, apart, checks, further, on_values, after, gives}
use Rattle.protocol.specs.declared.call.Edit.{Edit}
use Rattle.protocol.specs.declared.refusal.Refusal.{Refusal}
use Rattle.protocol.specs.declared.refusal.Refusal.TheVariants.{RuleBroken}
use Rattle.protocol.proofs.Laws.{cases, no-is, is_yes, which, range, Pass}
use Rattle.rows.specs.Rows.{span, row}
use Rattle.rows.proofs.Spans.{length-span, row_most}
use Rattle.rules.specs.declared.Index.{Index}
use Rattle.rules.specs.Rules.{RuleTest, tested_in, firm_in}
use Rattle.rules.specs.Index.{FirmTest, tested_with, firm_with}
use Rattle.rules.proofs.Rules.{tested_all, tested_none, tested_sound, firm-is, made_with, row-set, row_apart}
use Rattle.rules.proofs.Namings.{tested_indexed, firm-indexed}
use Rattle.heads.specs.declared.Head.{Head}
use Rattle.heads.specs.Heads.{mode_of, single, sides_in, offset_of, measures_in, kept_in, end_in}
use Rattle.records.specs.declared.EditRecord.{EditRecord}
use Rattle.records.specs.Records.{kept_at, log_of, kept_of, no_record}
use Rattle.records.proofs.Records.{log_snoc}
use Rattle.state.specs.declared.State.{State}
use Rattle.state.specs.declared.Given.TheVariants.{One}
use Rattle.state.specs.Spread.{Spread, spread, plan_of, side_of, rules_of, named_in, refused_as, MeetsSpread}
use Rattle.state.specs.Meets.{Answer, Makes, number}
use Rattle.state.proofs.Steps.{refused_makes, given_makes}
use Rattle.state.proofs.Meets.{refused_meets, accepted_meets, fine_pass}
use Rattle.state.proofs.View.{plan-same, sides_most, sides-length, side_at_lem, sides-modify, lookup-named}
use Rattle.edit.specs.declared.Granted.{Granted}
use Rattle.edit.specs.Edits.{edit_checks, row_of, asks, result_of, rule_by, frozen_by, checks_by, Ruled, Trusted, spot_of, edit_head, edit_record, edited}
use Rattle.edit.proofs.Rulings.{made_yes}

-- two sides' rows do not meet
rows_apart : (s k i j : ℕ) → 0 < s → s ≤ 8 → 0 < k → k ≤ 8 → k ≢ s → j < 32 → offset_of k ≤ i → i < offset_of k + 32 → i ≢ offset_of s + j
rows_apart s k i j a b c d ne e f g h = ne (omega arith)

single-whole : (h : Head) → is whole (mode_of h.mode) ≡ true → single h ≡ true
single-whole h w = rw (eqb→eq (mode_number (mode_of h.mode)) 1 (is_yes w))

single-apart : (h : Head) → T (apart (mode_of h.mode)) → single h ≡ false
single-apart h t = which (is split (mode_of h.mode)) (is joining (mode_of h.mode)) t
    (λ u. rw (eqb→eq (mode_number (mode_of h.mode)) 2 u))
    (λ u. rw (eqb→eq (mode_number (mode_of h.mode)) 3 u))

-- ---- what the tests of the rules find counts only where the plan is drawn up, the side is one of its own and, for the firm ones, the measure is

-- a mode that an edit belongs to
drawn : (mode : model.Mode) → T (is whole mode || apart mode) → T (not (is blank mode))
drawn model.blank t = absurd t
drawn model.whole t = tt
drawn model.split t = tt
drawn model.joining t = tt
drawn model.closing t = tt

no-side : ◌≡◌ {A = Verdict} (refused 21) (refused 29) → ⊥
no-side e = cc

no-mode : ◌≡◌ {A = Verdict} (refused 31) (refused 29) → ⊥
no-mode e = cc

module _ (mode : model.Mode) (sides : ℕ) (named : model.Kept) (kept next : ℕ) (vs : List ℤ) (s : ℕ) (client n : ℤ) (m : ℕ) (ch : model.Change) where
  abbrev found : Bool → Bool → List Check
  found held firm = edit_checks held mode sides firm named kept next vs s client n m ch

  found_same : (held held' firm firm' : Bool) → (T (not (is blank mode)) → T (one_to sides s) → held ≡ held')
      → (T (not (is blank mode)) → T (one_to (length vs) m) → firm ≡ firm') → first (found held firm) ≡ first (found held' firm')
  found_same held held' firm firm' h f = cases (is whole mode || apart mode)
      (λ t. cases (one_to sides s)
      (λ u. cases (one_to (length vs) m)
      (λ v. ap₂ (λ x y. first (found x y)) (h (drawn mode (is_yes t)) (is_yes u)) (f (drawn mode (is_yes t)) (is_yes v)))
      (λ v. rw (t, u, v)))
      (λ u. rw (t, u)))
      (λ t. rw t)

  -- and a refusal with 29 is of such a plan and side
  found_broken : (held firm : Bool) → first (found held firm) ≡ refused 29 → T (is whole mode || apart mode) × T (one_to sides s)
  found_broken held firm q = cases (is whole mode || apart mode)
      (λ t. cases (one_to sides s) (λ u. (is_yes t, is_yes u)) (λ u. absurd (no-side (rw (t, u) at q))))
      (λ t. absurd (no-mode (rw t at q)))

module _ (p : Spread) (e : Edit) where
  abbrev h : Head
  h = p.head

  abbrev mode : model.Mode
  mode = mode_of h.mode

  abbrev s : ℕ
  s = natural e.side

  abbrev m : ℕ
  m = natural e.measure

  abbrev ch : model.Change
  ch = asks e

  abbrev vs : List ℤ
  vs = row_of p e

  abbrev named : model.Kept
  named = kept_at 0 (named_in p (natural e.after))

  -- a row has 32 values at most
  few : length vs ≤ 32
  few = row_most p.values (offset_of s) h.measures 32

  broken_of : (test : RuleTest) (firmly : FirmTest) → first (checks_by test firmly p e) ≡ refused 29 → T (is whole mode || apart mode) × T (one_to (sides_in h) s)
  broken_of test firmly = found_broken mode (sides_in h) named (kept_in h) h.next vs s e.client e.after m ch _ _

  -- so tests of the rules that then find the same make the same decision
  decision_same : (test test' : RuleTest) (firmly firmly' : FirmTest) {r : Result Granted Refusal}
      → (T (not (is blank mode)) → T (one_to (sides_in h) s) → rule_by test p e ≡ rule_by test' p e)
      → (T (not (is blank mode)) → 0 < m → m ≤ 32 → frozen_by firmly p e ≡ frozen_by firmly' p e)
      → Ruled test firmly p e r → Ruled test' firmly' p e r
  decision_same test test' firmly firmly' a f w = record {
    verdict = w.verdict ∙ found_same mode (sides_in h) named (kept_in h) h.next vs s e.client e.after m ch _ _ _ _ (λ d o. ap is_none (a d o))
        (λ d o. let r = range (length vs) m o in f d r.0 (omega (arith, r.1, few)));
    granted = w.granted;
    rule = λ k q. let o = broken_of test firmly (sym w.verdict ∙ ap verdict_of q) in w.rule k q ∙ a (drawn mode o.0) o.1;
  }

  -- ---- decided by the tests that need no index

  abbrev call : Call
  call = edit e.side e.client e.after e.measure e.kind e.constant

  abbrev Checks : List Check
  Checks = checks_by (tested_in false) firm_in p e

  abbrev Decided : Result Granted Refusal → Type 0
  Decided r = Ruled (tested_in false) firm_in p e r

  kept-length : length (kept_of h p.edits) ≡ kept_in h
  kept-length = length-span 0 (kept_in h) (λ i. kept_at (end_in h - (kept_in h - i)) (get_or p.edits i no_record))

  side-is : T (one_to (sides_in h) s) → side_at (plan_of p).content s ≡ side_of p s
  side-is t = let r = range (sides_in h) s t in side_at_lem p s r.0 r.1

  -- the decision's checks are the protocol's
  checks-same : first (checks call (plan_of p)) ≡ first Checks
  unfolding checks further
  checks-same =
      rw (sides-length p, kept-length, lookup-named p (natural e.after))
      (cases (one_to (sides_in h) s)
      (λ t.
      ap (λ ws. first (edit_checks (holds (rules_of p) (made m ch ws)) mode (sides_in h) (firmly_named (rules_of p) m) (kept_at 0 (named_in p (natural e.after))) (kept_in h) h.next ws
      s e.client e.after m ch)) (ap (λ x. x.values) (side-is (is_yes t)))
      ∙ ap₂ (λ b f. first (edit_checks b mode (sides_in h) f (kept_at 0 (named_in p (natural e.after))) (kept_in h) h.next vs s e.client e.after m ch))
      (tested_none p.lower p.gap p.upper p.firm (min h.rules 64) m ch vs) (firm-is p.lower p.gap p.upper p.firm (min h.rules 64) m))
      (λ t. rw t))

  pub refuses : (r : Refusal) → Decided (Err r) → MeetsSpread call p (refused_as p r)
  refuses r w = refused_meets call p r (checks-same ∙ sym w.verdict)

  -- The rule that it names where it is refused with 29 is the one that the protocol's test gives (02, S-3).
  pub edit-rule : {r : Result Granted Refusal} → Decided r → (k : ℕ) → r ≡ Err (RuleBroken k)
      → k ≡ broken_rule (plan_of p).content.rules (made m ch (side_at (plan_of p).content s).values)
  edit-rule w k q =
      let o = broken_of (tested_in false) firm_in (sym w.verdict ∙ ap verdict_of q) in
      w.rule k q ∙ sym (tested_all p.lower p.gap p.upper p.firm (min h.rules 64) m ch vs) ∙ ap (λ ws. broken_rule (rules_of p) (made m ch ws)) (sym (ap (λ x. x.values) (side-is o.1)))

  -- the state after the stores
  module _ (g : Granted) (w : Decided (Ok g)) (long : length p.values ≡ 256) (wide : is whole mode ≡ false → length p.edits ≡ 256) where
    abbrev next : Spread
    next =
        record p {
          head = edit_head h;
          values = set p.values (spot_of s m) g.value;
          edits = cond (is whole mode) p.edits (set p.edits (min h.kept 255) (edit_record h e g));
        }

    pass : Pass Checks
    pass = fine_pass Checks (sym w.verdict)

    -- the side's values are changed, and no other's
    sides-next : span 1 (sides_in h) (side_of next) ≡ modify s (on_values (made m ch)) (span 1 (sides_in h) (side_of p))
    sides-next =
        let f = pass in
        let r = range (sides_in h) s f.1.0 in
        let most = sides_most h in
        let i = range (length vs) m f.1.1.1.0 in
        let size = length-span (offset_of s) (measures_in h) (λ j. get_or p.values j (pos 0)) in
        let same = ap (λ x. row (set p.values (spot_of s m) x) (offset_of s) (measures_in h)) w.granted.1
        ∙ row-set p.values (offset_of s) (measures_in h) m (result_of p e) i.0 (omega (arith, i.1)) (omega arith) (omega (arith, r.0, r.1)) ∙ sym (made_with m ch vs) in
        sides-modify s (sides_in h) (on_values (made m ch)) (side_of p) (side_of next) r.0 r.1
        (λ j. record { values = same j; arrived = (side_of p s).arrived; confirmed = (side_of p s).confirmed })
        (λ t a b ne. λ j. record {
          values = row_apart p.values (offset_of t) (measures_in h) (spot_of s m) g.value
              (λ y u v. rows_apart s t y (min (m - 1) 31) r.0 (omega (arith, r.1)) a (omega arith) ne (omega arith) u (omega arith)) j;
          arrived = (side_of p t).arrived;
          confirmed = (side_of p t).confirmed;
        })

    abbrev new_kept : ℕ → ℕ → model.Change → model.Kept
    new_kept a b y =
        record {
          edit = record { number = h.next; side = a; client = natural e.client; earlier = natural e.after; measure = b; change = y };
          fate = unsent;
          replied = is split mode;
          place = 0;
        }

    -- split or joining
    apart_now : is whole mode ≡ false → T (apart mode)
    apart_now v = which (is whole mode) (apart mode) pass.0 (λ t. absurd (T_not (is whole mode) (rw v tt) t)) (λ t. t)

    room : T (apart mode) → kept_in h < 256
    room t = by (apart mode) t pass.1.1.1.1.1.1.1.0
      where
        by : (b : Bool) → T b → T (not (b && leb 256 (kept_in h))) → kept_in h < 256
        by true t u = leb-false 256 (kept_in h) (no-is (leb 256 (kept_in h)) u)
        by false t u = absurd t

    numbers : h.next ≤ 999999
    numbers = nltb→le 999999 h.next pass.1.1.1.1.1.1.1.1.0

    -- a byte holds the side, and the measure
    side_byte : s % 256 ≡ s
    side_byte = let r = range (sides_in h) s pass.1.0 in let most = sides_most h in omega (arith, r.1, most)

    measure_byte : m % 256 ≡ m
    measure_byte = let i = range (length vs) m pass.1.1.1.0 in omega (arith, i.1, few)

    abbrev kept-after : List model.Kept
    kept-after = kept_of (edit_head h) next.edits

    -- a whole plan keeps what it kept
    kept_whole : is whole mode ≡ true → kept-after ≡ kept_of h p.edits
    kept_whole v =
        let a : end_in (edit_head h) ≡ end_in h = rw (single-whole h v) in
        let b : kept_in (edit_head h) ≡ kept_in h = rw v in
        let d : next.edits ≡ p.edits = rw v in
        λ i. log_of (a i) (b i) (d i)

    -- a split or joining one keeps one more
    kept-apart : is whole mode ≡ false → kept-after ≡ snoc (kept_of h p.edits) (new_kept s m ch)
    kept-apart v =
        let t = apart_now v in
        let one = single-apart h t in
        let q = room t in
        let o = numbers in
        let a : end_in (edit_head h) ≡ suc h.next = rw one (omega arith) in
        let b : kept_in (edit_head h) ≡ suc (min h.kept 255) = rw v (omega arith) in
        let a' : h.next ≡ end_in h = rw one in
        let b' : min h.kept 255 ≡ kept_in h = omega arith in
        let r : EditRecord = edit_record h e g in
        let d : next.edits ≡ set p.edits (min h.kept 255) r = rw v in
        (λ i. log_of (a i) (b i) (d i))
        ∙ log_snoc h.next (min h.kept 255) p.edits r (let l = wide v in omega (arith, l))
        ∙ (λ i. snoc (log_of (a' i) (b' i) p.edits) (new_kept (side_byte i) (measure_byte i) ((made_yes e g.change w.granted.0).1 i)))

    kept_next : kept-after ≡ (after call mode (plan_of p).content).content.kept
    unfolding after
    kept_next = cases (is whole mode) (λ v. kept_whole v ∙ rw v) (λ v. kept-apart v ∙ rw v)

    pub accepts : MeetsSpread call p (record { state = next; answer = number h.next })
    unfolding gives after
    accepts = accepted_meets call p (record { state = next; answer = number h.next }) (checks-same ∙ sym w.verdict) refl
        (plan-same refl refl (let o = numbers in omega arith) refl refl sides-next kept_next) tt

-- ---- the call

refusal_is : (r x : Refusal) → ◌≡◌ {A = Answer} (Err r) (Err x) → r ≡ x
refusal_is r x q = cc

-- where all rules held on the side's row, it is enough to test those that name the measure: what is decided is the same
pub edit_sound : (p : Spread) (e : Edit) {r : Result Granted Refusal}
    → (T (not (is blank (mode_of p.head.mode))) → T (one_to (sides_in p.head) (natural e.side)) → holds (rules_of p) (row_of p e) ≡ true)
    → (Ruled (tested_in true) firm_in p e r → Ruled (tested_in false) firm_in p e r) × (Ruled (tested_in false) firm_in p e r → Ruled (tested_in true) firm_in p e r)
edit_sound p e held = (
  decision_same p e (tested_in true) (tested_in false) firm_in firm_in same (λ d a b. refl),
  decision_same p e (tested_in false) (tested_in true) firm_in firm_in (λ d o. sym (same d o)) (λ d a b. refl),
)
  where
    same : T (not (is blank (mode_of p.head.mode))) → T (one_to (sides_in p.head) (natural e.side)) → rule_by (tested_in true) p e ≡ rule_by (tested_in false) p e
    same d o = tested_sound p.lower p.gap p.upper p.firm (min p.head.rules 64) (natural e.measure) _ _ (few p e) (held d o)

-- and an index that is theirs has those
module _ (asked : Option Index) (p : State) (e : Edit) where
  abbrev lists : Spread
  lists = spread p

  by_held : (b : Bool) {r : Result Granted Refusal}
      → (b ≡ true → T (not (is blank (mode_of p.head.mode))) → T (one_to (sides_in p.head) (natural e.side)) → holds (rules_of lists) (row_of lists e) ≡ true)
      → Ruled (tested_in b) firm_in lists e r → Ruled (tested_in false) firm_in lists e r
  by_held true held v = (edit_sound lists e (held refl)).0 v
  by_held false held v = v

  pub ruled-plain : {r : Result Granted Refusal} → Trusted asked p e → Ruled (tested_with asked) (firm_with asked) lists e r → Ruled (tested_in false) firm_in lists e r
  ruled-plain t w = by_held (is_some asked) t.held (decision_same lists e (tested_with asked) (tested_in (is_some asked)) (firm_with asked) firm_in
      (λ d o. tested_indexed asked (natural e.measure) lists.lower lists.gap lists.upper lists.firm _ _ _ (few lists e) (t.indexed d))
      (λ d a b. firm-indexed asked lists.lower lists.gap lists.upper lists.firm _ (natural e.measure) a b (t.indexed d)) w)

module _ (asked : Option Index) (p : State) (e : Edit) (t : Trusted asked p e) where
  abbrev By : Result Granted Refusal → Type 0
  By r = Ruled (tested_with asked) (firm_with asked) (spread p) e r

  pub edit_refuses : (r : Refusal) → By (Err r) → Makes (edit e.side e.client e.after e.measure e.kind e.constant) p (Err r) p
  edit_refuses r w = refused_makes refl (refuses (spread p) e r (ruled-plain asked p e t w))

  pub edit_names : (r : Refusal) → By (Err r) → (k : ℕ) → ◌≡◌ {A = Answer} (Err r) (Err (RuleBroken k))
      → k ≡ broken_rule (plan_of (spread p)).content.rules (made (natural e.measure) (asks e) (side_at (plan_of (spread p)).content (natural e.side)).values)
  edit_names r w k q = edit-rule (spread p) e (ruled-plain asked p e t w) k (ap Err (refusal_is r (RuleBroken k) q))

  pub edit_accepts : (g : Granted) → By (Ok g) → length p.values ≡ 256 → (is whole (mode_of p.head.mode) ≡ false → length p.edits ≡ 256)
      → Makes (edit e.side e.client e.after e.measure e.kind e.constant) p (Ok (One p.head.next)) (edited p e g)
  edit_accepts g w long wide = given_makes (accepts (spread p) e g (ruled-plain asked p e t w) long wide)
