-- Laws of what an edit decides: its checks in parts, and each of its ends. Assumes nothing.
use Prim.Native.Nat.{ℕ, zero, suc, min, ◌+◌, ◌-◌, ◌<◌, ◌≤◌}
use native.Mathlib.Omega.{arith}
use mathlib.Core.Bool.{Bool, true, false, cond, ◌||◌}
use mathlib.Core.List.{List, [], ◌∷◌, ◌++◌}
use mathlib.Core.Logic.{inl, inr}
use mathlib.Core.Path.{◌≡◌, refl, sym, ap, ap₂, ◌∙◌}
use lib.Dec.{eqb, eqb-suc-zero}
use lib.IntN.{ℤ, pos}
use lib.ListN.{get_or}
use borrow.Author.Tests.{eq-eqb}
use Rattle.std.specs.Prelude.{Some, None, Result, Ok, Err}
use Rattle.protocol.specs.Lists.{is_none, any, natural, one_to}
use Rattle.protocol.specs.Asked.{number_of, verdict_of}
use Rattle.protocol.specs.Plan.{is, whole, allowed, in_range, applied, fits, value}
use Rattle.protocol.specs.Calls.{Check, ◌unless◌, Verdict, fine, refused, first, apart, no22, no24, no25, no28}
use Rattle.protocol.specs.declared.call.Edit.{Edit}
use Rattle.protocol.specs.declared.refusal.Refusal.{Refusal}
use Rattle.protocol.specs.declared.refusal.Refusal.TheVariants.{NoSuchChange, NoSuchEarlier, ResultOutOfRange, RuleBroken}
use Rattle.protocol.proofs.Laws.{cases, is_yes, is-no, no-is, neither, range}
use Rattle.change.specs.declared.Change.{Change}
use Rattle.change.specs.Change.{view_change, made_of, ranged_of}
use Rattle.change.proofs.Changes.{made-fits, ranged_in, ranged_out}
use Rattle.rows.specs.Rows.{row}
use Rattle.rules.specs.Rules.{RuleTest, numbered}
use Rattle.rules.specs.Index.{FirmTest}
use Rattle.rules.proofs.Rules.{value_row}
use Rattle.heads.specs.Heads.{mode_of, sides_in, offset_of, measures_in, end_in, kept_in, named_at, seat}
use Rattle.records.specs.Records.{kept_at, looked, found_at}
use Rattle.records.proofs.Records.{Placed, placed, looked_record}
use Rattle.state.specs.Spread.{Spread, named_in}
use Rattle.state.proofs.Meets.{fine_pass}
use Rattle.state.proofs.View.{row-length}
use Rattle.edit.specs.declared.Granted.{Granted}
use Rattle.edit.specs.Edits.{place_checks, room_checks, row_of, asks, result_of, rule_by, frozen_by, checks_by, Ruled, spot_of}

-- ---- parts

-- a change is made exactly where it is allowed, and is that of the numbers
pub made-no : (e : Edit) → None ≡ made_of (natural e.kind) e.constant → allowed (asks e) ≡ false
made-no e m = rw (← m) at (made-fits (natural e.kind) e.constant)

pub made_yes : (e : Edit) (c : Change) → Some c ≡ made_of (natural e.kind) e.constant → (allowed (asks e) ≡ true) × (view_change c ≡ asks e)
made_yes e c m = rw (← m) at (made-fits (natural e.kind) e.constant)

-- the value that stands at an edit's place is the measure's
pub stands_at : (vs : List ℤ) (s n m : ℕ) → 0 < m → m ≤ n → n ≤ 32 → get_or vs (spot_of s m) (pos 0) ≡ value (row vs (offset_of s) n) m
stands_at vs s n m a b c =
    let e : min (m - 1) 31 ≡ m - 1 = omega arith in
    ap (λ i. get_or vs (offset_of s + i) (pos 0)) e ∙ sym (value_row vs (offset_of s) n m a (omega arith))

-- the edit that a call's number names, as it is looked up
pub looked_up : (p : Spread) (n : ℤ) → looked (found_at p.edits (seat (named_at p.head n))) ≡ named_in p (natural n)
looked_up p n = looked_record (named_at p.head n) p.edits (by (placed (end_in p.head) (kept_in p.head) (natural n) p.edits))
  where
    by : Placed (end_in p.head) (kept_in p.head) (natural n) p.edits → named_at p.head n ≤ 256
    by (inl q) = let e = q.0 in omega (arith, e)
    by (inr q) = let e = q.2 in let l = q.1 in omega arith

-- the new value is in range
fits-in : (p : Spread) (e : Edit) → fits (natural e.measure) (asks e) (row_of p e) ≡ in_range (result_of p e)
unfolding fits
fits-in p e = refl

-- ---- the first check that fails, in parts

abbrev pub then : Verdict → Verdict → Verdict
then fine v = v
then (refused k) v = refused k

first-then : (cs ds : List Check) → first (cs ++ ds) ≡ then (first cs) (first ds)
first-then [] ds = refl
first-then (c ∷ cs) ds = cases c.passes (λ t. rw t (first-then cs ds)) (λ t. rw t)

-- checks of other numbers refuse with other numbers
never : (n : ℕ) (cs : List Check) → any (λ c. eqb c.number n) cs ≡ false → first cs ≡ refused n → ⊥
never n [] a e = absurd (cc)
never n (c ∷ cs) a e =
    let f = neither (eqb c.number n) (any (λ c. eqb c.number n) cs) (is-no a) in
    cases c.passes
    (λ t. never n cs (no-is _ f.1) (rw t at e))
    (λ t. let q : refused c.number ≡ refused n = rw t at e in
    let m : c.number ≡ n = cc in
    is_yes (sym (no-is _ f.0) ∙ eq-eqb c.number n m))

named : (k j : ℕ) → ◌≡◌ {A = Result Granted Refusal} (Err (RuleBroken k)) (Err (RuleBroken j)) → k ≡ j
named k j q = cc

-- a rule's number, if there is one
pub some-rule : (n k : ℕ) → Some k ≡ numbered n → (k ≡ n) × (is_none n ≡ false)
some-rule zero k e = cc
some-rule (suc n) k e = (cc, eqb-suc-zero n)

pub no-rule : (n : ℕ) → None ≡ numbered n → is_none n ≡ true
no-rule zero e = refl
no-rule (suc n) e = cc

-- ---- the ends of a decision, with any tests of the rules

module _ (test : RuleTest) (firmly : FirmTest) (p : Spread) (e : Edit) where
  abbrev place : List Check
  place = place_checks p.head (natural e.side) e.client (natural e.measure)

  abbrev earlier : Check
  earlier = no25 (kept_at 0 (named_in p (natural e.after))) e.client e.after

  abbrev room : List Check
  room = room_checks p.head (frozen_by firmly p e)

  abbrev last : List Check
  last = no28 (row_of p e) (natural e.measure) (asks e) ∷ (29 unless is_none (rule_by test p e)) ∷ []

  abbrev joined : Verdict → Bool → Bool → Verdict → Verdict → Verdict
  joined a b c d l = then a (cond b (cond c (then d l) (refused 25)) (refused 24))

  parted : first (checks_by test firmly p e) ≡ joined (first place) (allowed (asks e)) earlier.passes (first room) (first last)
  parted =
      let rest = no24 (asks e) ∷ earlier ∷ (room ++ last) in
      ap (λ n. first ((31 unless (is whole (mode_of p.head.mode) || apart (mode_of p.head.mode))) ∷ (21 unless one_to (sides_in p.head) (natural e.side)) ∷ no22 e.client
      ∷ (23 unless one_to n (natural e.measure)) ∷ rest)) (row-length p.values (offset_of (natural e.side)) (measures_in p.head))
      ∙ first-then place rest
      ∙ ap (λ v. joined (first place) (allowed (asks e)) earlier.passes fine v) (first-then room last)

  found : {a : Verdict} {b c : Bool} {d l : Verdict} → a ≡ first place → allowed (asks e) ≡ b → earlier.passes ≡ c → d ≡ first room → l ≡ first last
      → joined a b c d l ≡ first (checks_by test firmly p e)
  found f g h j k = (λ i. joined (f i) (sym g i) (sym h i) (j i) (k i)) ∙ sym parted

  refuses : (r : Refusal) → refused (number_of r) ≡ first (checks_by test firmly p e) → (number_of r ≡ 29 → ⊥) → Ruled test firmly p e (Err r)
  refuses r v n = record { verdict = v; granted = tt; rule = λ k q. absurd (n (let w : refused (number_of r) ≡ refused 29 = ap verdict_of q in cc)) }

  other : (r : Refusal) (cs : List Check) → any (λ c. eqb c.number 29) cs ≡ false → refused (number_of r) ≡ first cs → number_of r ≡ 29 → ⊥
  other r cs a f q = never 29 cs a (sym f ∙ ap refused q)

  pub place_refused : {r : Refusal} → refused (number_of r) ≡ first place → Ruled test firmly p e (Err r)
  place_refused {r = r} f = refuses r (found f refl refl refl refl) (other r place refl f)

  pub change_refused : fine ≡ first place → None ≡ made_of (natural e.kind) e.constant → Ruled test firmly p e (Err NoSuchChange)
  change_refused f m = refuses NoSuchChange (found f (made-no e m) refl refl refl) (λ q. cc)

  module _ (f : fine ≡ first place) {c : Change} (m : Some c ≡ made_of (natural e.kind) e.constant) where
    abbrev yes : allowed (asks e) ≡ true
    yes = (made_yes e c m).0

    -- the edit that is looked up is the one that it names
    abbrev Follows : Bool → Type 0
    Follows b = (no25 (kept_at 0 (looked (found_at p.edits (seat (named_at p.head e.after))))) e.client e.after).passes ≡ b

    follows : {b : Bool} → Follows b → earlier.passes ≡ b
    follows g = sym (ap (λ r. (no25 (kept_at 0 r) e.client e.after).passes) (looked_up p e.after)) ∙ g

    pub earlier_refused : Follows false → Ruled test firmly p e (Err NoSuchEarlier)
    earlier_refused g = refuses NoSuchEarlier (found f yes (follows g) refl refl) (λ q. cc)

    -- what the code's change makes of what stands at the edit's place
    abbrev made_of_old : ℤ
    made_of_old = applied (view_change c) (get_or p.values (spot_of (natural e.side) (natural e.measure)) (pos 0))

    result_is : made_of_old ≡ result_of p e
    result_is =
        let r = range (measures_in p.head) (natural e.measure) (fine_pass place (sym f)).1.1.1.0 in
        ap₂ applied (made_yes e c m).1 (stands_at p.values (natural e.side) (measures_in p.head) (natural e.measure) r.0 r.1 (omega arith))

    module _ (g : Follows true) where
      pub room_refused : {r : Refusal} → refused (number_of r) ≡ first room → Ruled test firmly p e (Err r)
      room_refused {r = r} h = refuses r (found f yes (follows g) h refl) (other r room refl h)

      module _ (h : fine ≡ first room) where
        pub result_refused : None ≡ ranged_of made_of_old → Ruled test firmly p e (Err ResultOutOfRange)
        result_refused o = refuses ResultOutOfRange (found f yes (follows g) h out) (λ q. cc)
          where
            out : refused 28 ≡ first last
            out = rw (fits-in p e, ranged_out (result_of p e) (o ∙ ap ranged_of result_is))

        module _ {x : ℤ} (i : Some x ≡ ranged_of made_of_old) where
          fitting : (in_range (result_of p e) ≡ true) × (x ≡ result_of p e)
          fitting = ranged_in (result_of p e) x (i ∙ ap ranged_of result_is)

          -- what the test finds where the measure counts as the new value
          abbrev tested : ℕ
          tested = test (natural e.measure) p.lower p.gap p.upper (min p.head.rules 64) x (row_of p e)

          tested_is : tested ≡ rule_by test p e
          tested_is = ap (λ y. test (natural e.measure) p.lower p.gap p.upper (min p.head.rules 64) y (row_of p e)) fitting.1

          pub rule_refused : {k : ℕ} → Some k ≡ numbered tested → Ruled test firmly p e (Err (RuleBroken k))
          rule_refused {k = k} n = record { verdict = found f yes (follows g) h broken; granted = tt; rule = λ j q. sym (named k j q) ∙ some.0 }
            where
              some : (k ≡ rule_by test p e) × (is_none (rule_by test p e) ≡ false)
              some = some-rule _ k (n ∙ ap numbered tested_is)

              broken : refused 29 ≡ first last
              broken = rw (fits-in p e, fitting.0, some.1)

          pub grants : {y : ℤ} → y ≡ x → None ≡ numbered tested → Ruled test firmly p e (Ok (record { change = c; value = y }))
          grants w n = record { verdict = found f yes (follows g) h none; granted = (m, w ∙ fitting.1); rule = λ j q. cc }
            where
              none : fine ≡ first last
              none = rw (fits-in p e, fitting.0, no-rule _ (n ∙ ap numbered tested_is))
