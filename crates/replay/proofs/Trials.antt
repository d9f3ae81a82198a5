-- What an edit comes to on the draft, from what the code finds. Assumes nothing.
use Prim.Native.Nat.{ℕ, suc, zero, ◌+◌, ◌-◌, ◌≤◌, min}
use native.Mathlib.Omega.{arith}
use mathlib.Core.Bool.{false, cond}
use mathlib.Core.Path.{◌≡◌, refl, sym, ap, ◌∙◌, subst}
use mathlib.Core.List.{List}
use borrow.Author.Tests.{ltb-true, ltb-false}
use lib.Dec.{T, ltb, eqb-suc-zero}
use lib.IntN.{ℤ, pos}
use lib.ListN.{get_or}
use Rattle.std.specs.Prelude.{None, Some}
use Rattle.protocol.specs.Lists.{is_none, one_to}
use Rattle.protocol.specs.Plan.{in_range, fits, applied, value, is_revoked}
use Rattle.protocol.specs.Plan as model
use Rattle.protocol.proofs.Laws.{cases, is_yes, range, in_range_lem}
use Rattle.change.specs.Change.{view_change, ranged_of}
use Rattle.change.proofs.Changes.{ranged_in, ranged_out}
use Rattle.rows.specs.Rows.{row}
use Rattle.rules.specs.Rules.{RuleTest, numbered}
use Rattle.rules.proofs.Rules.{value_none, value_row, value-outside}
use Rattle.records.specs.declared.EditRecord.{EditRecord}
use Rattle.state.specs.Spread.{Spread}
use Rattle.replay.specs.declared.Outcome.TheVariants.{Accepted, Revoked}
use Rattle.replay.specs.Replays.{draft_in, effective_in, broken_in, tried_of, point_of}

-- a measure's value in the draft is the one at its place, and 0 where there is none
none-there : (draft : List ℤ) (n m : ℕ) → one_to n m ≡ false → pos 0 ≡ value (row draft 0 n) m
none-there draft n zero e = value_none (row draft 0 n) 0 refl
none-there draft n (suc m) e = cases (ltb m n)
    (λ t. let u = ltb-true m n t in absurd (subst T e (in_range_lem n (suc m) (omega arith) (omega arith))))
    (λ t. let u = ltb-false m n t in value-outside draft 0 n (suc m) (omega arith) (omega arith))

pub value_there : (draft : List ℤ) (n m : ℕ) → n ≤ 32 → cond (one_to n m) (get_or draft (point_of m) (pos 0)) (pos 0) ≡ value (row draft 0 n) m
value_there draft n m l = cases (one_to n m)
    (λ t.
    let r = range n m (is_yes t) in
    let at : point_of m ≡ 0 + (m - 1) = omega (arith, r.0, r.1) in
    rw t (ap (λ i. get_or draft i (pos 0)) at ∙ sym (value_row draft 0 n m r.0 (omega (arith, r.0, r.1)))))
    (λ t. rw t (none-there draft n m t))

number_none : (k : ℕ) → None ≡ numbered k → k ≡ 0
number_none zero e = refl
number_none (suc k) e = cc

number_some : (k r : ℕ) → Some r ≡ numbered k → is_none k ≡ false
number_some zero r e = cc
number_some (suc k) r e = eqb-suc-zero k

module _ (test : RuleTest) (p : Spread) (e : EditRecord) where
  abbrev vs : List ℤ
  vs = draft_in p.head p.draft

  abbrev ch : model.Change
  ch = view_change e.change

  -- what the change makes
  abbrev result : ℤ
  result = applied ch (value vs e.measure)

  abbrev number : ℤ → ℕ
  number x = test e.measure p.lower p.gap p.upper (min p.head.rules 64) x vs

  pub tried-out : None ≡ ranged_of result → Revoked None ≡ tried_of test p e
  unfolding tried_of effective_in broken_in fits
  tried-out n = rw (ranged_out result n)

  pub tried-broken : (x : ℤ) (r : ℕ) → Some x ≡ ranged_of result → Some r ≡ numbered (number x) → Revoked (Some r) ≡ tried_of test p e
  unfolding tried_of effective_in broken_in fits
  tried-broken x r s b =
      let i = ranged_in result x s in
      let c : Some r ≡ numbered (number result) = b ∙ ap (λ y. numbered (number y)) i.1 in
      rw (i.0, number_some (number result) r c) (ap Revoked c)

  pub tried-passes : (x : ℤ) {v : ℤ} → Some x ≡ ranged_of result → None ≡ numbered (number x) → v ≡ cond (one_to (min p.head.drafted 32) e.measure) x (get_or p.draft (point_of e.measure) (pos 0))
      → Accepted v ≡ tried_of test p e
  unfolding tried_of effective_in broken_in fits
  tried-passes x s b v-is =
      let i = ranged_in result x s in
      let c : number result ≡ 0 = number_none (number result) (b ∙ ap (λ y. numbered (number y)) i.1) in
      rw (i.0, c) (ap Accepted (v-is ∙ ap (λ y. cond (one_to (min p.head.drafted 32) e.measure) y (get_or p.draft (point_of e.measure) (pos 0))) i.1))
