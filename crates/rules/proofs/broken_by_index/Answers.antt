use Prim.Native.Nat.{ℕ, suc, ◌+◌, ◌-◌, ◌<◌, min}
use native.Mathlib.Omega.{arith}
use native.Mathlib.Numerals.{add-one}
use mathlib.Core.List.{List, ◌∷◌, reverse}
use mathlib.Core.Path.{◌≡◌, refl, sym, ap, ◌∙◌}
use lib.IntN.{ℤ}
use lib.ListN.{length, take}
use lib.Signed.{mag}
use mathlib.Core.Bool.{Bool}
use mir.Syntax.{w32}
use mir.Val.{to_z, of_z, SFits}
use mir.Facts.{to_z-of_z}
use Rattle.std.proofs.Common.{Some}
use Rattle.exact.proofs.Ints.{fits32}
use Rattle.protocol.specs.Lists.{first_not}
use Rattle.protocol.specs.Plan.{value}
use Rattle.protocol.proofs.Broken.{walk-next, walk-stop}
use Rattle.rows.specs.Rows.{span}
use Rattle.rows.proofs.Spans.{take-least, back_next, back_over}
use Rattle.rules.specs.declared.Naming.{Naming}
use Rattle.rules.specs.declared.Index.{Index}
use Rattle.rules.specs.Rules.{numbered, with_value}
use Rattle.rules.specs.Index.{naming_holds, number_of, naming_at, indexed_in}
use Rattle.rules.proofs.Namings.{reading_begin}
use Rattle.rules.proofs.broken_by_index.Goals as goal

-- what is left of the walk back
back : (first k : ℕ) (f : ℕ → Naming) → first < k → reverse (span first (k - first) f) ≡ f (k - 1) ∷ reverse (span first (k - 1 - first) f)
back first k f h =
    let a : first + (k - first - 1) ≡ k - 1 = omega arith in
    let b : k - first - 1 ≡ k - 1 - first = omega arith in
    back_next first (k - first) f (omega arith) ∙ (λ j. f (a j) ∷ reverse (span first (b j) f))

-- The row is that of the first 32 values, and it is tested as it was given.
exactly : (index : Index) (m : ℕ) (x : ℤ) (lent : List ℤ) (n : ℕ) → SFits w32 x → n ≡ min (length lent) 32
    → indexed_in index m (to_z w32 (of_z w32 x)) (take n lent) ≡ indexed_in index m x (take 32 lent)
exactly index m x lent n f e = let vs = ap (λ k. take k lent) e ∙ take-least 32 lent in λ j. indexed_in index m (to_z-of_z f j) (vs j)

-- it is tested as the index has it
tested : (vs : List ℤ) (m : ℕ) (x y : ℤ) (naming : Naming) {r : Bool} → mag y < 2147483648 → y ≡ value (with_value m x vs) m → r ≡ naming_holds (value vs) (to_z w32 (of_z w32 y)) naming
    → naming_holds (value vs) (value (with_value m x vs) m) naming ≡ r
tested vs m x y naming f e h = sym (h ∙ ap (λ z. naming_holds (value vs) z naming) (to_z-of_z (fits32 y f) ∙ e))

pub loop-k-init : goal.loop-k-init
loop-k-init c = let a = c.args in
    reading_begin a.index.now a.m _ _ c.listed-p.result c.from-first.result c.min-last.result (c.min-last.result - c.from-first.result) c.listed-p.ensures.0 c.from-first.ensures
    (c.min-last.ensures ∙ ap (λ n. min n 128) c.from.ensures) refl

pub returns-then-not-naming_holds : goal.returns-then-not-naming_holds
returns-then-not-naming_holds c = let a = c.args in
    ap Some (add-one c.from-then-not-naming_holds.result)
    ∙ ap numbered (ap suc c.from-then-not-naming_holds.ensures
    ∙ walk-stop _ number_of c.loop-k.invariant (back c.from-first.result c.loop-k.k (naming_at a.index.now.namings) (omega arith)) (tested (take c.min.result a.lent.now) a.m (to_z w32 (of_z w32 a.x)) c.own_value-y.result (naming_at a.index.now.namings (c.loop-k.k - 1)) c.own_value-y.type_inv c.own_value-y.ensures c.naming_holds.ensures ∙ c.if-not-naming_holds.true)
    ∙ exactly a.index.now a.m a.x a.lent.now c.min.result c.ranges.x c.min.ensures)

pub loop-k-preserved : goal.loop-k-preserved
loop-k-preserved c = let a = c.args in
    walk-next _ number_of c.loop-k.invariant (back c.from-first.result c.loop-k.k (naming_at a.index.now.namings) (omega arith))
    (tested (take c.min.result a.lent.now) a.m (to_z w32 (of_z w32 a.x)) c.own_value-y.result (naming_at a.index.now.namings (c.loop-k.k - 1)) c.own_value-y.type_inv c.own_value-y.ensures c.naming_holds.ensures ∙ c.if-not-naming_holds.false)

pub returns : goal.returns
returns c = let a = c.args in
    ap numbered (sym (c.loop-k.invariant ∙ ap (first_not _ number_of) (back_over c.from-first.result (c.loop-k.k - c.from-first.result) (naming_at a.index.now.namings) (omega arith)))
    ∙ exactly a.index.now a.m a.x a.lent.now c.min.result c.ranges.x c.min.ensures)
