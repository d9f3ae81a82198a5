use Prim.Native.Nat.{ℕ, suc, ◌-◌, min}
use native.Mathlib.Omega.{arith}
use native.Mathlib.Numerals.{add-one}
use mathlib.Core.Bool.{false}
use mathlib.Core.List.{List, []}
use lib.IntN.{ℤ}
use mathlib.Core.Path.{◌≡◌, sym, ap, ◌∙◌}
use mir.Syntax.{w32}
use mir.Val.{to_z, of_z, SFits}
use mir.Facts.{to_z-of_z}
use Rattle.std.proofs.Common.{Some}
use Rattle.protocol.specs.Plan.{value}
use Rattle.protocol.proofs.Broken.{walk-next, walk-stop, last_first-next, last_first-over}
use Rattle.protocol.specs.Lists.{first_not}
use Rattle.rules.specs.declared.Rule.{Rule}
use Rattle.rules.specs.Table.{lowers, gaps, uppers}
use Rattle.rules.specs.Rules.{numbered, with_value, pair_holds, tested_in}
use Rattle.rules.proofs.Table.{at_lower, at_gap, at_upper}
use Rattle.rules.proofs.Rules.{pair_at, held_at, testing_begin}
use Rattle.rules.proofs.broken_of_all.Goals as goal
use Rattle.rules.proofs.broken_of_all.Goals.{After-holds}

-- it is tested as the protocol has it
tested : (c : After-holds) → let a = c.args in
    c.holds.result ≡ held_at (lowers a.table.now) (gaps a.table.now) (uppers a.table.now) (min a.k 64) (with_value a.m (to_z w32 (of_z w32 a.x)) a.row.now) c.loop-i.i
tested c =
    let a = c.args in
    let t = a.table.now in
    let n = min a.k 64 in
    let i = c.loop-i.i - 1 in
    let ws = with_value a.m (to_z w32 (of_z w32 a.x)) a.row.now in
    let e : suc i ≡ c.loop-i.i = omega arith in
    c.holds.ensures ∙ sym (λ j. pair_holds (value ws) (at_lower t i j) (at_gap t i j) (at_upper t i j))
    ∙ sym (pair_at (lowers t) (gaps t) (uppers t) n i (omega arith) [] ws) ∙ ap (held_at (lowers t) (gaps t) (uppers t) n ws) e

-- the number that is tested is the one given
exactly : (m : ℕ) (table : List Rule) (n : ℕ) (x : ℤ) (row : List ℤ) → SFits w32 x
    → tested_in false m (lowers table) (gaps table) (uppers table) n (to_z w32 (of_z w32 x)) row ≡ tested_in false m (lowers table) (gaps table) (uppers table) n x row
exactly m table n x row f = ap (λ y. tested_in false m (lowers table) (gaps table) (uppers table) n y row) (to_z-of_z f)

pub returns-then-not-holds : goal.returns-then-not-holds
returns-then-not-holds c = let a = c.args in
    let i = c.loop-i.i - 1 in
    let e : suc i ≡ c.loop-i.i = omega arith in
    ap Some (add-one i) ∙ ap numbered (e ∙ walk-stop (held_at (lowers a.table.now) (gaps a.table.now) (uppers a.table.now) (min a.k 64) (with_value a.m (to_z w32 (of_z w32 a.x)) a.row.now)) (λ (j : ℕ). j) c.loop-i.invariant
    (last_first-next c.loop-i.i c.loop-i-test.true) (sym (tested c.before) ∙ c.if-not-holds.true) ∙ exactly a.m a.table.now (min a.k 64) a.x a.row.now c.ranges.x)

pub loop-i-preserved : goal.loop-i-preserved
loop-i-preserved c = let a = c.args in
    walk-next (held_at (lowers a.table.now) (gaps a.table.now) (uppers a.table.now) (min a.k 64) (with_value a.m (to_z w32 (of_z w32 a.x)) a.row.now)) (λ (j : ℕ). j) c.loop-i.invariant
    (last_first-next c.loop-i.i c.loop-i-test.true) (sym (tested c.before) ∙ c.if-not-holds.false)

pub loop-i-init : goal.loop-i-init
loop-i-init c = testing_begin _ _ _ _ _ _ _ _ c.capped-i.ensures

pub returns : goal.returns
returns c = let a = c.args in
    ap numbered (sym (c.loop-i.invariant ∙ ap (first_not (held_at (lowers a.table.now) (gaps a.table.now) (uppers a.table.now) (min a.k 64) (with_value a.m (to_z w32 (of_z w32 a.x)) a.row.now)) (λ (j : ℕ). j))
    (last_first-over c.loop-i.i c.loop-i-test.false)) ∙ exactly a.m a.table.now (min a.k 64) a.x a.row.now c.ranges.x)
