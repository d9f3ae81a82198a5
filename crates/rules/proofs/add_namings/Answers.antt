use Prim.Native.Nat.{ℕ, ◌<◌}
use mathlib.Core.Bool.{Bool}
use mathlib.Core.List.{List}
use lib.ListN.{get_or, take}
use Rattle.std.proofs.lemmas.List.{get_or-take}
use native.Mathlib.Omega.{arith}
use mathlib.Core.Path.{◌≡◌, sym, ap, ◌∙◌}
use lib.IntN.{ℤ, pos}
use Rattle.std.proofs.Common.{rules}
use Rattle.rules.specs.Table.{lowers, gaps, uppers}
use Rattle.rules.specs.Index.{other_of}
use mir.Syntax.{w32}
use mir.Val.{to_z, of_z}
use Rattle.rules.specs.Rules.{names_pair, names_at}
use Rattle.rules.specs.declared.Rule.{Rule}
use Rattle.rules.specs.declared.Other.{Other}
use Rattle.rules.proofs.Table.{none, at_lower, at_gap, at_upper}
use Rattle.rules.proofs.Making.{adding_skip, adding_room, adding_put, none_added}
use Rattle.rules.proofs.add_namings.Goals as goal
use Rattle.rules.proofs.add_namings.Goals.{then-names, else-names}

-- the rule at hand: what it names, its other measure, and its gap
module _ (table : List Rule) (end i m : ℕ) (h : i < end) where
  abbrev rule : Rule
  rule = get_or (take end table) i none

  named : {r : Bool} → r ≡ names_pair rule.lower rule.upper m → names_at (lowers table) (uppers table) m i ≡ r
  named e = (λ j. names_pair (at_lower table i j) (at_upper table i j) m) ∙ ap (λ r. names_pair r.lower r.upper m) (sym (get_or-take end table i none h)) ∙ sym e

  other-is : {o : Other} → o ≡ other_of m rule.lower rule.upper → o ≡ other_of m (get_or (lowers table) i 0) (get_or (uppers table) i 0)
  other-is e = e ∙ ap (λ r. other_of m r.lower r.upper) (get_or-take end table i none h) ∙ sym (λ j. other_of m (at_lower table i j) (at_upper table i j))

  gap-is : {g : ℤ} → g ≡ rule.gap → g ≡ get_or (gaps table) i (pos 0)
  gap-is e = e ∙ ap (λ r. r.gap) (get_or-take end table i none h) ∙ sym (at_gap table i)

pub returns-then-top-m : goal.returns-then-top-m
returns-then-top-m c = let a = c.args in
    none_added (lowers a.table.now) (uppers a.table.now) a.end a.top a.m c.requires.2 c.if-top-m.true _ _ _ c.requires.0

pub bounds-namings-next : goal.bounds-namings-next
bounds-namings-next c = let a = c.args in
    let h : c.loop-i.i < a.end = omega arith in
    adding_room _ _ _ _ _ _ _ _ _ _ c.loop-i.invariant h (named a.table.now a.end c.loop-i.i a.m h c.names.ensures ∙ c.if-names.true) c.requires.3

pub loop-i-preserved : goal.loop-i-preserved
loop-i-preserved c = let a = c.args in
    let t = a.table.now in
    let i = c.loop-i.i in
    let h : i < a.end = omega arith in
    let e = named t a.end i a.m h c.names.ensures in
    elim c.if-names.branch [
      | then-names w ↦
          let r = adding_room _ _ _ _ _ _ _ _ _ _ c.loop-i.invariant h (e ∙ w.if-names.true) c.requires.3 in
          let g : to_z w32 (of_z w32 (get_or (take a.end t) i none).gap) ≡ (get_or (take a.end t) i none).gap = search rules in
          let o = other-is t a.end i a.m h w.other_of.ensures in
          let g' = gap-is t a.end i a.m h g in
          rw (w.namings-is, w.next-is) (adding_put _ _ _ _ _ _ _ _ _ _ c.loop-i.invariant h (e ∙ w.if-names.true) r (λ j. record { rule = i; other = o j; gap = g' j }))
      | else-names w ↦ rw (w.namings-is, w.next-is) (adding_skip _ _ _ _ _ _ _ _ _ _ c.loop-i.invariant h (e ∙ w.if-names.false))
    ]
