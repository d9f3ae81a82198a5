-- A plan that was tested when it was handed in: every rule holds. Assumes nothing.
use Prim.Native.Nat.{min}
use mathlib.Core.Path.{◌≡◌, refl, ◌∙◌}
use mathlib.Core.Bool.{true, false}
use lib.Dec.{T}
use Rattle.protocol.specs.Plan.{Mode, blank, whole, split, joining, closing, is, holds}
use Rattle.protocol.proofs.Laws.{cases, is_yes, and_in}
use Rattle.guarantee.specs.Holding.{Holding}
use Rattle.rows.specs.Rows.{row}
use Rattle.rules.proofs.Rules.{holds-is}
use Rattle.heads.specs.Heads.{mode_of, measures_in}
use Rattle.state.specs.Spread.{Spread, plan_of, rules_of}
use Rattle.state.proofs.View.{sides-length}
use Rattle.calls.proofs.Making.{blank-holds}
use Rattle.run.specs.Sound.{sound_in}

is-blank : (m : Mode) → is blank m ≡ true → m ≡ blank
is-blank blank e = refl
is-blank whole e = cc
is-blank split e = cc
is-blank joining e = cc
is-blank closing e = cc

is-whole : (m : Mode) → is whole m ≡ true → m ≡ whole
is-whole blank e = cc
is-whole whole e = refl
is-whole split e = cc
is-whole joining e = cc
is-whole closing e = cc

whole-holds : (p : Spread) → mode_of p.head.mode ≡ whole → T (holds (rules_of p) (row p.values 0 (measures_in p.head))) → Holding (plan_of p).mode (plan_of p).content
whole-holds p e t = record {
  alone = λ w. sides-length p ∙ rw e;
  sides = λ w. rw e (and_in (holds (rules_of p) (row p.values 0 (measures_in p.head))) true t tt);
  base = λ w. absurd (rw e at w);
  draft = λ w. absurd (rw e at w);
}

pub sound_holds : (p : Spread) → sound_in p.head p.lower p.gap p.upper p.values ≡ true → Holding (plan_of p).mode (plan_of p).content
sound_holds p e = cases (is blank (mode_of p.head.mode))
    (λ b. blank-holds p (is-blank (mode_of p.head.mode) b))
    (λ b. cases (is whole (mode_of p.head.mode))
    (λ w.
    let t = rw (b, w) at e in
    let n = min p.head.rules 64 in
    whole-holds p (is-whole (mode_of p.head.mode) w) (is_yes (holds-is p.lower p.gap p.upper p.firm n (row p.values 0 (measures_in p.head)) ∙ t)))
    (λ w. let t : false ≡ true = rw (b, w) at e in absurd (is_yes t)))
