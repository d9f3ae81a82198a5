use Rattle.std.proofs.Common.{◌≡◌, true, sym, ◌∙◌, rules, ne_eqb, eq-eqb}
use Rattle.protocol.specs.Plan.{blank, is}
use Rattle.protocol.proofs.Laws.{is_yes}
use Rattle.heads.specs.Heads.{mode_of}
use Rattle.load.proofs.Reading.{sized-parts, balanced-is, first_45, first_46, first-unnumbered, first-fine, untouched_yes}
use Rattle.load.proofs.check_file.Goals as goal
use Rattle.load.proofs.check_file.Goals.{then-not-is_chained-via-then-not-is_chained, then-not-is_chained-via-else-not-is_chained+then-not-has_number}

pub returns-then-sum-ne0 : goal.returns-then-sum-ne0
returns-then-sum-ne0 c =
    let h = c.args.h.now in
    let bare : is blank (mode_of h.mode) ≡ true = search rules in
    let u = untouched_yes h bare c.if-h-ne0.false c.if-h-ne0-2.false in
    let s = sym c.has_size.ensures ∙ c.if-not-has_size.false in
    first_45 c.args.f.now h u s (sym (balanced-is c.args.f.now (is_yes s) _ c.sum.ensures) ∙ ne_eqb _ _ c.if-sum-ne0.true)

pub returns-then-not-is_chained : goal.returns-then-not-is_chained
returns-then-not-is_chained c =
    let h = c.args.h.now in
    let f = c.args.f.now in
    let bare : is blank (mode_of h.mode) ≡ true = search rules in
    let u = untouched_yes h bare c.if-h-ne0.false c.if-h-ne0-2.false in
    let s = sym c.has_size.ensures ∙ c.if-not-has_size.false in
    let b = sym (balanced-is f (is_yes s) _ c.sum.ensures) ∙ eq-eqb _ _ c.if-sum-ne0.false in
    elim c.then-not-is_chained.branch [
      | then-not-is_chained-via-then-not-is_chained w ↦ first_46 f h u s b (λ z. sym w.if-not-is_chained.true ∙ c.is_chained.ensures.1 z)
      | then-not-is_chained-via-else-not-is_chained+then-not-has_number w ↦
          first-unnumbered f h u s b (c.is_chained.ensures.0 w.if-not-is_chained.false)
          (sym (w.has_number.ensures (sized-parts f (is_yes s)).1) ∙ w.if-not-has_number.true)
    ]

pub returns : goal.returns
returns c =
    let h = c.args.h.now in
    let f = c.args.f.now in
    let bare : is blank (mode_of h.mode) ≡ true = search rules in
    let u = untouched_yes h bare c.if-h-ne0.false c.if-h-ne0-2.false in
    let s = sym c.has_size.ensures ∙ c.if-not-has_size.false in
    let b = sym (balanced-is f (is_yes s) _ c.sum.ensures) ∙ eq-eqb _ _ c.if-sum-ne0.false in
    first-fine f h u s b (c.is_chained.ensures.0 c.if-not-is_chained.false)
    (sym (c.has_number.ensures (sized-parts f (is_yes s)).1) ∙ c.if-not-has_number.false)
