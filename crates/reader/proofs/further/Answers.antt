use native.Mathlib.Omega.{arith}
use Prim.Native.Nat.{◌-◌, ◌+◌, ◌*◌}
use mathlib.Core.Path.{◌≡◌, sym, ap, ◌∙◌, subst}
use lib.ListN.{get_or}
use Rattle.format.specs.Lines.{line_feed}
use Rattle.reader.specs.Cut.{first_line}
use Rattle.reader.specs.Reads.{word_at, followed, ending}
use Rattle.reader.proofs.Cut.{up_to-length}
use Rattle.reader.proofs.Scans.{Reading, reading_small, stop_short, stop-long, goes_on}
use Rattle.reader.proofs.further.Goals as goal

pub overflow_add-last : goal.overflow_add-last
overflow_add-last c = let l = up_to-length line_feed c.args.sheet.now in omega (arith, l, c.requires.1)

pub returns-then-not-is_ascii_digit : goal.returns-then-not-is_ascii_digit
returns-then-not-is_ascii_digit c =
    c.ended.ensures ∙ ap (λ b. ending b c.loop-i.n c.loop-i.i) c.byte_at-b.ensures
    ∙ stop_short c.args.sheet.now c.args.from c.args.first c.loop-i.n c.loop-i.i c.loop-i.invariant (λ p q. omega (arith, c.byte_at-b.ensures, c.if-not-is_ascii_digit.ensures.cases))

pub overflow_mul-n : goal.overflow_mul-n
overflow_mul-n c =
    let s = reading_small (first_line c.args.sheet.now) c.args.from c.args.first c.loop-i.n c.loop-i.i c.loop-i.invariant (omega (arith, c.loop-i.invariant.0, c.loop-i-test.true)) in
    omega (arith, s)

pub overflow_add-n : goal.overflow_add-n
overflow_add-n c =
    let s = reading_small (first_line c.args.sheet.now) c.args.from c.args.first c.loop-i.n c.loop-i.i c.loop-i.invariant (omega (arith, c.loop-i.invariant.0, c.loop-i-test.true)) in
    omega (arith, s, c.from.ensures, c.if-not-is_ascii_digit.ensures.cases)

pub loop-i-preserved : goal.loop-i-preserved
loop-i-preserved c =
    let d = c.if-not-is_ascii_digit.ensures.cases in
    subst (λ k. Reading (first_line c.args.sheet.now) c.args.from c.args.first (10 * c.loop-i.n + k) (c.loop-i.i + 1))
    (sym (c.from.ensures ∙ ap (λ b. b - 48) c.byte_at-b.ensures))
    (goes_on c.args.sheet.now c.args.from c.args.first c.loop-i.n c.loop-i.i c.loop-i.invariant
    (omega (arith, c.byte_at-b.ensures, d.0)) (omega (arith, c.byte_at-b.ensures, d.1)) (omega (arith, c.loop-i.invariant.0, c.loop-i-test.true)))

pub returns : goal.returns
returns c =
    let bs = c.args.sheet.now in
    let e : c.loop-i.i ≡ c.args.from + 8 = omega (arith, c.loop-i-test.false, c.loop-i.invariant.0, c.loop-i.invariant.2) in
    c.ended-2.ensures ∙ ap (λ b. ending b c.loop-i.n (c.args.from + 8)) c.byte_at.ensures
    ∙ subst (λ j. ending (get_or bs j line_feed) c.loop-i.n j ≡ followed 0 c.args.first c.args.from (word_at (first_line bs) c.args.from)) e
    (stop-long bs c.args.from c.args.first c.loop-i.n c.loop-i.i c.loop-i.invariant (omega (arith, e)))
