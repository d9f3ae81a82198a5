use native.Mathlib.Omega.{arith}
use Prim.Native.Nat.{◌-◌, ◌+◌}
use mathlib.Core.Path.{ap, ◌∙◌}
use Rattle.reader.specs.Cut.{first_line}
use Rattle.reader.specs.Reads.{followed, word_at}
use Rattle.reader.proofs.Scans.{no-digits, first_digit}
use Rattle.reader.proofs.read_digits.Goals as goal
use Rattle.reader.proofs.read_digits.Goals.{then-not-is_ascii_digit-via-then-not-is_ascii_digit, then-not-is_ascii_digit-via-else-not-is_ascii_digit+then-b-eq48}

pub returns-then-not-is_ascii_digit : goal.returns-then-not-is_ascii_digit
returns-then-not-is_ascii_digit c = no-digits c.args.sheet.now c.args.at c.requires (λ p q. elim c.then-not-is_ascii_digit.branch [
  | then-not-is_ascii_digit-via-then-not-is_ascii_digit w ↦ omega (arith, c.byte_at-b.ensures, w.if-not-is_ascii_digit.ensures.cases)
  | then-not-is_ascii_digit-via-else-not-is_ascii_digit+then-b-eq48 w ↦ omega (arith, c.byte_at-b.ensures, w.if-b-eq48.true)
])

pub further-requires : goal.further-requires
further-requires c =
    let d = c.if-not-is_ascii_digit.ensures.cases in
    (omega (arith, d, c.from.ensures), (first_digit c.args.sheet.now c.args.at c.requires (omega (arith, c.byte_at-b.ensures, d, c.if-b-eq48.false)) (omega (arith, c.byte_at-b.ensures, d))).0)

pub returns : goal.returns
returns c =
    let bs = c.args.sheet.now in
    let at = c.args.at in
    let d = c.if-not-is_ascii_digit.ensures.cases in
    c.further.ensures ∙ ap (λ n. followed 0 n (at + 1) (word_at (first_line bs) (at + 1))) (c.from.ensures ∙ ap (λ b. b - 48) c.byte_at-b.ensures)
    ∙ (first_digit bs at c.requires (omega (arith, c.byte_at-b.ensures, d, c.if-b-eq48.false)) (omega (arith, c.byte_at-b.ensures, d))).1
