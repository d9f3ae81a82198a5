use Prim.Native.Nat.{ℕ, ◌<◌, ◌≤◌}
use native.Mathlib.Omega.{arith}
use mathlib.Core.Path.{◌≡◌, refl, sym, ap, ◌∙◌, subst}
use mathlib.Core.List.{List}
use mathlib.Core.Option.{some}
use borrow.Author.Rules.{rules}
use mir.Syntax.{w32}
use mir.Val.{SFits}
use mir.Facts.{to_z-of_z}
use lib.IntN.{pos}
use lib.ListN.{length, get_or, replicate}
use Rattle.std.specs.Result.{result_ok}
use Rattle.format.specs.Lines.{space, line_feed}
use Rattle.reader.specs.Cut.{first_line}
use Rattle.reader.specs.Reads.{place_of, Named}
use Rattle.reader.proofs.Cut.{up_to-length, line_over, line_here}
use Rattle.reader.proofs.Calls.{found_within, listing_begin, listing_unread, listing_next, listing_more, listing_few, listing_all, unnamed, taken_most, failed_at, taken_err}
use Rattle.reader.proofs.read_call.Goals as goal

-- the line goes on at the place, or ends there
goes : (bs : List ℕ) (at b : ℕ) → at ≤ length (first_line bs) → b ≡ get_or bs at line_feed → (b ≡ 10 → ⊥) → at < length (first_line bs)
goes bs at b h e ne = (line_here bs at h (λ z. ne (e ∙ z))).0

at-end : (bs : List ℕ) (at b : ℕ) → at ≤ length (first_line bs) → b ≡ get_or bs at line_feed → b ≡ 10 → at ≡ length (first_line bs)
at-end bs at b h e z = let l = line_over bs at (sym e ∙ z) in omega arith

pub returns-in_err-name : goal.returns-in_err-name
returns-in_err-name c =
    let line = first_line c.args.sheet.now in
    let f = failed_at c.read_name.result 0 _ c.ok_or.result c.ok_or.ensures.value c.in_err-name.was in
    let n = subst (Named line) f.0 c.read_name.ensures in
    taken_err line c.from_residual.result _ c.from_residual.ensures.0 c.from_residual.ensures.1 (λ at e. (sym (unnamed line n), omega (arith, e, f.1)))

pub loop-k-init : goal.loop-k-init
loop-k-init c =
    let line = first_line c.args.sheet.now in
    let n = subst (Named line) (c.ok_or.ensures.ok_part ∙ ap result_ok c.in_ok-name.was) c.read_name.ensures in
    let w = up_to-length space line in
    (omega (arith, n.1, w), listing_begin line _ _ (replicate 6 (pos 0)) refl n.0 n.1)

pub read_number-requires : goal.read_number-requires
read_number-requires c =
    let l = c.loop-k in
    let g = goes c.args.sheet.now l.at c.byte_at.result l.invariant.0 c.byte_at.ensures c.if-byte_at-eq10.false in
    omega (arith, g)

pub returns-in_default : goal.returns-in_default
returns-in_default c =
    let line = first_line c.args.sheet.now in
    let l = c.loop-k in
    let g = goes c.args.sheet.now l.at c.byte_at.result l.invariant.0 c.byte_at.ensures c.if-byte_at-eq10.false in
    (listing_unread line _ l.k l.numbers l.at l.invariant.1 g (sym c.read_number.ensures ∙ c.in_default.is), l.invariant.0)

pub returns-then-byte_at-eq10 : goal.returns-then-byte_at-eq10
returns-then-byte_at-eq10 c =
    let l = c.loop-k in
    let z = at-end c.args.sheet.now l.at c.byte_at.result l.invariant.0 c.byte_at.ensures c.if-byte_at-eq10.true in
    (listing_few (first_line c.args.sheet.now) _ l.k l.numbers l.at l.invariant.1 (omega (arith, z)) (λ e. omega (arith, e, c.count-k-end.ensures, c.loop-k-test.true)), l.invariant.0)

pub offset_bounds-numbers-k : goal.offset_bounds-numbers-k
offset_bounds-numbers-k c = omega (arith, taken_most (place_of c.in_ok-name.name.value), c.loop-k.invariant.1.1)

pub bounds-numbers-k : goal.bounds-numbers-k
bounds-numbers-k c = omega (arith, taken_most (place_of c.in_ok-name.name.value), c.count-k-end.ensures, c.loop-k-test.true)

pub loop-k-preserved : goal.loop-k-preserved
loop-k-preserved c =
    let line = first_line c.args.sheet.now in
    let l = c.loop-k in
    let x = c.in-Some.number.value in
    let n = c.in-Some.number.next in
    let g = goes c.args.sheet.now l.at c.byte_at.result l.invariant.0 c.byte_at.ensures c.if-byte_at-eq10.false in
    let e = sym c.read_number.ensures ∙ c.in-Some.is in
    let s : SFits w32 x = search rules in
    (found_within line l.at x n g e, rw (to_z-of_z s) (listing_next line _ l.k l.numbers l.at l.invariant.1 x n g e (λ z. omega (arith, z, c.count-k-end.ensures, c.loop-k-test.true))))

pub returns-then-byte_at-ne10 : goal.returns-then-byte_at-ne10
returns-then-byte_at-ne10 c =
    let l = c.loop-k in
    let g = goes c.args.sheet.now l.at c.byte_at-2.result l.invariant.0 c.byte_at-2.ensures c.if-byte_at-ne10.true in
    (listing_more (first_line c.args.sheet.now) _ l.k l.numbers l.at l.invariant.1 g (omega (arith, c.count-k-end.ensures, c.loop-k-test.false, l.invariant.1.1)), l.invariant.0)

pub returns : goal.returns
returns c =
    let l = c.loop-k in
    let z = at-end c.args.sheet.now l.at c.byte_at-2.result l.invariant.0 c.byte_at-2.ensures c.if-byte_at-ne10.false in (
      ap some c.call.ensures
          ∙ listing_all (first_line c.args.sheet.now) c.in_ok-name.name.value l.k l.numbers l.at l.invariant.1 (omega (arith, z)) (omega (arith, c.count-k-end.ensures, c.loop-k-test.false, l.invariant.1.1)),
      z,
    )
