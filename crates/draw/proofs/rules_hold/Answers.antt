use Prim.Native.Nat.{◌-◌, min}
use native.Mathlib.Omega.{arith}
use mathlib.Core.List.{[]}
use mathlib.Core.Bool.{false}
use mathlib.Core.Path.{◌≡◌, sym, ap, ◌∙◌}
use lib.IntN.{pos}
use lib.ListN.{length, take}
use Rattle.std.specs.Option.{is_some}
use Rattle.rows.specs.Rows.{row}
use Rattle.rows.proofs.Spans.{front-row}
use Rattle.rules.specs.Rules.{numbered, holds_in, tested_in}
use Rattle.rules.specs.Table.{lowers, gaps, uppers}
use Rattle.rules.proofs.Rules.{holds-is, tested_holds}
use Rattle.heads.specs.Heads.{measures_in}
use Rattle.draw.proofs.Draw.{no_value, unbroken}
use borrow.Author.Rules.{rules}
use Rattle.draw.proofs.rules_hold.Goals as goal

-- the part of the values is the row; no measure is numbered 0, so it is tested as it stands
full : (c : goal.After-is_none) → length c.args.p.now.values ≡ 256
full c = search rules

pub returns : goal.returns
returns c = let p = c.args.p.now in
    let t = p.table in
    let n = min p.head.rules 64 in
    let size = c.capped-size in
    let l = full c in
    let whole : size.result - 0 ≡ size.result = omega arith in
    let part = sym (ap (λ k. take k p.values) whole) ∙ front-row p.values size.result (let e = size.ensures in omega arith) ∙ ap (row p.values 0) size.ensures in
    let found = c.broken_of_all.ensures ∙ ap (λ vs. numbered (tested_in false 0 (lowers t) (gaps t) (uppers t) n (pos 0) vs)) part in
    unbroken _ c.is_none.result (sym (ap is_some found) ∙ c.is_none.ensures)
    ∙ tested_holds (lowers t) (gaps t) (uppers t) [] n 0 (pos 0) (row p.values 0 (measures_in p.head))
    ∙ holds-is (lowers t) (gaps t) (uppers t) [] n _
    ∙ ap (holds_in (lowers t) (gaps t) (uppers t) n) (no_value (pos 0) (row p.values 0 (measures_in p.head)))
