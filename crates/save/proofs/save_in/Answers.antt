use Rattle.std.proofs.Common.{min, ℕ, ◌≡◌, ◌+◌, ◌*◌, true, false, length, sym, ◌∙◌, ap₂, rules}
use Rattle.file.specs.Saved.{file_of, saved}
use Rattle.format.specs.Sheets.{in_front}
use Rattle.heads.specs.Heads.{mode_of, measures_in}
use Rattle.protocol.specs.Plan.{whole, is}
use Rattle.rows.specs.Rows.{row}
use Rattle.save.specs.Parts.{rules_of}
use Rattle.state.specs.declared.State.{State}
use Rattle.state.specs.View.{view}
use Rattle.save.proofs.Files.{saved-size, save_31, save_41, save-fine}
use Rattle.save.proofs.save_in.Goals as goal

size_is : (p : State) {n m size : ℕ} → size ≡ 16 * (1 + n + m) → n ≡ measures_in p.head → m ≡ min p.head.rules 64 → size ≡ length (saved (view p))
size_is p e n-is m-is = e ∙ ap₂ (λ n m. 16 * (1 + n + m)) n-is m-is ∙ sym (saved-size p)

pub returns-then-ne : goal.returns-then-ne
returns-then-ne c =
    let e : is whole (mode_of c.args.p.now.head.mode) ≡ false = search rules in
    save_31 c.args.p.now c.args.area.now e

pub returns-then-area-size : goal.returns-then-area-size
returns-then-area-size c =
    let p = c.args.p.now in
    let e : is whole (mode_of p.head.mode) ≡ true = search rules in
    save_41 p c.args.area.now _ e (size_is p c.file_size-size.ensures c.capped-n.ensures c.capped-m.ensures) c.if-area-size.true

pub returns : goal.returns
returns c =
    let p = c.args.p.now in
    let a = c.args.area.now in
    let n = c.capped-n.ensures in
    let m = c.capped-m.ensures in
    let e : is whole (mode_of p.head.mode) ≡ true = search rules in
    let r = save-fine p a _ e (size_is p c.file_size-size.ensures n m) c.if-area-size.false in
    (r.0, c.write.ensures ∙ ap₂ (λ n m. in_front (file_of (row p.values 0 n) (rules_of p.table m) p.head.next) a) n m ∙ r.1)
