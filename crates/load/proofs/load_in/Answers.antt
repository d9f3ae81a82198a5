use Rattle.std.proofs.Common.{◌≡◌, rules, Err}
use Rattle.load.proofs.Loading.{load_unread, load_undrawn, load_drawn}
use Rattle.load.proofs.load_in.Goals as goal

pub returns-in_err-check_file : goal.returns-in_err-check_file
returns-in_err-check_file c =
    let r : c.from_residual.result ≡ Err c.in_err-check_file.field-0.0 = search rules in
    rw r (load_unread c.args.f.now c.args.p.now c.in_err-check_file.ensures)

pub returns-in_err-draw_file : goal.returns-in_err-draw_file
returns-in_err-draw_file c =
    let r : c.from_residual-in_err-draw_file.result ≡ Err c.in_err-draw_file.field-0.0 = search rules in
    rw r (load_undrawn c.args.f.now c.args.p.now c.in_ok-check_file.ensures c.in_err-draw_file.ensures)

pub returns : goal.returns
returns c = load_drawn c.args.f.now c.args.p.now c.in_ok-check_file.ensures _ _ c.in_ok-draw_file.ensures c.read-w.ensures.0
