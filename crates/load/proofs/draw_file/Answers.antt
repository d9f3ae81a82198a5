use Rattle.std.proofs.Common.{◌≡◌, refl, rules, Err}
use Rattle.load.proofs.Reading.{sized-parts}
use Rattle.load.proofs.Drawing.{drew_refused, drew_given, file_measures, file_rules, file_open}
use Rattle.load.proofs.draw_file.Goals as goal

pub returns-in_err-draw_chain : goal.returns-in_err-draw_chain
returns-in_err-draw_chain c = let f = c.args.f.now in
    let r : c.from_residual.result ≡ Err c.in_err-draw_chain.field-0.0 = search rules in
    rw r (file_measures f (sized-parts f c.requires).1 _ c.read-w.ensures.0 c.read-w.ensures.1 _ c.low.ensures _ refl c.in_err-draw_chain.ensures)

pub returns-in_err-draw_chain-2 : goal.returns-in_err-draw_chain-2
returns-in_err-draw_chain-2 c = let f = c.args.f.now in
    let r : c.from_residual-in_err-draw_chain-2.result ≡ Err c.in_err-draw_chain-2.field-0.0 = search rules in
    rw r (file_rules f (sized-parts f c.requires).1 _ c.read-w.ensures.0 c.read-w.ensures.1 _ c.low.ensures _ c.high.ensures
    c.in_ok-draw_chain.ensures c.in_err-draw_chain-2.ensures)

pub returns-in_err-open_plan : goal.returns-in_err-open_plan
returns-in_err-open_plan c = let f = c.args.f.now in
    let r : c.from_residual-in_err-open_plan.result ≡ Err c.in_err-open_plan.field-0.0 = search rules in
    rw r (file_open f (sized-parts f c.requires).1 _ c.read-w.ensures.0 c.read-w.ensures.1 _ c.low.ensures _ c.high.ensures
    c.in_ok-draw_chain.ensures c.in_ok-draw_chain-2.ensures (drew_refused c.in_err-open_plan.ensures.makes c.in_err-open_plan.ensures.rest))

pub returns : goal.returns
returns c = let f = c.args.f.now in
    file_open f (sized-parts f c.requires).1 _ c.read-w.ensures.0 c.read-w.ensures.1 _ c.low.ensures _ c.high.ensures
    c.in_ok-draw_chain.ensures c.in_ok-draw_chain-2.ensures (drew_given c.in_ok-open_plan.ensures.makes c.in_ok-open_plan.ensures.rest)
