use native.Mathlib.Omega.{arith}
use mathlib.Core.Path.{◌∙◌}
use Rattle.sheet.proofs.Entries.{begun_from, begun_lent, begun_narrow, served_from, long-served, run-written, run_small, run-served, save-served}
use Rattle.sheet.proofs.serve.Goals as goal

pub returns-then-sheet-gt-LIMIT-clause-outcome : goal.returns-then-sheet-gt-LIMIT-clause-outcome
returns-then-sheet-gt-LIMIT-clause-outcome c = let a = c.args in
    served_from _ _ _ (begun_from c.in_ok-begin.ensures c.blank-p.ensures) a.wanted a.sheet.now a.area.now
    (c.refuse_long.ensures.outcome ∙ long-served a.wanted a.sheet.now a.area.now _ c.if-sheet-gt-LIMIT.true)

pub returns-then-saves-clause-outcome : goal.returns-then-saves-clause-outcome
returns-then-saves-clause-outcome c = let a = c.args in
    let b = begun_from c.in_ok-begin.ensures c.blank-p.ensures in
    served_from _ _ _ b a.wanted a.sheet.now a.area.now
    (save-served a.wanted a.sheet.now a.area.now c.saves-saves.ensures c.room-room.ensures (c.advance-r.ensures (begun_lent _ _ _ b)) c.if-saves.true c.if-sheet-gt-LIMIT.false
    c.save_plan.ensures.outcome)

pub handed-requires : goal.handed-requires
handed-requires c = let a = c.args in
    let b = begun_from c.in_ok-begin.ensures c.blank-p.ensures in
    let m = run-written a.wanted a.sheet.now a.area.now c.saves-saves.ensures c.room-room.ensures (c.advance-r.ensures (begun_lent _ _ _ b)) c.if-saves.false in
    let g = c.well_formed in omega (arith, m, g)

pub returns-clause-outcome : goal.returns-clause-outcome
returns-clause-outcome c = let a = c.args in
    let b = begun_from c.in_ok-begin.ensures c.blank-p.ensures in
    served_from _ _ _ b a.wanted a.sheet.now a.area.now
    (run-served a.wanted a.sheet.now a.area.now c.saves-saves.ensures c.room-room.ensures (c.advance-r.ensures (begun_lent _ _ _ b)) c.if-saves.false c.if-sheet-gt-LIMIT.false _ c.handed.ensures)

pub returns-clause-small : goal.returns-clause-small
returns-clause-small c = let a = c.args in
    let b = begun_from c.in_ok-begin.ensures c.blank-p.ensures in
    run_small a.wanted a.sheet.now a.area.now c.saves-saves.ensures c.room-room.ensures (c.advance-r.ensures (begun_lent _ _ _ b)) c.if-saves.false (begun_narrow _ _ _ b)
    c.if-sheet-gt-LIMIT.false _ c.handed.ensures
