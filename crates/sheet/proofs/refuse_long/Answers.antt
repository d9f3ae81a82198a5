use mathlib.Core.Path.{sym, ◌∙◌}
use Rattle.sheet.proofs.Entries.{long_answers}
use Rattle.sheet.proofs.Runs.{told_some, told_none}
use Rattle.sheet.proofs.refuse_long.Goals as goal

pub returns-in-Some-clause-outcome : goal.returns-in-Some-clause-outcome
returns-in-Some-clause-outcome c = let r = c.refuse_sheet in
    long_answers c.args.wanted (sym c.saves.ensures ∙ c.if-saves.false) c.args.area.now (told_some c.args.area.now r.new.area r.result r.ensures.0 r.ensures.1 _ c.in-Some.is c.handed.result c.handed.ensures)

pub returns-in-None-clause-outcome : goal.returns-in-None-clause-outcome
returns-in-None-clause-outcome c = let r = c.refuse_sheet in
    long_answers c.args.wanted (sym c.saves.ensures ∙ c.if-saves.false) c.args.area.now (told_none c.args.area.now r.new.area r.result r.ensures.0 r.ensures.1 c.in-None.is c.handed-in-None.result c.handed-in-None.ensures)
