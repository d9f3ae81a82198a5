use mathlib.Core.Path.{◌∙◌}
use Rattle.sheet.proofs.Entries.{entry_handed, run_on_entry}
use Rattle.sheet.proofs.run_on.Goals as goal

pub returns : goal.returns
returns c = let a = c.args in
    entry_handed c.serve.result c.serve.new.area c.entry_number.ensures c.serve.ensures.outcome ∙ run_on_entry a.file.now a.sheet.now a.area.now
