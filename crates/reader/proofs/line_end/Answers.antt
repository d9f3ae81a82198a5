use Prim.Native.Nat.{◌-◌}
use mathlib.Core.Path.{ap, ◌∙◌}
use lib.ListN.{length, take, drop}
use Rattle.std.specs.Option.{unwrap_or}
use Rattle.reader.proofs.Cut.{feed_from}
use Rattle.reader.proofs.line_end.Goals as goal

pub returns : goal.returns
returns c =
    let bs = c.args.sheet.now in
    let from = c.min-from.result in
    feed_from bs c.args.at from c.unwrap_or.result c.min-from.ensures
    (c.unwrap_or.ensures ∙ ap (λ o. unwrap_or o (length (take (length bs - from) (drop from bs)))) c.first_feed.ensures)
