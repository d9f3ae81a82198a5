use native.Mathlib.Omega.{arith}
use borrow.Author.Rules.{rules}
use mathlib.Core.Path.{sym, ap}
use mathlib.Core.List.{[], ◌∷◌}
use Rattle.std.proofs.lemmas.Slice.Eq.{text_from_reads}
use Rattle.reader.specs.Reads.{op_of}
use Rattle.reader.proofs.op_named.Goals as goal

pub returns-in-split : goal.returns-in-split
unfolding op_of
returns-in-split c = sym (ap op_of (text_from_reads c.args.name.now (115 ∷ 112 ∷ 108 ∷ 105 ∷ 116 ∷ []) (omega arith) (search rules)))

pub returns-in-measure : goal.returns-in-measure
unfolding op_of
returns-in-measure c = sym (ap op_of (text_from_reads c.args.name.now (109 ∷ 101 ∷ 97 ∷ 115 ∷ 117 ∷ 114 ∷ 101 ∷ []) (omega arith) (search rules)))

pub returns-in-replay : goal.returns-in-replay
unfolding op_of
returns-in-replay c = sym (ap op_of (text_from_reads c.args.name.now (114 ∷ 101 ∷ 112 ∷ 108 ∷ 97 ∷ 121 ∷ []) (omega arith) (search rules)))

pub returns-in-confirm : goal.returns-in-confirm
unfolding op_of
returns-in-confirm c = sym (ap op_of (text_from_reads c.args.name.now (99 ∷ 111 ∷ 110 ∷ 102 ∷ 105 ∷ 114 ∷ 109 ∷ []) (omega arith) (search rules)))

pub returns-in-install : goal.returns-in-install
unfolding op_of
returns-in-install c = sym (ap op_of (text_from_reads c.args.name.now (105 ∷ 110 ∷ 115 ∷ 116 ∷ 97 ∷ 108 ∷ 108 ∷ []) (omega arith) (search rules)))
