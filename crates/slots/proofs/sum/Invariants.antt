use Rattle.std.proofs.Common.{◌≡◌, ◌*◌, ◌%◌, take}
use Rattle.file.specs.Bytes.{word_size, total}
use Rattle.slots.proofs.sum.Given as goal

abbrev pub invariant-loop-k : goal.invariant-loop-k
invariant-loop-k l = l.s ≡ total (take (16 * l.k) l.f) % word_size
