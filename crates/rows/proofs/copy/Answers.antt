use Prim.Native.Nat.{◌-◌, min}
use native.Mathlib.Omega.{arith}
use mathlib.Core.Path.{◌≡◌, ap}
use lib.ListN.{length}
use Rattle.rows.specs.Rows.{copied}
use Rattle.rows.proofs.Copies.{copied_part}
use Rattle.rows.proofs.copy.Goals as goal

pub returns-then-size-gt0 : goal.returns-then-size-gt0
returns-then-size-gt0 c =
    copied_part c.args.into.now c.args.values.now c.copy_from_slice.new.self c.args.from c.args.to _ _ _ (omega arith) (omega arith) (omega arith) (omega arith) c.copy_from_slice.ensures.after

pub returns-else-size-gt0 : goal.returns-else-size-gt0
unfolding copied
returns-else-size-gt0 c =
    let e : 0 ≡ min c.args.n (min (length c.args.into.now - c.args.to) (length c.args.values.now - c.args.from)) = omega arith in
    ap (copied c.args.into.now c.args.values.now c.args.from c.args.to) e
