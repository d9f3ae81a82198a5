use Rattle.std.proofs.Common.{ap, length, length-set, arith}
use Rattle.format.specs.Numbers.{minus}
use Rattle.writer.proofs.Widths.{minus_read}
use Rattle.writer.proofs.put_signed.Goals as goal

pub put_digits-requires : goal.put_digits-requires
put_digits-requires c =
    let a = c.args in
    let w = minus_read a.x c.unsigned_abs-size.result c.ranges.x c.unsigned_abs-size.ensures.value c.if-x-lt0.true in
    omega (arith, ap length w, c.requires, length-set a.area.now a.at minus)
