use Rattle.std.proofs.Common.{◌++◌}
use Rattle.writer.specs.Writes.{told}
use Rattle.writer.proofs.Writes.{put_before}
use Rattle.writer.proofs.put_numbers.Goals as goal

pub returns-in-Two : goal.returns-in-Two
returns-in-Two c =
    let i = c.in-Two in
    let second = c.put_spaced-middle.ensures in
    let first = c.put_spaced-in-Two.ensures in
    rw i.is (put_before c.args.area.now _ _ _ _ _ (told i.first) (told i.second) second.0 second.1 first.0 first.1)

pub returns-in-Three : goal.returns-in-Three
returns-in-Three c =
    let i = c.in-Three in
    let third = c.put_spaced-last.ensures in
    let second = c.put_spaced-middle-in-Three.ensures in
    let first = c.put_spaced-in-Three.ensures in
    let both = put_before c.args.area.now _ _ _ _ _ (told i.second) (told i.third) third.0 third.1 second.0 second.1 in
    rw i.is (put_before c.args.area.now _ _ _ _ _ (told i.first) (told i.second ++ told i.third) both.0 both.1 first.0 first.1)
