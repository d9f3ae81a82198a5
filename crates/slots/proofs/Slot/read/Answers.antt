use Rattle.std.proofs.Common.{refl, arith}
use Rattle.slots.proofs.Words.{read_in, read_parted}
use Rattle.slots.proofs.Slot.read.Goals as goal

pub returns : goal.returns
returns c = let s = c.args in
    let t = c.if-f-k.false in
    let p = c.word.ensures in
    let q = c.word-2.ensures in
    let r = c.word-3.ensures in
    let u = c.word-4.ensures in
    (read_in s.f.now s.k (omega (arith, t)) _ _ _ _ _ refl p.0 q.0 r.0 u.0, λ h. read_parted s.f.now s.k h _ refl p.1 p.2 q.1 u.1)
