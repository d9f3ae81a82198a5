use Rattle.std.proofs.Common.{◌≡◌, ◌-◌, length, take, ap, ◌∙◌, arith, rules}
use lib.Seq.{sets}
use Rattle.file.specs.Saved.{measure_slot, slots_from}
use Rattle.rows.specs.Rows.{row}
use Rattle.rows.proofs.Spans.{length-span, front-row}
use Rattle.state.proofs.View.{row-length}
use Rattle.save.specs.Parts.{rules_of}
use Rattle.save.proofs.Slots.{put_sets}
use Rattle.save.proofs.Files.{file-is}
use Rattle.save.proofs.write.Goals as goal

pub returns : goal.returns
returns c = let s = c.args in
    let p = s.p.now in
    let h = c.requires in
    let at = s.area.now in
    let vs = row p.values 0 s.n in
    let rs = rules_of p.table s.m in
    let laid = c.put_rules.new.area in
    let size = c.file_size-size.ensures in
    let head = c.put.ensures ∙ put_sets at 0 _ (omega (arith, h)) in
    let l : length p.values ≡ 256 = search rules in
    let e : s.n ≡ s.n - 0 = omega arith in
    let front = ap (λ k. take k p.values) e ∙ front-row p.values s.n (omega (arith, l, h)) in
    let measures = c.put_measures.ensures ∙ ap (λ xs. sets c.put.new.area 16 (slots_from measure_slot 1 xs)) front in
    let last = c.put-2.ensures ∙ put_sets laid 0 _ (omega (arith, h)) ∙ ap (sets laid 0) c.heading-2.ensures in
    file-is vs rs p.head.next s.n s.m (row-length p.values 0 s.n) (length-span 0 s.m _)
    at _ _ _ h.2 (head ∙ ap (sets at 0) c.heading.ensures) measures c.put_rules.ensures
    _ _ _ (ap (λ k. take k laid) size) c.check_word-check.ensures last
