-- The kept edits after a send. Assumes nothing.
use Prim.Native.Nat.{ℕ, ◌-◌, ◌≤◌}
use native.Mathlib.Omega.{arith}
use mathlib.Core.Path.{◌≡◌, sym, ap, ◌∙◌}
use mathlib.Core.List.{List, ◌++◌, map}
use lib.ListN.{length, take, get_or-append}
use Rattle.std.proofs.lemmas.List.{get_or-take, length-take}
use Rattle.protocol.specs.Calls.{mark_sent}
use Rattle.rows.proofs.Spans.{span_same, map-span}
use Rattle.records.specs.declared.EditRecord.{EditRecord}
use Rattle.moves.specs.Moves.{Marked}
use Rattle.heads.specs.declared.Head.{Head}
use Rattle.heads.specs.Heads.{end_in, kept_in}
use Rattle.records.specs.Records.{kept_at, kept_of, no_record}

-- all the kept edits were marked, and the others, in back, are no edits of the plan
pub marked_over : (s : ℕ) (h : Head) (before front back : List EditRecord) (k i : ℕ) → k ≡ kept_in h → length before ≡ 256 → length front ≡ length (take k before) → length (take k before) ≤ i
    → Marked s (take k before) front i → kept_of h (front ++ back) ≡ map (mark_sent s) (kept_of h before)
marked_over s h before front back k i e full long over w =
    let size = length-take k before in
    span_same 0 (kept_in h) _ _
    (λ j a b.
    let n = end_in h - (kept_in h - j) in
    ap (kept_at n) (get_or-append front back no_record j (omega (arith, e, full, long, size, b)))
    ∙ w.done j (omega (arith, e, full, size, over, b)) n
    ∙ ap (λ r. mark_sent s (kept_at n r)) (get_or-take k before j no_record (omega (arith, e, b))))
    ∙ sym (map-span (mark_sent s) 0 (kept_in h) _)
