use Rattle.std.proofs.Common.{◌≡◌, ap, ◌∙◌, rules, Err, to_z-of_z}
use Rattle.protocol.specs.Calls.{measure}
use Rattle.exact.proofs.Ints.{fits32}
use Rattle.file.specs.Bytes.{signed, signed_at}
use Rattle.slots.specs.declared.Slot.{Slot}
use Rattle.load.proofs.Drawing.{drew_refused, drew_given, same-call}
use Rattle.load.proofs.draw_measure.Goals as goal

pub returns-in_err-measure : goal.returns-in_err-measure
unfolding signed_at
returns-in_err-measure c = λ s w-is p.
    let v = to_z-of_z (fits32 _ c.value.type_inv) ∙ c.value.ensures ∙ ap (λ (x : Slot). signed x.second) w-is in
    let r : c.from_residual.result ≡ Err c.in_err-measure.field-0.0 = search rules in
    rw r (same-call (ap measure v) (drew_refused c.in_err-measure.ensures.makes c.in_err-measure.ensures.rest))

pub returns : goal.returns
unfolding signed_at
returns c = λ s w-is p.
    let v = to_z-of_z (fits32 _ c.value.type_inv) ∙ c.value.ensures ∙ ap (λ (x : Slot). signed x.second) w-is in
    same-call (ap measure v) (drew_given c.in_ok-measure.ensures.makes c.in_ok-measure.ensures.rest)
