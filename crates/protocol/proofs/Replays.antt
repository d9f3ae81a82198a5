-- What is known of a replay that accepts. Other proofs take it from here, and do not see what else a replay looks at; S-2's own law is guarantee's (proofs/Chains). Assumes nothing.
use Prim.Native.Nat.{ℕ}
use mathlib.Core.Bool.{not}
use lib.Dec.{T}
use Rattle.protocol.specs.Plan.{Content, holds, made, fits, effective, lookup}
use Rattle.protocol.specs.Calls.{built_on_revoked, replayable}
use Rattle.protocol.proofs.Laws.{both}

module _ (d : Content) (n : ℕ) (t : T (replayable d n)) where
  -- the change takes effect on the draft:
  accepted-effective : T (effective d.rules (lookup n d.kept).edit.measure (lookup n d.kept).edit.change d.draft)
  unfolding replayable
  accepted-effective = (both (not (built_on_revoked d n)) _ t).1

  -- the result is in range,
  pub accepted-fits : T (fits (lookup n d.kept).edit.measure (lookup n d.kept).edit.change d.draft)
  unfolding effective
  accepted-fits = let e = (lookup n d.kept).edit in (both (fits e.measure e.change d.draft) _ accepted-effective).0

  -- and every rule holds afterwards
  pub accepted-holds : T (holds d.rules (made (lookup n d.kept).edit.measure (lookup n d.kept).edit.change d.draft))
  unfolding effective
  accepted-holds = let e = (lookup n d.kept).edit in (both (fits e.measure e.change d.draft) _ accepted-effective).1
