-- What is found of the edit that a number names. Assumes nothing.
use Prim.Native.Nat.{ℕ, zero, suc, ◌<◌, ◌≤◌}
use native.Mathlib.Omega.{arith}
use mathlib.Core.Bool.{false}
use mathlib.Core.Path.{◌≡◌, refl, sym, ap, ◌∙◌}
use mathlib.Core.Logic.{◌≢◌}
use Rattle.std.specs.Prelude.{Option, Some, IfSome}
use Rattle.protocol.specs.Plan.{fate_is}
use lib.IntN.{ℤ}
use lib.ListN.{get_or}
use lib.Dec.{eqb-suc-zero}
use Rattle.protocol.specs.Lists.{natural}
use Rattle.heads.specs.Heads.{seat, named_at, position_of, end_in, kept_in}
use Rattle.heads.proofs.Positions.{seat_some, slot_suc}
use Rattle.records.specs.declared.EditRecord.{EditRecord}
use Rattle.records.specs.declared.Fate.{Fate}
use Rattle.records.specs.declared.Fate.TheVariants.{Unsent, Waiting, Accepted, Revoked}
use Rattle.records.specs.Records.{fate_of, found_at, looked, no_record}
use Rattle.records.proofs.Records.{looked_record}
use Rattle.state.specs.declared.State.{State}
use Rattle.state.specs.Spread.{spread, named_in}

seat_most : (q : ℕ) → IfSome (seat q) (λ i. i < 256) → q ≤ 256
seat_most zero h = omega arith
seat_most (suc i) h = omega arith

-- the edit found at the place of a number
pub found_named : (p : State) (n : ℕ) {place : Option ℕ} {o : Option EditRecord} → place ≡ seat (position_of (end_in p.head) (kept_in p.head) n) → IfSome place (λ i. i < 256)
    → o ≡ found_at p.edits place → looked o ≡ named_in (spread p) n
found_named p n at few is =
    let q = position_of (end_in p.head) (kept_in p.head) n in
    ap looked (is ∙ ap (found_at p.edits) at) ∙ looked_record q p.edits (seat_most q (rw at at few))

-- the fate of no edit
pub no_fate : (f : Fate) → f ≢ Unsent → false ≡ fate_is (fate_of f) (fate_of no_record.fate)
no_fate Unsent h = absurd (h refl)
no_fate Waiting h = refl
no_fate Accepted h = refl
no_fate Revoked h = refl

-- the edit at the place that a call names
pub named_at_place : (p : State) (n : ℤ) (i : ℕ) → seat (named_at p.head n) ≡ Some i → i < 256 → get_or p.edits i no_record ≡ named_in (spread p) (natural n)
named_at_place p n i at few = (λ j. get_or p.edits (sym (slot_suc i few) j) no_record) ∙ sym (rw (seat_some (named_at p.head n) i at, eqb-suc-zero i))
