-- What owning a state tells of its lists: that each number has at most 32 bits. Assumes nothing.
use Prim.Native.Nat.{ℕ, zero, suc, ◌<◌}
use native.Mathlib.Omega.{arith}
use mathlib.Core.List.{List, [], ◌∷◌}
use denote.Laws.{Is}
use denote.Array.{each}
use denote.Builtin.{i32}
use denote.Shadow.{shadow}
use denote.Struct.Declared as Declared
use denote.Struct.Laws.{val}
use lib.IntN.{ℤ, pos}
use lib.ListN.{get_or}
use lib.Signed.{mag}
use mir.Val.{Val}
use Rattle.records.specs.contracts.EditRecord.{the_row}
use Rattle.records.specs.declared.EditRecord.{EditRecord}
use Rattle.records.specs.Records.{no_record}
use Rattle.state.specs.declared.State.{State}
use Rattle.state.specs.contracts.State.{the_type}
use Rattle.state.proofs.State.TheLaws.{the_laws}

pub record Ranged (p : State) : Type 0 where
  pub next : p.head.next < 4294967296
  pub base : (i : ℕ) → mag (get_or p.base i (pos 0)) < 2147483648
  pub draft : (i : ℕ) → mag (get_or p.draft i (pos 0)) < 2147483648
  pub values : (i : ℕ) → mag (get_or p.values i (pos 0)) < 2147483648
  pub places : (i : ℕ) → (get_or p.edits i no_record).place < 4294967296

signed : (xs : List ℤ) (us : List Val) (i : ℕ) → shadow (each i32.Denot i32.own_val xs us) → mag (get_or xs i (pos 0)) < 2147483648
signed [] us i p = omega arith
signed (x ∷ xs) [] i p = absurd p
signed (x ∷ xs) (u ∷ us) zero p = p.0.1
signed (x ∷ xs) (u ∷ us) (suc i) p = signed xs us i p.1

placed : (es : List EditRecord) (us : List Val) (i : ℕ) → shadow (each the_row.Denot the_row.own_val es us) → (get_or es i no_record).place < 4294967296
placed [] us i p = omega arith
placed (e ∷ es) [] i p = absurd p
placed (e ∷ es) (u ∷ us) zero p = p.0.1.1.1.1.1.1.1.1.1.0.1
placed (e ∷ es) (u ∷ us) (suc i) p = placed es us i p.1

pub owned_ranged : (p : State) → Is (Declared.row the_type) p (val the_type the_laws p ∷ []) → Ranged p
owned_ranged p g =
    let fs = g.1.1 in
    record {
      next = fs.0.1.1.1.1.1.1.1.0.1;
      base = λ i. signed p.base _ i fs.1.0.1.1;
      draft = λ i. signed p.draft _ i fs.1.1.0.1.1;
      values = λ i. signed p.values _ i fs.1.1.1.0.1.1;
      places = λ i. placed p.edits _ i fs.1.1.1.1.1.1.1.0.1.1;
    }
