-- Laws of counting sides and their flags. Assumes nothing.
use Prim.Native.Nat.{ℕ, zero, suc, ◌+◌, ◌<◌, ◌≤◌}
use native.Mathlib.Omega.{arith}
use native.Mathlib.Numerals.{add-one}
use mathlib.Core.Bool.{Bool, false, not}
use mathlib.Core.Path.{◌≡◌, refl, sym, ap, ◌∙◌}
use mathlib.Core.List.{List}
use lib.ListN.{length, get_or, take}
use Rattle.std.specs.List.{count_by}
use Rattle.std.proofs.lemmas.List.Sums.{count_by_more_yes, count_by_more_no}
use Rattle.protocol.specs.Lists.{bit}
use Rattle.protocol.proofs.Laws.{cases}
use Rattle.heads.specs.Heads.{index_of, unset_in}

pub index_suc : (i : ℕ) → i < 8 → index_of (suc i) ≡ i
index_suc i h = omega arith

-- one flag more
count_more : (p : Bool → Bool) (flags : List Bool) (i : ℕ) → i < length flags → count_by p (take (suc i) flags) ≡ bit (p (get_or flags i false)) + count_by p (take i flags)
count_more p flags i h =
    ap (λ k. count_by p (take k flags)) (sym (add-one i))
    ∙ cases (p (get_or flags i false))
    (λ t. rw t (let y = count_by_more_yes p flags i false h t in omega (arith, y)))
    (λ t. rw t (let y = count_by_more_no p flags i false h t in omega (arith, y)))

-- the first n flags are those of sides 1 to n
pub unset_front : (flags : List Bool) (n : ℕ) → n ≤ 8 → n ≤ length flags → count_by not (take n flags) ≡ unset_in flags n
unset_front flags zero a b = refl
unset_front flags (suc i) a b =
    count_more not flags i (omega arith)
    ∙ ap (λ k. bit (not (get_or flags i false)) + k) (unset_front flags i (omega arith) (omega arith))
    ∙ ap (λ j. bit (not (get_or flags j false)) + unset_in flags i) (sym (index_suc i (omega arith)))
