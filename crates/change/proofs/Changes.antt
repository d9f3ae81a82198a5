-- Laws of a change: what is made of a kind number and a constant, and the range of what it makes. Assumes nothing.
use Prim.Native.Nat.{ℕ}
use mathlib.Core.Bool.{Bool, true, false, cond}
use mathlib.Core.Path.{◌≡◌, refl}
use lib.Dec.{eqb}
use lib.IntN.{ℤ}
use Rattle.std.specs.Prelude.{Option, Some, None}
use Rattle.protocol.specs.Plan.{in_range, is_factor, kind_of, allowed}
use Rattle.protocol.specs.Plan as model
use Rattle.protocol.proofs.Laws.{cases}
use Rattle.change.specs.declared.Change.{Change}
use Rattle.change.specs.declared.Change.TheVariants.{Set, Add, Multiply, Divide}
use Rattle.change.specs.Change.{view_change, made_if, made_of, ranged_of}

-- what was made, against the protocol's change
abbrev pub Fitting : Option Change → model.Change → Type 0
Fitting (Some c) ch = (allowed ch ≡ true) × (view_change c ≡ ch)
Fitting None ch = allowed ch ≡ false

made_if_lem : (b : Bool) (c : Change) (ch : model.Change) → allowed ch ≡ b → view_change c ≡ ch → Fitting (made_if b c) ch
made_if_lem true c ch a e = (a, e)
made_if_lem false c ch a e = a

pub made-fits : (n : ℕ) (k : ℤ) → Fitting (made_of n k) (record { kind = kind_of n; constant = k })
unfolding made_of kind_of allowed
made-fits n k =
    cases (eqb n 1)
    (λ e. rw e (made_if_lem (in_range k) (Set k) _ refl refl))
    (λ e. rw e (cases (eqb n 2)
    (λ f. rw f (made_if_lem (in_range k) (Add k) _ refl refl))
    (λ f. rw f (cases (eqb n 3)
    (λ g. rw g (made_if_lem (is_factor k) (Multiply k) _ refl refl))
    (λ g. rw g (cases (eqb n 4) (λ h. rw h (made_if_lem (is_factor k) (Divide k) _ refl refl)) (λ h. rw h)))))))

pub ranged_out : (y : ℤ) → None ≡ ranged_of y → in_range y ≡ false
unfolding ranged_of
ranged_out y e = by (in_range y) e
  where
    by : (b : Bool) → None ≡ cond b (Some y) None → b ≡ false
    by true e = cc
    by false e = refl

pub ranged_in : (y x : ℤ) → Some x ≡ ranged_of y → (in_range y ≡ true) × (x ≡ y)
unfolding ranged_of
ranged_in y x e = by (in_range y) e
  where
    by : (b : Bool) → Some x ≡ cond b (Some y) None → (b ≡ true) × (x ≡ y)
    by true e = (refl, cc)
    by false e = (cc, cc)
