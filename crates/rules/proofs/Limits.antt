-- The order of two numbers that both move, and what a gap is to be less than. Assumes nothing.
use Prim.Native.Nat.{ℕ, zero, suc, ◌≤◌}
use native.Mathlib.Omega.{arith}
use mathlib.Core.Bool.{cond}
use mathlib.Core.Path.{◌≡◌, refl, sym, ap, ap₂, ◌∙◌}
use lib.Dec.{eqb, leb-suc-suc}
use lib.IntN.{ℤ, pos, negsuc, suc_ℤ, pred_ℤ, neg_ℤ, ◌+ℤ◌, ◌-ℤ◌, suc-pred, +ℤ_idl, +ℤ_idr, +ℤ_comm, +ℤ-suc_ℤ, +ℤ-pred_ℤ, -ℤ-+ℤ_cancel}
use lib.Signed.{mag, lt_z}
use mir.Syntax.{w32, w64}
use mir.Val.{SFits}
use borrow.Author.Tests.{lt-ltb, le-ltb}
use Rattle.exact.proofs.Ints.{mag_add}
use Rattle.protocol.proofs.Laws.{cases}

lt_suc : (a b : ℤ) → lt_z (suc_ℤ a) (suc_ℤ b) ≡ lt_z a b
lt_suc (pos a) (pos b) = leb-suc-suc (suc a) b
lt_suc (pos a) (negsuc zero) = le-ltb (suc a) 0 (omega arith)
lt_suc (pos a) (negsuc (suc b)) = refl
lt_suc (negsuc zero) (pos b) = lt-ltb 0 (suc b) (omega arith)
lt_suc (negsuc zero) (negsuc zero) = refl
lt_suc (negsuc zero) (negsuc (suc b)) = sym (le-ltb (suc b) 0 (omega arith))
lt_suc (negsuc (suc a)) (pos b) = refl
lt_suc (negsuc (suc a)) (negsuc zero) = sym (lt-ltb 0 (suc a) (omega arith))
lt_suc (negsuc (suc a)) (negsuc (suc b)) = sym (leb-suc-suc (suc b) a)

lt_pred : (a b : ℤ) → lt_z (pred_ℤ a) (pred_ℤ b) ≡ lt_z a b
lt_pred a b = sym (lt_suc (pred_ℤ a) (pred_ℤ b)) ∙ ap₂ lt_z (suc-pred a) (suc-pred b)

lt_moved : (a b c : ℤ) → lt_z (a +ℤ c) (b +ℤ c) ≡ lt_z a b
lt_moved a b (pos zero) = ap₂ lt_z (+ℤ_idr a) (+ℤ_idr b)
lt_moved a b (pos (suc n)) = ap₂ lt_z (+ℤ-suc_ℤ a (pos n)) (+ℤ-suc_ℤ b (pos n)) ∙ lt_suc (a +ℤ pos n) (b +ℤ pos n) ∙ lt_moved a b (pos n)
lt_moved a b (negsuc zero) = ap₂ lt_z (+ℤ-pred_ℤ a (pos 0)) (+ℤ-pred_ℤ b (pos 0)) ∙ lt_pred (a +ℤ pos 0) (b +ℤ pos 0) ∙ ap₂ lt_z (+ℤ_idr a) (+ℤ_idr b)
lt_moved a b (negsuc (suc n)) = ap₂ lt_z (+ℤ-pred_ℤ a (negsuc n)) (+ℤ-pred_ℤ b (negsuc n)) ∙ lt_pred (a +ℤ negsuc n) (b +ℤ negsuc n) ∙ lt_moved a b (negsuc n)

-- a gap between a number and itself, and between a number and 0
own_gap : (y g : ℤ) → lt_z (y +ℤ g) y ≡ lt_z g (pos 0)
own_gap y g = ap₂ lt_z (+ℤ_comm y g) (sym (+ℤ_idl y)) ∙ lt_moved g (pos 0) y

gap-over : (y g : ℤ) → lt_z (pos 0 +ℤ g) y ≡ lt_z g y
gap-over y g = ap (λ z. lt_z z y) (+ℤ_idl g)

gap_under : (y g : ℤ) → lt_z (y +ℤ g) (pos 0) ≡ lt_z g (pos 0 -ℤ y)
gap_under y g = ap₂ lt_z (+ℤ_comm y g) (sym (-ℤ-+ℤ_cancel (pos 0) y)) ∙ lt_moved g (pos 0 -ℤ y) y

-- a rule whose other measure is none of the row, seen from its upper measure and from its lower one
module _ (p : ℕ) (y g : ℤ) where
  pub far_upper : lt_z g (cond (eqb p 33) (pos 0) y) ≡ lt_z (cond (eqb p 33) y (pos 0) +ℤ g) y
  far_upper = cases (eqb p 33) (λ t. rw t (sym (own_gap y g))) (λ t. rw t (sym (gap-over y g)))

  pub far_lower : lt_z g (cond (eqb p 33) (pos 0) (pos 0 -ℤ y)) ≡ lt_z (y +ℤ g) (cond (eqb p 33) y (pos 0))
  far_lower = cases (eqb p 33) (λ t. rw t (sym (own_gap y g))) (λ t. rw t (sym (gap_under y g)))

-- a number taken from 0
mag_neg : (y : ℤ) → mag (neg_ℤ y) ≤ suc (mag y)
mag_neg (pos zero) = omega arith
mag_neg (pos (suc n)) = omega arith
mag_neg (negsuc n) = omega arith

pub minus-fits : {y : ℤ} → SFits w32 y → SFits w64 (pos 0 -ℤ y)
minus-fits {y} f = record { sfits = omega (arith, mag_add (pos 0) (neg_ℤ y), mag_neg y, f.sfits) }
