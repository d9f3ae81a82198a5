-- Believed: the change of the protocol that a declared one stands for, and the answers of the functions on changes. Assumes nothing.
use Rattle.std.specs.Prelude.{ℕ, Bool, true, false, cond, eqb, ℤ, Option, Some, None}
use Rattle.protocol.specs.Plan as model
use Rattle.change.specs.declared.Change.{Change}
use Rattle.change.specs.declared.Change.TheVariants.{Set, Add, Multiply, Divide}

abbrev pub view_change : Change → model.Change
view_change (Set k) = record { kind = model.assign; constant = k }
view_change (Add k) = record { kind = model.add; constant = k }
view_change (Multiply k) = record { kind = model.multiply; constant = k }
view_change (Divide k) = record { kind = model.divide; constant = k }

abbrev pub made_if : Bool → Change → Option Change
made_if true c = Some c
made_if false c = None

-- set (1), add (2), multiply (3) or divide (4), with a constant that it takes
unfoldable pub made_of : ℕ → ℤ → Option Change
made_of n k =
    cond (eqb n 1) (made_if (model.in_range k) (Set k))
    (cond (eqb n 2) (made_if (model.in_range k) (Add k))
    (cond (eqb n 3) (made_if (model.is_factor k) (Multiply k))
    (cond (eqb n 4) (made_if (model.is_factor k) (Divide k)) None)))

unfoldable pub ranged_of : ℤ → Option ℤ
ranged_of x = cond (model.in_range x) (Some x) None
