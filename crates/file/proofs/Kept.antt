-- What every call keeps, and another next number too, loading keeps. Assumes nothing.
use Prim.Native.Nat.{ℕ}
use mathlib.Core.Path.{◌≡◌, refl}
use mathlib.Core.List.{List, [], ◌∷◌}
use lib.Dec.{T}
use Rattle.protocol.specs.Lists.{one_to}
use Rattle.protocol.specs.Plan.{Plan}
use Rattle.protocol.specs.Calls.{Call, Verdict, fine, refused, first, following, end}
use Rattle.file.specs.Loaded.{next_limit, next_number, read_checks, drawing, first_refusal, load_verdict, renumbered, load_by, load}
use Rattle.file.proofs.Drawn.{both_fine}
use Rattle.file.proofs.Rising.{number_in}

module _ (P : Plan → Type 0) (by_call : (c : Call) (p : Plan) → P p → P (following p c)) where
  end_keeps : (cs : List Call) (p : Plan) → P p → P (end cs p)
  end_keeps [] p g = g
  end_keeps (c ∷ cs) p g = end_keeps cs (following p c) (by_call c p g)

  pub load_keeps : ((n : ℕ) (p : Plan) → T (one_to next_limit n) → P p → P (renumbered n p)) → (f : List ℕ) (p : Plan) → P p → P (load f p).plan
  unfolding load
  load_keeps by_number f p g = by (load_verdict f p) (λ e. number_in f p (both_fine (first (read_checks f p)) (first_refusal (drawing f) p) e).0)
    where
      by : (v : Verdict) → (v ≡ fine → T (one_to next_limit (next_number f))) → P (load_by v f p).plan
      by fine k = by_number (next_number f) (end (drawing f) p) (k refl) (end_keeps (drawing f) p g)
      by (refused k) e = g
