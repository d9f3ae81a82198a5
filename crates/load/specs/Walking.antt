-- Scaffolding: a chain followed by the program, with the slots met marked in an array. Assumes nothing.
use Rattle.std.specs.Prelude.{ℕ, ◌<◌, ◌≡◌, Bool, false, List, length, get_or, Option, None, Some}
use Rattle.file.specs.Loaded.{slots, elem}
use Rattle.file.specs.Walked.{Walked, stopped, ended, walk, as_measure, as_rule}
use Rattle.slots.specs.declared.Kind.{Kind}
use Rattle.slots.specs.declared.Kind.TheVariants.{Measure, Rule}

-- the test of a slot of a kind
abbrev pub as_kind : Kind → List ℕ → Bool
as_kind Measure s = as_measure s
as_kind Rule s = as_rule s

-- the marks are those of the slots met
pub record Marks (seen : List Bool) (ks : List ℕ) : Type 0 where
  pub long : length seen ≡ 97
  pub marks : (s : ℕ) → s < 97 → get_or seen s false ≡ elem s ks

-- none for a walk that stopped, else how many slots were met, which are marked
abbrev pub WalkedAs : Walked → Option ℕ → List Bool → Type 0
WalkedAs stopped r seen = r ≡ None
WalkedAs (ended ks) r seen = (r ≡ Some (length ks)) × Marks seen ks

abbrev pub Walking : List ℕ → Kind → ℕ → ℕ → List Bool → Option ℕ → List Bool → Type 0
Walking f kind start met seen r seen' = (ks : List ℕ) → Marks seen ks → met ≡ length ks → WalkedAs (walk f (as_kind kind) (slots f) start ks) r seen'
