-- A chain followed by the program is the definition's walk. Assumes nothing.
use Prim.Native.Nat.{ℕ, zero, suc, ◌+◌, ◌-◌, ◌%◌, ◌<◌, ◌≤◌}
use native.Mathlib.Omega.{arith}
use mathlib.Core.Path.{◌≡◌, refl, sym, ap, ap₂, subst, ◌∙◌}
use mathlib.Core.Bool.{Bool, true, false, cond}
use mathlib.Core.Logic.{◌≢◌}
use mathlib.Core.List.{List, ◌∷◌}
use borrow.Author.Tests.{lt-ltb, le-ltb, eq-eqb, ne_eqb}
use lib.Dec.{eqb, eqb→eq}
use lib.ListN.{length, get_or, set, length-set}
use Rattle.protocol.proofs.Laws.{cases, is_yes}
use Rattle.rows.proofs.Spans.{get_d_set, get_or-other}
use Rattle.file.specs.Loaded.{slot_in, slots, next_in, elem}
use Rattle.file.specs.Walked.{Walked, stopped, ended, good, walk}
use Rattle.slots.specs.declared.Kind.{Kind}
use Rattle.slots.specs.declared.Kind.TheVariants.{Measure, Rule}
use Rattle.slots.specs.declared.Slot.{Slot}
use Rattle.slots.specs.Words.{words_of, words_in, Parted}
use Rattle.slots.specs.Parts.{kind_number, fits_kind}
use Rattle.std.proofs.Common.{None, Some}
use Rattle.slots.proofs.Parts.{next_part, measure-fits, rule_fits, slot_whole}
use Rattle.load.specs.Walking.{as_kind, Marks, WalkedAs, Walking}

-- the test of a slot, by its words
tested_as : (kind : Kind) (s : List ℕ) → length s ≡ 16 → Parted s → as_kind kind s ≡ fits_kind (kind_number kind) (words_of s)
tested_as Measure s l p = measure-fits s l p
tested_as Rule s l p = rule_fits s l p (kind_number Rule) refl

module _ (f : List ℕ) (kind : Kind) (start met : ℕ) where
  -- where a walk stands: the slots met, and the walk that is left
  pub record Standing (ks₀ : List ℕ) (seen : List Bool) (k i : ℕ) : Type 0 where
    pub slots-met : List ℕ
    pub marks : Marks seen slots-met
    pub many : length slots-met ≡ met + i
    pub on : walk f (as_kind kind) (slots f - i) k slots-met ≡ walk f (as_kind kind) (slots f) start ks₀

  -- the invariant of the loop, from the marks that were lent
  abbrev pub Walks : List Bool → List Bool → ℕ → ℕ → Type 0
  Walks seen₀ seen k i = (i ≤ slots f) × ((ks₀ : List ℕ) → Marks seen₀ ks₀ → met ≡ length ks₀ → Standing ks₀ seen k i)

  -- a slot that the definition's walk stops at
  stops : (seen₀ seen : List Bool) (k i : ℕ) → Walks seen₀ seen k i → ((ks : List ℕ) → Marks seen ks → walk f (as_kind kind) (slots f - i) k ks ≡ stopped) → (seen' : List Bool)
      → Walking f kind start met seen₀ None seen'
  stops seen₀ seen k i w h seen' ks m e =
      let s = w.1 ks m e in
      subst (λ (x : Walked). WalkedAs x None seen') s.on (subst (λ (x : Walked). WalkedAs x None seen') (sym (h s.slots-met s.marks)) refl)

  -- one more step, where there is one
  one_more : (k i : ℕ) (ks : List ℕ) → k ≢ 0 → i < slots f → (b : Bool) → good f (as_kind kind) k ks ≡ b
      → walk f (as_kind kind) (slots f - i) k ks ≡ cond b (walk f (as_kind kind) (slots f - suc i) (next_in (slot_in f k)) (k ∷ ks)) stopped
  one_more k i ks ne h b e =
      let n : slots f - i ≡ suc (slots f - suc i) = omega arith in
      rw (n, ne_eqb k 0 ne, e)

  module _ (seen₀ seen : List Bool) (k i : ℕ) (w : Walks seen₀ seen k i) (ne : k ≢ 0) (seen' : List Bool) where
    -- it leaves the file
    pub stop-outside : i < slots f → slots f ≤ k → Walking f kind start met seen₀ None seen'
    stop-outside h o = stops seen₀ seen k i w (λ ks m. one_more k i ks ne h false (rw (le-ltb k (slots f) o))) seen'

    -- it meets a slot again
    pub stop_again : i < slots f → k < slots f → slots f ≤ 97 → get_or seen k false ≡ true → Walking f kind start met seen₀ None seen'
    stop_again h o l t = stops seen₀ seen k i w
        (λ ks m. one_more k i ks ne h false (rw (lt-ltb k (slots f) o, sym (m.marks k (omega arith)) ∙ t))) seen'

    module _ (h : i < slots f) (o : k < slots f) (l : slots f ≤ 97) (fresh : get_or seen k false ≡ false) (x : Slot) (x-is : x ≡ words_in f k) (p : Parted (slot_in f k)) where
      words-is : x ≡ words_of (slot_in f k)
      words-is = x-is ∙ rw (lt-ltb k (slots f) o)

      tested : as_kind kind (slot_in f k) ≡ fits_kind (kind_number kind) x
      tested = tested_as kind (slot_in f k) (slot_whole f k o) p ∙ ap (fits_kind (kind_number kind)) (sym words-is)

      -- it meets one that is not as it must be
      pub stop_unfit : fits_kind (kind_number kind) x ≡ false → Walking f kind start met seen₀ None seen'
      stop_unfit t = stops seen₀ seen k i w
          (λ ks m. one_more k i ks ne h false (rw (lt-ltb k (slots f) o, sym (m.marks k (omega arith)) ∙ fresh, tested ∙ t))) seen'

      -- it goes on
      pub walks_on : fits_kind (kind_number kind) x ≡ true → (next : ℕ) → next ≡ x.first % 65_536 → Walks seen₀ (set seen k true) next (i + 1)
      walks_on t next e = (
        omega arith,
        λ ks m c.
            let s = w.1 ks m c in
            let met-now = s.slots-met in
            let marked = s.marks.marks k (omega arith) in
            let step = one_more k i met-now ne h true (rw (lt-ltb k (slots f) o, sym marked ∙ fresh, tested ∙ t)) in
            let to : next ≡ next_in (slot_in f k) = e ∙ ap (λ (y : Slot). y.first % 65_536) words-is ∙ sym (next_part (slot_in f k) p) in
            let n : slots f - (i + 1) ≡ slots f - suc i = omega arith in
            record {
              slots-met = k ∷ met-now;
              marks = record { long = length-set seen k true ∙ s.marks.long; marks = λ j b. also j b met-now s.marks.long (s.marks.marks j b) };
              many = let l = s.many in omega arith;
              on = ap₂ (λ a b. walk f (as_kind kind) a b (k ∷ met-now)) n to ∙ sym step ∙ s.on;
            },
      )
        where
          also : (j : ℕ) → j < 97 → (ks : List ℕ) → length seen ≡ 97 → get_or seen j false ≡ elem j ks → get_or (set seen k true) j false ≡ elem j (k ∷ ks)
          also j b ks l m = cases (eqb j k)
              (λ q. let x = eqb→eq j k (is_yes q) in rw q (ap (λ n. get_or (set seen k true) n false) x ∙ get_d_set seen k true false (omega arith)))
              (λ q. rw q (get_or-other seen k j true false (λ z. absurd (is_yes (sym q ∙ eq-eqb j k z))) ∙ m))

-- a chain that ended
pub walks_ended : (f : List ℕ) (kind : Kind) (start met : ℕ) (seen₀ seen : List Bool) (k i : ℕ) → Walks f kind start met seen₀ seen k i → k ≡ 0 → Walking f kind start met seen₀ (Some (met + i)) seen
walks_ended f kind start met seen₀ seen k i w z ks m c =
    let s = w.1 ks m c in
    let over : walk f (as_kind kind) (slots f - i) k s.slots-met ≡ ended s.slots-met = ap (λ n. walk f (as_kind kind) (slots f - i) n s.slots-met) z ∙ none_left (slots f - i) s.slots-met in
    let many : met + i ≡ length s.slots-met = let l = s.many in omega (arith, l) in
    subst (λ (x : Walked). WalkedAs x (Some (met + i)) seen) s.on (subst (λ (x : Walked). WalkedAs x (Some (met + i)) seen) (sym over) (ap Some many, s.marks))
  where
    none_left : (n : ℕ) (ks : List ℕ) → walk f (as_kind kind) n 0 ks ≡ ended ks
    none_left zero ks = refl
    none_left (suc n) ks = refl
