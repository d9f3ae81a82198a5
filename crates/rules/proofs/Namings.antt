-- Laws of the index, as it is made and as it is read. Assumes nothing.
use Prim.Native.Nat.{ℕ, zero, suc, ◌+◌, ◌-◌, ◌<◌, ◌≤◌}
use native.Mathlib.Omega.{arith}
use mathlib.Core.Bool.{Bool, true, false, cond, and-false}
use mathlib.Core.Path.{◌≡◌, refl, sym, ap, ap₂, ◌∙◌}
use mathlib.Core.Logic.{◌≢◌}
use mathlib.Core.List.{List, [], ◌∷◌, map, reverse}
use borrow.Author.Tests.{eqb-true, eqb-false, ne_eqb, leb-true, le-leb}
use lib.Dec.{eqb, ltb, leb}
use lib.IntN.{ℤ, pos, ◌+ℤ◌}
use lib.ListN.{length, get_or, take}
use lib.Seq.{take_all}
use lib.Signed.{lt_z}
use Rattle.std.specs.Prelude.{Option, Some, None, is_some}
use Rattle.protocol.specs.Lists.{one_to, snoc, passing, first_not}
use Rattle.protocol.specs.Plan.{Rule, value, rule_holds}
use Rattle.protocol.specs.Broken.{rule_at, last_first, first_broken}
use Rattle.protocol.proofs.Laws.{cases, range, both, yes_is, is_yes}
use Rattle.rows.specs.Rows.{span}
use Rattle.rows.proofs.Spans.{span-snoc, reverse_snoc}
use Rattle.rules.specs.Rules.{with_value, pair_holds, names_pair, names_at, due_at, is_due, plain_rules, numbers_in, tested_in, firm_in}
use Rattle.rules.proofs.Rules.{value_in_lem, value_past, value_out, with_other, pair_at, due_at_lem}
use Rattle.rules.specs.declared.Other.TheVariants.{Above, Below}
use Rattle.rules.specs.declared.Naming.{Naming}
use Rattle.rules.specs.declared.Index.{Index}
use Rattle.rules.specs.Index.{place_of, other_of, other_at, naming_of, namings_of, naming_holds, number_of, side_holds, naming_at, first_at, last_at, namings_in, flag_in, Indexed, IndexedIfSome, listed_as, indexed_in, tested_with, firm_with}

-- ---- what passes a test

module _ {A : Type 0} where
  pub passing-same : (p q : A → Bool) (xs : List A) → ((x : A) → p x ≡ q x) → passing p xs ≡ passing q xs
  passing-same p q [] h = refl
  passing-same p q (x ∷ xs) h = ap₂ {C = List A} (λ b ys. cond b (x ∷ ys) ys) (h x) (passing-same p q xs h)

  pub passing_yes : (p : A → Bool) (xs : List A) (x : A) → p x ≡ true → passing p (snoc xs x) ≡ snoc (passing p xs) x
  passing_yes p [] x e = rw e
  passing_yes p (y ∷ ys) x e = cases (p y) (λ t. rw t (ap {B = List A} (λ zs. y ∷ zs) (passing_yes p ys x e))) (λ t. rw t (passing_yes p ys x e))

  pub passing-no : (p : A → Bool) (xs : List A) (x : A) → p x ≡ false → passing p (snoc xs x) ≡ passing p xs
  passing-no p [] x e = rw e
  passing-no p (y ∷ ys) x e = cases (p y) (λ t. rw t (ap {B = List A} (λ zs. y ∷ zs) (passing-no p ys x e))) (λ t. rw t (passing-no p ys x e))

  pub none-passing : (xs : List A) → passing (λ x. false) xs ≡ []
  none-passing [] = refl
  none-passing (x ∷ xs) = none-passing xs

module _ {A B : Type 0} (f : A → B) where
  pub map_snoc : (xs : List A) (x : A) → map f (snoc xs x) ≡ snoc (map f xs) (f x)
  map_snoc [] x = refl
  map_snoc (y ∷ ys) x = ap {B = List B} (λ zs. f y ∷ zs) (map_snoc ys x)

-- ---- a rule at a measure that it names

module _ (a b m : ℕ) where
  pub names-upper : a ≢ m → names_pair a b m ≡ eqb b m
  unfolding names_pair
  names-upper ne = rw (ne_eqb _ _ ne)

-- the value at a place of a row, and past it
module _ (vs : List ℤ) (y : ℤ) (p : ℕ) where
  pub near_is : length vs ≤ 32 → p < length vs → get_or vs p (pos 0) ≡ other_at (value vs) y p
  near_is l h =
      let e : p ≡ p + 1 - 1 = omega arith in
      rw (ne_eqb p 33 (λ z. omega arith)) (ap (λ j. get_or vs j (pos 0)) e ∙ sym (value_in_lem vs (p + 1) (omega arith)))

  pub far_is : length vs ≤ p → cond (eqb p 33) y (pos 0) ≡ other_at (value vs) y p
  far_is h = ap (λ v. cond (eqb p 33) y v) (value_past vs (p + 1) (omega arith) (omega arith))

-- a row where measure m counts as x
module _ (m : ℕ) (x : ℤ) (vs : List ℤ) (l : length vs ≤ 32) where
  abbrev own : ℤ
  own = value (with_value m x vs) m

  -- the value of any measure, by its place
  other-is : (k : ℕ) → other_at (value vs) own (place_of m k) ≡ value (with_value m x vs) k
  other-is k = cases (eqb k m)
      (λ t. rw t (ap (value (with_value m x vs)) (sym (eqb-true k m t))))
      (λ t. let as_before = with_other m x vs k (eqb-false k m t) in cases (one_to 32 k)
      (λ u. let r = range 32 k (is_yes u) in let e : k - 1 + 1 ≡ k = omega (arith, r.0) in rw (t, u, ne_eqb (k - 1) 33 (λ z. omega (arith, r.1))) (ap (value vs) e ∙ as_before))
      (λ u. rw (t, u) (value_out 32 vs 33 l refl ∙ sym (value_out 32 vs k l u) ∙ as_before)))

  -- a rule that names the measure is taken for what it is
  side-is : (a b : ℕ) (g : ℤ) → names_pair a b m ≡ true → side_holds (value vs) own (other_of m a b) g ≡ pair_holds (value (with_value m x vs)) a g b
  unfolding pair_holds
  side-is a b g h = cases (eqb a m)
      (λ t. ap (λ c. side_holds (value vs) own (cond c (Above (place_of m b)) (Below (place_of m a))) g) t ∙ ap₂ (λ u v. lt_z (u +ℤ g) v) (ap (value (with_value m x vs)) (sym (eqb-true a m t)))
      (other-is b))
      (λ t. ap (λ c. side_holds (value vs) own (cond c (Above (place_of m b)) (Below (place_of m a))) g) t
      ∙ ap₂ (λ u v. lt_z (u +ℤ g) v) (other-is a) (ap (value (with_value m x vs)) (sym (eqb-true b m (sym (names-upper a b m (eqb-false a m t)) ∙ h)))))

-- ---- the tests

listed-is : (m : ℕ) → m ≤ 32 → listed_as m ≡ m
listed-is m q = rw (le-leb m 32 q)

module _ (lower : List ℕ) (gap : List ℤ) (upper : List ℕ) (n : ℕ) where
  abbrev rules : List Rule
  rules = plain_rules lower gap upper n

  module _ (m : ℕ) (x : ℤ) (vs : List ℤ) (l : length vs ≤ 32) where
    abbrev test : Naming → Bool
    test = naming_holds (value vs) (value (with_value m x vs) m)

    abbrev due : List ℕ → List ℕ
    due ks = passing (λ k. is_due m (rule_at rules k)) ks

    -- The namings of a measure among the first rules, walked from their end, give what the rules that are due give.
    namings-walk : (j : ℕ) → j ≤ n → first_not test number_of (reverse (map (naming_of lower gap upper m) (passing (due_at lower upper m) (span 0 j (λ i. i))))) ≡ first_broken rules (with_value m x vs)
        (due (last_first j))
    unfolding first_broken
    namings-walk zero h = refl
    namings-walk (suc j) h =
        let g = naming_of lower gap upper m in
        let rest = namings-walk j (omega arith) in
        let e : 0 + j ≡ j = omega arith in
        let upto : span 0 (suc j) (λ i. i) ≡ snoc (span 0 j (λ i. i)) j = span-snoc 0 j (λ i. i) ∙ ap (snoc (span 0 j (λ i. i))) e in
        let is-due = due_at_lem lower gap upper n j (omega arith) m in
        cases (due_at lower upper m j)
        (λ t.
        let head = ap (λ xs. reverse (map g xs)) (ap (passing (due_at lower upper m)) upto ∙ passing_yes (due_at lower upper m) (span 0 j (λ i. i)) j t)
        ∙ ap reverse (map_snoc g (passing (due_at lower upper m) (span 0 j (λ i. i))) j) ∙ reverse_snoc (map g (passing (due_at lower upper m) (span 0 j (λ i. i)))) (g j) in
        rw (head, is-due ∙ t) (ap₂ (λ b r. cond b r (suc j)) (same j t (omega arith)) rest))
        (λ t. rw (ap (passing (due_at lower upper m)) upto ∙ passing-no (due_at lower upper m) (span 0 j (λ i. i)) j t, is-due ∙ t) rest)
      where
        -- a rule that names the measure is taken for what it is
        same : (j : ℕ) → due_at lower upper m j ≡ true → j < n → test (naming_of lower gap upper m j) ≡ rule_holds (with_value m x vs) (rule_at rules (suc j))
        same j t h = side-is m x vs l (get_or lower j 0) (get_or upper j 0) (get_or gap j (pos 0)) (yes_is _ (both (one_to 32 m) (names_at lower upper m j) (is_yes t)).1)
            ∙ sym (pair_at lower gap upper n j h [] (with_value m x vs))

  -- With the rules' own index those that are due are tested, and no others.
  indexed-is : (index : Index) (firm : List Bool) (m : ℕ) (x : ℤ) (vs : List ℤ) → length vs ≤ 32 → Indexed index lower gap upper firm n → indexed_in index m x vs ≡ tested_in true m lower gap upper n
      x vs
  unfolding indexed_in tested_in numbers_in namings_of first_broken is_due
  indexed-is index firm m x vs l w = cases (leb m 32)
      (λ t. let q = leb-true m 32 t in ap (λ k. first_not (test m x vs l) number_of (reverse (namings_in index k))) (listed-is m q)
      ∙ ap (λ ks. first_not (test m x vs l) number_of (reverse ks)) (w.named m q) ∙ namings-walk m x vs l n (omega arith))
      (λ t. ap (λ b. first_not (test m x vs l) number_of (reverse (namings_in index (cond b m 0)))) t
      ∙ ap (λ ks. first_not (test m x vs l) number_of (reverse ks)) (w.named 0 (omega arith) ∙ none) ∙ sym (none-due t))
    where
      none : namings_of lower gap upper n 0 ≡ []
      none = ap (map (naming_of lower gap upper 0)) (none-passing (span 0 n (λ i. i)))

      none-due : leb m 32 ≡ false → first_broken rules (with_value m x vs) (passing (λ k. is_due m (rule_at rules k)) (last_first n)) ≡ 0
      none-due t = rw (t, and-false (ltb 0 m), none-passing (last_first n))

pub tested_indexed : (asked : Option Index) (m : ℕ) (lower : List ℕ) (gap : List ℤ) (upper : List ℕ) (firm : List Bool) (n : ℕ) (x : ℤ) (vs : List ℤ) → length vs ≤ 32
    → IndexedIfSome asked lower gap upper firm n → tested_with asked m lower gap upper n x vs ≡ tested_in (is_some asked) m lower gap upper n x vs
unfolding tested_with
tested_indexed (Some index) m lower gap upper firm n x vs l w = indexed-is lower gap upper n index firm m x vs l (w index refl)
tested_indexed None m lower gap upper firm n x vs l w = refl

-- asking an index, and testing all rules where none is asked
module _ (m : ℕ) (lower : List ℕ) (gap : List ℤ) (upper : List ℕ) (n : ℕ) {x x' : ℤ} {vs vs' : List ℤ} (x-is : x' ≡ x) (vs-is : vs' ≡ vs) where
  pub asked_index : (index : Index) → length vs ≤ 32 → indexed_in index m x' (take 32 vs') ≡ tested_with (Some index) m lower gap upper n x vs
  unfolding tested_with
  asked_index index l = (λ j. indexed_in index m (x-is j) (take 32 (vs-is j))) ∙ ap (indexed_in index m x) (take_all 32 vs l)

  pub asked-none : tested_in false m lower gap upper n x' vs' ≡ tested_with None m lower gap upper n x vs
  unfolding tested_with
  asked-none = λ j. tested_in false m lower gap upper n (x-is j) (vs-is j)

-- and of the 32 measures it says whether a firm rule names them
pub firm-indexed : (asked : Option Index) (lower : List ℕ) (gap : List ℤ) (upper : List ℕ) (firm : List Bool) (n m : ℕ) → 0 < m → m ≤ 32
    → IndexedIfSome asked lower gap upper firm n → firm_with asked lower upper firm n m ≡ firm_in lower upper firm n m
unfolding firm_with
firm-indexed (Some index) lower gap upper firm n m p q w = ap (flag_in index) (listed-is m q) ∙ (w index refl).firmly m p q
firm-indexed None lower gap upper firm n m p q w = refl

-- ---- a walk along the namings of a measure, from their end

-- what the code begins with
pub reading_begin : (index : Index) (m : ℕ) (x : ℤ) (vs : List ℤ) (p first last left : ℕ) → p ≡ listed_as m → first ≡ first_at index p → last ≡ last_at index p → left ≡ last - first
    → indexed_in index m x vs ≡ first_not (naming_holds (value vs) (value (with_value m x vs) m)) number_of (reverse (span first left (naming_at index.namings)))
unfolding indexed_in namings_in
reading_begin index m x vs p first last left p-is first-is last-is left_is =
    let a = first-is ∙ ap (first_at index) p-is in
    let b = last-is ∙ ap (last_at index) p-is in
    let n = left_is ∙ (λ j. b j - a j) in
    sym (λ j. first_not (naming_holds (value vs) (value (with_value m x vs) m)) number_of (reverse (span (a j) (n j) (naming_at index.namings))))
