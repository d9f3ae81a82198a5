-- Laws of the rules' test (02, S-3): what a walk over any list of rules gives, in any order; and that last drawn first it is the highest number. Assumes nothing.
use Prim.Native.Nat.{ℕ, zero, suc, ◌-◌, ◌<◌, ◌≤◌}
use native.Mathlib.Omega.{arith}
use mathlib.Core.Bool.{Bool, true, false, not, cond, ◌||◌}
use mathlib.Core.List.{List, [], ◌∷◌}
use mathlib.Core.Path.{◌≡◌, refl, sym, ap, subst, ◌∙◌}
use lib.Dec.{T, eqb, eqb→eq}
use lib.IntN.{ℤ, pos}
use lib.ListN.{length}
use borrow.Author.Tests.{ne_eqb}
use Rattle.protocol.specs.Lists.{is_none, one_to, all, any, modify, passing, first_not}
use Rattle.protocol.specs.Plan.{Rule, value, rule_holds, holds, names}
use Rattle.protocol.specs.Broken.{absent_rule, rule_at, last_first, first_broken, broken_rule, HighestBroken}
use Rattle.protocol.proofs.Laws.{cases, decide, is-no, yes_is, no-is, both, and_in, or_left, or_right, which, neither, same-no, range, in_range_lem, all-nth, nth-all, all_then, nth-other}

-- ---- a walk over any list, in any order

module _ {A : Type 0} (p : A → Bool) (number : A → ℕ) where
  -- It gives 0 exactly if all pass, where no number is 0.
  pub first-none : (xs : List A) → T (all (λ x. not (is_none (number x))) xs) → is_none (first_not p number xs) ≡ all p xs
  first-none [] h = refl
  first-none (x ∷ xs) h =
      let b = both (not (is_none (number x))) (all (λ y. not (is_none (number y))) xs) h in
      cases (p x) (λ t. rw t (first-none xs b.1)) (λ t. rw t (no-is _ b.0))

  -- What passes need not be looked at: the others give the same number.
  pub first-passing : (due : A → Bool) (xs : List A) → T (all (λ x. due x || p x) xs) → first_not p number (passing due xs) ≡ first_not p number xs
  first-passing due [] h = refl
  first-passing due (x ∷ xs) h =
      let b = both (due x || p x) (all (λ y. due y || p y) xs) h in
      let rest = first-passing due xs b.1 in
      cases (due x)
      (λ t. rw t (ap (λ k. cond (p x) k (number x)) rest))
      (λ t. rw (t, yes_is (p x) (rw t at b.0)) rest)

-- A step of a walk: the number for the whole list is that for what is left.
module _ {A : Type 0} (p : A → Bool) (number : A → ℕ) {whole : ℕ} {x : A} {left rest : List A} (w : whole ≡ first_not p number left) (next : left ≡ x ∷ rest) where
  pub walk-next : p x ≡ true → whole ≡ first_not p number rest
  walk-next e = w ∙ ap (first_not p number) next ∙ ap (λ b. cond b (first_not p number rest) (number x)) e

  pub walk-stop : p x ≡ false → number x ≡ whole
  walk-stop e = sym (w ∙ ap (first_not p number) next ∙ ap (λ b. cond b (first_not p number rest) (number x)) e)

-- of numbers: what it gives is one of them and fails, unless it is 0
first_fails : (p q : ℕ → Bool) (ks : List ℕ) → T (all q ks) → 0 < first_not p (λ k. k) ks → T (q (first_not p (λ k. k) ks)) × (p (first_not p (λ k. k) ks) ≡ false)
first_fails p q [] h i = absurd (omega arith)
first_fails p q (k ∷ ks) h i =
    let b = both (q k) (all q ks) h in
    let rest = first_fails p q ks b.1 in
    cases (p k) (λ t. rw t (rest (rw t at i))) (λ t. rw t (b.0, t))

-- ---- rules, in any order

-- the numbers of n rules, every one of them and no others
pub record Order (n : ℕ) (ks : List ℕ) : Type 0 where
  pub numbers : T (all (one_to n) ks)
  pub each : (j : ℕ) → 0 < j → j ≤ n → T (any (eqb j) ks)

-- what is asked of all is asked of each
any-all : (p : ℕ → Bool) (j : ℕ) (ks : List ℕ) → T (all p ks) → T (any (eqb j) ks) → T (p j)
any-all p j [] h t = absurd t
any-all p j (k ∷ ks) h t =
    let b = both (p k) (all p ks) h in
    which (eqb j k) (any (eqb j) ks) t (λ e. subst (λ x. T (p x)) (sym (eqb→eq j k e)) b.0) (λ e. any-all p j ks b.1 e)

module _ (rs : List Rule) (vs : List ℤ) (ks : List ℕ) (o : Order (length rs) ks) where
  abbrev test : ℕ → Bool
  test k = rule_holds vs (rule_at rs k)

  -- all rules hold where those of the list do
  order_held : T (holds rs vs) → T (all test ks)
  unfolding holds
  order_held h = all_then (one_to (length rs)) test ks (λ k t. let r = range (length rs) k t in all-nth (rule_holds vs) absent_rule rs k h r.0 r.1) o.numbers

  order_holds : T (all test ks) → T (holds rs vs)
  unfolding holds
  order_holds h = nth-all (rule_holds vs) absent_rule rs (λ j i l. any-all test j ks h (o.each j i l))

  -- Whatever the order: the walk gives 0 exactly if every rule holds,
  pub order_none : is_none (first_broken rs vs ks) ≡ holds rs vs
  unfolding first_broken
  order_none = first-none test (λ k. k) ks (all_then (one_to (length rs)) (λ k. not (is_none k)) ks (λ k t. counted k (range (length rs) k t).0) o.numbers)
      ∙ same (all test ks) (holds rs vs) order_holds order_held
    where
      counted : (k : ℕ) → 0 < k → T (not (is_none k))
      counted k h = is-no (ne_eqb k 0 (λ e. omega arith))

      same : (a b : Bool) → (T a → T b) → (T b → T a) → a ≡ b
      same true b f g = sym (yes_is b (f tt))
      same false true f g = absurd (g tt)
      same false false f g = refl

  -- and else the number of a broken rule.
  pub order_broken : 0 < first_broken rs vs ks → (first_broken rs vs ks ≤ length rs) × (rule_holds vs (rule_at rs (first_broken rs vs ks)) ≡ false)
  unfolding first_broken
  order_broken h = let f = first_fails test (one_to (length rs)) ks o.numbers h in ((range (length rs) _ f.0).1, f.1)

  -- Where every rule held, it is enough to test those that may have changed, in the same order: the number is the same.
  pub order_due : (ws : List ℤ) (due : Rule → Bool) → T (holds rs vs) → ((r : Rule) → due r ≡ false → rule_holds ws r ≡ rule_holds vs r)
      → first_broken rs ws (passing (λ k. due (rule_at rs k)) ks) ≡ first_broken rs ws ks
  unfolding first_broken
  order_due ws due h same = first-passing (λ k. rule_holds ws (rule_at rs k)) (λ k. k) (λ k. due (rule_at rs k)) ks (all_then test _ ks spared (order_held h))
    where
      spared : (k : ℕ) → T (rule_holds vs (rule_at rs k)) → T (due (rule_at rs k) || rule_holds ws (rule_at rs k))
      spared k t = cases (due (rule_at rs k)) (λ d. rw d tt) (λ d. rw (d, same (rule_at rs k) d) t)

-- a rule that does not name the measure is as it was
pub names-frame : (m : ℕ) (f : ℤ → ℤ) (r : Rule) (vs : List ℤ) → names m r ≡ false → rule_holds (modify m f vs) r ≡ rule_holds vs r
unfolding rule_holds names value
names-frame m f r vs h =
    let n = neither (eqb r.lower m) (eqb r.upper m) (is-no h) in
    rw (nth-other (pos 0) f m vs r.lower (same-no r.lower m n.0), nth-other (pos 0) f m vs r.upper (same-no r.upper m n.1))

-- ---- last drawn first

pub last_first_order : (n : ℕ) → Order n (last_first n)
last_first_order n = record { numbers = numbers n n (omega arith); each = each n }
  where
    numbers : (n k : ℕ) → k ≤ n → T (all (one_to n) (last_first k))
    numbers n zero h = tt
    numbers n (suc k) h = and_in (one_to n (suc k)) _ (in_range_lem n (suc k) (omega arith) h) (numbers n k (omega arith))

    each : (n j : ℕ) → 0 < j → j ≤ n → T (any (eqb j) (last_first n))
    each zero j i l = absurd (omega arith)
    each (suc n) j i l = decide (eqb j (suc n))
        (λ t. or_left (eqb j (suc n)) (any (eqb j) (last_first n)) t)
        (λ t. let ne = same-no j (suc n) t in or_right (eqb j (suc n)) (any (eqb j) (last_first n)) (each n j i (omega arith)))

pub last_first-next : (n : ℕ) → 0 < n → last_first n ≡ n ∷ last_first (n - 1)
last_first-next zero h = absurd (omega arith)
last_first-next (suc n) h = let e : n ≡ suc n - 1 = omega arith in ap {B = List ℕ} (λ k. suc n ∷ last_first k) e

pub last_first-over : (n : ℕ) → n ≤ 0 → last_first n ≡ []
last_first-over n h = let e : n ≡ 0 = omega arith in ap last_first e

-- those above the first that fails pass
last_first_above : (p : ℕ → Bool) (n j : ℕ) → first_not p (λ k. k) (last_first n) < j → j ≤ n → p j ≡ true
last_first_above p zero j i l = absurd (omega arith)
last_first_above p (suc n) j i l = cases (p (suc n))
    (λ t. decide (eqb j (suc n))
    (λ e. ap p (eqb→eq j (suc n) e) ∙ t)
    (λ e. let ne = same-no j (suc n) e in last_first_above p n j (rw t at i) (omega arith)))
    (λ t. absurd (let h = rw t at i in omega arith))

-- The number that the test gives is the highest of a broken rule, or 0, and then none is broken (02, S-3).
pub highest-broken : (rs : List Rule) (vs : List ℤ) → HighestBroken rs vs (broken_rule rs vs)
unfolding broken_rule first_broken
highest-broken rs vs =
    let o = last_first_order (length rs) in
    record {
      none = order_none rs vs (last_first (length rs)) o;
      broken = order_broken rs vs (last_first (length rs)) o;
      highest = last_first_above (λ k. rule_holds vs (rule_at rs k)) (length rs);
    }
