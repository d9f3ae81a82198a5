-- Laws of tests, checks, counts and lists; nothing here knows the plan. Assumes nothing.
use Prim.Native.Nat.{ℕ, zero, suc, ◌+◌, ◌<◌, ◌≤◌}
use mathlib.Core.Path.{◌≡◌, refl, sym, ap, ap₂, subst}
use mathlib.Core.Logic.{◌⊎◌, inl, inr, ◌≢◌}
use mathlib.Core.Bool.{Bool, true, false, not, ◌&&◌, ◌||◌}
use mathlib.Core.List.{List, [], ◌∷◌, map}
use native.Mathlib.Omega.{arith}
use lib.ListN.{length}
use lib.Dec.{T, T_not, eqb, leb, ltb, leb→le, ltb→lt, le→leb, lt→ltb, eqb→eq, eqb_refl}
use Rattle.protocol.specs.Lists.{bit, is_none, one_to, count_to, count, all, snoc, nth, modify}
use Rattle.protocol.specs.Calls.{Verdict, fine, refused, Check, first}

pub decide {ℓ} : {X : Type ℓ} (b : Bool) → (T b → X) → (T (not b) → X) → X
decide true f g = f tt
decide false f g = g tt

-- the same, with the equation to rewrite by
pub cases {ℓ} : {X : Type ℓ} (b : Bool) → (b ≡ true → X) → (b ≡ false → X) → X
cases true f g = f refl
cases false f g = g refl

pub on : {A B X : Type 0} → A ⊎ B → (A → X) → (B → X) → X
on (inl a) f g = f a
on (inr b) f g = g b

pub yes_is : (b : Bool) → T b → b ≡ true
yes_is true t = refl
yes_is false t = absurd t

pub no-is : (b : Bool) → T (not b) → b ≡ false
no-is true t = absurd t
no-is false t = refl

pub is_yes : {b : Bool} → b ≡ true → T b
is_yes e = rw e tt

pub is-no : {b : Bool} → b ≡ false → T (not b)
is-no e = rw e tt

pub or_right : (a b : Bool) → T b → T (a || b)
or_right true b t = tt
or_right false b t = t

pub or_left : (a b : Bool) → T a → T (a || b)
or_left true b t = tt
or_left false b t = absurd t

pub not-not : (b : Bool) → T (not (not b)) → T b
not-not true t = tt
not-not false t = absurd t

pub both : (a b : Bool) → T (a && b) → T a × T b
both true b t = (tt, t)
both false b t = absurd t

pub and_in : (a b : Bool) → T a → T b → T (a && b)
and_in true b s t = t
and_in false b s t = absurd s

pub which {ℓ} : {X : Type ℓ} (a b : Bool) → T (a || b) → (T a → X) → (T b → X) → X
which true b t f g = f tt
which false b t f g = g t

pub neither : (a b : Bool) → T (not (a || b)) → T (not a) × T (not b)
neither true b t = absurd t
neither false b t = (tt, t)

pub bit_yes : (b : Bool) → T b → bit b ≡ 1
bit_yes true t = refl
bit_yes false t = absurd t

pub bit-no : (b : Bool) → T (not b) → bit b ≡ 0
bit-no true t = absurd t
bit-no false t = refl

pub bit-zero : (b : Bool) → bit b ≡ 0 → T (not b)
bit-zero true e = omega arith
bit-zero false e = tt

-- eqb, both ways
pub same_yes : (a b : ℕ) → a ≡ b → T (eqb a b)
same_yes a b e = subst (λ k. T (eqb a k)) e (eqb_refl a)

pub same-no : (a b : ℕ) → T (not (eqb a b)) → a ≢ b
same-no a b t e = T_not (eqb a b) t (same_yes a b e)

pub is_none_yes : (n : ℕ) → n ≡ 0 → T (is_none n)
is_none_yes n e = same_yes n 0 e

pub range : (k n : ℕ) → T (one_to k n) → (0 < n) × (n ≤ k)
range k n t = (ltb→lt 0 n (both (ltb 0 n) (leb n k) t).0, leb→le n k (both (ltb 0 n) (leb n k) t).1)

pub in_range_lem : (k n : ℕ) → 0 < n → n ≤ k → T (one_to k n)
in_range_lem k n p q = and_in (ltb 0 n) (leb n k) (lt→ltb 0 n p) (le→leb n k q)

-- a verdict
abbrev pub Fine : Verdict → Type 0
Fine fine = Unit {0}
Fine (refused k) = ⊥

-- every check passes
abbrev pub Pass : List Check → Type 0
Pass [] = Unit {0}
Pass (c ∷ cs) = T c.passes × Pass cs

pub passed : (cs : List Check) → Fine (first cs) → Pass cs
passed [] h = tt
passed (c ∷ cs) h = cases c.passes (λ t. (is_yes t, passed cs (rw t at h))) (λ t. absurd (rw t at h))

pub pass : (cs : List Check) → Pass cs → Fine (first cs)
pass [] h = tt
pass (c ∷ cs) h = rw (yes_is c.passes h.0) (pass cs h.1)

-- ---- count_to, count, nth, modify

pub count_to-same : (f g : ℕ → Bool) (n : ℕ) → ((s : ℕ) → 0 < s → s ≤ n → f s ≡ g s) → count_to f n ≡ count_to g n
count_to-same f g zero h = refl
count_to-same f g (suc n) h = ap₂ (λ x y. bit x + y) (h (suc n) (omega arith) (omega arith)) (count_to-same f g n (λ s p q. h s p (omega arith)))

-- g is f but for s, which passes f and not g
pub count_to_less : (f g : ℕ → Bool) (n s : ℕ) → 0 < s → s ≤ n → T (f s) → T (not (g s)) → ((x : ℕ) → x ≢ s → f x ≡ g x) → count_to f n ≡ suc (count_to g n)
count_to_less f g zero s p q u v h = omega arith
count_to_less f g (suc n) s p q u v h =
    let ih = count_to_less f g n s p in
    decide (eqb s (suc n))
    (λ t.
    let e = eqb→eq s (suc n) t in
    let a = bit_yes (f (suc n)) (rw e at u) in
    let b = bit-no (g (suc n)) (rw e at v) in
    let r = count_to-same f g n (λ x k l. h x (λ i. omega arith)) in
    omega arith)
    (λ t.
    let e = same-no s (suc n) t in
    let r = ih (omega arith) u v h in
    let a = ap bit (h (suc n) (λ i. e (sym i))) in
    omega arith)

pub count_to-zero : (f : ℕ → Bool) (n s : ℕ) → count_to f n ≡ 0 → 0 < s → s ≤ n → T (not (f s))
count_to-zero f zero s z p q = absurd (omega arith)
count_to-zero f (suc n) s z p q =
    let ih = count_to-zero f n s in
    decide (eqb s (suc n))
    (λ t. rw (eqb→eq s (suc n) t) (bit-zero (f (suc n)) (omega arith)))
    (λ t. let e = same-no s (suc n) t in ih (omega arith) p (omega arith))

pub count_to-some : (f : ℕ → Bool) (n : ℕ) → (count_to f n ≡ 0) ⊎ ((s : ℕ) × (0 < s) × (s ≤ n) × T (f s))
count_to-some f zero = inl refl
count_to-some f (suc n) =
    on (count_to-some f n)
    (λ e. decide (f (suc n)) (λ t. inr (suc n, omega arith, omega arith, t)) (λ t. let a = bit-no (f (suc n)) t in inl (omega arith)))
    (λ r. inr (r.0, r.1, omega arith, r.3))

pub count_to-none : (f : ℕ → Bool) (n : ℕ) → ((s : ℕ) → 0 < s → s ≤ n → T (not (f s))) → count_to f n ≡ 0
count_to-none f zero h = refl
count_to-none f (suc n) h =
    let a = bit-no (f (suc n)) (h (suc n) (omega arith) (omega arith)) in
    let r = count_to-none f n (λ s p q. h s p (omega arith)) in
    omega arith

pub count_to-full : (f : ℕ → Bool) (n : ℕ) → ((s : ℕ) → T (f s)) → count_to f n ≡ n
count_to-full f zero h = refl
count_to-full f (suc n) h = let a = bit_yes (f (suc n)) (h (suc n)) in let r = count_to-full f n h in omega arith

module _ {A : Type 0} where
  pub count_map : (p : A → Bool) (f : A → A) (xs : List A) → ((x : A) → p (f x) ≡ p x) → count p (map f xs) ≡ count p xs
  count_map p f [] h = refl
  count_map p f (x ∷ xs) h = ap₂ (λ b n. bit b + n) (h x) (count_map p f xs h)

  pub count-snoc : (p : A → Bool) (xs : List A) (x : A) → count p (snoc xs x) ≡ count p xs + bit (p x)
  count-snoc p [] x = omega arith
  count-snoc p (y ∷ xs) x = let r = count-snoc p xs x in omega arith

  pub length-snoc : (xs : List A) (x : A) → length (snoc xs x) ≡ suc (length xs)
  length-snoc [] x = refl
  length-snoc (y ∷ xs) x = ap suc (length-snoc xs x)

  pub length-modify : (s : ℕ) (f : A → A) (xs : List A) → length (modify s f xs) ≡ length xs
  length-modify zero f xs = refl
  length-modify (suc k) f [] = refl
  length-modify (suc zero) f (x ∷ xs) = refl
  length-modify (suc (suc k)) f (x ∷ xs) = ap suc (length-modify (suc k) f xs)

  pub nth-same : (d : A) (f : A → A) (s : ℕ) (xs : List A) → 0 < s → s ≤ length xs → nth d (modify s f xs) s ≡ f (nth d xs s)
  nth-same d f zero xs p q = absurd (omega arith)
  nth-same d f (suc k) [] p q = absurd (omega arith)
  nth-same d f (suc zero) (x ∷ xs) p q = refl
  nth-same d f (suc (suc k)) (x ∷ xs) p q = nth-same d f (suc k) xs (omega arith) (omega arith)

  pub nth-other : (d : A) (f : A → A) (s : ℕ) (xs : List A) (y : ℕ) → y ≢ s → nth d (modify s f xs) y ≡ nth d xs y
  nth-other d f zero xs y h = refl
  nth-other d f (suc k) [] y h = refl
  nth-other d f (suc zero) (x ∷ xs) zero h = refl
  nth-other d f (suc zero) (x ∷ xs) (suc zero) h = absurd (h refl)
  nth-other d f (suc zero) (x ∷ xs) (suc (suc y)) h = refl
  nth-other d f (suc (suc k)) (x ∷ xs) zero h = refl
  nth-other d f (suc (suc k)) (x ∷ xs) (suc zero) h = refl
  nth-other d f (suc (suc k)) (x ∷ xs) (suc (suc y)) h = nth-other d f (suc k) xs (suc y) (λ e. h (ap suc e))

  pub nth-map : (d : A) (f : A → A) (xs : List A) (s : ℕ) → f d ≡ d → nth d (map f xs) s ≡ f (nth d xs s)
  nth-map d f xs zero e = sym e
  nth-map d f [] (suc k) e = sym e
  nth-map d f (x ∷ xs) (suc zero) e = refl
  nth-map d f (x ∷ xs) (suc (suc k)) e = nth-map d f xs (suc k) e

  -- a field that the change leaves alone
  pub nth_field : {B : Type 0} (g : A → B) (d : A) (f : A → A) (s : ℕ) (xs : List A) (y : ℕ) → ((x : A) → g (f x) ≡ g x) → g (nth d (modify s f xs) y) ≡ g (nth d xs y)
  nth_field g d f zero xs y h = refl
  nth_field g d f (suc k) [] y h = refl
  nth_field g d f (suc zero) (x ∷ xs) zero h = refl
  nth_field g d f (suc zero) (x ∷ xs) (suc zero) h = h x
  nth_field g d f (suc zero) (x ∷ xs) (suc (suc y)) h = refl
  nth_field g d f (suc (suc k)) (x ∷ xs) zero h = refl
  nth_field g d f (suc (suc k)) (x ∷ xs) (suc zero) h = refl
  nth_field g d f (suc (suc k)) (x ∷ xs) (suc (suc y)) h = nth_field g d f (suc k) xs (suc y) h

  -- a test that all pass, each by its number
  pub all-nth : (p : A → Bool) (d : A) (xs : List A) (s : ℕ) → T (all p xs) → 0 < s → s ≤ length xs → T (p (nth d xs s))
  all-nth p d xs zero t i j = absurd (omega arith)
  all-nth p d [] (suc k) t i j = absurd (omega arith)
  all-nth p d (x ∷ xs) (suc zero) t i j = (both (p x) (all p xs) t).0
  all-nth p d (x ∷ xs) (suc (suc k)) t i j = all-nth p d xs (suc k) (both (p x) (all p xs) t).1 (omega arith) (omega arith)

  -- and back
  pub nth-all : (p : A → Bool) (d : A) (xs : List A) → ((s : ℕ) → 0 < s → s ≤ length xs → T (p (nth d xs s))) → T (all p xs)
  nth-all p d [] h = tt
  nth-all p d (x ∷ xs) h = and_in (p x) (all p xs) (h 1 (omega arith) (omega arith)) (nth-all p d xs (λ s i j. later s i (h (suc s) (omega arith) (omega arith))))
    where
      later : (s : ℕ) → 0 < s → T (p (nth d (x ∷ xs) (suc s))) → T (p (nth d xs s))
      later zero i t = absurd (omega arith)
      later (suc s) i t = t

  pub all_then : (p q : A → Bool) (xs : List A) → ((x : A) → T (p x) → T (q x)) → T (all p xs) → T (all q xs)
  all_then p q [] h t = tt
  all_then p q (x ∷ xs) h t = let b = both (p x) (all p xs) t in and_in (q x) (all q xs) (h x b.0) (all_then p q xs h b.1)

  pub all_snoc : (p : A → Bool) (xs : List A) (x : A) → T (all p xs) → T (p x) → T (all p (snoc xs x))
  all_snoc p [] x t u = and_in (p x) true u tt
  all_snoc p (y ∷ xs) x t u = let b = both (p y) (all p xs) t in and_in (p y) _ b.0 (all_snoc p xs x b.1 u)

  pub all_map : (p : A → Bool) (f : A → A) (xs : List A) → ((x : A) → p (f x) ≡ p x) → all p (map f xs) ≡ all p xs
  all_map p f [] h = refl
  all_map p f (x ∷ xs) h = ap₂ (λ a b. a && b) (h x) (all_map p f xs h)

  -- element s changed into one that passes
  pub all-modify : (p : A → Bool) (d : A) (s : ℕ) (f : A → A) (xs : List A) → T (all p xs) → T (p (f (nth d xs s))) → T (all p (modify s f xs))
  all-modify p d zero f xs t u = t
  all-modify p d (suc k) f [] t u = tt
  all-modify p d (suc zero) f (x ∷ xs) t u = and_in (p (f x)) (all p xs) u (both (p x) (all p xs) t).1
  all-modify p d (suc (suc k)) f (x ∷ xs) t u =
      let b = both (p x) (all p xs) t in
      and_in (p x) _ b.0 (all-modify p d (suc k) f xs b.1 u)

  pub all-kept : (p : A → Bool) (s : ℕ) (f : A → A) (xs : List A) → ((x : A) → p (f x) ≡ p x) → all p (modify s f xs) ≡ all p xs
  all-kept p zero f xs h = refl
  all-kept p (suc k) f [] h = refl
  all-kept p (suc zero) f (x ∷ xs) h = ap (λ b. b && all p xs) (h x)
  all-kept p (suc (suc k)) f (x ∷ xs) h = ap (λ b. p x && b) (all-kept p (suc k) f xs h)

  pub all_one : (p : A → Bool) (d : A) (xs : List A) → length xs ≡ 1 → T (p (nth d xs 1)) → T (all p xs)
  all_one p d [] e h = tt
  all_one p d (x ∷ []) e h = and_in (p x) true h tt
  all_one p d (x ∷ y ∷ xs) e h = absurd (omega arith)

-- ---- how much a count can be

pub bit_most : (b : Bool) → bit b ≤ 1
bit_most true = omega arith
bit_most false = omega arith

pub count_to_most : (f : ℕ → Bool) (n : ℕ) → count_to f n ≤ n
count_to_most f zero = omega arith
count_to_most f (suc n) = let r = count_to_most f n in let b = bit_most (f (suc n)) in omega arith

pub count_most : {A : Type 0} (p : A → Bool) (xs : List A) → count p xs ≤ length xs
count_most p [] = omega arith
count_most p (x ∷ xs) = let r = count_most p xs in let b = bit_most (p x) in omega arith
