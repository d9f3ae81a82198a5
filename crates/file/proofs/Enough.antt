-- Following a chain for as many slots as the file has is enough: one that would go on has met a slot twice or left the file. Assumes nothing.
use Prim.Native.Nat.{ℕ, zero, suc, ◌+◌, ◌-◌, ◌<◌, ◌≤◌}
use mathlib.Core.Path.{◌≡◌, refl, ap, ◌∙◌}
use mathlib.Core.Bool.{Bool, true, false, not}
use mathlib.Core.List.{List, [], ◌∷◌}
use native.Mathlib.Omega.{arith}
use borrow.Author.Tests.{ne_eqb, leb-false}
use lib.Dec.{T, eqb, leb, eqb→eq, nltb→le}
use lib.ListN.{length, length-append}
use Rattle.protocol.specs.Lists.{bit, is_none, one_to, count_to, count, all, any}
use Rattle.protocol.proofs.Laws.{cases, is_yes, no-is, not-not, bit-no, both, and_in, neither, or_left, in_range_lem, range, same-no, same_yes, count_to_less, count_to-zero, count_to-none, count_to_most}
use Rattle.file.specs.Bytes.{two_at}
use Rattle.file.specs.Loaded.{first_slot, slot_in, slots, next_in, chain, measure_chain, rule_chain, met, elem, repeats, leaves_file, meets_twice, misses_slot}
use Rattle.file.specs.Promises.{ChainsEnd, ForEveryChain}
use Rattle.file.proofs.Sums.{all_append}

-- ---- different numbers of 1 .. n are at most n

-- those that pass and those that do not
pub count_to-not : (g : ℕ → Bool) (n : ℕ) → count_to g n + count_to (λ s. not (g s)) n ≡ n
count_to-not g zero = refl
count_to-not g (suc n) = let ih = count_to-not g n in let b = bit_not (g (suc n)) in omega arith
  where
    bit_not : (b : Bool) → bit b + bit (not b) ≡ 1
    bit_not true = refl
    bit_not false = refl

counted : (n : ℕ) (ks : List ℕ) → T (all (one_to n) ks) → T (not (repeats ks)) → count_to (λ s. elem s ks) n ≡ length ks
counted n [] a r = count_to-none (λ s. false) n (λ s p q. tt)
counted n (k ∷ ks) a r =
    let b = both (one_to n k) (all (one_to n) ks) a in
    let i = range n k b.0 in
    let d = neither (elem k ks) (repeats ks) r in
    let ih = counted n ks b.1 d.1 in
    count_to_less (λ s. elem s (k ∷ ks)) (λ s. elem s ks) n k i.0 i.1 (or_left (eqb k k) (elem k ks) (same_yes k k refl)) d.0 (λ x h. rw (ne_eqb x k h))
    ∙ ap suc ih

pub pigeons : (n : ℕ) (ks : List ℕ) → T (all (one_to n) ks) → T (not (repeats ks)) → length ks ≤ n
pigeons n ks a r = let e = counted n ks a r in let m = count_to_most (λ s. elem s ks) n in omega arith

-- ---- a chain's slots

-- Following a chain for n slots meets at most n, whatever the file; so it ends where the chain is a circle, too.
pub chain_most : ChainsEnd
chain_most f zero k = omega arith
chain_most f (suc n) k = let ih = chain_most f n (next_in (slot_in f k)) in cases (is_none k) (λ e. rw e (omega arith)) (λ e. rw e (omega arith))

-- they are not 0, and within the file unless it leaves it

chain-some : (f : List ℕ) (n k : ℕ) → T (all (λ x. not (is_none x)) (chain f n k))
chain-some f zero k = tt
chain-some f (suc n) k = let ih = chain-some f n (next_in (slot_in f k)) in cases (is_none k) (λ e. rw e tt) (λ e. rw (e, e) ih)

inside : (c : ℕ) (ks : List ℕ) → T (all (λ x. not (is_none x)) ks) → T (not (any (λ x. leb c x) ks)) → T (all (one_to (c - 1)) ks)
inside c [] a l = tt
inside c (k ∷ ks) a l =
    let b = both (not (is_none k)) (all (λ x. not (is_none x)) ks) a in
    let d = neither (leb c k) (any (λ x. leb c x) ks) l in
    let p = same-no k 0 b.0 in
    let q = leb-false c k (no-is (leb c k) d.0) in
    and_in (one_to (c - 1) k) _ (in_range_lem (c - 1) k (omega arith) (omega arith)) (inside c ks b.1 d.1)

-- ---- enough

chain_more : (f : List ℕ) (n k : ℕ) → length (chain f n k) < n → chain f (suc n) k ≡ chain f n k
chain_more f zero k h = absurd (omega arith)
chain_more f (suc n) k h =
    let ih = chain_more f n (next_in (slot_in f k)) in
    cases (is_none k) (λ e. rw e) (λ e.
    let g : suc (length (chain f n (next_in (slot_in f k)))) < suc n = rw e at h in
    rw e (ap (λ ks. k ∷ ks) (ih (omega arith))))

-- a chain that ends within n slots is the same however far it is followed
chain-ended : (f : List ℕ) (n k m : ℕ) → length (chain f n k) < n → chain f (m + n) k ≡ chain f n k
chain-ended f n k zero h = let e : 0 + n ≡ n = omega arith in rw e
chain-ended f n k (suc m) h =
    let ih = chain-ended f n k m h in
    let e : suc m + n ≡ suc (m + n) = omega arith in
    rw e (chain_more f (m + n) k (rw ih (omega arith)) ∙ ih)

-- the slots that the chains meet are as many as they are different ones
pub met-counted : (f : List ℕ) → T (not (leaves_file f)) → T (not (meets_twice f)) → count_to (λ s. elem s (met f)) (slots f - 1) ≡ length (met f)
unfolding leaves_file meets_twice
met-counted f l t =
    let a = all_append (λ x. not (is_none x)) (measure_chain f) (rule_chain f) (chain-some f (slots f) _) (chain-some f (slots f) _) in
    counted (slots f - 1) (met f) (inside (slots f) (met f) a l) t

module _ (f : List ℕ) (some : 0 < slots f) (l : T (not (leaves_file f))) (t : T (not (meets_twice f))) where
  pub met_most : length (met f) < slots f
  unfolding leaves_file meets_twice
  met_most =
      let a = all_append (λ x. not (is_none x)) (measure_chain f) (rule_chain f) (chain-some f (slots f) _) (chain-some f (slots f) _) in
      let m = pigeons (slots f - 1) (met f) (inside (slots f) (met f) a l) t in
      omega arith

  -- the chains do not depend on how far they are followed
  enough : (m : ℕ) → (chain f (m + slots f) (two_at (first_slot f) 0) ≡ measure_chain f) × (chain f (m + slots f) (two_at (first_slot f) 2) ≡ rule_chain f)
  enough m =
      let a = length-append (measure_chain f) (rule_chain f) in
      (chain-ended f (slots f) (two_at (first_slot f) 0) m (omega (arith, met_most)), chain-ended f (slots f) (two_at (first_slot f) 2) m (omega (arith, met_most)))

-- ---- each slot is met once

elem-none : (k : ℕ) (ks : List ℕ) → T (not (elem k ks)) → count (eqb k) ks ≡ 0
elem-none k [] t = refl
elem-none k (x ∷ ks) t =
    let d = neither (eqb k x) (elem k ks) t in
    let b = bit-no (eqb k x) d.0 in
    let ih = elem-none k ks d.1 in
    omega arith

elem-once : (k : ℕ) (ks : List ℕ) → T (elem k ks) → T (not (repeats ks)) → count (eqb k) ks ≡ 1
elem-once k [] t r = absurd t
elem-once k (x ∷ ks) t r =
    let d = neither (elem x ks) (repeats ks) r in
    let ih = elem-once k ks in
    cases (eqb k x)
    (λ e. let z = elem-none k ks (rw (eqb→eq k x (is_yes e)) d.0) in rw e (omega arith))
    (λ e. let z = ih (rw e at t) d.1 in rw e (omega arith))

-- how many slots there are
pub met_all : (f : List ℕ) → 0 < slots f → T (not (leaves_file f)) → T (not (meets_twice f)) → T (not (misses_slot f)) → slots f ≡ suc (length (met f))
unfolding misses_slot
met_all f some l t m =
    let missed = nltb→le 0 (count_to (λ k. not (elem k (met f))) (slots f - 1)) m in
    let a = count_to-not (λ x. elem x (met f)) (slots f - 1) in
    let b = met-counted f l t in
    omega arith

-- In a file that passes these tests each slot but slot 0 is met exactly once, and the chains are the same however far they are followed.
pub chained : ForEveryChain
unfolding meets_twice misses_slot
chained f some l t m =
    let missed = nltb→le 0 (count_to (λ k. not (elem k (met f))) (slots f - 1)) m in
    record {
      once = λ k p q. elem-once k (met f) (not-not (elem k (met f)) (count_to-zero (λ k. not (elem k (met f))) (slots f - 1) k (omega arith) p (omega arith))) t;
      enough = enough f some l t;
    }
