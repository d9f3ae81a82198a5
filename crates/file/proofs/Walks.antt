-- Following the chains slot by slot meets no bad slot exactly if the tests of 46 pass. Assumes nothing.
use Prim.Native.Nat.{ℕ, zero, suc, ◌+◌, ◌-◌, ◌<◌}
use mathlib.Core.Path.{◌≡◌, refl, sym, ap, ap₂, ◌∙◌}
use mathlib.Core.Bool.{Bool, true, false, not, ◌&&◌, ◌||◌, or-false}
use mathlib.Core.List.{List, [], ◌∷◌, ◌++◌}
use native.Mathlib.Omega.{arith}
use borrow.Author.Tests.{le-ltb, lt-leb, leb-false, ne_eqb}
use lib.Dec.{T, eqb, leb, ltb, ltb→lt, lt→ltb, nltb→le}
use lib.ListN.{length, length-append}
use Rattle.protocol.specs.Lists.{is_none, count_to, all, any}
use Rattle.protocol.proofs.Laws.{cases, yes_is, no-is, is_yes, is-no, both, and_in, neither, same-no}
use Rattle.file.specs.Bytes.{two_at, kind_bits, measure_kind, rule_kind}
use Rattle.file.specs.Loaded.{slot_in, slots, next_in, mark_in, zero_from, clear_measure, clear_rule, first_slot, measure_chain, rule_chain, met, marked, leaves_file, meets_twice, well_marked, misses_slot, clear, chain, elem, repeats}
use Rattle.file.specs.Walked.{stopped, ended, good, walk, as_measure, as_rule, Sound46}
use Rattle.file.proofs.Enough.{met_most, met-counted, count_to-not}

-- the slots ks seen after those of seen, the newest first
abbrev pub onto : List ℕ → List ℕ → List ℕ
onto [] seen = seen
onto (k ∷ ks) seen = onto ks (k ∷ seen)

-- each is good when it is met
abbrev pub Good : List ℕ → (List ℕ → Bool) → List ℕ → List ℕ → Type 0
Good f test [] seen = Unit {0}
Good f test (k ∷ ks) seen = T (good f test k seen) × Good f test ks (k ∷ seen)

module _ (f : List ℕ) (test : List ℕ → Bool) where
  -- a walk that ends has met the chain, and every slot of it was good
  pub walk-ended : (n k : ℕ) (seen s : List ℕ) → walk f test n k seen ≡ ended s → Good f test (chain f n k) seen × (s ≡ onto (chain f n k) seen)
  walk-ended zero k seen s e = cases (is_none k)
      (λ t. let z : ended seen ≡ ended s = rw t at e in (tt, (cc)))
      (λ t. let z : stopped ≡ ended s = rw t at e in let y : ◌≡◌ {A = ℕ} 0 1 = cc in absurd (omega arith))
  walk-ended (suc n) k seen s e = cases (is_none k)
      (λ t. let z : ended seen ≡ ended s = rw t at e in rw t (tt, (cc)))
      (λ t. cases (good f test k seen)
      (λ g.
      let z : walk f test n (next_in (slot_in f k)) (k ∷ seen) ≡ ended s = rw (t, g) at e in
      let ih = walk-ended n (next_in (slot_in f k)) (k ∷ seen) s z in
      rw t ((is_yes g, ih.0), ih.1))
      (λ g. let z : stopped ≡ ended s = rw (t, g) at e in let y : ◌≡◌ {A = ℕ} 0 1 = cc in absurd (omega arith)))

  -- and a walk over good slots ends, if the chain does
  pub ended-walk : (n k : ℕ) (seen : List ℕ) → length (chain f n k) < n → Good f test (chain f n k) seen → walk f test n k seen ≡ ended (onto (chain f n k) seen)
  ended-walk zero k seen h g = absurd (omega arith)
  ended-walk (suc n) k seen h g = cases (is_none k)
      (λ t. rw t)
      (λ t.
      let l : suc (length (chain f n (next_in (slot_in f k)))) < suc n = rw t at h in
      let g2 : T (good f test k seen) × Good f test (chain f n (next_in (slot_in f k))) (k ∷ seen) = rw t at g in
      rw (t, yes_is (good f test k seen) g2.0) (ended-walk n (next_in (slot_in f k)) (k ∷ seen) (omega arith) g2.1))

-- ---- good slots, and the tests as 46 names them

abbrev pub Tests : List ℕ → (List ℕ → Bool) → List ℕ → List ℕ → Type 0
Tests f test ks seen = T (not (any (λ k. leb (slots f) k) ks)) × T (all (λ k. not (elem k seen)) ks) × T (not (repeats ks)) × T (all (λ k. test (slot_in f k)) ks)

none_in : (a b : Bool) → T (not a) → T (not b) → T (not (a || b))
none_in true b s t = s
none_in false b s t = t

-- none of ks is x or in seen
apart : (x : ℕ) (seen ks : List ℕ) → T (all (λ k. not (elem k (x ∷ seen))) ks) → T (not (elem x ks)) × T (all (λ k. not (elem k seen)) ks)
apart x seen [] t = (tt, tt)
apart x seen (k ∷ ks) t =
    let b = both (not (elem k (x ∷ seen))) (all (λ k. not (elem k (x ∷ seen))) ks) t in
    let d = neither (eqb k x) (elem k seen) b.0 in
    let ih = apart x seen ks b.1 in
    let u = same-no k x d.0 in
    (none_in (eqb x k) (elem x ks) (is-no (ne_eqb x k (λ e. u (sym e)))) ih.0, and_in (not (elem k seen)) _ d.1 ih.1)

apart_back : (x : ℕ) (seen ks : List ℕ) → T (not (elem x ks)) → T (all (λ k. not (elem k seen)) ks) → T (all (λ k. not (elem k (x ∷ seen))) ks)
apart_back x seen [] s t = tt
apart_back x seen (k ∷ ks) s t =
    let b = both (not (elem k seen)) (all (λ k. not (elem k seen)) ks) t in
    let d = neither (eqb x k) (elem x ks) s in
    let u = same-no x k d.0 in
    and_in (not (elem k (x ∷ seen))) _ (none_in (eqb k x) (elem k seen) (is-no (ne_eqb k x (λ e. u (sym e)))) b.0) (apart_back x seen ks d.1 b.1)

module _ (f : List ℕ) (test : List ℕ → Bool) where
  pub good_tests : (ks seen : List ℕ) → Good f test ks seen → Tests f test ks seen
  good_tests [] seen g = (tt, tt, tt, tt)
  good_tests (k ∷ ks) seen g =
      let b = both (ltb k (slots f) && not (elem k seen)) (test (slot_in f k)) g.0 in
      let a = both (ltb k (slots f)) (not (elem k seen)) b.0 in
      let ih = good_tests ks (k ∷ seen) g.1 in
      let d = apart k seen ks ih.1 in
      let l = ltb→lt k (slots f) a.0 in (
        none_in (leb (slots f) k) _ (is-no (lt-leb (slots f) k l)) ih.0,
        and_in (not (elem k seen)) _ a.1 d.1,
        none_in (elem k ks) (repeats ks) d.0 ih.2,
        and_in (test (slot_in f k)) _ b.1 ih.3,
      )

  pub tests_good : (ks seen : List ℕ) → Tests f test ks seen → Good f test ks seen
  tests_good [] seen t = tt
  tests_good (k ∷ ks) seen t =
      let i = neither (leb (slots f) k) (any (λ k. leb (slots f) k) ks) t.0 in
      let a = both (not (elem k seen)) (all (λ k. not (elem k seen)) ks) t.1 in
      let d = neither (elem k ks) (repeats ks) t.2 in
      let b = both (test (slot_in f k)) (all (λ k. test (slot_in f k)) ks) t.3 in
      let l = leb-false (slots f) k (no-is (leb (slots f) k) i.0) in (
        and_in (ltb k (slots f) && not (elem k seen)) (test (slot_in f k)) (and_in (ltb k (slots f)) (not (elem k seen)) (lt→ltb k (slots f) l) a.0) b.0,
        tests_good ks (k ∷ seen) (i.1, apart_back k seen ks d.0 a.1, d.1, b.1),
      )

-- ---- two chains, one after the other

any-split : (p : ℕ → Bool) (xs ys : List ℕ) → T (not (any p (xs ++ ys))) → T (not (any p xs)) × T (not (any p ys))
any-split p [] ys t = (tt, t)
any-split p (x ∷ xs) ys t =
    let d = neither (p x) (any p (xs ++ ys)) t in
    let ih = any-split p xs ys d.1 in
    (none_in (p x) (any p xs) d.0 ih.0, ih.1)

any-join : (p : ℕ → Bool) (xs ys : List ℕ) → T (not (any p xs)) → T (not (any p ys)) → T (not (any p (xs ++ ys)))
any-join p [] ys s t = t
any-join p (x ∷ xs) ys s t = let d = neither (p x) (any p xs) s in none_in (p x) _ d.0 (any-join p xs ys d.1 t)

all_none : (ys : List ℕ) → T (all (λ k. not (elem k [])) ys)
all_none [] = tt
all_none (y ∷ ys) = all_none ys

once-split : (xs ys : List ℕ) → T (not (repeats (xs ++ ys))) → T (not (repeats xs)) × T (not (repeats ys)) × T (all (λ k. not (elem k xs)) ys)
once-split [] ys t = (tt, t, all_none ys)
once-split (x ∷ xs) ys t =
    let d = neither (elem x (xs ++ ys)) (repeats (xs ++ ys)) t in
    let a = any-split (eqb x) xs ys d.0 in
    let ih = once-split xs ys d.1 in
    (none_in (elem x xs) (repeats xs) a.0 ih.0, ih.1, apart_back x xs ys a.1 ih.2)

once_join : (xs ys : List ℕ) → T (not (repeats xs)) → T (not (repeats ys)) → T (all (λ k. not (elem k xs)) ys) → T (not (repeats (xs ++ ys)))
once_join [] ys s t u = t
once_join (x ∷ xs) ys s t u =
    let d = neither (elem x xs) (repeats xs) s in
    let a = apart x xs ys u in
    none_in (elem x (xs ++ ys)) _ (any-join (eqb x) xs ys d.0 a.0) (once_join xs ys d.1 t a.1)

or_swap : (a b c : Bool) → (b || (a || c)) ≡ ((a || b) || c)
or_swap true true c = refl
or_swap true false c = refl
or_swap false b c = refl

elem_onto : (x : ℕ) (ks seen : List ℕ) → elem x (onto ks seen) ≡ (elem x ks || elem x seen)
elem_onto x [] seen = refl
elem_onto x (k ∷ ks) seen = elem_onto x ks (k ∷ seen) ∙ or_swap (eqb x k) (elem x ks) (elem x seen)

all_same : (p q : ℕ → Bool) (ks : List ℕ) → ((x : ℕ) → p x ≡ q x) → all p ks ≡ all q ks
all_same p q [] h = refl
all_same p q (k ∷ ks) h = ap₂ (λ a b. a && b) (h k) (all_same p q ks h)

-- the seen slots of one chain, as the other is tested against them
unseen : (xs ys : List ℕ) → all (λ k. not (elem k (onto xs []))) ys ≡ all (λ k. not (elem k xs)) ys
unseen xs ys = all_same (λ k. not (elem k (onto xs []))) (λ k. not (elem k xs)) ys (λ x. ap not (elem_onto x xs [] ∙ or-false (elem x xs)))

length_onto : (ks seen : List ℕ) → length (onto ks seen) ≡ length ks + length seen
length_onto [] seen = omega arith
length_onto (k ∷ ks) seen = let ih = length_onto ks (k ∷ seen) in omega arith

both_all : (p q : ℕ → Bool) (ks : List ℕ) → T (all p ks) → T (all q ks) → T (all (λ k. p k && q k) ks)
both_all p q [] s t = tt
both_all p q (k ∷ ks) s t =
    let a = both (p k) (all p ks) s in
    let b = both (q k) (all q ks) t in
    and_in (p k && q k) _ (and_in (p k) (q k) a.0 b.0) (both_all p q ks a.1 b.1)

all_both : (p q : ℕ → Bool) (ks : List ℕ) → T (all (λ k. p k && q k) ks) → T (all p ks) × T (all q ks)
all_both p q [] t = (tt, tt)
all_both p q (k ∷ ks) t =
    let a = both (p k && q k) (all (λ k. p k && q k) ks) t in
    let b = both (p k) (q k) a.0 in
    let ih = all_both p q ks a.1 in
    (and_in (p k) _ b.0 ih.0, and_in (q k) _ b.1 ih.1)

-- ---- the theorem

-- the walk over the measures, then that over the rules, and as many slots seen as there are behind slot 0
pub record Walks (f : List ℕ) : Type 0 where
  pub measures : walk f as_measure (slots f) (two_at (first_slot f) 0) [] ≡ ended (onto (measure_chain f) [])
  pub rules : walk f as_rule (slots f) (two_at (first_slot f) 2) (onto (measure_chain f) []) ≡ ended (onto (rule_chain f) (onto (measure_chain f) []))
  pub full : length (onto (rule_chain f) (onto (measure_chain f) [])) ≡ slots f - 1
  pub clean : T (zero_from (first_slot f) 14)

seen_length : (f : List ℕ) → length (onto (rule_chain f) (onto (measure_chain f) [])) ≡ length (met f)
seen_length f =
    let a = length_onto (rule_chain f) (onto (measure_chain f) []) in
    let b = length_onto (measure_chain f) [] in
    let c = length-append (measure_chain f) (rule_chain f) in
    omega arith

-- Where the five tests pass, both walks end and have seen every slot,
pub sound_walks : (f : List ℕ) → 0 < slots f → Sound46 f → Walks f
unfolding leaves_file meets_twice well_marked misses_slot clear
sound_walks f o s =
    let m = measure_chain f in
    let r = rule_chain f in
    let i = any-split (λ k. leb (slots f) k) m r s.stays in
    let d = once-split m r s.once in
    let k = both (marked f measure_kind m) (marked f rule_kind r) s.marked_well in
    let c = both (zero_from (first_slot f) 14 && all (λ k. clear_measure (slot_in f k)) m) (all (λ k. clear_rule (slot_in f k)) r) s.clean in
    let z = both (zero_from (first_slot f) 14) (all (λ k. clear_measure (slot_in f k)) m) c.0 in
    let most = met_most f o s.stays s.once in
    let sum = length-append m r in
    let e = seen_length f in
    let missed = nltb→le 0 (count_to (λ k. not (elem k (met f))) (slots f - 1)) s.full in
    let t = count_to-not (λ x. elem x (met f)) (slots f - 1) in
    let n = met-counted f s.stays s.once in
    record {
      measures = ended-walk f as_measure (slots f) (two_at (first_slot f) 0) [] (omega arith)
          (tests_good f as_measure m [] (i.0, all_none m, d.0, both_all (λ k. eqb (kind_bits (mark_in (slot_in f k))) measure_kind) (λ k. clear_measure (slot_in f k)) m k.0 z.1));
      rules = ended-walk f as_rule (slots f) (two_at (first_slot f) 2) (onto m []) (omega arith)
          (tests_good f as_rule r (onto m []) (i.1, (rw (unseen m r) d.2), d.1, both_all (λ k. eqb (kind_bits (mark_in (slot_in f k))) rule_kind) (λ k. clear_rule (slot_in f k)) r k.1 c.1));
      full = omega arith;
      clean = z.0;
    }

-- and where both walks end and have seen every slot, the five tests pass.
pub walks_sound : (f : List ℕ) → Walks f → Sound46 f
unfolding leaves_file meets_twice well_marked misses_slot clear
walks_sound f w =
    let m = measure_chain f in
    let r = rule_chain f in
    let a = good_tests f as_measure m [] (walk-ended f as_measure (slots f) (two_at (first_slot f) 0) [] (onto m []) w.measures).0 in
    let b = good_tests f as_rule r (onto m []) (walk-ended f as_rule (slots f) (two_at (first_slot f) 2) (onto m []) (onto r (onto m [])) w.rules).0 in
    let x = all_both (λ k. eqb (kind_bits (mark_in (slot_in f k))) measure_kind) (λ k. clear_measure (slot_in f k)) m a.3 in
    let y = all_both (λ k. eqb (kind_bits (mark_in (slot_in f k))) rule_kind) (λ k. clear_rule (slot_in f k)) r b.3 in
    let stays = any-join (λ k. leb (slots f) k) m r a.0 b.0 in
    let once = once_join m r a.2 b.2 (rw (unseen m r) at b.1) in
    let e = seen_length f in
    let t = count_to-not (λ x. elem x (met f)) (slots f - 1) in
    let n = met-counted f stays once in
    record {
      stays = stays;
      once = once;
      marked_well = and_in (marked f measure_kind m) _ x.0 y.0;
      full = is-no (le-ltb 0 (count_to (λ k. not (elem k (met f))) (slots f - 1)) (omega (arith, w.full)));
      clean = and_in (zero_from (first_slot f) 14 && all (λ k. clear_measure (slot_in f k)) m) _ (and_in (zero_from (first_slot f) 14) _ w.clean x.1) y.1;
    }
