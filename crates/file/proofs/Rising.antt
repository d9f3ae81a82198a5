-- What a file loads to: a plan that can be saved; and a file whose slots rise, measures first, is the saved form of it. Assumes nothing.
use Prim.Native.Nat.{ℕ, zero, suc, ◌+◌, ◌*◌, ◌%◌, ◌<◌, ◌≤◌}
use mathlib.Core.Path.{◌≡◌, refl, sym, ap, ap₂, subst, ◌∙◌}
use mathlib.Core.Bool.{Bool, not, ◌&&◌}
use mathlib.Core.List.{List, [], ◌∷◌, ◌++◌, map, append_assoc, append-nil}
use native.Mathlib.Omega.{arith}
use borrow.Author.Tests.{ne_eqb}
use lib.Dec.{T, eqb, leb, eqb→eq}
use lib.IntN.{ℤ}
use lib.ListN.{length, take, drop, take-append-drop, length-append, length-map, length-drop, drop_of_length-le}
use lib.Seq.{drop-drop, length-take-le}
use Rattle.protocol.specs.Lists.{is_none, one_to, all}
use Rattle.protocol.specs.Plan.{Rule, Plan}
use Rattle.protocol.specs.Calls.{Verdict, fine, refused, first, no, ok, start}
use Rattle.protocol.proofs.Laws.{cases, is_yes, both, and_in, same-no, Pass, passed}
use Rattle.file.specs.Bytes.{word_size, two_at, four_at, kind_bits, measure_kind, rule_kind, total}
use Rattle.file.specs.Saved.{slot_zero, measure_slot, rule_slot, start_at, slots_from, chains, heading, check_word, file_of, saved}
use Rattle.file.specs.Loaded.{next_limit, slot_in, slots, next_in, mark_in, value_in, zero_from, clear_measure, clear_rule, chain, first_slot, measure_chain, rule_chain, next_number, sized, balanced, marked, well_marked, clear, numbered, read_checks, drawing, first_refusal, load_verdict, renumbered, load_by, load}
use Rattle.file.specs.Promises.{is_byte, whole_with, rule_from, values_of, rules_of, rising_from, Rises, ForEveryFile}
use Rattle.file.specs.Savable.{Savable}
use Rattle.file.proofs.Sums.{zero-total, balancing_only, saved-length}
use Rattle.file.proofs.Chains.{Laid}
use Rattle.file.proofs.Drawn.{both_fine, drawing_drew}
use Rattle.file.proofs.Enough.{met_all}
use Rattle.file.proofs.Round.{round_trip}
use Rattle.file.proofs.Written.{below, zero_back, measure_back, rule_back}

-- ---- what a file loads to

-- a load that is accepted met no refusal
pub accepted : (f : List ℕ) (p : Plan) (xs : List ℤ) → (load f p).answer ≡ ok xs → load_verdict f p ≡ fine
unfolding load
accepted f p xs e = by (load_verdict f p) e
  where
    by : (v : Verdict) → (load_by v f p).answer ≡ ok xs → v ≡ fine
    by fine e = refl
    by (refused k) e = let z : no k ≡ ok xs = e in cc

-- its next number is in range
pub number_in : (f : List ℕ) (p : Plan) → first (read_checks f p) ≡ fine → T (one_to next_limit (next_number f))
unfolding read_checks numbered
number_in f p e = (passed (read_checks f p) (rw e tt)).1.1.1.1.1.1.1.1.0

-- it leads to the plan of its chains, which can be saved
loads_to : (f : List ℕ) (xs : List ℤ) → (load f start).answer ≡ ok xs
    → ((load f start).plan ≡ whole_with (values_of f) (rules_of f) (next_number f)) × Savable (values_of f) (rules_of f) (next_number f)
unfolding load drawing
loads_to f xs e =
    let v = accepted f start xs e in
    let b = both_fine (first (read_checks f start)) (first_refusal (drawing f) start) v in
    let d = drawing_drew (λ k. value_in (slot_in f k)) (slot_in f) (measure_chain f) (rule_chain f) (next_number f) (number_in f start b.0) b.1 in
    (rw v (ap (renumbered (next_number f)) d.0), d.1)

-- ---- rising slots

-- two lists that rise together
parted : (k : ℕ) (xs ys : List ℕ) → xs ++ ys ≡ rising_from k (length (xs ++ ys)) → (xs ≡ rising_from k (length xs)) × (ys ≡ rising_from (k + length xs) (length ys))
parted k [] ys e = let z : k + 0 ≡ k = omega arith in (refl, rw z e)
parted k (x ∷ xs) ys e =
    let z : k + suc (length xs) ≡ suc k + length xs = omega arith in
    let h : x ≡ k = cc in
    let t : xs ++ ys ≡ rising_from (suc k) (length (xs ++ ys)) = cc in
    let ih = parted (suc k) xs ys t in
    (ap₂ {C = List ℕ} (λ y zs. y ∷ zs) h ih.0, rw z ih.1)

first_of : (f : List ℕ) (n x y : ℕ) (ys : List ℕ) → chain f n x ≡ y ∷ ys → x ≡ y
first_of f zero x y ys e = let z : ◌≡◌ {A = List ℕ} [] (y ∷ ys) = e in cc
first_of f (suc n) x y ys e = cases (is_none x)
    (λ t. let z : ◌≡◌ {A = List ℕ} [] (y ∷ ys) = rw t at e in cc)
    (λ t. let z : x ∷ chain f n (next_in (slot_in f x)) ≡ y ∷ ys = rw t at e in cc)

none_of : (f : List ℕ) (n x : ℕ) → 0 < n → chain f n x ≡ [] → x ≡ 0
none_of f zero x h e = absurd (omega arith)
none_of f (suc n) x h e = cases (is_none x)
    (λ t. eqb→eq x 0 (is_yes t))
    (λ t. let z : x ∷ chain f n (next_in (slot_in f x)) ≡ [] = rw t at e in cc)

-- slot k and what follows it
slot-drop : (f : List ℕ) (k : ℕ) → slot_in f k ++ drop (16 * suc k) f ≡ drop (16 * k) f
unfolding slot_in
slot-drop f k =
    let e : 16 * suc k ≡ 16 * k + 16 = omega arith in
    rw (e, ← (drop-drop 16 (16 * k) f)) (take-append-drop 16 (drop (16 * k) f))

module _ {A : Type 0} (g : ℕ → A → List ℕ) where
  glued : (f : List ℕ) (k : ℕ) (xs : List A) → Laid g f k xs → slots_from g k xs ++ drop (16 * (k + length xs)) f ≡ drop (16 * k) f
  glued f k [] l = let e : k + 0 ≡ k = omega arith in rw e
  glued f k (x ∷ xs) l =
      let e : k + suc (length xs) ≡ suc k + length xs = omega arith in
      rw (e, append_assoc (g (start_at (suc k) xs) x) (slots_from g (suc k) xs) (drop (16 * (suc k + length xs)) f), glued f (suc k) xs l.1, ← l.0) (slot-drop f k)

  abbrev contents : (List ℕ → A) → List ℕ → ℕ → ℕ → List A
  contents read f k m = map (λ i. read (slot_in f i)) (rising_from k m)

  module _ (read : List ℕ → A) (p q : List ℕ → Bool) (f : List ℕ)
      (written : (i : ℕ) → i < slots f → T (p (slot_in f i)) → T (q (slot_in f i)) → g (next_in (slot_in f i)) (read (slot_in f i)) ≡ slot_in f i) where
    built : (m n x k : ℕ) → m < n → 0 < k → k + m ≤ slots f → chain f n x ≡ rising_from k m → T (all (λ i. p (slot_in f i)) (rising_from k m)) → T (all (λ i. q (slot_in f i)) (rising_from k m))
        → (x ≡ start_at k (contents read f k m)) × Laid g f k (contents read f k m)
    built zero n x k h o c e s t = (none_of f n x (omega arith) e, tt)
    built (suc m) zero x k h o c e s t = absurd (omega arith)
    built (suc m) (suc n) x k h o c e s t =
        let i = first_of f (suc n) x k (rising_from (suc k) m) e in
        let z : k ∷ chain f n (next_in (slot_in f k)) ≡ k ∷ rising_from (suc k) m = rw (i, ne_eqb k 0 (λ j. omega arith)) at e in
        let y : chain f n (next_in (slot_in f k)) ≡ rising_from (suc k) m = cc in
        let a = both (p (slot_in f k)) _ s in
        let b = both (q (slot_in f k)) _ t in
        let ih = built m n (next_in (slot_in f k)) (suc k) (omega arith) (omega arith) (omega arith) y a.1 b.1 in
        (i, (sym (written k (omega arith) a.0 b.0) ∙ ap (λ w. g w (read (slot_in f k))) ih.0, ih.1))

-- ---- a file from its parts

four_below : (s : List ℕ) → T (all is_byte s) → (i : ℕ) → four_at s i < word_size
unfolding four_at two_at
four_below s t i =
    let a = below s t i in
    let b = below s t (i + 1) in
    let c = below s t (i + 2) in
    let d = below s t (i + 2 + 1) in
    omega arith

whole-file : (f : List ℕ) (vs : List ℤ) (rs : List Rule) → length f ≡ 16 * suc (length vs + length rs) → T (all is_byte (first_slot f))
    → two_at (first_slot f) 0 ≡ start_at 1 vs → two_at (first_slot f) 2 ≡ start_at (suc (length vs)) rs → two_at (first_slot f) 12 ≡ suc (length vs + length rs)
    → slot_zero (two_at (first_slot f) 0) (two_at (first_slot f) 2) (four_at (first_slot f) 4) (four_at (first_slot f) 8) (two_at (first_slot f) 12) ≡ first_slot f
    → Laid measure_slot f 1 vs → Laid rule_slot f (suc (length vs)) rs → total f % word_size ≡ 0 → file_of vs rs (next_number f) ≡ f
unfolding file_of check_word
whole-file f vs rs len bytes m r k z lm lr t =
    let n = next_number f in
    let c = four_at (first_slot f) 8 in
    let body : chains vs rs n ≡ drop 16 f =
    let a = glued measure_slot f 1 vs lm in
    let b = glued rule_slot f (suc (length vs)) rs lr in
    let e : 1 + length vs ≡ suc (length vs) = omega arith in
    let d : drop (16 * (suc (length vs) + length rs)) f ≡ [] = drop_of_length-le f {i = 16 * (suc (length vs) + length rs)} (omega arith) in
    let b2 : slots_from rule_slot (suc (length vs)) rs ≡ drop (16 * suc (length vs)) f = sym (append-nil _) ∙ sym (ap (λ w. slots_from rule_slot (suc (length vs)) rs ++ w) d) ∙ b in
    ap (λ w. slots_from measure_slot 1 vs ++ w) b2 ∙ (rw e at a)
    in
    let top : heading vs rs n c ≡ first_slot f = rw (← m, ← r, ← k) z in
    let whole : heading vs rs n c ++ chains vs rs n ≡ f = ap₂ (λ x y. x ++ y) top body ∙ slot-drop f 0 in
    let sum : total f ≡ total (heading vs rs n 0 ++ chains vs rs n) + c =
    sym (ap total whole) ∙ zero-total (start_at 1 vs) (start_at (suc (length vs)) rs) n c (suc (length vs + length rs)) (chains vs rs n) (four_below (first_slot f) bytes 8) in
    let only = balancing_only (total (heading vs rs n 0 ++ chains vs rs n)) c (four_below (first_slot f) bytes 8) (rw sum at t) in
    sym (ap (λ w. heading vs rs n w ++ chains vs rs n) only) ∙ whole

-- ---- the theorem

all_take : (p : ℕ → Bool) (n : ℕ) (s : List ℕ) → T (all p s) → T (all p (take n s))
all_take p zero s t = tt
all_take p (suc n) [] t = tt
all_take p (suc n) (x ∷ s) t = let b = both (p x) (all p s) t in and_in (p x) _ b.0 (all_take p n s b.1)

all_drop : (p : ℕ → Bool) (n : ℕ) (s : List ℕ) → T (all p s) → T (all p (drop n s))
all_drop p zero s t = t
all_drop p (suc n) [] t = tt
all_drop p (suc n) (x ∷ s) t = all_drop p n s (both (p x) (all p s) t).1

length_rising : (k n : ℕ) → length (rising_from k n) ≡ n
length_rising k zero = refl
length_rising k (suc n) = ap suc (length_rising (suc k) n)

slot-bytes : (f : List ℕ) (k : ℕ) → T (all is_byte f) → T (all is_byte (slot_in f k))
unfolding slot_in
slot-bytes f k t = all_take is_byte 16 (drop (16 * k) f) (all_drop is_byte (16 * k) f t)

slot_16 : (f : List ℕ) (k : ℕ) → k < slots f → length (slot_in f k) ≡ 16
unfolding slot_in
slot_16 f k h = let e = length-drop (16 * k) f in length-take-le 16 (drop (16 * k) f) (omega arith)

module _ (f : List ℕ) (xs : List ℤ) (e : (load f start).answer ≡ ok xs) where
  passes : Pass (read_checks f start)
  passes = passed (read_checks f start) (rw (both_fine (first (read_checks f start)) (first_refusal (drawing f) start) (accepted f start xs e)).0 tt)

  abbrev a : ℕ
  a = length (measure_chain f)

  abbrev b : ℕ
  b = length (rule_chain f)

  multiple : (length f % 16 ≡ 0) × (0 < length f) × (slots f ≡ two_at (first_slot f) 12)
  unfolding read_checks sized
  multiple =
      let x = both (is_none (length f % 16) && not (is_none (length f)) && leb (slots f) 97) (eqb (slots f) (two_at (first_slot f) 12)) passes.1.0 in
      let y = both (is_none (length f % 16) && not (is_none (length f))) (leb (slots f) 97) x.0 in
      let z = both (is_none (length f % 16)) (not (is_none (length f))) y.0 in
      let o = same-no (length f) 0 z.1 in
      (eqb→eq (length f % 16) 0 z.0, omega arith, eqb→eq (slots f) (two_at (first_slot f) 12) x.1)

  slots_are : slots f ≡ suc (a + b)
  unfolding read_checks
  slots_are =
      let o : 0 < slots f = omega (arith, multiple.0, multiple.1) in
      let all_of = met_all f o passes.1.1.1.0 passes.1.1.1.1.0 passes.1.1.1.1.1.1.0 in
      let sum = length-append (measure_chain f) (rule_chain f) in
      omega arith

  marks : T (all (λ k. eqb (kind_bits (mark_in (slot_in f k))) measure_kind) (measure_chain f)) × T (all (λ k. eqb (kind_bits (mark_in (slot_in f k))) rule_kind) (rule_chain f))
  unfolding read_checks well_marked
  marks = both (marked f measure_kind (measure_chain f)) (marked f rule_kind (rule_chain f)) passes.1.1.1.1.1.0

  clears : T (zero_from (first_slot f) 14) × T (all (λ k. clear_measure (slot_in f k)) (measure_chain f)) × T (all (λ k. clear_rule (slot_in f k)) (rule_chain f))
  unfolding read_checks clear
  clears =
      let m = all (λ k. clear_measure (slot_in f k)) (measure_chain f) in
      let x = both (zero_from (first_slot f) 14 && m) (all (λ k. clear_rule (slot_in f k)) (rule_chain f)) passes.1.1.1.1.1.1.1.0 in
      let y = both (zero_from (first_slot f) 14) m x.0 in
      (y.0, y.1, x.1)

  sums : total f % word_size ≡ 0
  unfolding read_checks balanced
  sums = eqb→eq (total f % word_size) 0 passes.1.1.0

  module _ (bytes : T (all is_byte f)) (r : Rises f) where
    measures_rise : measure_chain f ≡ rising_from 1 a
    measures_rise = (parted 1 (measure_chain f) (rule_chain f) r).0

    rules_rise : rule_chain f ≡ rising_from (suc a) b
    rules_rise = let z : 1 + a ≡ suc a = omega arith in rw z at (parted 1 (measure_chain f) (rule_chain f) r).1

    abbrev vs : List ℤ
    vs = contents measure_slot value_in f 1 a

    abbrev rs : List Rule
    rs = contents rule_slot rule_from f (suc a) b

    measures-built : (two_at (first_slot f) 0 ≡ start_at 1 vs) × Laid measure_slot f 1 vs
    measures-built =
        built measure_slot value_in (λ s. eqb (kind_bits (mark_in s)) measure_kind) clear_measure f (λ i h k c. measure_back (slot_in f i) (slot_16 f i h) (slot-bytes f i bytes) k c)
        a (slots f) (two_at (first_slot f) 0) 1 (omega (arith, slots_are)) (omega arith) (omega (arith, slots_are)) measures_rise
        (subst (λ (ks : List ℕ). T (all (λ k. eqb (kind_bits (mark_in (slot_in f k))) measure_kind) ks)) measures_rise marks.0)
        (subst (λ (ks : List ℕ). T (all (λ k. clear_measure (slot_in f k)) ks)) measures_rise clears.1)

    rules-built : (two_at (first_slot f) 2 ≡ start_at (suc a) rs) × Laid rule_slot f (suc a) rs
    rules-built =
        built rule_slot rule_from (λ s. eqb (kind_bits (mark_in s)) rule_kind) clear_rule f (λ i h k c. rule_back (slot_in f i) (slot_16 f i h) (slot-bytes f i bytes) k c)
        b (slots f) (two_at (first_slot f) 2) (suc a) (omega (arith, slots_are)) (omega arith) (omega (arith, slots_are)) rules_rise
        (subst (λ (ks : List ℕ). T (all (λ k. eqb (kind_bits (mark_in (slot_in f k))) rule_kind) ks)) rules_rise marks.1)
        (subst (λ (ks : List ℕ). T (all (λ k. clear_rule (slot_in f k)) ks)) rules_rise clears.2)

    saved_again : saved (load f start).plan ≡ f
    unfolding saved
    saved_again =
        let lv : length vs ≡ a = length-map (rising_from 1 a) (λ i. value_in (slot_in f i)) ∙ length_rising 1 a in
        let lr : length rs ≡ b = length-map (rising_from (suc a) b) (λ i. rule_from (slot_in f i)) ∙ length_rising (suc a) b in
        let o : 0 < slots f = omega (arith, slots_are) in
        ap saved (loads_to f xs e).0
        ∙ ap₂ (λ x y. file_of x y (next_number f)) (ap (map (λ i. value_in (slot_in f i))) measures_rise) (ap (map (λ i. rule_from (slot_in f i))) rules_rise)
        ∙ whole-file f vs rs (omega (arith, slots_are, multiple.0)) (slot-bytes f 0 bytes) measures-built.0 (rw lv rules-built.0) (sym multiple.2 ∙ omega (arith, slots_are))
        (zero_back (first_slot f) (slot_16 f 0 o) (slot-bytes f 0 bytes) clears.0) measures-built.1 (rw lv rules-built.1) sums

  saved-long : length (saved (load f start).plan) ≡ length f
  saved-long =
      let n = ap (λ p. length (saved p)) (loads_to f xs e).0 ∙ saved-length (whole_with (values_of f) (rules_of f) (next_number f)) in
      let lv = length-map (measure_chain f) (λ k. value_in (slot_in f k)) in
      let lr = length-map (rule_chain f) (λ k. rule_from (slot_in f k)) in
      omega (arith, n, lv, lr, slots_are, multiple.0)

-- A file that loads gives the plan of its chains; saved again that has the file's length and loads to the same plan, and it is the file where slots rise, measures first.
pub loads : ForEveryFile
loads f xs e =
    let q = loads_to f xs e in
    record {
      plan = q.0;
      same-plan = rw q.0 (round_trip (whole_with (values_of f) (rules_of f) (next_number f)) q.1);
      same_length = saved-long f xs e;
      same-file = λ bytes r. saved_again f xs e bytes r;
    }
