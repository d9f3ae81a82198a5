-- The index as it is made: namings put one behind another, and their number. Assumes nothing.
use Prim.Native.Nat.{ℕ, zero, suc, ◌+◌, ◌-◌, ◌*◌, ◌<◌, ◌≤◌, min}
use native.Mathlib.Omega.{arith}
use mathlib.Core.Bool.{Bool, true, false, ◌&&◌, ◌||◌, and-false}
use mathlib.Core.Path.{◌≡◌, refl, sym, ap, ap₂, ◌∙◌, subst}
use mathlib.Core.List.{List, [], map}
use borrow.Author.Tests.{eqb-true, ne_eqb, ltb-true, ltb-false}
use lib.Dec.{eqb, ltb}
use native.Mathlib.Numerals.{add-one}
use lib.IntN.{ℤ}
use lib.ListN.{length, get_or, set, replicate, length-set}
use Rattle.protocol.specs.Lists.{bit, one_to, count_to, count, any, snoc, passing}
use Rattle.protocol.proofs.Laws.{cases, in_range_lem, yes_is, is-no, count-snoc, count_to-none}
use Rattle.rows.specs.Rows.{span}
use Rattle.rows.proofs.Spans.{Counted, count_begin, count_next, count-over, span_same, span-snoc, get_d_set, get_or-other}
use Rattle.rules.specs.Rules.{names_pair, names_at, due_at, firm_at, firm_in}
use Rattle.rules.specs.declared.Naming.{Naming}
use Rattle.rules.specs.declared.Index.{Index}
use Rattle.rules.specs.Index.{no_naming, naming_of, namings_of, naming_at, first_at, last_at, namings_in, flag_in, Indexed, NoneAbove, Added}
use Rattle.rules.proofs.Namings.{passing-same, passing_yes, passing-no, none-passing, map_snoc}

-- ---- the namings of one measure, put behind those that there are

pub record Adding (lower : List ℕ) (gap : List ℤ) (upper : List ℕ) (end m n : ℕ) (before namings : List Naming) (next i : ℕ) : Type 0 where
  pub long : length namings ≡ 128
  pub since : n ≤ next
  pub counted : Counted (names_at lower upper m) (λ i. i) end i (next - n)
  pub named : span n (next - n) (naming_at namings) ≡ map (naming_of lower gap upper m) (passing (names_at lower upper m) (span 0 i (λ i. i)))
  pub others : (j : ℕ) → j < n → naming_at namings j ≡ naming_at before j

module _ (lower : List ℕ) (gap : List ℤ) (upper : List ℕ) (end m n : ℕ) (before : List Naming) where
  pub adding_begin : length before ≡ 128 → Adding lower gap upper end m n before before n 0
  adding_begin l =
      let z : n - n ≡ 0 = omega arith in
      record {
        long = l;
        since = omega arith;
        counted = subst (Counted (names_at lower upper m) (λ i. i) end 0) (sym z) (count_begin (names_at lower upper m) (λ i. i) end);
        named = ap (λ k. span n k (naming_at before)) z;
        others = λ j h. refl;
      }

  module _ (namings : List Naming) (next i : ℕ) (w : Adding lower gap upper end m n before namings next i) where
    pub adding_over : end ≤ i → i ≤ end → Added lower gap upper end m n next before namings
    adding_over h k =
        let c = count-over (names_at lower upper m) (λ i. i) end i (next - n) w.counted h in
        let e : i ≡ end = omega arith in
        record {
          long = w.long;
          counted = omega (arith, w.since);
          namings = w.named ∙ ap (λ k. map (naming_of lower gap upper m) (passing (names_at lower upper m) (span 0 k (λ i. i)))) e;
          others = w.others;
        }

    -- the rules up to the one at hand
    upto : span 0 (i + 1) (λ i. i) ≡ snoc (span 0 i (λ i. i)) i
    upto =
        let e : i + 1 ≡ suc i = omega arith in
        let z : 0 + i ≡ i = omega arith in
        ap (λ k. span 0 k (λ i. i)) e ∙ span-snoc 0 i (λ i. i) ∙ ap (snoc (span 0 i (λ i. i))) z

    more : (t : Bool) → i < end → names_at lower upper m i ≡ t → Counted (names_at lower upper m) (λ i. i) end (i + 1) (next - n + bit t)
    more t h e = count_next (names_at lower upper m) (λ i. i) end i (next - n) (bit t) w.counted h (ap bit (sym e))

    pub adding_skip : i < end → names_at lower upper m i ≡ false → Adding lower gap upper end m n before namings next (i + 1)
    adding_skip h e =
        let z : next - n + 0 ≡ next - n = omega arith in
        record {
          long = w.long;
          since = w.since;
          counted = subst (Counted (names_at lower upper m) (λ i. i) end (i + 1)) z (more false h e);
          named = w.named ∙ ap (map (naming_of lower gap upper m)) (sym (ap (passing (names_at lower upper m)) upto ∙ passing-no (names_at lower upper m) (span 0 i (λ i. i)) i e));
          others = w.others;
        }

    -- there is room for it
    pub adding_room : i < end → names_at lower upper m i ≡ true → n + count (names_at lower upper m) (span 0 end (λ i. i)) ≤ 128 → next < 128
    adding_room h e r = let c = (more true h e).rest in omega (arith, w.since)

    pub adding_put : i < end → names_at lower upper m i ≡ true → next < 128 → {naming : Naming} → naming ≡ naming_of lower gap upper m i
        → Adding lower gap upper end m n before (set namings next naming) (next + 1) (i + 1)
    adding_put h e r {naming = naming} naming-is =
        let s = w.since in
        let x : next - n + 1 ≡ next + 1 - n = omega arith in
        let y : next + 1 - n ≡ suc (next - n) = omega arith in
        let u : n + (next - n) ≡ next = omega arith in
        let after = set namings next naming in
        let own : naming_at after next ≡ naming_of lower gap upper m i = get_d_set namings next naming no_naming (omega (arith, w.long)) ∙ naming-is in
        record {
          long = simp length-set w.long;
          since = omega arith;
          counted = subst (Counted (names_at lower upper m) (λ i. i) end (i + 1)) x (more true h e);
          named = ap (λ k. span n k (naming_at after)) y
              ∙ span-snoc n (next - n) (naming_at after)
              ∙ ap₂ {C = List Naming} snoc (span_same n (next - n) (naming_at after) (naming_at namings) (λ k p q. get_or-other namings next k naming no_naming (λ e. omega arith)) ∙ w.named)
              (ap (naming_at after) u ∙ own)
              ∙ sym (map_snoc (naming_of lower gap upper m) (passing (names_at lower upper m) (span 0 i (λ i. i))) i)
              ∙ ap (map (naming_of lower gap upper m)) (sym (ap (passing (names_at lower upper m)) upto ∙ passing_yes (names_at lower upper m) (span 0 i (λ i. i)) i e));
          others = λ j k. get_or-other namings next j naming no_naming (λ e. omega arith) ∙ w.others j k;
        }

-- ---- how many there are: two a rule at most

module _ (a b : ℕ) where
  one_most : (a m : ℕ) → count_to (λ j. eqb a j) m ≤ 1
  one_most a zero = omega arith
  one_most a (suc m) = cases (eqb a (suc m))
      (λ t. let e = eqb-true a (suc m) t in let z = count_to-none (λ j. eqb a j) m (λ s p q. is-no (ne_eqb a s (λ u. omega arith))) in rw t (omega arith))
      (λ t. let r = one_most a m in rw t (omega arith))

  either : (m : ℕ) → count_to (λ j. names_pair a b j) m ≤ count_to (λ j. eqb a j) m + count_to (λ j. eqb b j) m
  unfolding names_pair
  either zero = omega arith
  either (suc m) = let r = either m in let l = most (eqb a (suc m)) (eqb b (suc m)) in omega arith
    where
      most : (x y : Bool) → bit (x || y) ≤ bit x + bit y
      most true y = omega arith
      most false y = omega arith

  two_most : (m : ℕ) → count_to (λ j. names_pair a b j) m ≤ 2
  two_most m = let e = either m in let x = one_most a m in let y = one_most b m in omega arith

module _ (lower upper : List ℕ) where
  -- the namings of the measures up to m among the first rules
  abbrev pub named_to : ℕ → ℕ → ℕ
  named_to end zero = 0
  named_to end (suc m) = named_to end m + count (names_at lower upper (suc m)) (span 0 end (λ i. i))

  named_none : (m : ℕ) → named_to 0 m ≡ 0
  named_none zero = refl
  named_none (suc m) = let r = named_none m in omega arith

  named_more : (end m : ℕ) → named_to (suc end) m ≡ named_to end m + count_to (λ j. names_at lower upper j end) m
  named_more end zero = refl
  named_more end (suc m) =
      let r = named_more end m in
      let z : 0 + end ≡ end = omega arith in
      let c : count (names_at lower upper (suc m)) (span 0 (suc end) (λ i. i)) ≡ count (names_at lower upper (suc m)) (span 0 end (λ i. i)) + bit (names_at lower upper (suc m) end) =
      ap (count (names_at lower upper (suc m))) (span-snoc 0 end (λ i. i) ∙ ap (snoc (span 0 end (λ i. i))) z) ∙ count-snoc (names_at lower upper (suc m)) (span 0 end (λ i. i)) end in
      omega arith

  named_few : (end m : ℕ) → named_to end m ≤ 2 * end
  named_few zero m = let r = named_none m in omega arith
  named_few (suc end) m = let r = named_few end m in let e = named_more end m in let t = two_most (get_or lower end 0) (get_or upper end 0) m in omega arith

  named-next : (end m : ℕ) → 0 < m → named_to end m ≡ named_to end (m - 1) + count (names_at lower upper m) (span 0 end (λ i. i))
  named-next end zero h = absurd (omega arith)
  named-next end (suc m) h = let e : m ≡ suc m - 1 = omega arith in ap (λ k. named_to end k + count (names_at lower upper (suc m)) (span 0 end (λ i. i))) e

-- ---- measure by measure

-- a measure whose namings stand among the first n
pub record Done (lower : List ℕ) (gap : List ℤ) (upper : List ℕ) (firm : List Bool) (end : ℕ) (index : Index) (n j : ℕ) : Type 0 where
  pub ends : get_or index.ends (j + 1) 0 ≤ n
  pub named : namings_in index j ≡ namings_of lower gap upper end j
  pub firmly : 0 < j → flag_in index j ≡ firm_in lower upper firm end j

pub record Indexing (lower : List ℕ) (gap : List ℤ) (upper : List ℕ) (firm : List Bool) (end : ℕ) (index : Index) (n m : ℕ) : Type 0 where
  pub long : (length index.namings ≡ 128) × (length index.ends ≡ 34) × (length index.firm ≡ 33)
  pub least : 0 < m
  pub most : m ≤ 33
  pub begins : get_or index.ends m 0 ≡ n
  pub counted : n ≡ named_to lower upper end (m - 1)
  pub done : (j : ℕ) → j < m → Done lower gap upper firm end index n j

-- the one that it begins with
abbrev pub no_index : Index
no_index = record { ends = replicate 34 0; firm = replicate 33 false; namings = replicate 128 no_naming }

module _ (lower : List ℕ) (gap : List ℤ) (upper : List ℕ) (firm : List Bool) (end : ℕ) where
  none_at : namings_of lower gap upper end 0 ≡ []
  unfolding namings_of
  none_at = ap (map (naming_of lower gap upper 0)) (none-passing (span 0 end (λ i. i)))

  pub indexing_begin : Indexing lower gap upper firm end no_index 0 1
  unfolding namings_in
  indexing_begin = record {
    long = (refl, refl, refl);
    least = omega arith;
    most = omega arith;
    begins = refl;
    counted = refl;
    done = λ j h. let e : j ≡ 0 = omega arith in subst (Done lower gap upper firm end no_index 0) (sym e) (record {
      ends = omega arith;
      named = sym none_at;
      firmly = λ h. absurd (omega arith);
    });
  }

  pub indexing_over : (index : Index) (n m : ℕ) → Indexing lower gap upper firm end index n m → 33 ≤ m → Indexed index lower gap upper firm end
  indexing_over index n m w h = record { named = λ j k. (w.done j (omega arith)).named; firmly = λ j p k. (w.done j (omega arith)).firmly p }

  module _ (index : Index) (n m : ℕ) (w : Indexing lower gap upper firm end index n m) (size : end ≤ 64) (h : m < 33) where
    pub indexing_room : n + count (names_at lower upper m) (span 0 end (λ i. i)) ≤ 128
    indexing_room = let a = named-next lower upper end m w.least in let b = named_few lower upper end m in omega (arith, w.counted)

    module _ (after : List Naming) (next : ℕ) (a : Added lower gap upper end m n next index.namings after) where
      pub indexing_few : next ≤ 128
      indexing_few = let r = indexing_room in let c = a.counted in omega arith

      module _ (f : Bool) (f-is : f ≡ firm_in lower upper firm end m) where
        abbrev last : Index
        last = record index { ends = set index.ends (m + 1) next; firm = set index.firm m f; namings = after }

        end_is : get_or last.ends (m + 1) 0 ≡ next
        end_is = get_d_set index.ends (m + 1) next 0 (omega (arith, w.long.1))

        -- where the measures before and the one at hand begin
        begin_is : (j : ℕ) → j ≤ m → get_or last.ends j 0 ≡ get_or index.ends j 0
        begin_is j h = get_or-other index.ends (m + 1) j next 0 (λ e. omega arith)

        -- the measures before
        still : (j : ℕ) → j < m → Done lower gap upper firm end index n j → Done lower gap upper firm end last next j
        unfolding namings_in flag_in
        still j k d =
            let x = begin_is j (omega arith) in
            let y = begin_is (j + 1) (omega arith) in
            record {
              ends = rw y (let e = d.ends in let c = a.counted in omega arith);
              named = (λ i. span (x i) (min (y i) 128 - x i) (naming_at after)) ∙ span_same (first_at index j) (last_at index j - first_at index j) (naming_at after) (naming_at index.namings)
                  (λ i p q. a.others i (let e = d.ends in omega arith)) ∙ d.named;
              firmly = λ p. get_or-other index.firm m j f false (λ e. omega arith) ∙ d.firmly p;
            }

        -- the one at hand
        here : Done lower gap upper firm end last next m
        unfolding namings_in namings_of flag_in
        here =
            let x = begin_is m (omega arith) ∙ w.begins in
            let c : min next 128 ≡ next = omega (arith, indexing_few) in
            record {
              ends = rw end_is (omega arith);
              named = (λ i. span (x i) (min (end_is i) 128 - x i) (naming_at after))
                  ∙ ap (λ k. span n (k - n) (naming_at after)) c
                  ∙ a.namings
                  ∙ ap (map (naming_of lower gap upper m))
                  (passing-same (names_at lower upper m) (due_at lower upper m) (span 0 end (λ i. i))
                  (λ i. sym (ap (λ b. b && names_at lower upper m i) (yes_is (one_to 32 m) (in_range_lem 32 m w.least (omega arith))))));
              firmly = λ p. get_d_set index.firm m f false (omega (arith, w.long.2)) ∙ f-is;
            }

        pub indexing_next : Indexing lower gap upper firm end last next (m + 1)
        indexing_next = record {
          long = (a.long, simp length-set w.long.1, simp length-set w.long.2);
          least = omega arith;
          most = omega arith;
          begins = end_is;
          counted = (let x = named-next lower upper end m w.least in let e : m + 1 - 1 ≡ m = omega arith in let y = ap (named_to lower upper end) e in let z = w.counted in let v = a.counted in
              omega arith);
          done = λ j k. cases (ltb j m) (λ t. still j (ltb-true j m t) (w.done j (ltb-true j m t)))
              (λ t. let e : m ≡ j = (let u = ltb-false j m t in omega arith) in subst (Done lower gap upper firm end last next) e here);
        }

-- ---- a measure above all that the rules name

module _ (lower upper : List ℕ) (end top m : ℕ) (h : NoneAbove lower upper end top) (above : top < m) where
  none_named : (i : ℕ) → i < end → names_at lower upper m i ≡ false
  unfolding names_pair
  none_named i l =
      let b = h i l in
      rw (ne_eqb (get_or lower i 0) m (λ e. omega (arith, b.0)), ne_eqb (get_or upper i 0) m (λ e. omega (arith, b.1)))

  pub none_added : (gap : List ℤ) (n : ℕ) (before : List Naming) → length before ≡ 128 → Added lower gap upper end m n n before before
  none_added gap n before l = adding_over lower gap upper end m n before before n end (walked end (omega arith)) (omega arith) (omega arith)
    where
      walked : (k : ℕ) → k ≤ end → Adding lower gap upper end m n before before n k
      walked zero e = adding_begin lower gap upper end m n before l
      walked (suc k) e =
          subst (Adding lower gap upper end m n before before n) (add-one k)
          (adding_skip lower gap upper end m n before before n k (walked k (omega arith)) (omega arith) (none_named k (omega arith)))

  pub none-firm : (firm : List Bool) → false ≡ firm_in lower upper firm end m
  unfolding firm_in
  none-firm firm = walked 0 end (λ i a b. none_named i (omega arith))
    where
      walked : (i n : ℕ) → ((j : ℕ) → i ≤ j → j < i + n → names_at lower upper m j ≡ false) → false ≡ any (firm_at lower upper firm m) (span i n (λ i. i))
      walked i zero f = refl
      walked i (suc n) f = rw (f i (omega arith) (omega arith), and-false (get_or firm i false)) (walked (suc i) n (λ j a b. f j (omega arith) (omega arith)))
