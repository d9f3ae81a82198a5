-- The tests of a file, as the program makes them. Assumes nothing.
use Prim.Native.Nat.{ℕ, zero, suc, ◌+◌, ◌*◌, ◌/◌, ◌%◌, ◌<◌, ◌≤◌}
use native.Mathlib.Omega.{arith}
use mathlib.Core.Path.{◌≡◌, refl, sym, ap, subst, ◌∙◌}
use mathlib.Core.Bool.{Bool, true, false, not, ◌&&◌}
use mathlib.Core.Logic.{◌≢◌}
use mathlib.Core.List.{List, [], ◌∷◌}
use borrow.Author.Tests.{lt-ltb, eq-eqb, ne_eqb, ltb-true, ltb-false}
use lib.Dec.{T, eqb, leb, ltb, eqb→eq, leb→le}
use lib.Seq.{take_all}
use lib.ListN.{length, get_or, take, replicate}
use Rattle.protocol.specs.Lists.{is_none}
use Rattle.protocol.specs.Plan.{blank, is}
use Rattle.protocol.specs.Calls.{Check, ◌unless◌, ◌when◌, first, fine, refused}
use Rattle.protocol.proofs.Laws.{cases, is_yes, yes_is, no-is, both, same-no}
use Rattle.file.specs.Bytes.{two_at, total, word_size}
use Rattle.file.specs.Loaded.{slot_in, slots, first_slot, zero_from, measure_chain, rule_chain, next_number, sized, balanced, leaves_file, meets_twice, well_marked, misses_slot, clear, numbered}
use Rattle.file.specs.Walked.{Walked, stopped, ended, walk, as_measure, as_rule, Sound46}
use Rattle.file.proofs.Walks.{onto, walk-ended, sound_walks, walks_sound}
use Rattle.std.proofs.Common.{Option, None, Some}
use Rattle.slots.specs.declared.Kind.TheVariants.{Measure, Rule}
use Rattle.slots.specs.declared.Slot.{Slot}
use Rattle.slots.specs.Words.{words_of, words_in, Parted}
use Rattle.slots.proofs.Parts.{next_part, second_part, count_part, zero_14, slot_whole}
use Rattle.heads.specs.declared.Head.{Head}
use Rattle.heads.specs.Heads.{mode_of}
use Rattle.load.specs.Reading.{untouched_in, head_checks}
use Rattle.load.specs.Walking.{Marks, WalkedAs, Walking}

eqb_swap : (a b : ℕ) → eqb a b ≡ eqb b a
eqb_swap a b = cases (eqb b a)
    (λ e. eq-eqb a b (sym (eqb→eq b a (is_yes e))) ∙ sym e)
    (λ e. ne_eqb a b (λ z. absurd (is_yes (sym e ∙ eq-eqb b a (sym z)))) ∙ sym e)

-- slot 0, where there is one
pub zero-words : (f : List ℕ) → 0 < slots f → (w : Slot) → w ≡ words_in f 0 → w ≡ words_of (first_slot f)
zero-words f h w e = e ∙ rw (lt-ltb 0 (slots f) h)

-- from 1 to 97 whole slots
abbrev slotted : List ℕ → Bool
slotted f = is_none (length f % 16) && not (is_none (length f)) && leb (slots f) 97

slotted-parts : (f : List ℕ) → T (slotted f) → (length f % 16 ≡ 0) × (0 < slots f) × (slots f ≤ 97)
slotted-parts f t =
    let b = both (is_none (length f % 16) && not (is_none (length f))) (leb (slots f) 97) t in
    let c = both (is_none (length f % 16)) (not (is_none (length f))) b.0 in
    let g = eqb→eq (length f % 16) 0 c.0 in
    let n = same-no (length f) 0 c.1 in
    (g, some (length f) g n, leb→le (slots f) 97 b.1)
  where
    some : (n : ℕ) → n % 16 ≡ 0 → n ≢ 0 → 0 < n / 16
    some n g h = cases (ltb 0 (n / 16)) (λ e. ltb-true 0 (n / 16) e) (λ e. let l = ltb-false 0 (n / 16) e in absurd (h (omega arith)))

-- what 44 tested
pub sized-parts : (f : List ℕ) → T (sized f) → (length f % 16 ≡ 0) × (0 < slots f) × (slots f ≤ 97)
unfolding sized
sized-parts f t = slotted-parts f (both (slotted f) _ t).0

-- a file of so many slots has the count that slot 0 gives
pub sized_by : (f : List ℕ) (w : Slot) (n : ℕ) → slotted f ≡ true → w ≡ words_in f 0 → (0 < slots f → Parted (slot_in f 0)) → n ≡ w.fourth % 65_536 → eqb n (slots f) ≡ sized f
unfolding sized
sized_by f w n t e p k =
    let some = (slotted-parts f (is_yes t)).1 in
    let count = k ∙ ap (λ (x : Slot). x.fourth % 65_536) (zero-words f some w e) ∙ sym (count_part (first_slot f) (p some)) in
    rw t (eqb_swap n (slots f) ∙ ap (eqb (slots f)) count)

pub unsized : (f : List ℕ) → slotted f ≡ false → false ≡ sized f
unfolding sized
unsized f t = rw t

-- ---- 46

-- no slot is marked yet
none-marked : Marks (replicate 97 false) []
none-marked = record { long = refl; marks = λ s h. none 97 s }
  where
    none : (n s : ℕ) → get_or (replicate n false) s false ≡ false
    none zero s = refl
    none (suc n) zero = refl
    none (suc n) (suc s) = none n s

-- what a walk's answer says of it
walk-some : (x : Walked) (r : ℕ) (seen : List Bool) → WalkedAs x (Some r) seen → (ks : List ℕ) × (x ≡ ended ks) × (r ≡ length ks) × Marks seen ks
walk-some stopped r seen h = let z : ◌≡◌ {A = Option ℕ} (Some r) None = h in cc
walk-some (ended ks) r seen h = (ks, refl, (let z : ◌≡◌ {A = Option ℕ} (Some r) (Some (length ks)) = h.0 in cc), h.1)

walk-number : (x : Walked) (r : Option ℕ) (seen : List Bool) (ks : List ℕ) → WalkedAs x r seen → x ≡ ended ks → r ≡ Some (length ks)
walk-number x r seen ks h e = (subst (λ (y : Walked). WalkedAs y r seen) e h).0

-- the tests of 46 that speak of slots pass exactly if t
abbrev pub Found : List ℕ → Bool → Type 0
Found f t = (t ≡ true → Sound46 f) × (Sound46 f → t ≡ true)

module _ (f : List ℕ) (size : T (sized f)) (w : Slot) (w-is : w ≡ words_in f 0) (p : 0 < slots f → Parted (slot_in f 0)) where
  some : 0 < slots f
  some = (sized-parts f size).1

  parted : Parted (first_slot f)
  parted = p some

  words-is : w ≡ words_of (first_slot f)
  words-is = zero-words f some w w-is

  tail_is : zero_from (first_slot f) 14 ≡ is_none (w.fourth / 65_536)
  tail_is = zero_14 (first_slot f) (slot_whole f 0 some) parted ∙ ap (λ (x : Slot). is_none (x.fourth / 65_536)) (sym words-is)

  pub tail_set : (n : ℕ) → n ≡ w.fourth / 65_536 → n ≢ 0 → Found f false
  tail_set n e h = (
    λ z. absurd (is_yes z),
    λ s.
        let c = (sound_walks f some s).clean in
        absurd (subst T (tail_is ∙ ap is_none (sym e) ∙ ne_eqb n 0 h) c),
  )

  module _ (a : ℕ) (a-is : a ≡ w.first % 65_536) (n : Option ℕ) (seen : List Bool) (walked : Walking f Measure a 0 (replicate 97 false) n seen) where
    at_measures : a ≡ two_at (first_slot f) 0
    at_measures = a-is ∙ ap (λ (x : Slot). x.first % 65_536) words-is ∙ sym (next_part (first_slot f) parted)

    first_walk : WalkedAs (walk f as_measure (slots f) (two_at (first_slot f) 0) []) n seen
    first_walk = subst (λ k. WalkedAs (walk f as_measure (slots f) k []) n seen) at_measures (walked [] none-marked refl)

    pub no-measures : n ≡ None → Found f false
    no-measures z = (
      λ y. absurd (is_yes y),
      λ s.
          let e = walk-number _ n seen _ first_walk (sound_walks f some s).measures in
          let q = sym z ∙ e in
          cc,
    )

    module _ (m : ℕ) (m-is : n ≡ Some m) (tail : w.fourth / 65_536 ≡ 0) (b : ℕ) (b-is : b ≡ w.first / 65_536) (r : Option ℕ) (seen' : List Bool) (more : Walking f Rule b m seen r seen') where
      at_rules : b ≡ two_at (first_slot f) 2
      at_rules = b-is ∙ ap (λ (x : Slot). x.first / 65_536) words-is ∙ sym (second_part (first_slot f) parted)

      measures-met : (ks : List ℕ) × (walk f as_measure (slots f) (two_at (first_slot f) 0) [] ≡ ended ks) × (m ≡ length ks) × Marks seen ks
      measures-met = walk-some _ m seen (subst (λ o. WalkedAs (walk f as_measure (slots f) (two_at (first_slot f) 0) []) o seen) m-is first_walk)

      second_walk : WalkedAs (walk f as_rule (slots f) (two_at (first_slot f) 2) measures-met.0) r seen'
      second_walk =
          let met = measures-met in
          subst (λ k. WalkedAs (walk f as_rule (slots f) k met.0) r seen') at_rules (more met.0 met.3 met.2)

      measures-are : measures-met.0 ≡ onto (measure_chain f) []
      measures-are = (walk-ended f as_measure (slots f) (two_at (first_slot f) 0) [] measures-met.0 measures-met.1).1

      -- of a sound file the second walk ends with all slots met
      all-walked : Sound46 f → (k : ℕ) × (r ≡ Some k) × (k + 1 ≡ slots f)
      all-walked s =
          let k = sound_walks f some s in
          let rules-is = ap (walk f as_rule (slots f) (two_at (first_slot f) 2)) measures-are ∙ k.rules in
          let l = k.full in
          let o = some in
          (_, walk-number _ r seen' _ second_walk rules-is, omega (arith, l, o))

      pub no-rules : r ≡ None → Found f false
      no-rules z = (λ y. absurd (is_yes y), λ s. let k = all-walked s in let q = sym z ∙ k.1 in cc)

      pub all-met : (k : ℕ) → r ≡ Some k → Found f (eqb (k + 1) (slots f))
      all-met k k-is = (
        λ t.
            let q = eqb→eq (k + 1) (slots f) (is_yes t) in
            let u = walk-some _ k seen' (subst (λ o. WalkedAs (walk f as_rule (slots f) (two_at (first_slot f) 2) measures-met.0) o seen') k-is second_walk) in
            let u-is = (walk-ended f as_rule (slots f) (two_at (first_slot f) 2) measures-met.0 u.0 u.1).1 in
            let onto-is : onto (rule_chain f) measures-met.0 ≡ onto (rule_chain f) (onto (measure_chain f) []) = ap (onto (rule_chain f)) measures-are in
            walks_sound f (record {
              measures = measures-met.1 ∙ ap ended measures-are;
              rules = ap (walk f as_rule (slots f) (two_at (first_slot f) 2)) (sym measures-are) ∙ u.1 ∙ ap ended (u-is ∙ onto-is);
              full = let l = ap length (u-is ∙ onto-is) in let j = u.2 in omega (arith, l, j, q);
              clean = subst T (sym (tail_is ∙ eq-eqb (w.fourth / 65_536) 0 tail)) tt;
            }),
        λ s.
            let a = all-walked s in
            let e = sym k-is ∙ a.1 in
            let same : k ≡ a.0 = cc in
            let l = a.2 in
            eq-eqb (k + 1) (slots f) (omega (arith, same, l)),
      )

-- ---- the next number

-- the one that slot 0 gives
pub number_is : (f : List ℕ) (w : Slot) → w ≡ words_in f 0 → 0 < slots f → w.second ≡ next_number f
number_is f w w-is h = ap (λ (x : Slot). x.second) (zero-words f h w w-is)

-- ---- the checks in their order

-- those of 46
abbrev pub last_checks : List ℕ → List Check
last_checks f = (46 when leaves_file f) ∷ (46 when meets_twice f) ∷ (46 unless well_marked f) ∷ (46 when misses_slot f) ∷ (46 unless clear f) ∷ (46 unless numbered f) ∷ []

-- where the tests that speak of slots do not all pass
pub unsound : (f : List ℕ) → (Sound46 f → false ≡ true) → refused 46 ≡ first (last_checks f)
unsound f none = cases (leaves_file f) (λ a. rw a) (λ a. rw a (cases (meets_twice f) (λ b. rw b) (λ b. rw b (cases (well_marked f)
    (λ c. rw c (cases (misses_slot f) (λ d. rw d) (λ d. rw d (cases (clear f)
    (λ e. absurd (is_yes (none (record {
      stays = subst (λ t. T (not t)) (sym a) tt;
      once = subst (λ t. T (not t)) (sym b) tt;
      marked_well = is_yes c;
      full = subst (λ t. T (not t)) (sym d) tt;
      clean = is_yes e;
    }))))
    (λ e. rw e)))))
    (λ c. rw c)))))

-- where they do, the next number decides
pub sound_first : (f : List ℕ) → Sound46 f → first (last_checks f) ≡ first ((46 unless numbered f) ∷ [])
sound_first f s = rw (no-is (leaves_file f) s.stays, no-is (meets_twice f) s.once, yes_is (well_marked f) s.marked_well, no-is (misses_slot f) s.full, yes_is (clear f) s.clean)

-- the sum of a file that has whole slots
pub balanced-is : (f : List ℕ) → T (sized f) → (n : ℕ) → n ≡ total (take (16 * slots f) f) % word_size → is_none n ≡ balanced f
unfolding balanced
balanced-is f t n e =
    let s = sized-parts f t in
    let l : 16 * slots f ≡ length f = let g = s.0 in omega arith in
    ap is_none (e ∙ ap (λ m. total (take m f) % word_size) l ∙ ap (λ bs. total bs % word_size) (take_all (length f) f (omega arith)))

-- each refusal, where the checks before it pass
module _ (f : List ℕ) (h : Head) (a : untouched_in h ≡ true) (b : sized f ≡ true) where
  pub first_45 : balanced f ≡ false → refused 45 ≡ first (head_checks f h)
  first_45 e = rw (a, b, e)

  pub first_46 : balanced f ≡ true → (Sound46 f → false ≡ true) → refused 46 ≡ first (head_checks f h)
  first_46 c e = rw (a, b, c) (unsound f e)

  module _ (c : balanced f ≡ true) (s : Sound46 f) where
    pub first-unnumbered : numbered f ≡ false → refused 46 ≡ first (head_checks f h)
    first-unnumbered n = rw (a, b, c) (sym (sound_first f s ∙ rw n))

    pub first-fine : numbered f ≡ true → fine ≡ first (head_checks f h)
    first-fine n = rw (a, b, c) (sym (sound_first f s ∙ rw n))

-- blank with nothing drawn
pub untouched_yes : (h : Head) → is blank (mode_of h.mode) ≡ true → h.measures ≡ 0 → h.rules ≡ 0 → untouched_in h ≡ true
untouched_yes h a b c = rw (a, b, c)
