-- Slots as four words. Assumes nothing.
use Rattle.std.proofs.Common.{◌≡◌, ℕ, suc, ◌+◌, ◌-◌, ◌*◌, ◌/◌, ◌%◌, ◌<◌, ◌≤◌, ltb, List, [], ◌∷◌, ◌++◌, length, get_or, take, drop, set, ℤ, pos, negsuc, sym, refl, ap, ◌∙◌, subst, ap₂, arith, lt-ltb, append_assoc, w32, to_z, of_z, to_z-of_z, FitsSigned}
use Rattle.std.proofs.lemmas.Int.{of_z-to_z}
use lib.Seq.{sets, sets-eq}
use borrow.Rule.Slice.PartMut.{put_mid, Post-is}
use Rattle.protocol.proofs.Laws.{cases}
use Rattle.file.specs.Bytes.{word_size, two_at, four_at, four_bytes, signed, complement, total}
use Rattle.file.specs.Loaded.{slot_in}
use Rattle.file.proofs.Cells.{two_slot, four_slot, total_more}
use Rattle.file.proofs.Chains.{slot_byte}
use Rattle.slots.specs.declared.Slot.{Slot}
use Rattle.slots.specs.Words.{words_of, words_in, Parted, sum_of, bytes_of, put_in}

-- ---- reading

module _ (f : List ℕ) (k : ℕ) (h : k < length f / 16) where
  slot_word : (i at : ℕ) → i ≤ 12 → at ≡ 16 * k + i → (w : ℕ) → w ≡ four_at f at → w ≡ four_at (slot_in f k) i
  slot_word i at l e w x = x ∙ ap (four_at f) e ∙ sym (four_slot f k i l)

  -- slot k, from the words that stand at its places
  pub read_in : (at a b c d : ℕ) → at ≡ 16 * k → a ≡ four_at f at → b ≡ four_at f (at + 4) → c ≡ four_at f (at + 8) → d ≡ four_at f (at + 12)
      → record { first = a; second = b; third = c; fourth = d } ≡ words_in f k
  read_in at a b c d e p q r s =
      let x = slot_word 0 at (omega arith) (omega arith) a p in
      let y = slot_word 4 (at + 4) (omega arith) (omega arith) b q in
      let z = slot_word 8 (at + 8) (omega arith) (omega arith) c r in
      let w = slot_word 12 (at + 12) (omega arith) (omega arith) d s in
      rw (lt-ltb k (length f / 16) h) (λ i. record { first = x i; second = y i; third = z i; fourth = w i })

  -- and what is known of its bytes
  pub read_parted : (at : ℕ) → at ≡ 16 * k → two_at f at < 65_536 → get_or f (at + 2) 0 < 256 → two_at f (at + 4) < 65_536 → two_at f (at + 12) < 65_536 → Parted (slot_in f k)
  read_parted at e a b c d = record {
    next = subst (λ n. n < 65_536) (sym (half 0 at (omega arith) (omega arith))) a;
    mark = subst (λ n. n < 256) (sym (slot_byte f k 2 (omega arith) ∙ ap (λ n. get_or f n 0) (omega (arith, e)))) b;
    lower = subst (λ n. n < 65_536) (sym (half 4 (at + 4) (omega arith) (omega arith))) c;
    count = subst (λ n. n < 65_536) (sym (half 12 (at + 12) (omega arith) (omega arith))) d;
  }
    where
      half : (i m : ℕ) → i ≤ 12 → m ≡ 16 * k + i → two_at (slot_in f k) i ≡ two_at f m
      half i m l x = two_slot f k i (omega arith) ∙ ap (two_at f) (sym x)

  -- the sum of the first slots, with one more
  pub sum_more : (s t : ℕ) (w : Slot) → s ≡ total (take (16 * k) f) % word_size → w ≡ words_in f k → t ≡ sum_of w % word_size → (s + t) % word_size ≡ total (take (16 * (k + 1)) f) % word_size
  sum_more s t w e u x =
      let v : w ≡ words_of (slot_in f k) = u ∙ rw (lt-ltb k (length f / 16) h) in
      let m : sum_of w ≡ sum_of (words_of (slot_in f k)) = ap sum_of v in
      let n : suc k ≡ k + 1 = omega arith in
      mod_more (total (take (16 * k) f)) s (sum_of w) t (total (take (16 * suc k) f)) e x (total_more f k (omega arith) ∙ ap (λ y. total (take (16 * k) f) + y) (sym m))
      ∙ ap (λ y. total (take (16 * y) f) % word_size) n
    where
      mod_more : (a s b t c : ℕ) → s ≡ a % word_size → t ≡ b % word_size → c ≡ a + b → (s + t) % word_size ≡ c % word_size
      mod_more a s b t c e g x = omega (arith, e, g, x)

-- ---- two's complement

pub signed_is : (w : ℕ) (z : ℤ) → w < word_size → z ≡ to_z w32 w → to_z w32 (of_z w32 z) ≡ signed w
unfolding signed
signed_is w z h e = ap (λ y. to_z w32 (of_z w32 y)) e ∙ ap (to_z w32) (of_z-to_z w32 w h) ∙ cases (ltb w 2_147_483_648) (λ e. rw e) (λ e. let k : word_size - w ≡ suc (word_size - suc w) = omega arith in rw (e, k))

pub complement_is : (v : ℤ) (w : ℕ) → FitsSigned w32 v → w ≡ of_z w32 (to_z w32 (of_z w32 v)) → w ≡ complement v
unfolding complement
complement_is v w h e = e ∙ ap (of_z w32) (to_z-of_z h) ∙ plain v
  where
    plain : (z : ℤ) → of_z w32 z ≡ complement z
    plain (pos n) = refl
    plain (negsuc n) = refl

-- ---- writing

pub sets_both : (xs ys area : List ℕ) (at : ℕ) → sets (sets area at xs) (at + length xs) ys ≡ sets area at (xs ++ ys)
sets_both [] ys area at = let e : at + 0 ≡ at = omega arith in ap (λ n. sets area n ys) e
sets_both (x ∷ xs) ys area at = let e : at + suc (length xs) ≡ suc at + length xs = omega arith in ap (λ n. sets (sets (set area at x) (suc at) xs) n ys) e ∙ sets_both xs ys (set area at x) (suc at)

-- a part of an area, copied over
pub part_sets : (area : List ℕ) (at k : ℕ) (xs ys : List ℕ) → ys ≡ xs → k ≡ length xs → at + k ≤ length area → put_mid at (at + k - at) area ys ≡ sets area at xs
part_sets area at k xs ys e l h =
    let p : at + k ≡ at + length xs = omega (arith, l) in
    ap (λ zs. put_mid at (at + k - at) area zs) e ∙ ap (λ zs. take at area ++ (xs ++ zs)) (Post-is at (at + k) area (omega arith) ∙ ap (λ n. drop n area) p)
    ∙ sym (append_assoc (take at area) xs _) ∙ sym (sets-eq xs area at (omega (arith, l, h)))

-- slot k, from its four words written one after the other
pub put_in_lem : (area : List ℕ) (k at : ℕ) (w : Slot) (a b c d : List ℕ) → k < length area / 16 → at ≡ 16 * k → a ≡ sets area at (four_bytes w.first) → b ≡ sets a (at + 4) (four_bytes w.second)
    → c ≡ sets b (at + 8) (four_bytes w.third) → d ≡ sets c (at + 12) (four_bytes w.fourth) → d ≡ put_in area k w
unfolding four_bytes
put_in_lem area k at w a b c d h e p q r s =
    let last : d ≡ sets b (at + 8) (four_bytes w.third ++ four_bytes w.fourth) =
    s ∙ ap₂ (λ xs n. sets xs n (four_bytes w.fourth)) r (sum_12 at) ∙ sets_both (four_bytes w.third) (four_bytes w.fourth) b (at + 8) in
    let later : d ≡ sets a (at + 4) (four_bytes w.second ++ (four_bytes w.third ++ four_bytes w.fourth)) =
    last ∙ ap₂ (λ xs n. sets xs n (four_bytes w.third ++ four_bytes w.fourth)) q (sum_8 at)
    ∙ sets_both (four_bytes w.second) (four_bytes w.third ++ four_bytes w.fourth) a (at + 4) in
    let all : d ≡ sets area at (bytes_of w) =
    later ∙ ap (λ xs. sets xs (at + 4) (four_bytes w.second ++ (four_bytes w.third ++ four_bytes w.fourth))) p
    ∙ sets_both (four_bytes w.first) (four_bytes w.second ++ (four_bytes w.third ++ four_bytes w.fourth)) area at in
    rw (lt-ltb k (length area / 16) h) (all ∙ ap (λ n. sets area n (bytes_of w)) e)
  where
    sum_12 : (n : ℕ) → n + 12 ≡ n + 8 + 4
    sum_12 n = omega arith

    sum_8 : (n : ℕ) → n + 8 ≡ n + 4 + 4
    sum_8 n = omega arith
