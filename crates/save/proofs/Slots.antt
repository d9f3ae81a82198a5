-- The slots of a saved plan as words, and written one behind the other. Assumes nothing.
use Rattle.std.proofs.Common.{◌≡◌, ℕ, suc, ◌+◌, ◌-◌, ◌*◌, ◌/◌, ◌%◌, ◌<◌, ◌≤◌, Bool, true, false, List, [], ◌∷◌, ◌++◌, length, get_or, drop, ℤ, sym, ap, ◌∙◌, ap₂, append_assoc, arith, le-ltb, lt-ltb, length-drop, drop_of_length-le}
use Rattle.std.proofs.lemmas.List.{drop_more}
use lib.Seq.{sets, length-sets}
use Rattle.protocol.specs.Plan.{Rule}
use Rattle.file.specs.Bytes.{word_size, two_bytes, four_bytes, complement, measure_kind, rule_kind, mark, balancing}
use Rattle.file.specs.Saved.{slot_zero, measure_slot, rule_slot, start_at, slots_from}
use Rattle.file.proofs.Sums.{balancing_only}
use Rattle.slots.specs.declared.Slot.{Slot}
use Rattle.slots.specs.Words.{joined_word, bytes_of, put_in}
use Rattle.slots.proofs.Words.{sets_both}
use Rattle.save.specs.Parts.{link_to}

-- ---- words

-- a word of two numbers is their bytes
pub joined_bytes : (a b : ℕ) → four_bytes (joined_word a b) ≡ two_bytes a ++ two_bytes b
unfolding four_bytes two_bytes
joined_bytes a b = rw (byte_0 a b, byte_1 a b, byte_2 a b, byte_3 a b)
  where
    byte_0 : (a b : ℕ) → joined_word a b % 256 ≡ a % 256
    byte_0 a b = omega arith

    byte_1 : (a b : ℕ) → joined_word a b / 256 % 256 ≡ a / 256 % 256
    byte_1 a b = omega arith

    byte_2 : (a b : ℕ) → joined_word a b / 65_536 % 256 ≡ b % 256
    byte_2 a b = omega arith

    byte_3 : (a b : ℕ) → joined_word a b / 16_777_216 % 256 ≡ b / 256 % 256
    byte_3 a b =
        let e : joined_word a b / 16_777_216 ≡ joined_word a b / 65_536 / 256 = omega arith in
        let d : joined_word a b / 65_536 ≡ b % 65_536 = omega arith in
        ap (λ n. n % 256) (e ∙ ap (λ n. n / 256) d) ∙ omega arith

small_bytes : (n : ℕ) → n < 65_536 → four_bytes n ≡ two_bytes n ++ (0 ∷ 0 ∷ [])
unfolding four_bytes two_bytes
small_bytes n h =
    let c : n / 65_536 ≡ 0 = omega arith in
    let d : n / 16_777_216 ≡ 0 = omega arith in
    rw (c, d)

one_byte : (n : ℕ) → n < 256 → two_bytes n ≡ n ∷ 0 ∷ []
unfolding two_bytes
one_byte n h =
    let a : n % 256 ≡ n = omega arith in
    let b : n / 256 ≡ 0 = omega arith in
    rw (a, b)

pub mark_below : (k : ℕ) (firm : Bool) → k < 4 → mark k firm < 256
unfolding mark
mark_below k true h = omega arith
mark_below k false h = omega arith

marked-bytes : (next k : ℕ) (firm : Bool) → k < 4 → four_bytes (joined_word next (mark k firm)) ≡ two_bytes next ++ (mark k firm ∷ 0 ∷ [])
marked-bytes next k firm h = joined_bytes next (mark k firm) ∙ ap (λ bs. two_bytes next ++ bs) (one_byte (mark k firm) (mark_below k firm h))

-- each sort of slot, from its words
pub zero_words : (first a b next check count : ℕ) → first ≡ joined_word a b → count < 65_536
    → bytes_of (record { first = first; second = next; third = check; fourth = count }) ≡ slot_zero a b next check count
unfolding slot_zero
zero_words first a b next check count e h = rw (e, joined_bytes a b, small_bytes count h) (simp append_assoc)

pub measure_words : (next first second : ℕ) (v : ℤ) → first ≡ joined_word next (mark measure_kind false) → second ≡ complement v
    → bytes_of (record { first = first; second = second; third = 0; fourth = 0 }) ≡ measure_slot next v
unfolding measure_slot four_bytes two_bytes
measure_words next first second v p q =
    ap₂ (λ a b. bytes_of (record { first = a; second = b; third = 0; fourth = 0 })) p q
    ∙ ap (λ bs. bs ++ (four_bytes (complement v) ++ (four_bytes 0 ++ four_bytes 0))) (marked-bytes next measure_kind false (omega arith))

pub rule_words : (next first second third : ℕ) (r : Rule) → first ≡ joined_word next (mark rule_kind r.firm) → second ≡ joined_word r.lower r.upper → third ≡ complement r.gap
    → bytes_of (record { first = first; second = second; third = third; fourth = 0 }) ≡ rule_slot next r
unfolding rule_slot four_bytes two_bytes
rule_words next first second third r p q s =
    (λ i. bytes_of (record { first = p i; second = q i; third = s i; fourth = 0 }))
    ∙ ap₂ (λ bs cs. bs ++ (cs ++ (four_bytes (complement r.gap) ++ four_bytes 0))) (marked-bytes next rule_kind r.firm (omega arith)) (joined_bytes r.lower r.upper)

-- ---- slots in an area

pub put_sets : (area : List ℕ) (k : ℕ) (w : Slot) → 16 * (k + 1) ≤ length area → put_in area k w ≡ sets area (16 * k) (bytes_of w)
put_sets area k w h = rw (lt-ltb k (length area / 16) (omega arith))

pub put_length_lem : (area next : List ℕ) (k : ℕ) (w : Slot) → 16 * (k + 1) ≤ length area → next ≡ put_in area k w → length next ≡ length area
put_length_lem area next k w h e = ap length (e ∙ put_sets area k w h) ∙ length-sets area (16 * k) (bytes_of w)

module _ {A : Type 0} where
  -- the first slot of a chain, by where its slots end
  pub start_link : (k n : ℕ) (xs : List A) → length xs ≡ n → start_at k xs ≡ link_to k (k + n)
  start_link k n [] e = rw (le-ltb k (k + n) (omega arith))
  start_link k n (x ∷ xs) e = rw (lt-ltb k (k + n) (omega arith))

  -- The area once the slots of a list are written from slot k + i on, for the elements from i on.
  unfoldable pub full : (ℕ → A → List ℕ) → ℕ → List A → List ℕ → ℕ → List ℕ
  full slot k xs area i = sets area (16 * (k + i)) (slots_from slot (k + i) (drop i xs))

  pub full-first : (slot : ℕ → A → List ℕ) (k : ℕ) (xs : List A) (area : List ℕ) → full slot k xs area 0 ≡ sets area (16 * k) (slots_from slot k xs)
  unfolding full
  full-first slot k xs area = let e : k + 0 ≡ k = omega arith in rw e

  pub full-last : (slot : ℕ → A → List ℕ) (k : ℕ) (xs : List A) (area : List ℕ) (i : ℕ) → length xs ≤ i → full slot k xs area i ≡ area
  unfolding full
  full-last slot k xs area i h = rw (drop_of_length-le xs {i = i} h)

  module _ (slot : ℕ → A → List ℕ) (size : (n : ℕ) (x : A) → length (slot n x) ≡ 16) (k : ℕ) (xs : List A) (none : A) (area : List ℕ) (i : ℕ) (h : i < length xs) where
    full-next : full slot k xs area i ≡ full slot k xs (sets area (16 * (k + i)) (slot (link_to (k + i + 1) (k + length xs)) (get_or xs i none))) (i + 1)
    unfolding full
    full-next =
        let rest = drop (i + 1) xs in
        let x = get_or xs i none in
        let l = length-drop (i + 1) xs in
        let e : suc (k + i) ≡ k + (i + 1) = omega arith in
        let d : k + i + 1 ≡ suc (k + i) = omega arith in
        let g : suc (k + i) + (length xs - (i + 1)) ≡ k + length xs = omega arith in
        let one = slot (link_to (k + i + 1) (k + length xs)) x in
        let s : slot (start_at (suc (k + i)) rest) x ≡ one = ap (λ m. slot m x) (start_link (suc (k + i)) (length xs - (i + 1)) rest l ∙ rw (g, d)) in
        let z = size (link_to (k + i + 1) (k + length xs)) x in
        let at : 16 * (k + i) + length one ≡ 16 * (k + (i + 1)) = omega arith in
        ap (λ ys. sets area (16 * (k + i)) (slots_from slot (k + i) ys)) (drop_more xs i none h)
        ∙ ap (λ bs. sets area (16 * (k + i)) (bs ++ slots_from slot (suc (k + i)) rest)) s
        ∙ sym (sets_both one (slots_from slot (suc (k + i)) rest) area (16 * (k + i)))
        ∙ ap₂ (λ m j. sets (sets area (16 * (k + i)) one) m (slots_from slot j rest)) at e

    -- one slot more, put where it belongs
    pub full_put : (next : List ℕ) (w : Slot) (l : ℕ) → 16 * (k + length xs) ≤ length area → next ≡ put_in area (k + i) w → bytes_of w ≡ slot l (get_or xs i none)
        → l ≡ link_to (k + i + 1) (k + length xs) → full slot k xs next (i + 1) ≡ full slot k xs area i
    full_put next w l r e b p =
        ap (λ a. full slot k xs a (i + 1)) (e ∙ put_sets area (k + i) w (omega arith) ∙ ap (sets area (16 * (k + i))) (b ∙ ap (λ m. slot m (get_or xs i none)) p)) ∙ sym full-next

-- ---- the check word

pub balanced : (n s c : ℕ) → s ≡ n % word_size → c < word_size → (c + s) % word_size ≡ 0 → c ≡ balancing n
balanced n s c e h z = balancing_only n c h (sum n s c e z)
  where
    sum : (n s c : ℕ) → s ≡ n % word_size → (c + s) % word_size ≡ 0 → (n + c) % word_size ≡ 0
    sum n s c e z = omega (arith, e, z)
