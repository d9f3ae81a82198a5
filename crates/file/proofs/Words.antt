-- Words and the mark byte, written and read. Assumes nothing.
use Prim.Native.Nat.{ℕ, zero, suc, ◌+◌, ◌*◌, ◌-◌, ◌/◌, ◌%◌, ◌<◌}
use mathlib.Core.Path.{◌≡◌, refl}
use mathlib.Core.Bool.{Bool, true, false}
use mathlib.Core.List.{List, ◌++◌}
use native.Mathlib.Omega.{arith}
use borrow.Author.Tests.{lt-ltb, le-ltb}
use lib.Dec.{T, eqb, leb, leb→le, eqb→eq}
use lib.IntN.{ℤ, pos, negsuc}
use lib.Signed.{le_z}
use Rattle.protocol.specs.Lists.{neg, within}
use Rattle.protocol.proofs.Laws.{cases, is_yes, is-no, both, same-no}
use Rattle.file.specs.Bytes.{word_size, two_bytes, four_bytes, complement, two_at, four_at, signed, signed_at, mark, kind_bits, firm_bit, high_bits}

-- ---- unsigned

-- a number is the sum of its bytes
pub two_sum : (n : ℕ) → n < 65_536 → n % 256 + 256 * (n / 256 % 256) ≡ n
two_sum n h = omega arith

pub four_sum : (n : ℕ) → n < word_size → n % 256 + 256 * (n / 256 % 256) + 65_536 * (n / 65_536 % 256 + 256 * (n / 16_777_216 % 256)) ≡ n
four_sum n h =
    let a : n % 256 + 256 * (n / 256 % 256) ≡ n % 65_536 = omega arith in
    let b : n / 16_777_216 ≡ n / 65_536 / 256 = omega arith in
    rw (a, b, two_sum (n / 65_536) (omega arith)) (omega arith)

-- Two bytes written are read back, and so are four.
pub two_back : (n : ℕ) (post : List ℕ) → n < 65_536 → two_at (two_bytes n ++ post) 0 ≡ n
unfolding two_at two_bytes
two_back n post h = two_sum n h

pub four_back : (n : ℕ) (post : List ℕ) → n < word_size → four_at (four_bytes n ++ post) 0 ≡ n
unfolding four_at two_at four_bytes
four_back n post h = four_sum n h

-- ---- signed

-- fits four bytes in two's complement
abbrev pub Short : ℤ → Type 0
Short (pos n) = n < 2_147_483_648
Short (negsuc n) = n < 2_147_483_648

pub short_within : (k : ℕ) (v : ℤ) → k < 2_147_483_648 → T (within (neg k) (pos k) v) → Short v
unfolding within
short_within k (pos n) h t = let l = leb→le n k (both (le_z (neg k) (pos n)) (leb n k) t).1 in omega arith
short_within zero (negsuc n) h t = absurd t
short_within (suc k) (negsuc n) h t = let l = leb→le n k (both (leb n k) true t).0 in omega arith

pub complement_below : (v : ℤ) → Short v → complement v < word_size
unfolding complement
complement_below (pos n) h = omega arith
complement_below (negsuc n) h = omega arith

pub signed_back : (v : ℤ) → Short v → signed (complement v) ≡ v
unfolding signed complement
signed_back (pos n) h = rw (lt-ltb n 2_147_483_648 h)
signed_back (negsuc n) h =
    let w : complement (negsuc n) ≡ word_size - suc n = refl in
    let a : word_size - (word_size - suc n) ≡ suc n = omega arith in
    rw (le-ltb (word_size - suc n) 2_147_483_648 (omega arith), a)

-- Four bytes of two's complement written are read back.
pub signed_four_back : (v : ℤ) (post : List ℕ) → Short v → signed_at (four_bytes (complement v) ++ post) 0 ≡ v
unfolding signed_at
signed_four_back v post h = rw (four_back (complement v) post (complement_below v h)) (signed_back v h)

-- ---- the mark byte

-- Kind and firm flag of a mark byte are read back, and its other bits are nought.
pub mark-kind : (k : ℕ) (b : Bool) → k < 4 → kind_bits (mark k b) ≡ k
unfolding kind_bits mark
mark-kind k true h = omega arith
mark-kind k false h = omega arith

pub mark-firm : (k : ℕ) (b : Bool) → k < 4 → firm_bit (mark k b) ≡ b
unfolding firm_bit mark
mark-firm k true h = let e : (k + 4 * 1) / 4 % 2 ≡ 1 = omega arith in rw e
mark-firm k false h = let e : (k + 4 * 0) / 4 % 2 ≡ 0 = omega arith in rw e

pub mark_high : (k : ℕ) (b : Bool) → k < 4 → high_bits (mark k b) ≡ 0
unfolding high_bits mark
mark_high k true h = omega arith
mark_high k false h = omega arith

-- A mark byte whose upper bits are nought is built again from its kind and its third bit.
pub mark-parts : (m : ℕ) → high_bits m ≡ 0 → mark (kind_bits m) (firm_bit m) ≡ m
unfolding high_bits mark kind_bits firm_bit
mark-parts m h = cases (eqb (m / 4 % 2) 1)
    (λ e. let i = eqb→eq (m / 4 % 2) 1 (is_yes e) in rw e (omega arith))
    (λ e. let i = same-no (m / 4 % 2) 1 (is-no e) in let z : m / 4 % 2 ≡ 0 = omega arith in rw e (omega arith))
