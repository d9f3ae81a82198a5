-- Believed: numbers as bytes, little-endian, the mark byte, and the sum of words (02, S-1). Assumes nothing.
use Rattle.std.specs.Prelude.{ℕ, suc, ◌+◌, ◌*◌, ◌-◌, ◌/◌, ◌%◌, Bool, cond, List, [], ◌∷◌, eqb, ltb, ℤ, pos, negsuc, get_or}
use Rattle.protocol.specs.Lists.{bit, neg}

-- 2^32
abbrev pub word_size : ℕ
word_size = 4_294_967_296

-- ---- written

unfoldable pub two_bytes : ℕ → List ℕ
two_bytes n = n % 256 ∷ n / 256 % 256 ∷ []

unfoldable pub four_bytes : ℕ → List ℕ
four_bytes n = n % 256 ∷ n / 256 % 256 ∷ n / 65_536 % 256 ∷ n / 16_777_216 % 256 ∷ []

-- two's complement
unfoldable pub complement : ℤ → ℕ
complement (pos n) = n
complement (negsuc n) = word_size - suc n

-- ---- read, at place i of a list of bytes

abbrev pub byte_at : List ℕ → ℕ → ℕ
byte_at s i = get_or s i 0

unfoldable pub two_at : List ℕ → ℕ → ℕ
two_at s i = byte_at s i + 256 * byte_at s (i + 1)

unfoldable pub four_at : List ℕ → ℕ → ℕ
four_at s i = two_at s i + 65_536 * two_at s (i + 2)

unfoldable pub signed : ℕ → ℤ
signed w = cond (ltb w 2_147_483_648) (pos w) (neg (word_size - w))

unfoldable pub signed_at : List ℕ → ℕ → ℤ
signed_at s i = signed (four_at s i)

-- ---- the mark byte: its two low bits are the kind, its third bit is firm, the others are nought

abbrev pub measure_kind : ℕ
measure_kind = 1

abbrev pub rule_kind : ℕ
rule_kind = 2

unfoldable pub mark : ℕ → Bool → ℕ
mark kind firm = kind + 4 * bit firm

unfoldable pub kind_bits : ℕ → ℕ
kind_bits m = m % 4

unfoldable pub firm_bit : ℕ → Bool
firm_bit m = eqb (m / 4 % 2) 1

-- the bits above the third
unfoldable pub high_bits : ℕ → ℕ
high_bits m = m / 8

-- ---- the sum of all four-byte words

unfoldable pub total : List ℕ → ℕ
total [] = 0
total (a ∷ []) = 0
total (a ∷ b ∷ []) = 0
total (a ∷ b ∷ c ∷ []) = 0
total (a ∷ b ∷ c ∷ d ∷ bs) = (a + 256 * b + 65_536 * (c + 256 * d)) + total bs

-- the word that makes a sum 0 modulo 2^32
unfoldable pub balancing : ℕ → ℕ
balancing n = (word_size - n % word_size) % word_size
