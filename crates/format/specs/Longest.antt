-- Believed: how long an answer line can be: what has to be free before a line is begun whose answer must not be lost. Assumes nothing.
use Rattle.std.specs.Prelude.{ℕ, ◌+◌, ◌*◌}
use Rattle.protocol.specs.Plan.{measure_limit}

-- the bytes of -2147483648, the longest number of 32 bits; no call gives a wider number (format/proofs/Longest: `longest`)
abbrev pub number_width : ℕ
number_width = 11

-- `ok`, a number for each measure with a space before it, and a line feed: 387 bytes
abbrev pub longest_answer : ℕ
longest_answer = 2 + measure_limit * (1 + number_width) + 1
