-- The lottery: what a seed draws for a student.
use Rattle.std.specs.Prelude.{ℕ, ◌+◌, ◌*◌, ◌^◌, List}
use Rattle.rand_chacha.specs.ChaCha.{word_at, key_of}

-- the 32-bit word at a index of the key stream: ChaCha20 (RFC 8439's block function, which is ten
-- double rounds, with a counter and a stream number of 64 bits each) under the seed as its key, in
-- stream 0, counted from block 0
abbrev pub word : List ℕ → ℕ → ℕ
word seed index = word_at 10 (key_of seed) 0 index

-- the draw of student n: two words of the student's own, the first of them the greater half
unfoldable pub draw : List ℕ → ℕ → ℕ
draw seed n = word seed (2 * n) * 2 ^ 32 + word seed (2 * n + 1)
