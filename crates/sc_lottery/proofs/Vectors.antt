-- Draws of the zero seed, so that a wrong order of words in the definition does not check.
use Rattle.std.proofs.Common.{◌≡◌, replicate, refl}
use Rattle.rand_core.specs.Steps.{u32_at}
use Rattle.rand_chacha.specs.Block.{quarter_round, column_round, diagonal_round, double_rounds, block_word}
use Rattle.sc_lottery.specs.Draw.{draw}

-- indices 2 and 3 of RFC 8439, A.1, test vector 1
pub draw-zero_seed_first : draw (replicate 32 0) 1 ≡ 0xe56a5d4028bd8653
unfolding draw u32_at block_word double_rounds diagonal_round column_round quarter_round
draw-zero_seed_first = refl

-- indices 1999999998 and 1999999999, the greatest that a draw reads, by a ChaCha20 apart from this one
pub draw-zero_seed_last : draw (replicate 32 0) 999999999 ≡ 0xca78c135d87c7d89
unfolding draw u32_at block_word double_rounds diagonal_round column_round quarter_round
draw-zero_seed_last = refl
