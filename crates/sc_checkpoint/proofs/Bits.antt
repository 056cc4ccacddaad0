-- Sets of ranks, kept as the bits of a number.
use Rattle.std.proofs.Common.{◌≡◌, inl, inr, ap, ◌∙◌, ℕ, ◌+◌, ◌-◌, ◌*◌, ◌%◌, ◌^◌, ◌<◌, ◌==◌, ◌||◌, arith, w32}
use Rattle.std.proofs.lemmas.Grind.{common_steps}
use Rattle.std.proofs.lemmas.Bool.Decides.{nat_tests}
use lib.Count.{count_trailing_zeros}
use Rattle.std.specs.Int.{bit_at, trailing_ones}
use Rattle.std.specs.Int.RustNames.{bit_or}
use Rattle.std.proofs.lemmas.Bool.{cases_eq}
use Rattle.std.proofs.lemmas.Nat.Bits.{bit_at-trailing_ones, bit_at_ones, bit_at_set_same, bit_at_set_other}
use Rattle.sc_checkpoint.specs.Ranks.{has_rank, IsFirstOutside}
use Rattle.sc_checkpoint.specs.declared.rank_set.RankSet.{RankSet}

pub set_bit : (bits rank other : ℕ) → rank < 32 → (bit_at (bit_or bits (1 * 2 ^ rank % 4294967296)) other == 1) ≡ (bit_at bits other == 1 || other == rank)
set_bit bits rank other low = grind (arith, nat_tests, common_steps, bit_at_set_same w32 bits rank low, bit_at_set_other w32 bits rank low other)

-- the number of ones at the low end is the first rank that is not in the set
pub first_clear : (set : RankSet) (first : ℕ) → set.bits < 2 ^ 32 → first ≡ trailing_ones w32 set.bits → IsFirstOutside set first
unfolding has_rank count_trailing_zeros
first_clear set first fits is =
    elim (cases_eq (set.bits + 1) (2 ^ 32)) [
      | inl all ↦
          let bits : set.bits ≡ 2 ^ 32 - 1 = omega (arith, all) in
          let end : first ≡ 32 = is ∙ ap (trailing_ones w32) bits in record {
            below = λ rank low. ap (λ n. bit_at n rank == 1) bits ∙ ap (λ b. b == 1) (bit_at_ones 32 rank (omega (arith, low, end)));
            outside = λ low. cc;
          }
      | inr some ↦
          let (within, clear, ones) = bit_at-trailing_ones w32 set.bits (omega (arith, some, fits)) in record {
            below = λ rank low. ap (λ b. b == 1) (ones rank (omega (arith, low, is)));
            outside = λ low. ap (λ k. bit_at set.bits k == 1) is ∙ ap (λ b. b == 1) clear;
          }
    ]
