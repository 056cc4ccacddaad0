use Rattle.std.proofs.Common.{◌<◌, ℕ, zero, suc, [], ◌∷◌, get_or, arith}
use Rattle.sc_rows.proofs.segments.renew_two.Goals as goal

low : (k : ℕ) → k < 2 → get_or (0 ∷ 2 ∷ []) k 0 < 3
low zero few = omega arith
low (suc zero) few = omega arith
low (suc (suc k)) few = absurd (omega (arith, few))

pub replace-renewed-requires-clause-within : goal.replace-renewed-requires-clause-within
replace-renewed-requires-clause-within g c = λ k few. omega (arith, low k few, c.requires.three)
