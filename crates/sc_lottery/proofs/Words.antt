-- Two words of a key stream in a row.
use Rattle.std.proofs.Common.{◌≡◌, ℕ, ◌+◌, ◌*◌, ◌%◌, ◌^◌, ◌<◌, List, ap, refl, ◌∙◌, arith}
use Rattle.rand_chacha.specs.ChaCha.{ChaCha, of_seed, next_word}
use Rattle.sc_lottery.specs.Draw.{draw, word}
use Rattle.sc_lottery.specs.Stream.{moved_to}

-- two words in a row
pub draw-of_words : (seed : List ℕ) (n upper lower : ℕ) (start next end : ChaCha) → n < 2 ^ 32
    → start ≡ moved_to (2 * n) (of_seed seed)
    → (upper, next) ≡ next_word 10 start
    → (lower, end) ≡ next_word 10 next
    → upper * 2 ^ 32 + lower ≡ draw seed n
unfolding draw
draw-of_words seed n upper lower start next end small e0 e1 e2 =
    let second : (2 * n + 1) % 2 ^ 68 ≡ 2 * n + 1 = omega arith in
    let u : upper ≡ word seed (2 * n) = ap (λ (p : ℕ × ChaCha). p.0) e1 ∙ ap (λ (g : ChaCha). (next_word 10 g).0) e0 in
    let s1 : next ≡ moved_to (2 * n + 1) (of_seed seed) =
    ap (λ (p : ℕ × ChaCha). p.1) e1 ∙ ap (λ (g : ChaCha). (next_word 10 g).1) e0 ∙ ap (λ (k : ℕ). moved_to k (of_seed seed)) second in
    let l : lower ≡ word seed (2 * n + 1) = ap (λ (p : ℕ × ChaCha). p.0) e2 ∙ ap (λ (g : ChaCha). (next_word 10 g).0) s1 in
    rw (u, l) refl
