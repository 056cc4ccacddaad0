use Rattle.std.proofs.Common.{◌≡◌, ℕ, ◌*◌, ap, ◌∙◌, arith}
use Rattle.rand_chacha.specs.ChaCha.{of_seed}
use Rattle.sc_lottery.specs.Stream.{moved_to}
use Rattle.sc_lottery.proofs.Words.{draw-of_words}
use Rattle.sc_lottery.proofs.draws.draw_from.Goals as goal

pub returns-clause-draw : goal.returns-clause-draw
returns-clause-draw c = λ seed is.
    let index : c.from.result * 2 ≡ 2 * c.args.student = omega arith in
    let start = c.move_to.ensures ∙ ap (λ stream. moved_to (c.from.result * 2) stream) is
    ∙ ap (λ (k : ℕ). moved_to k (of_seed seed)) index in
    rw (c.from-upper.ensures, c.from-lower.ensures) (draw-of_words seed c.args.student _ _ _ _ _ (omega arith) start c.next_word.ensures c.next_word-2.ensures)
