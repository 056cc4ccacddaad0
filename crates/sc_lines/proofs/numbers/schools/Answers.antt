use Rattle.std.proofs.Common.{◌≡◌, ◌∷◌, List, ℕ, length, sym, ap, ◌∙◌, arith, rules}
use Rattle.std.specs.Prelude.{Ok, Err, None}
use Rattle.sc_lines.specs.Reading.{schools_after, words_left}
use Rattle.sc_lines.proofs.Giving.{Gives-error}
use Rattle.sc_lines.proofs.SplitWords.{school-bad, school-more, schools-done}
use Rattle.sc_lines.proofs.numbers.schools.Goals as goal

pub returns-in_err-school : goal.returns-in_err-school
returns-in_err-school c =
    let next : words_left c.words.left ≡ c.split_word.result.0.now ∷ words_left c.split_word.result.1 = ap words_left c.in-Some.is ∙ c.split_word.ensures in
    let bad = sym c.in_err-school.ensures in
    let same : c.from_residual.result ≡ Err c.in_err-school.field-0.0 = search rules in
    Gives-error _ _ _ (c.words.invariant ∙ school-bad c.words.schools.items (words_left c.words.left) _ _ _ next bad) same

pub words-preserved : goal.words-preserved
words-preserved c =
    let next : words_left c.words.left ≡ c.split_word.result.0.now ∷ words_left c.split_word.result.1 = ap words_left c.in-Some.is ∙ c.split_word.ensures in
    let reads = sym c.in_ok-school.ensures in
    let pushed = c.in_ok-push.ensures.items in
    c.words.invariant ∙ school-more c.words.schools.items (words_left c.words.left) _ _ _ next reads
    ∙ ap (λ (ss : List ℕ). schools_after ss (words_left c.split_word.result.1)) (sym {A = List ℕ} pushed)

pub words-smaller : goal.words-smaller
words-smaller c =
    let next : words_left c.words.left ≡ c.split_word.result.0.now ∷ words_left c.split_word.result.1 = ap words_left c.in-Some.is ∙ c.split_word.ensures in
    let size = ap length next in
    omega (arith, size)

pub returns : goal.returns
returns c =
    let gone : c.words.left ≡ None = search rules in
    c.words.invariant ∙ schools-done c.words.schools.items (words_left c.words.left) (ap words_left gone) ∙ ap Ok (sym c.from_vec.ensures)
