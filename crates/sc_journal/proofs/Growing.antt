-- A journal that grows by an amendment.
use Rattle.std.proofs.Common.{◌≡◌, ℕ, ◌+◌, List, [], ◌∷◌, ◌++◌, length, refl, sym, ◌∙◌, ap, arith, append_assoc}
use Rattle.std.specs.Prelude.{codes, None}
use Rattle.std.proofs.lemmas.List.{append-nil}
use Rattle.sc_papers.specs.Verdict.{verdict}
use Rattle.sc_papers.specs.declared.amendment.Amendment.{Amendment}
use Rattle.sc_stamps.specs.Verdict.{StampedPapers, stamped_after}
use Rattle.sc_journal.specs.Journal.{after_all, AreAccepted, journal_text}
use Rattle.sc_lines.specs.Line.{line_text}

-- the papers and the stamps after one amendment more
pub after-more : (p : StampedPapers) (xs : List Amendment) (a : Amendment) → after_all p (xs ++ a ∷ []) ≡ stamped_after (after_all p xs) a
after-more p [] a = refl
after-more p (x ∷ xs) a = after-more (stamped_after p x) xs a

-- one amendment more is accepted
pub accepted-more : (p : StampedPapers) (xs : List Amendment) (a : Amendment) → AreAccepted p xs → verdict (after_all p xs).papers a ≡ None → AreAccepted p (xs ++ a ∷ [])
accepted-more p [] a ok next = (next, tt)
accepted-more p (x ∷ xs) a ok next = (ok.0, accepted-more (stamped_after p x) xs a ok.1 next)

-- the journal with one line more
pub journal-more : (first : ℕ) (xs : List Amendment) (a : Amendment) → journal_text first (xs ++ a ∷ []) ≡ journal_text first xs ++ (line_text (first + length xs) a ++ codes "\n")
journal-more first [] a =
    let number : first ≡ first + 0 = omega arith in
    append-nil (line_text first a ++ codes "\n") ∙ ap (λ n. line_text n a ++ codes "\n") number
journal-more first (x ∷ xs) a =
    let number : first + 1 + length xs ≡ first + length (x ∷ xs) = omega arith in
    ap (λ (text : List ℕ). line_text first x ++ codes "\n" ++ text) (journal-more (first + 1) xs a)
    ∙ sym (append_assoc (line_text first x ++ codes "\n") (journal_text (first + 1) xs) (line_text (first + 1 + length xs) a ++ codes "\n"))
    ∙ ap (λ n. line_text first x ++ codes "\n" ++ journal_text (first + 1) xs ++ (line_text n a ++ codes "\n")) number
