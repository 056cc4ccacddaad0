-- A list of schools that is read word by word: the numbers so far, and whether each is a school's.
use Rattle.std.proofs.Common.{◌≡◌, ℕ, ◌≤◌, ◌<◌, Bool, true, false, ◌&&◌, List, [], ◌∷◌, ◌++◌, length, drop, refl, sym, ap, ◌∙◌, Ok, Err}
use Rattle.std.specs.Prelude.{if◌then◌else◌}
use Rattle.std.specs.List.{list_all}
use Rattle.std.proofs.lemmas.Bool.{and_right}
use Rattle.std.proofs.lemmas.List.Folds.{list_all-append}
use Rattle.sc_papers.specs.declared.school_no.TheConstants.SchoolNo.{GREATEST as greatest_school}
use Rattle.sc_intake.specs.Field.{is_within, numbers_in, listed, number_of, numbers_after, word_of, words}
use Rattle.sc_intake.specs.declared.fault.Cause.{Cause}
use Rattle.sc_intake.specs.declared.fault.Cause.TheVariants.{Range}
use Rattle.sc_intake.proofs.Words.{numbers-bad, numbers-last, numbers-more, numbers-word}

-- the numbers before a place of a text; while each is a school's, they are the schools so far
pub record SoFar (text : List ℕ) (start : ℕ) (schools : List ℕ) (in_range : Bool) : Type 0 where
  pub numbers : List ℕ
  pub reading : numbers_in text ≡ numbers_after numbers (words (drop start text))
  pub ranged : list_all (is_within 1 greatest_school) numbers ≡ in_range
  pub same : in_range ≡ true → schools ≡ numbers

-- no number is read yet
pub SoFar-none : (text : List ℕ) → SoFar text 0 [] true
SoFar-none text = record { numbers = []; reading = refl; ranged = refl; same = λ _. refl }

-- a reading that ends in an error
pub listed-bad : (text : List ℕ) (e : Cause) → numbers_in text ≡ Err e → listed text ≡ Err e
listed-bad text e bad = rw bad refl

-- a reading whose numbers are all schools'
pub listed-whole : (text numbers : List ℕ) → numbers_in text ≡ Ok numbers → list_all (is_within 1 greatest_school) numbers ≡ true → listed text ≡ Ok (Ok numbers)
listed-whole text numbers reads all = rw reads (rw all refl)

pub listed-out : (text numbers : List ℕ) → numbers_in text ≡ Ok numbers → list_all (is_within 1 greatest_school) numbers ≡ false → listed text ≡ Ok (Err Range)
listed-out text numbers reads some = rw reads (rw some refl)

-- the reading with a number more
reading-more : (text : List ℕ) (start next : ℕ) (schools : List ℕ) (in_range : Bool) (piece : List ℕ) (n : ℕ) (so : SoFar text start schools in_range)
    → words (drop start text) ≡ word_of piece ++ words (drop next text) → 0 < length piece → number_of piece ≡ Ok n
    → numbers_in text ≡ numbers_after (so.numbers ++ n ∷ []) (words (drop next text))
reading-more text start next schools in_range piece n so cut some number =
    so.reading ∙ ap (numbers_after so.numbers) cut ∙ numbers-word so.numbers piece (words (drop next text)) some ∙ numbers-more so.numbers piece (words (drop next text)) n number

-- a word that writes a school's number
pub SoFar-school : (text : List ℕ) (start next : ℕ) (old new : List ℕ) (in_range : Bool) (piece : List ℕ) (n : ℕ) → SoFar text start old in_range
    → words (drop start text) ≡ word_of piece ++ words (drop next text) → 0 < length piece → number_of piece ≡ Ok n
    → is_within 1 greatest_school n ≡ true → new ≡ old ++ n ∷ [] → SoFar text next new in_range
SoFar-school text start next old new in_range piece n so cut some number school pushed = record {
  numbers = so.numbers ++ n ∷ [];
  reading = reading-more text start next old in_range piece n so cut some number;
  ranged = list_all-append (is_within 1 greatest_school) so.numbers (n ∷ []) ∙ rw (so.ranged, school) (and_true in_range);
  same = λ all. pushed ∙ ap (λ (ns : List ℕ). ns ++ n ∷ []) (so.same all);
}
  where
    and_true : (b : Bool) → (b && true) ≡ b
    and_true true = refl
    and_true false = refl

-- a word that writes another number
pub SoFar-other : (text : List ℕ) (start next : ℕ) (schools : List ℕ) (in_range : Bool) (piece : List ℕ) (n : ℕ) → SoFar text start schools in_range
    → words (drop start text) ≡ word_of piece ++ words (drop next text) → 0 < length piece → number_of piece ≡ Ok n
    → is_within 1 greatest_school n ≡ false → SoFar text next schools false
SoFar-other text start next schools in_range piece n so cut some number other = record {
  numbers = so.numbers ++ n ∷ [];
  reading = reading-more text start next schools in_range piece n so cut some number;
  ranged = list_all-append (is_within 1 greatest_school) so.numbers (n ∷ []) ∙ rw (so.ranged, other) (and_right in_range false refl);
  same = λ all. cc all;
}

-- a space alone
pub SoFar-space : (text : List ℕ) (start next : ℕ) (schools : List ℕ) (in_range : Bool) → SoFar text start schools in_range
    → words (drop start text) ≡ words (drop next text) → SoFar text next schools in_range
SoFar-space text start next schools in_range so skip = record {
  numbers = so.numbers;
  reading = so.reading ∙ ap (numbers_after so.numbers) skip;
  ranged = so.ranged;
  same = so.same;
}

-- a word that writes no number
pub SoFar-bad : (text : List ℕ) (start next : ℕ) (schools : List ℕ) (in_range : Bool) (piece : List ℕ) (e : Cause) → SoFar text start schools in_range
    → words (drop start text) ≡ word_of piece ++ words (drop next text) → 0 < length piece → number_of piece ≡ Err e → listed text ≡ Err e
SoFar-bad text start next schools in_range piece e so cut some bad =
    listed-bad text e (so.reading ∙ ap (numbers_after so.numbers) cut ∙ numbers-word so.numbers piece (words (drop next text)) some ∙ numbers-bad so.numbers piece (words (drop next text)) e bad)

-- the end of the text
pub SoFar-whole : (text : List ℕ) (start : ℕ) (schools : List ℕ) → SoFar text start schools true → length text ≤ start → listed text ≡ Ok (Ok schools)
SoFar-whole text start schools so past =
    listed-whole text so.numbers (so.reading ∙ numbers-last so.numbers text start past) so.ranged ∙ ap (λ (ns : List ℕ). Ok (Ok ns)) (sym (so.same refl))

SoFar-out : (text : List ℕ) (start : ℕ) (schools : List ℕ) → SoFar text start schools false → length text ≤ start → listed text ≡ Ok (Err Range)
SoFar-out text start schools so past = listed-out text so.numbers (so.reading ∙ numbers-last so.numbers text start past) so.ranged

pub SoFar-end : (text : List ℕ) (start : ℕ) (schools : List ℕ) (in_range : Bool) → SoFar text start schools in_range → length text ≤ start
    → listed text ≡ Ok (if in_range then Ok schools else Err Range)
SoFar-end text start schools true so past = SoFar-whole text start schools so past
SoFar-end text start schools false so past = SoFar-out text start schools so past
