-- The schools of a text, which is cut at its spaces one after another.
use Rattle.std.proofs.Common.{◌≡◌, ℕ, zero, suc, ◌<◌, ◌==◌, true, false, List, [], ◌∷◌, ◌++◌, length, take, drop, refl, ◌∙◌, ap, arith}
use Rattle.std.specs.Prelude.{slice_index, Result, Ok, Err}
use Rattle.std.specs.List.{onto_first, slice_split}
use Rattle.std.proofs.lemmas.List.Splits.{slice_split-cons_no, slice_split-cons_yes}
use Rattle.sc_lines.specs.Reading.{◌>>=◌, school_in, schools_after}
use Rattle.sc_lines.specs.declared.unread.Unread.{Unread}

-- the first word ends at the first space
pub split-found : (k : ℕ) (text : List ℕ) → k < length text → ((j : ℕ) → j < k → (slice_index text j == 32) ≡ false) → (slice_index text k == 32) ≡ true
    → slice_split (λ c. c == 32) text ≡ take k text ∷ slice_split (λ c. c == 32) (drop (suc k) text)
split-found k [] within none space = absurd (omega arith)
split-found zero (c ∷ cs) within none space = slice_split-cons_yes (λ b. b == 32) c cs space
split-found (suc k) (c ∷ cs) within none space =
    slice_split-cons_no (λ b. b == 32) c cs (none 0 (omega arith))
    ∙ ap (onto_first c) (split-found k cs (omega arith) (λ j below. none (suc j) (omega arith)) space)

-- a text without a space is one word
pub split-nowhere : (text : List ℕ) → ((j : ℕ) → j < length text → (slice_index text j == 32) ≡ false) → slice_split (λ c. c == 32) text ≡ text ∷ []
split-nowhere [] none = refl
split-nowhere (c ∷ cs) none =
    slice_split-cons_no (λ b. b == 32) c cs (none 0 (omega arith)) ∙ ap (onto_first c) (split-nowhere cs (λ j below. none (suc j) (omega arith)))

-- a word that writes a school
pub school-more : (earlier : List ℕ) (words rest : List (List ℕ)) (word : List ℕ) (s : ℕ) → words ≡ word ∷ rest → school_in word ≡ Ok s
    → schools_after earlier words ≡ schools_after (earlier ++ s ∷ []) rest
unfolding schools_after
school-more earlier words rest word s is reads =
    ap (schools_after earlier) is ∙ ap (λ (r : Result ℕ Unread). r >>= λ t. schools_after (earlier ++ t ∷ []) rest) reads

-- a word that writes none
pub school-bad : (earlier : List ℕ) (words rest : List (List ℕ)) (word : List ℕ) (e : Unread) → words ≡ word ∷ rest → school_in word ≡ Err e
    → schools_after earlier words ≡ Err e
unfolding schools_after
school-bad earlier words rest word e is reads =
    ap (schools_after earlier) is ∙ ap (λ (r : Result ℕ Unread). r >>= λ t. schools_after (earlier ++ t ∷ []) rest) reads

-- no word is left
pub schools-done : (earlier : List ℕ) (words : List (List ℕ)) → words ≡ [] → schools_after earlier words ≡ Ok earlier
unfolding schools_after
schools-done earlier words none = ap (schools_after earlier) none
