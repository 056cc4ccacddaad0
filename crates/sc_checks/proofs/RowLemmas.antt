-- The rows of a text, cut off one after the other.
use Rattle.std.proofs.Common.{◌≡◌, ℕ, zero, suc, ◌+◌, ◌-◌, ◌<◌, ◌≤◌, ◌==◌, Bool, true, false, List, [], ◌∷◌, ◌++◌, length, drop, refl, sym, ap, ◌∙◌, append_assoc, append-nil, arith, cond, Some, None}
use Rattle.std.specs.Prelude.{slice_get, slice_index}
use Rattle.std.proofs.lemmas.Bool.Decides.{nat_tests}
use Rattle.sc_intake.specs.Plain.{after_line, ends_line, first_line}
use Rattle.sc_checks.specs.Lines.{line_after, next_line, numbered, row_of, rows_from, Row}

-- the first line, and the rows after it
rows-first : (line : ℕ) (begun text : List ℕ)
    → rows_from line begun text ≡ row_of line (begun ++ first_line text) ++ rows_from (next_line line text) [] (after_line text)
unfolding rows_from first_line after_line next_line
rows-first line begun [] = ap (row_of line) (sym (append-nil begun)) ∙ sym (append-nil (row_of line (begun ++ [])))
rows-first line begun (c ∷ cs) = by (ends_line c) (rows-first line (begun ++ c ∷ []) cs)
  where
    by : (b : Bool)
        → rows_from line (begun ++ c ∷ []) cs ≡ row_of line ((begun ++ c ∷ []) ++ first_line cs) ++ rows_from (next_line line cs) [] (after_line cs)
        → cond b (row_of line begun ++ rows_from (line_after line (c ∷ cs)) [] cs) (rows_from line (begun ++ c ∷ []) cs)
        ≡ row_of line (begun ++ cond b [] (c ∷ first_line cs)) ++ rows_from (cond b (line_after line (c ∷ cs)) (next_line line cs)) [] (cond b cs (after_line cs))
    by true more = ap (λ (l : List ℕ). row_of line l ++ rows_from (line_after line (c ∷ cs)) [] cs) (sym (append-nil begun))
    by false more = more ∙ ap (λ (l : List ℕ). row_of line l ++ rows_from (next_line line cs) [] (after_line cs)) (append_assoc begun (c ∷ []) (first_line cs))

-- a line that was cut off, and the rows after it
pub rows-cut : (line : ℕ) (text bytes : List ℕ) (next : ℕ) (after : List ℕ) → bytes ≡ first_line text → next ≡ next_line line text → after ≡ after_line text
    → rows_from line [] text ≡ row_of line bytes ++ rows_from next [] after
rows-cut line text bytes next after same number rest = rw (same, number, rest) (rows-first line [] text)

-- a line with a byte is a row, and one without is none
pub row-some : (line : ℕ) (bytes : List ℕ) → (length bytes == 0) ≡ false → row_of line bytes ≡ record { line = line; bytes = bytes } ∷ []
row-some line [] some = cc some
row-some line (c ∷ cs) some = refl

pub row-none : (line : ℕ) (bytes : List ℕ) → (length bytes == 0) ≡ true → row_of line bytes ≡ []
row-none line [] none = refl
row-none line (c ∷ cs) none = absurd (grind (arith, nat_tests, none))

-- an empty text has no row
pub rows-none : (line : ℕ) (text : List ℕ) → (length text == 0) ≡ true → rows_from line [] text ≡ []
unfolding rows_from
rows-none line [] none = refl
rows-none line (c ∷ cs) none = absurd (grind (arith, nat_tests, none))

-- the number of the line after the first line end
pub next-found : (k line : ℕ) (text : List ℕ) → k < length text → ((j : ℕ) → j < k → ends_line (slice_index text j) ≡ false) → ends_line (slice_index text k) ≡ true
    → next_line line text ≡ line_after line (drop k text)
unfolding next_line
next-found k line [] within none end = absurd (omega arith)
next-found zero line (c ∷ cs) within none end = rw end refl
next-found (suc k) line (c ∷ cs) within none end =
    let other : ends_line c ≡ false = none 0 (omega arith) in
    rw other (next-found k line cs (omega arith) (λ j below. none (suc j) (omega arith)) end)

-- a text in which no line ends stays in its line
pub next-whole : (line : ℕ) (text : List ℕ) → ((j : ℕ) → j < length text → ends_line (slice_index text j) ≡ false) → next_line line text ≡ line
unfolding next_line
next-whole line [] none = refl
next-whole line (c ∷ cs) none =
    let other : ends_line c ≡ false = none 0 (omega arith) in
    rw other (next-whole line cs (λ j below. none (suc j) (omega arith)))

-- rows by their place
get-past : (rows : List Row) (k j : ℕ) → drop k rows ≡ [] → k ≤ j → slice_get rows j ≡ None
get-past [] k j past below = refl
get-past (row ∷ rows) zero j past below = absurd (cc past)
get-past (row ∷ rows) (suc k) zero past below = absurd (omega arith)
get-past (row ∷ rows) (suc k) (suc j) past below = get-past rows k j past (omega arith)

get-there : (rows : List Row) (k : ℕ) (row : Row) (rest : List Row) → drop k rows ≡ row ∷ rest → slice_get rows k ≡ Some row
get-there [] zero row rest there = absurd (cc there)
get-there [] (suc k) row rest there = absurd (cc there)
get-there (first ∷ rows) zero row rest there = cc there
get-there (first ∷ rows) (suc k) row rest there = get-there rows k row rest there

-- the rows after one more
pub rows-on : (rows : List Row) (k : ℕ) (row : Row) (rest : List Row) → drop k rows ≡ row ∷ rest → drop (suc k) rows ≡ rest
rows-on [] zero row rest there = absurd (cc there)
rows-on [] (suc k) row rest there = absurd (cc there)
rows-on (first ∷ rows) zero row rest there = cc there
rows-on (first ∷ rows) (suc k) row rest there = rows-on rows k row rest there

numbered-suc : (rows : List Row) (j : ℕ) → numbered rows (suc j) ≡ slice_get rows j
numbered-suc rows j =
    let some : (suc j == 0) ≡ false = grind (arith, nat_tests) in
    let less : suc j - 1 ≡ j = omega arith in
    rw (some, less) refl

-- no row has a number past the last
pub numbered-past : (rows : List Row) (k number : ℕ) → drop k rows ≡ [] → k < number → numbered rows number ≡ None
numbered-past rows k zero past below = absurd (omega arith)
numbered-past rows k (suc j) past below = numbered-suc rows j ∙ get-past rows k j past (omega arith)

-- the row after those that were passed
pub numbered-there : (rows : List Row) (k number : ℕ) (row : Row) (rest : List Row) → drop k rows ≡ row ∷ rest → number ≡ k + 1 → numbered rows number ≡ Some row
numbered-there rows k number row rest there at =
    let is : number ≡ suc k = omega arith in
    rw is (numbered-suc rows k ∙ get-there rows k row rest there)
