-- The rows of the cutoffs, school by school.
use Rattle.std.proofs.Common.{◌≡◌, refl, sym, subst, ◌∙◌, ap, ℕ, ◌+◌, nat_eq, List, [], ◌∷◌, ◌++◌, get_or, map, take, position, slice_get, Some, All, IsPermutation}
use Rattle.std.specs.List.Sorted.{IsNonDecreasingBy}
use Rattle.std.proofs.lemmas.List.{get_or-map, map-append}
use Rattle.std.proofs.lemmas.List.Elements.{All-head, All-map, All-tail}
use Rattle.std.proofs.lemmas.List.Sorted.{All-permutation}
use Rattle.sc_papers.proofs.Positions.{position-at}
use Rattle.sc_papers.specs.Market.{Market, schools_of, seats_of, students_of}
use Rattle.sc_papers.specs.Matching.{Matching, how_many}
use Rattle.sc_tallies.specs.Tally.{tally}
use Rattle.sc_tallies.specs.declared.tally.Tally.{Tally}
use Rattle.sc_tallies.proofs.Tallying.{held-tally, take-one}
use Rattle.sc_reasons.specs.Cutoff.{cutoff, cutoff_by, cutoff_row, cutoff_rows, rows_in_order}
use Rattle.sc_reasons.specs.Rising.{rising}
use Rattle.sc_reasons.specs.declared.cutoff.Cutoff.{Cutoff}
use Rattle.sc_reasons.specs.declared.cutoff.CutoffRow.{CutoffRow}
use Rattle.sc_reasons.proofs.RisingLemmas.{rising-by}

-- a school's cutoff is made of its tally
pub cutoff-tally : (m : Market) (a : Matching) (s seats : ℕ) (t : Tally) → seats ≡ seats_of m s → t ≡ tally m a (students_of m) s → cutoff_by seats t.held t.last ≡ cutoff m a s
unfolding tally cutoff how_many
cutoff-tally m a s seats t seats_is is = λ i. cutoff_by (seats_is i) (is i).held (is i).last

-- a row of these parts
abbrev row_with : ℕ → ℕ → ℕ → Cutoff → CutoffRow
row_with s seats count made = record { school = s; seats = seats; held = count; cutoff = made }

-- the row that is made of a school's tally
pub row-tally : (m : Market) (a : Matching) (s seats number : ℕ) (t : Tally) (made : Cutoff) → seats ≡ seats_of m s → number ≡ seats → t ≡ tally m a (students_of m) s
    → made ≡ cutoff_by number t.held t.last → row_with s seats t.held made ≡ cutoff_row m a s
row-tally m a s seats number t made seats_is number_is is made_is =
    let count = held-tally m a s t is in
    let last = made_is ∙ cutoff-tally m a s number t (number_is ∙ seats_is) is in
    λ i. row_with s (seats_is i) (count i) (last i)

-- the rows of the first schools in order of entry, and one more
pub rows-more : (m : Market) (a : Matching) (rows : List CutoffRow) (k s : ℕ) (row : CutoffRow) → rows ≡ map (cutoff_row m a) (take k (schools_of m))
    → slice_get (schools_of m) k ≡ Some s → row ≡ cutoff_row m a s → rows ++ row ∷ [] ≡ map (cutoff_row m a) (take (k + 1) (schools_of m))
rows-more m a rows k s row before here is =
    (λ t. before t ++ is t ∷ [])
    ∙ sym (ap (map (cutoff_row m a)) (take-one (schools_of m) k s here) ∙ map-append (cutoff_row m a) (take k (schools_of m)) (s ∷ []))

-- rows that are each made of their school are made of their schools
remade : (f : ℕ → CutoffRow) (rows : List CutoffRow) → All (λ row. row ≡ f row.school) rows → rows ≡ map f (map (λ row. row.school) rows)
remade f [] made = refl
remade f (row ∷ rows) made =
    λ t. All-head (λ row. row ≡ f row.school) row rows made t ∷ remade f rows (All-tail (λ row. row ≡ f row.school) row rows made) t

-- the rows of schools are theirs, one by one
pub schools-of_rows : (m : Market) (a : Matching) (xs : List ℕ) → map (λ (row : CutoffRow). row.school) (map (cutoff_row m a) xs) ≡ xs
schools-of_rows m a [] = refl
schools-of_rows m a (x ∷ xs) = λ t. x ∷ schools-of_rows m a xs t

-- the rows in order of entry, sorted by school
pub rising-rows : (m : Market) (a : Matching) (rows sorted : List CutoffRow) → rows ≡ rows_in_order m a → IsPermutation rows sorted
    → IsNonDecreasingBy (λ (row : CutoffRow). row.school) sorted → sorted ≡ cutoff_rows m a
rising-rows m a rows sorted are moved up =
    let school : CutoffRow → ℕ = λ row. row.school in
    let made : All (λ (row : CutoffRow). row ≡ cutoff_row m a row.school) rows =
    subst (All (λ (row : CutoffRow). row ≡ cutoff_row m a row.school)) (sym are)
    (All-map (λ (row : CutoffRow). row ≡ cutoff_row m a row.school) (cutoff_row m a) (schools_of m) (λ k d here. refl)) in
    remade (cutoff_row m a) sorted (All-permutation (λ (row : CutoffRow). row ≡ cutoff_row m a row.school) rows sorted moved made)
    ∙ ap (map (cutoff_row m a)) (rising-by school rows sorted moved up ∙ ap rising (ap (map school) are ∙ schools-of_rows m a (schools_of m)))

-- the row at the position of a school is that school's
pub row-read : (m : Market) (a : Matching) (rows : List CutoffRow) (s at : ℕ) (row : CutoffRow) → rows ≡ rows_in_order m a
    → position (nat_eq s) (schools_of m) ≡ Some at → get_or rows at row ≡ cutoff_row m a s
row-read m a rows s at row are found =
    let (low, here) = position-at (schools_of m) s at found in
    ap (λ all. get_or all at row) are ∙ get_or-map (cutoff_row m a) (schools_of m) at s row low ∙ ap (cutoff_row m a) here

-- and has the school's cutoff
pub cutoff-read : (m : Market) (a : Matching) (rows : List CutoffRow) (s at : ℕ) (row : CutoffRow) → rows ≡ rows_in_order m a
    → position (nat_eq s) (schools_of m) ≡ Some at → (get_or rows at row).cutoff ≡ cutoff m a s
cutoff-read m a rows s at row are found = ap (λ r. r.cutoff) (row-read m a rows s at row are found)
