-- How many of the first students list each school.
use Rattle.std.proofs.Common.{◌≡◌, refl, sym, ◌∙◌, ap, ℕ, ◌+◌, ◌<◌, ◌≤◌, ◌==◌, ◌||◌, nat_eq, false, cond, List, [], ◌∷◌, length, get_or, map, take, Option, Some, None, All, Contains, inl, inr, count_by, fold, position, slice_get, arith}
use Rattle.std.specs.List.{IsDistinct, list_any}
use Rattle.std.proofs.lemmas.Bool.{cases_Bool, cond-true, cond-false, eqb-true, eq-eqb, false≢true, ne_eqb, or_left}
use Rattle.std.proofs.lemmas.List.{get_or-map, get_or_default, length-map}
use Rattle.std.proofs.lemmas.List.Elements.{All-from_recursion}
use Rattle.std.proofs.lemmas.List.Folds.{list_any_none}
use Rattle.std.proofs.lemmas.Map.Entries.{length-keys_of}
use Rattle.std.proofs.lemmas.Map.Keys.{IsDistinct-head, IsDistinct-tail}
use Rattle.std.proofs.lemmas.Option.{none-some, same_Some, slice_get-get_or}
use Rattle.sc_papers.specs.Classed.{Classed}
use Rattle.sc_papers.specs.Market.{Market, choices_of, schools_of, student_at, students_of}
use Rattle.sc_papers.specs.Matching.{how_many}
use Rattle.sc_papers.specs.WellFormed.{WellFormed}
use Rattle.sc_papers.proofs.Choices.{contains-at, one-place}
use Rattle.sc_papers.proofs.Counting.{count-cons_fails, count-cons_passes}
use Rattle.sc_papers.proofs.Hands.{hand-there}
use Rattle.sc_papers.proofs.Positions.{among-school, position-at, position-one, position-there, school-position}
use Rattle.sc_papers.proofs.Students.{choice-known, choices-differ, how_many-none}
use Rattle.sc_notices.specs.Counting.{AreListings}
use Rattle.sc_notices.specs.Summary.{listed, lists}
use Rattle.sc_notices.proofs.RankLemmas.{counted-few, counted-more}

-- these are the positions of the choices' schools
abbrev pub Positions : Market → List ℕ → List ℕ → Type 0
Positions m positions choices = map Some positions ≡ map (λ s. position (nat_eq s) (schools_of m)) choices

-- there is one for each choice
pub positions-length : (m : Market) (positions choices : List ℕ) → Positions m positions choices → length positions ≡ length choices
positions-length m positions choices are =
    sym (length-map positions Some) ∙ ap length are ∙ length-map choices (λ s. position (nat_eq s) (schools_of m))

-- and each is that of a school of the papers
pub positions-low : (m : Market) (positions choices : List ℕ) → Positions m positions choices → All (λ at. at < length (schools_of m)) positions
positions-low m positions choices are k d low =
    let found : position (nat_eq (get_or choices k 0)) (schools_of m) ≡ Some (get_or positions k d) =
    sym (get_or-map (λ t. position (nat_eq t) (schools_of m)) choices k 0 (Some d) (omega (arith, low, positions-length m positions choices are)))
    ∙ ap (λ (l : List (Option ℕ)). get_or l k (Some d)) (sym are)
    ∙ get_or-map Some positions k d (Some d) low in
    (position-at (schools_of m) (get_or choices k 0) (get_or positions k d) found).0

-- a school's position is its place in the order of entry
pub school-placed : (m : Market) → WellFormed m → (k s : ℕ) → slice_get (schools_of m) k ≡ Some s → position (nat_eq s) (schools_of m) ≡ Some k
school-placed m well k s here =
    let (at, found) = school-position m s (among-school m s (contains-at (schools_of m) k s here)) in
    found ∙ ap Some (one-place (schools_of m) at k s well.schools_differ (position-there (schools_of m) s at found) here)

-- a number that differs from those after it is none of them
none-after : (s : ℕ) (xs : List ℕ) → IsDistinct nat_eq (s ∷ xs) → list_any (λ t. t == s) xs ≡ false
none-after s xs differ =
    let apart : All (λ z. nat_eq s z ≡ false) xs = All-from_recursion (λ z. nat_eq s z ≡ false) xs (IsDistinct-head nat_eq s xs differ) in
    list_any_none (λ t. t == s) xs (λ k d low. ne_eqb (get_or xs k d) s (λ same. false≢true (sym (apart k d low) ∙ eq-eqb s (get_or xs k d) (sym same))))

-- a list has a school's position once where it lists the school, and else not at all
positions-count : (m : Market) (s at : ℕ) → position (nat_eq s) (schools_of m) ≡ Some at → (positions choices : List ℕ) → Positions m positions choices
    → IsDistinct nat_eq choices → count_by (nat_eq at) positions ≡ cond (list_any (λ t. t == s) choices) 1 0
positions-count m s at found [] [] are differ = refl
positions-count m s at found [] (c ∷ cs) are differ = cc
positions-count m s at found (p ∷ ps) [] are differ = cc
positions-count m s at found (p ∷ ps) (c ∷ cs) are differ =
    let first : Some p ≡ position (nat_eq c) (schools_of m) = cc in
    let others : Positions m ps cs = cc in
    let rest = positions-count m s at found ps cs others (IsDistinct-tail nat_eq c cs differ) in
    elim (cases_Bool (c == s)) [
      | inl same ↦
          let one : c ≡ s = eqb-true c s same in
          let here : at ≡ p = same_Some at p (sym found ∙ ap (λ t. position (nat_eq t) (schools_of m)) (sym one) ∙ sym first) in
          let none : list_any (λ t. t == s) cs ≡ false = ap (λ t. list_any (λ u. u == t) cs) (sym one) ∙ none-after c cs differ in
          count-cons_passes (nat_eq at) p ps (eq-eqb at p here)
          ∙ ap (λ n. 1 + n) (rest ∙ cond-false (list_any (λ t. t == s) cs) 1 0 none)
          ∙ sym (cond-true ((c == s) || list_any (λ t. t == s) cs) 1 0 (or_left (c == s) (list_any (λ t. t == s) cs) same))
      | inr other ↦
          let apart : at ≡ p → ⊥ = λ here.
          false≢true (sym other ∙ eq-eqb c s (sym (position-one (schools_of m) c s at (sym first ∙ ap Some (sym here)) found))) in
          count-cons_fails (nat_eq at) p ps (ne_eqb at p apart) ∙ rest
          ∙ ap (λ b. cond (b || list_any (λ t. t == s) cs) 1 0) (sym other)
    ]

-- the counts of the first students, and one more
pub listings-more : (m : Market) → WellFormed m → (k : ℕ) → k < length m.students → (old new positions : List ℕ) → Positions m positions (choices_of m (student_at m k))
    → AreListings m (take k (students_of m)) old → length new ≡ length old
    → ((at : ℕ) → at < length old → get_or new at 0 ≡ get_or old at 0 + count_by (nat_eq at) positions)
    → AreListings m (take (k + 1) (students_of m)) new
listings-more m well k low old new positions are before same added = record {
  one_each = same ∙ before.one_each;
  counted = λ s at found.
      let i = student_at m k in
      let within : at < length old = omega (arith, before.one_each, (position-at (schools_of m) s at found).0) in
      added at within
      ∙ (λ t. before.counted s at found t + positions-count m s at found positions (choices_of m i) are (choices-differ m well i) t)
      ∙ sym (counted-more (lists m s) (students_of m) k i (hand-there m k low));
}

-- the choices at a position are as many as their positions that are it
pub count-placed : (at : ℕ) (choices : List Classed) → count_by (λ c. nat_eq at c.position) choices ≡ count_by (nat_eq at) (map (λ c. c.position) choices)
count-placed at choices = go choices 0
  where
    go : (cs : List Classed) (n : ℕ) → fold (λ a c. a + cond (nat_eq at c.position) 1 0) n cs ≡ fold (λ a p. a + cond (nat_eq at p) 1 0) n (map (λ c. c.position) cs)
    go [] n = refl
    go (c ∷ cs) n = go cs (n + cond (nat_eq at c.position) 1 0)

-- no school is counted more often than there are students
pub listings-few : (m : Market) → WellFormed m → (k : ℕ) → k < length m.students → (counts : List ℕ) → AreListings m (take k (students_of m)) counts
    → (at : ℕ) → at < length counts → get_or counts at 0 ≤ k
listings-few m well k low counts before at within =
    let s = get_or (schools_of m) at 0 in
    let here : slice_get (schools_of m) at ≡ Some s = slice_get-get_or (schools_of m) at 0 (omega (arith, within, before.one_each)) in
    omega (arith, before.counted s at (school-placed m well at s here), counted-few (lists m s) (students_of m) k (omega (arith, low, length-keys_of m.students)))

-- nobody lists a school that is not in the papers
pub listed-away : (m : Market) → WellFormed m → (s : ℕ) → position (nat_eq s) (schools_of m) ≡ None → listed m s ≡ 0
unfolding listed
listed-away m well s away = how_many-none m (lists m s) (λ i among. list_any_none (λ t. t == s) (choices_of m i) (apart i))
  where
    apart : (i : ℕ) → All (λ t. (t == s) ≡ false) (choices_of m i)
    apart i k d low = ne_eqb (get_or (choices_of m i) k d) s (λ same.
        let here : Contains (choices_of m i) s = (k, low, get_or_default (choices_of m i) k s d low ∙ same) in
        let placed = school-position m s (choice-known m well i s here) in
        none-some placed.0 (sym away ∙ placed.1))

-- the count at a school's position is that of the school
pub listed-there : (m : Market) (counts : List ℕ) (s at : ℕ) → AreListings m (students_of m) counts → position (nat_eq s) (schools_of m) ≡ Some at → get_or counts at 0 ≡ listed m s
unfolding listed how_many
listed-there m counts s at are found = are.counted s at found
