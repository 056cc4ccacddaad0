-- The positions of a student's choices.
use Rattle.std.proofs.Common.{◌≡◌, inl, inr, refl, ap, sym, subst, ◌∙◌, ℕ, ◌+◌, ◌<◌, ◌==◌, ◌||◌, nat_eq, true, not, cond, false, List, [], ◌∷◌, get_or, Option, Some, None, All, length, map, position, slice_get, arith}
use Rattle.std.specs.Prelude.{nat_lt, slice_index_or, unwrap_or}
use Rattle.std.specs.List.{list_any, position_or_len}
use Rattle.std.specs.Map.{lookup}
use Rattle.std.specs.Option.{option_and_then, option_map, option_map_or}
use Rattle.std.proofs.lemmas.Bool.{cases_eq, cond-false, cond-true, eq-eqb, le-ltb, ltb-true, ne_eqb}
use Rattle.std.proofs.lemmas.Cmp.{nat_eq_equiv}
use Rattle.std.proofs.lemmas.List.{length-map}
use Rattle.std.proofs.lemmas.List.Elements.{All-head, All-nil, All-tail}
use Rattle.std.proofs.lemmas.Map.Entries.{lookup_from_place}
use Rattle.std.proofs.lemmas.Option.{get_or_from_slice_get, none-some, same_Some, slice_get-map, slice_get_read}
use Rattle.sc_papers.specs.Classed.{Classed}
use Rattle.sc_papers.specs.Key.{class_at}
use Rattle.sc_papers.specs.Market.{Market, choices_of, is_school, schools_of, siblings_of, student_at, student_of, zone_at}
use Rattle.sc_papers.specs.Representation.{AreKept, rows_of}
use Rattle.sc_papers.specs.StudentRow.{IsRowAt, Row, class_in, classed_in, positions_in}
use Rattle.sc_papers.specs.WellFormed.{WellFormed, IsProper}
use Rattle.sc_papers.specs.declared.records.Student.{Student}
use Rattle.sc_papers.proofs.Changing.{All-found}
use Rattle.sc_papers.proofs.Hands.{hand-there}
use Rattle.sc_papers.proofs.Keys.{found-by_position, row-told, theirs, whose}
use Rattle.sc_papers.proofs.Positions.{position-one, position-there}
use Rattle.sc_papers.proofs.Representation.{positions-classed}

-- a school's position in the order of entry
abbrev place : Market → ℕ → Option ℕ
place m s = position (nat_eq s) (schools_of m)

-- a school of the papers has the position that the table gives it
known-place : (m : Market) (table : List (Option ℕ)) → ((s : ℕ) → slice_index_or table s None ≡ place m s)
    → (s : ℕ) → is_school m s ≡ true → Some (unwrap_or (slice_index_or table s None) 0) ≡ place m s
known-place m table tabled s known =
    go (place m s) refl
  where
    go : (o : Option ℕ) → place m s ≡ o → Some (unwrap_or (slice_index_or table s None) 0) ≡ place m s
    go None none = let missing = found-by_position m.schools s None none in cc
    go (Some at) found = ap (λ o. Some (unwrap_or o 0)) (tabled s ∙ found) ∙ sym found

-- and so each school of a list
pub known-places : (m : Market) (table : List (Option ℕ)) → ((s : ℕ) → slice_index_or table s None ≡ place m s)
    → (schools : List ℕ) → All (λ s. is_school m s ≡ true) schools → map Some (positions_in table schools) ≡ map (place m) schools
known-places m table tabled [] known = refl
known-places m table tabled (s ∷ schools) known =
    λ t. known-place m table tabled s (All-head (λ x. is_school m x ≡ true) s schools known) t ∷ known-places m table tabled schools (All-tail (λ x. is_school m x ≡ true) s schools known) t

-- the classes of a student's choices are the student's
classes-classed : (m : Market) (table : List (Option ℕ)) (i : ℕ) (student : Student) → student_of m i ≡ Some student → (schools : List ℕ)
    → map (λ c. c.class) (classed_in (zone_at m) table (record student { choices = schools })) ≡ map (class_at m i) schools
classes-classed m table i student theirs [] = refl
classes-classed m table i student theirs (s ∷ schools) =
    let own : class_in student s (zone_at m s) ≡ class_at m i s = rw theirs refl in
    λ t. own t ∷ classes-classed m table i student theirs schools t

-- the row that stands at a student's position tells of the student
pub row-is : (m : Market) (table : List (Option ℕ)) (rows : List Row) (at : ℕ) (row : Row)
    → WellFormed m → ((s : ℕ) → slice_index_or table s None ≡ place m s) → rows ≡ rows_of m.seed (zone_at m) table m.students → slice_get rows at ≡ Some row
    → IsRowAt m at row
unfolding choices_of
row-is m table rows at row well tabled are here =
    let e = (whose m table rows at row well are here).0 in
    let student = e.1 in
    let is = (whose m table rows at row well are here).2 in
    let known = theirs m table rows at row well are here in
    let proper : IsProper m student = All-found (IsProper m) (student_at m at) m.students student (sym known) well.students_proper in
    row-told m table rows at row well are here
    (ap (λ (r : Row). map Some (map (λ c. c.position) r.choices)) is
    ∙ ap (map Some) (positions-classed (zone_at m) table student student.choices)
    ∙ known-places m table tabled student.choices proper.choices_known
    ∙ ap (λ o. map (place m) (option_map_or (λ (found : Student). found.choices) o [])) (sym known))
    (ap (λ (r : Row). map (λ c. c.class) r.choices) is
    ∙ classes-classed m table (student_at m at) student known student.choices
    ∙ ap (λ o. map (class_at m (student_at m at)) (option_map_or (λ (found : Student). found.choices) o [])) (sym known))

-- what is kept of a student who has more than one sibling
pub kept-there : (m : Market) (table : List (Option ℕ)) (kept : List (ℕ × List ℕ)) (at : ℕ) → WellFormed m → AreKept table kept m.students → at < length m.students
    → nat_lt 1 (length (siblings_of m (student_at m at))) ≡ true → lookup (nat_eq (student_at m at)) kept ≡ Some (positions_in table (siblings_of m (student_at m at)))
kept-there m table kept at well keeps low more =
    go (slice_get m.students at) refl (sym (slice_get-map (λ e. e.0) m.students at) ∙ hand-there m at low)
  where
    go : (o : Option (ℕ × Student)) → slice_get m.students at ≡ o → option_map (λ e. e.0) o ≡ Some (student_at m at)
        → lookup (nat_eq (student_at m at)) kept ≡ Some (positions_in table (siblings_of m (student_at m at)))
    go None here same = cc
    go (Some (i, student)) here same =
        let known : lookup (nat_eq i) m.students ≡ Some student = lookup_from_place nat_eq_equiv m.students at i student well.students_differ here in
        let own : i ≡ student_at m at = same_Some i (student_at m at) same in
        let theirs : siblings_of m (student_at m at) ≡ student.siblings =
        ap (λ o. option_map_or (λ (found : Student). found.siblings) o []) (ap (student_of m) (sym own) ∙ known) in
        let entry : get_or m.students at (i, student) ≡ (i, student) = get_or_from_slice_get m.students at (i, student) (i, student) here in
        let told = subst (λ (e : ℕ × Student). nat_lt 1 (length e.1.siblings) ≡ true → lookup (nat_eq e.0) kept ≡ Some (positions_in table e.1.siblings)) entry (keeps at (i, student) low) in
        ap (λ k. lookup (nat_eq k) kept) (sym own) ∙ told (sym (ap (λ (list : List ℕ). nat_lt 1 (length list)) theirs) ∙ more) ∙ ap (λ list. Some (positions_in table list)) (sym theirs)

-- their siblings' schools are schools of the papers
pub siblings-known : (m : Market) (at : ℕ) → WellFormed m → at < length m.students → All (λ s. is_school m s ≡ true) (siblings_of m (student_at m at))
siblings-known m at well low = go (student_of m (student_at m at)) refl
  where
    go : (o : Option Student) → student_of m (student_at m at) ≡ o → All (λ s. is_school m s ≡ true) (option_map_or (λ (found : Student). found.siblings) (student_of m (student_at m at)) [])
    go None none = subst (λ o. All (λ s. is_school m s ≡ true) (option_map_or (λ (found : Student). found.siblings) o [])) (sym none) (All-nil (λ s. is_school m s ≡ true))
    go (Some student) known =
        subst (λ o. All (λ s. is_school m s ≡ true) (option_map_or (λ (found : Student). found.siblings) o [])) (sym known)
        (All-found (IsProper m) (student_at m at) m.students student (sym known) well.students_proper).siblings_known

-- the school at the position that stands at a rank is the choice of that rank
pub choice-there : (m : Market) (choices places : List ℕ) (rank : ℕ) → map Some places ≡ map (place m) choices
    → option_and_then (slice_get (schools_of m)) (slice_get places rank) ≡ slice_get choices rank
choice-there m choices places rank are =
    go (slice_get places rank) (slice_get choices rank) (sym (slice_get-map Some places rank) ∙ ap (λ xs. slice_get xs rank) are ∙ slice_get-map (place m) choices rank)
  where
    go : (o q : Option ℕ) → option_map Some o ≡ option_map (place m) q → option_and_then (slice_get (schools_of m)) o ≡ q
    go None None same = refl
    go None (Some s) same = cc
    go (Some at) None same = cc
    go (Some at) (Some s) same = position-there (schools_of m) s at (sym (same_Some (Some at) (place m s) same))

-- and the position is the school's
pub choice-place : (m : Market) (choices places : List ℕ) (rank at s : ℕ) → map Some places ≡ map (place m) choices
    → slice_get places rank ≡ Some at → slice_get (schools_of m) at ≡ Some s → place m s ≡ Some at
choice-place m choices places rank at s are here there =
    go (slice_get choices rank) (ap (option_map Some) (sym here) ∙ sym (slice_get-map Some places rank) ∙ ap (λ xs. slice_get xs rank) are ∙ slice_get-map (place m) choices rank)
  where
    go : (q : Option ℕ) → Some (Some at) ≡ option_map (place m) q → place m s ≡ Some at
    go None same = cc
    go (Some t) same =
        let found : place m t ≡ Some at = sym (same_Some (Some at) (place m t) same) in
        ap (place m) (same_Some s t (sym there ∙ position-there (schools_of m) t at found)) ∙ found

-- what a read of the choices gives
pub choice-read : (choices : List Classed) (rank : ℕ) (choice : Classed) → true ≡ nat_lt rank (length choices) → choice ≡ get_or choices rank choice → slice_get choices rank ≡ Some choice
choice-read choices rank choice within is = slice_get_read choices (length choices) rank choice refl (ltb-true rank (length choices) (sym within)) is

pub place-read : (choices : List Classed) (rank at : ℕ) (choice : Classed) → true ≡ nat_lt rank (length choices) → choice ≡ get_or choices rank choice → at ≡ choice.position
    → slice_get (map (λ c. c.position) choices) rank ≡ Some at
place-read choices rank at choice within is same =
    slice_get-map (λ c. c.position) choices rank ∙ ap (option_map (λ c. c.position)) (choice-read choices rank choice within is) ∙ ap Some (sym same)

-- and the class is the student's at the school
pub class-there : (m : Market) (i : ℕ) (listed : List ℕ) (choices : List Classed) (rank s : ℕ) (choice : Classed) → map (λ c. c.class) choices ≡ map (class_at m i) listed
    → slice_get choices rank ≡ Some choice → slice_get listed rank ≡ Some s → choice.class ≡ class_at m i s
class-there m i listed choices rank s choice are here there =
    same_Some choice.class (class_at m i s)
    (sym (slice_get-map (λ c. c.class) choices rank ∙ ap (option_map (λ c. c.class)) here)
    ∙ ap (λ xs. slice_get xs rank) are ∙ slice_get-map (class_at m i) listed rank ∙ ap (option_map (class_at m i)) there)

-- a school stands at each of the positions
pub school-at_place : (m : Market) (choices places : List ℕ) (rank at : ℕ) → map Some places ≡ map (place m) choices
    → slice_get places rank ≡ Some at → None ≡ slice_get (schools_of m) at → ⊥
school-at_place m choices places rank at are here none =
    go (slice_get choices rank) (ap (option_map Some) (sym here) ∙ sym (slice_get-map Some places rank) ∙ ap (λ xs. slice_get xs rank) are ∙ slice_get-map (place m) choices rank)
  where
    go : (q : Option ℕ) → Some (Some at) ≡ option_map (place m) q → ⊥
    go None same = cc
    go (Some t) same = none-some t (none ∙ position-there (schools_of m) t at (sym (same_Some (Some at) (place m t) same)))

-- a choice stands at a place where its school is the school of that place
choice-same : (m : Market) (c p s at : ℕ) → Some p ≡ place m c → place m s ≡ Some at → (p == at) ≡ (c == s)
choice-same m c p s at here found =
    elim (cases_eq c s) [
      | inl same ↦ eq-eqb p at (same_Some p at (here ∙ ap (place m) same ∙ found)) ∙ sym (eq-eqb c s same)
      | inr apart ↦ ne_eqb p at (λ is. apart (position-one (schools_of m) s c at found (sym here ∙ ap Some is))) ∙ sym (ne_eqb c s apart)
    ]

-- so the first of the places that is a school's stands at the rank of the school
first-same : (m : Market) (choices places : List ℕ) (s at : ℕ) → map Some places ≡ map (place m) choices → place m s ≡ Some at
    → position_or_len (λ p. p == at) places ≡ position_or_len (λ c. c == s) choices
first-same m [] [] s at are found = refl
first-same m [] (p ∷ places) s at are found = cc
first-same m (c ∷ choices) [] s at are found = cc
first-same m (c ∷ choices) (p ∷ places) s at are found =
    let here : Some p ≡ place m c = cc in
    let rest : map Some places ≡ map (place m) choices = cc in
    λ t. cond (not (choice-same m c p s at here found t)) (1 + first-same m choices places s at rest found t) 0

pub choice-rank : (m : Market) (choices places : List ℕ) (s at : ℕ) → map Some places ≡ map (place m) choices → place m s ≡ Some at
    → position (λ p. p == at) places ≡ position (λ c. c == s) choices
choice-rank m choices places s at are found =
    let first = first-same m choices places s at are found in
    let long : length places ≡ length choices = sym (length-map places Some) ∙ ap length are ∙ length-map choices (place m) in
    λ t. cond (nat_lt (first t) (long t)) (Some (first t)) None

-- the first of the choices at a place
first-placed : (choices : List Classed) (at : ℕ) → position_or_len (λ c. c.position == at) choices ≡ position_or_len (λ p. p == at) (map (λ c. c.position) choices)
first-placed [] at = refl
first-placed (c ∷ choices) at = ap (λ n. cond (not (c.position == at)) (1 + n) 0) (first-placed choices at)

pub rank-placed : (choices : List Classed) (at : ℕ) → position (λ c. c.position == at) choices ≡ position (λ p. p == at) (map (λ c. c.position) choices)
rank-placed choices at =
    let long : length choices ≡ length (map (λ c. c.position) choices) = sym (length-map choices (λ c. c.position)) in
    λ t. cond (nat_lt (first-placed choices at t) (long t)) (Some (first-placed choices at t)) None

-- so a school is among the choices exactly where its place is among theirs
pub any-there : (m : Market) (choices places : List ℕ) (s at : ℕ) → map Some places ≡ map (place m) choices → place m s ≡ Some at
    → list_any (λ p. p == at) places ≡ list_any (λ c. c == s) choices
any-there m [] [] s at are found = refl
any-there m [] (p ∷ places) s at are found = cc
any-there m (c ∷ choices) [] s at are found = cc
any-there m (c ∷ choices) (p ∷ places) s at are found =
    let here : Some p ≡ place m c = cc in
    let rest : map Some places ≡ map (place m) choices = cc in
    λ t. choice-same m c p s at here found t || any-there m choices places s at rest found t

-- a school without a place is not among the choices
none-first : (m : Market) (choices places : List ℕ) (s : ℕ) → map Some places ≡ map (place m) choices → place m s ≡ None
    → position_or_len (λ c. c == s) choices ≡ length choices
none-first m [] places s are none = refl
none-first m (c ∷ choices) [] s are none = cc
none-first m (c ∷ choices) (p ∷ places) s are none =
    let here : Some p ≡ place m c = cc in
    let rest : map Some places ≡ map (place m) choices = cc in
    let other : (c == s) ≡ false = ne_eqb c s (λ same. none-some p (sym none ∙ ap (place m) (sym same) ∙ sym here)) in
    cond-true (not (c == s)) (1 + position_or_len (λ t. t == s) choices) 0 (ap not other) ∙ omega (arith, none-first m choices places s rest none)

pub no-rank : (m : Market) (choices places : List ℕ) (s : ℕ) → map Some places ≡ map (place m) choices → place m s ≡ None
    → position (λ c. c == s) choices ≡ None
no-rank m choices places s are none =
    let past = none-first m choices places s are none in
    cond-false (nat_lt (position_or_len (λ c. c == s) choices) (length choices)) (Some (position_or_len (λ c. c == s) choices)) None
    (le-ltb (position_or_len (λ c. c == s) choices) (length choices) (omega (arith, past)))
