-- What look-ups in the papers' tables give.
use Rattle.std.proofs.Common.{◌≡◌, ℕ, nat_eq, Bool, List, [], ◌∷◌, get_or, length, map, inl, inr, Option, Some, None, refl, sym, ap, arith, ◌∙◌, cond, false, true, is_some, position}
use Rattle.std.specs.Prelude.{◌==◌, ◌&&◌, ◌||◌, ◌-◌, nat_lt, if◌then◌else◌}
use Rattle.std.specs.List.{slice_get, list_any}
use Rattle.sc_lottery.specs.Draw.{draw}
use Rattle.sc_papers.specs.Key.{class_at, class_by, has_sibling_at, same_zone, key_of, key_at}
use Rattle.sc_papers.specs.Market.{Market, choices_of, zone_at, student_at, student_of, students_of, school_of, schools_of, seats_of, is_student, is_school}
use Rattle.sc_papers.specs.Representation.{rows_of}
use Rattle.sc_papers.specs.StudentRow.{IsRowAt, IsZoned, Row, classed_at, row_of}
use Rattle.sc_papers.specs.WellFormed.{WellFormed}
use Rattle.sc_papers.specs.declared.records.School.{School}
use Rattle.sc_papers.specs.declared.records.Student.{Student}
use Rattle.std.specs.Map.{keys_of, lookup}
use Rattle.std.specs.Option.{option_map, option_map_or, option_and_then, option_eq}
use Rattle.std.proofs.lemmas.Bool.{and_right, cases_Bool}
use Rattle.std.proofs.lemmas.Bool.Decides.{nat_tests}
use Rattle.std.proofs.lemmas.Cmp.{nat_eq_equiv}
use Rattle.std.proofs.lemmas.Map.Entries.{lookup_from_place}
use Rattle.indexmap.proofs.MapLemmas.{some_index}
use Rattle.std.proofs.lemmas.Option.{same_Some, slice_get-map, slice_get_within, get_or_from_slice_get}
use Rattle.sc_papers.proofs.Positions.{position-there}

-- the number of the entry at a place
pub key-there : {X : Type 0} (es : List (ℕ × X)) (place k : ℕ) (x : X) → slice_get es place ≡ Some (k, x) → slice_get (keys_of es) place ≡ Some k
key-there es place k x entry = slice_get-map (λ e. e.0) es place ∙ ap (option_map (λ e. e.0)) entry

-- the row that stands at the place of an entry is its student's row
pub row-there : (seed : List ℕ) (zones : ℕ → ℕ) (table : List (Option ℕ)) (es : List (ℕ × Student)) (rows : List Row) (place k : ℕ) (student : Student) (row : Row)
    → rows ≡ rows_of seed zones table es → slice_get es place ≡ Some (k, student) → row ≡ get_or rows place row → row ≡ row_of zones table k (draw seed k) student
row-there seed zones table es rows place k student row are entry at =
    let own = row_of zones table k (draw seed k) student in
    let here : slice_get (rows_of seed zones table es) place ≡ Some own =
    slice_get-map (λ e. row_of zones table e.0 (draw seed e.0) e.1) es place ∙ ap (option_map (λ e. row_of zones table e.0 (draw seed e.0) e.1)) entry in
    let there : get_or (rows_of seed zones table es) place row ≡ own = get_or_from_slice_get (rows_of seed zones table es) place own row here in
    at ∙ rw are there

-- and its draw is the draw of the number whose place it is
pub draw-there : (seed : List ℕ) (zones : ℕ → ℕ) (table : List (Option ℕ)) (es : List (ℕ × Student)) (rows : List Row) (place i : ℕ) (row : Row)
    → rows ≡ rows_of seed zones table es → Some place ≡ position (nat_eq i) (keys_of es) → row ≡ get_or rows place row → row.draw ≡ draw seed i
draw-there seed zones table es rows place i row are found at =
    go (slice_get es place) refl (sym (slice_get-map (λ e. e.0) es place) ∙ position-there (keys_of es) i place (sym found))
  where
    go : (o : Option (ℕ × Student)) → slice_get es place ≡ o → option_map (λ e. e.0) o ≡ Some i → row.draw ≡ draw seed i
    go None here same = cc
    go (Some (k, student)) here same =
        ap (λ (r : Row). r.draw) (row-there seed zones table es rows place k student row are here at) ∙ ap (draw seed) (same_Some k i same)

-- what the papers hold of the student at a place
pub record-there : (m : Market) (place i : ℕ) (student : Student) → slice_get m.students place ≡ Some (i, student) → student_of m i ≡ Some student
    → Some student ≡ option_and_then (student_of m) (slice_get (students_of m) place)
record-there m place i student entry known = sym (ap (option_and_then (student_of m)) (key-there m.students place i student entry) ∙ known)

-- the seats of the school at a place
pub seats-there : (m : Market) (place s : ℕ) (school : School) → slice_get m.schools place ≡ Some (s, school) → school_of m s ≡ Some school
    → Some school.seats ≡ option_map (seats_of m) (slice_get (schools_of m) place)
unfolding seats_of
seats-there m place s school entry known = rw (key-there m.schools place s school entry, known) refl

-- the key that is put together from what stands at two places
key-of_places : (m : Market) (place at i s class d : ℕ) (student : Student) (school : School)
    → slice_get m.students place ≡ Some (i, student) → slice_get m.schools at ≡ Some (s, school)
    → student_of m i ≡ Some student → school_of m s ≡ Some school
    → class ≡ class_by (option_eq nat_eq student.continuing (Some s)) (list_any (λ t. t == s) student.siblings) (same_zone student.zone school.zone)
    → d ≡ draw m.seed i
    → Some (record { class = class; draw = d; student = i }) ≡ key_at m place at
unfolding key_of
key-of_places m place at i s class d student school entry entry' known known' class_is draw_is =
    rw (key-there m.students place i student entry, key-there m.schools at s school entry', known, known', class_is, draw_is) refl

-- the choice that is put together from what stands at a school's place
pub classed-made : (m : Market) (student : Student) (at s class : ℕ) (school : School) → slice_get m.schools at ≡ Some (s, school) → school_of m s ≡ Some school
    → class ≡ class_by (option_eq nat_eq student.continuing (Some s)) (list_any (λ t. t == s) student.siblings) (same_zone student.zone school.zone)
    → record { position = at; class = class } ≡ classed_at m student at
classed-made m student at s class school entry known class_is =
    rw (get_or_from_slice_get (schools_of m) at s 0 (key-there m.schools at s school entry), known, class_is) refl

-- the class of a student whose zone alone tells it
pub zoned-class : (student : Student) (s : ℕ) (school : School) → IsZoned student
    → (if student.zone == school.zone then 4 - 1 else 4) ≡ class_by (option_eq nat_eq student.continuing (Some s)) (list_any (λ t. t == s) student.siblings) (same_zone student.zone school.zone)
zoned-class student s school zoned =
    let lives : (student.zone == 0) ≡ false = grind (arith, nat_tests, zoned.zone) in
    elim (cases_Bool (student.zone == school.zone)) [
      | inl home ↦ rw (zoned.continuing, zoned.siblings, home, lives) refl
      | inr away ↦ rw (zoned.continuing, zoned.siblings, away) refl
    ]

-- where a list of schools has one that is another, all is said by the first school where there is no other
pub some-sibling : (s : ℕ) (siblings : List ℕ) → (option_eq nat_eq (slice_get siblings 0) (Some s) || (nat_lt 1 (length siblings) && list_any (λ t. t == s) siblings)) ≡ list_any (λ t. t == s) siblings
some-sibling s [] = refl
some-sibling s (t ∷ []) = elim (cases_Bool (t == s)) [ inl same ↦ rw same refl | inr other ↦ rw other refl ]
some-sibling s (t ∷ u ∷ rest) =
    let more : nat_lt 1 (length (t ∷ u ∷ rest)) ≡ true = grind (arith, nat_tests) in
    elim (cases_Bool (t == s)) [ inl same ↦ rw same refl | inr other ↦ rw (other, more) refl ]

-- the numbers of the rows are the students', in their order
pub number-there : (m : Market) (table : List (Option ℕ)) (rows : List Row) (place : ℕ) → rows ≡ rows_of m.seed (zone_at m) table m.students
    → option_map (λ (r : Row). r.number) (slice_get rows place) ≡ slice_get (students_of m) place
number-there m table rows place are =
    ap (λ rs. option_map (λ (r : Row). r.number) (slice_get rs place)) are
    ∙ ap (option_map (λ (r : Row). r.number)) (slice_get-map (λ e. row_of (zone_at m) table e.0 (draw m.seed e.0) e.1) m.students place)
    ∙ go (slice_get m.students place)
    ∙ sym (slice_get-map (λ e. e.0) m.students place)
  where
    go : (o : Option (ℕ × Student)) → option_map (λ (r : Row). r.number) (option_map (λ e. row_of (zone_at m) table e.0 (draw m.seed e.0) e.1) o) ≡ option_map (λ e. e.0) o
    go None = refl
    go (Some e) = refl

-- a row at a place, and the student whose row it is
module _ (m : Market) (table : List (Option ℕ)) (rows : List Row) (place : ℕ) (row : Row) (well : WellFormed m) (are : rows ≡ rows_of m.seed (zone_at m) table m.students) (here : slice_get rows place ≡ Some row) where
  pub whose : (e : ℕ × Student) × (slice_get m.students place ≡ Some e) × (row ≡ row_of (zone_at m) table e.0 (draw m.seed e.0) e.1)
  whose =
      go (slice_get m.students place) refl (sym (slice_get-map (λ e. row_of (zone_at m) table e.0 (draw m.seed e.0) e.1) m.students place) ∙ ap (λ rs. slice_get rs place) (sym are) ∙ here)
    where
      go : (o : Option (ℕ × Student)) → slice_get m.students place ≡ o → option_map (λ e. row_of (zone_at m) table e.0 (draw m.seed e.0) e.1) o ≡ Some row
          → (e : ℕ × Student) × (slice_get m.students place ≡ Some e) × (row ≡ row_of (zone_at m) table e.0 (draw m.seed e.0) e.1)
      go None there same = cc
      go (Some e) there same = (e, there, sym (same_Some (row_of (zone_at m) table e.0 (draw m.seed e.0) e.1) row same))

  pub theirs : student_of m (student_at m place) ≡ Some whose.0.1
  theirs =
      ap (student_of m) (get_or_from_slice_get (students_of m) place whose.0.0 0 (key-there m.students place whose.0.0 whose.0.1 whose.1))
      ∙ lookup_from_place nat_eq_equiv m.students place whose.0.0 whose.0.1 well.students_differ whose.1

  -- the row tells the number
  pub row-number : row.number ≡ student_at m place
  row-number = ap (λ (r : Row). r.number) whose.2 ∙ sym (get_or_from_slice_get (students_of m) place whose.0.0 0 (key-there m.students place whose.0.0 whose.0.1 whose.1))

  -- and what else is asked of it beside the choices
  pub row-told : (positions : map Some (map (λ c. c.position) row.choices) ≡ map (λ s. position (nat_eq s) (schools_of m)) (choices_of m (student_at m place)))
      (classes : map (λ c. c.class) row.choices ≡ map (class_at m (student_at m place)) (choices_of m (student_at m place))) → IsRowAt m place row
  row-told positions classes = record {
    within = slice_get_within m.students place whose.0 whose.1;
    number = row-number;
    draw = ap (λ (r : Row). r.draw) whose.2 ∙ ap (draw m.seed) (sym (get_or_from_slice_get (students_of m) place whose.0.0 0 (key-there m.students place whose.0.0 whose.0.1 whose.1)));
    zone = ap (λ (r : Row). r.zone) whose.2 ∙ ap (λ o. option_map_or (λ (student : Student). student.zone) o 0) (sym theirs);
    continuing = ap (λ (r : Row). r.continuing) whose.2 ∙ ap (λ o. option_and_then (λ (student : Student). student.continuing) o) (sym theirs);
    sibling =
        ap (λ (r : Row). r.sibling) whose.2
        ∙ ap (λ o. slice_get (option_map_or (λ (student : Student). student.siblings) o []) 0) (sym theirs);
    more_siblings =
        ap (λ (r : Row). r.more_siblings) whose.2
        ∙ ap (λ o. nat_lt 1 (length (option_map_or (λ (student : Student). student.siblings) o []))) (sym theirs);
    positions = positions;
    classes = classes;
  }

  -- and a key is put together from it
  pub key-of_row : (at s class : ℕ) (sibling : Bool) (school : School) → slice_get m.schools at ≡ Some (s, school) → school_of m s ≡ Some school
      → sibling ≡ has_sibling_at m (student_at m place) s
      → class ≡ class_by (option_eq nat_eq row.continuing (Some s)) sibling (same_zone row.zone school.zone)
      → Some (record { class = class; draw = row.draw; student = row.number }) ≡ key_at m place at
  key-of_row at s class sibling school entry known sibling_is class_is =
      let student = whose.0.1 in
      let is = whose.2 in
      let siblings : sibling ≡ list_any (λ t. t == s) student.siblings =
      sibling_is ∙ ap (λ o. list_any (λ t. t == s) (option_map_or (λ (d : Student). d.siblings) o [])) theirs in
      let own : class ≡ class_by (option_eq nat_eq student.continuing (Some s)) (list_any (λ t. t == s) student.siblings) (same_zone student.zone school.zone) =
      class_is ∙ (λ t. class_by (option_eq nat_eq (is t).continuing (Some s)) (siblings t) (same_zone (is t).zone school.zone)) in
      (λ t. Some (record { class = class; draw = row.draw; student = (is t).number }))
      ∙ key-of_places m place at whose.0.0 s class row.draw student school whose.1 entry
      (lookup_from_place nat_eq_equiv m.students place whose.0.0 student well.students_differ whose.1) known own (ap (λ (r : Row). r.draw) is)

-- a number with a position is found, and one without is not
pub found-by_position : {X : Type 0} (es : List (ℕ × X)) (i : ℕ) (place : Option ℕ) → position (nat_eq i) (keys_of es) ≡ place → is_some (lookup (nat_eq i) es) ≡ is_some place
found-by_position es i place found = sym (some_index (nat_eq i) es) ∙ ap is_some found

-- the key by numbers that are in the papers is the key at their positions
pub key-by_positions : (m : Market) (i s p q : ℕ) → position (nat_eq i) (students_of m) ≡ Some p → position (nat_eq s) (schools_of m) ≡ Some q
    → key_at m p q ≡ cond (is_student m i && is_school m s) (Some (key_of m i s)) None
key-by_positions m i s p q student school =
    rw (position-there (students_of m) i p student, position-there (schools_of m) s q school, found-by_position m.students i (Some p) student, found-by_position m.schools s (Some q) school) refl

-- and else there is none
pub no-key_of_student : (m : Market) (i s : ℕ) → position (nat_eq i) (students_of m) ≡ None → None ≡ cond (is_student m i && is_school m s) (Some (key_of m i s)) None
no-key_of_student m i s none = rw (found-by_position m.students i None none) refl

pub no-key_at_school : (m : Market) (i s : ℕ) → position (nat_eq s) (schools_of m) ≡ None → None ≡ cond (is_student m i && is_school m s) (Some (key_of m i s)) None
no-key_at_school m i s none = rw (found-by_position m.schools s None none, and_right (is_student m i) false refl) refl

-- what the papers hold of the school at a school's position
pub school-there : (m : Market) (s t at : ℕ) (school : School) → position (nat_eq s) (schools_of m) ≡ Some at
    → slice_get m.schools at ≡ Some (t, school) → school_of m t ≡ Some school → Some school ≡ school_of m s
school-there m s t at school found entry known =
    let same : t ≡ s = same_Some t s (sym (key-there m.schools at t school entry) ∙ position-there (schools_of m) s at found) in
    sym known ∙ ap (school_of m) same

-- a school without a position is not in the papers
pub no-school-there : (m : Market) (s : ℕ) → position (nat_eq s) (schools_of m) ≡ None → None ≡ school_of m s
no-school-there m s none = go (school_of m s) (found-by_position m.schools s None none)
  where
    go : (o : Option School) → is_some o ≡ false → None ≡ o
    go None e = refl
    go (Some x) e = cc
