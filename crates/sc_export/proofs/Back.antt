-- Papers that are read back from their files.
use Rattle.std.proofs.Common.{◌≡◌, ◌∙◌, ◌≤◌, ◌||◌, ◌+◌, ℕ, Bool, true, false, nat_eq, List, [], ◌∷◌, ◌++◌, length, map, Option, Some, None, Ok, refl, sym, ap, arith, inl, inr, append_assoc, append-nil, length-append}
use Rattle.std.proofs.lemmas.List.{length-map}
use Rattle.std.specs.Prelude.{nat_le, codes, is_some}
use Rattle.std.specs.Fmt.{decimal}
use Rattle.std.specs.List.{All, AllByRecursion, IsDistinct, list_any}
use Rattle.std.specs.Map.{keys_of, lookup}
use Rattle.std.specs.Option.{IfSome}
use Rattle.std.proofs.lemmas.Bool.{cases_Bool}
use Rattle.std.proofs.lemmas.Bool.Decides.{nat_tests}
use Rattle.std.proofs.lemmas.Cmp.{nat_eq_equiv}
use Rattle.std.proofs.lemmas.List.Elements.{All-head, All-tail}
use Rattle.csv.specs.Records.{field_at}
use Rattle.sc_papers.specs.Market.{Market, is_school, is_student}
use Rattle.sc_papers.specs.Verdict.{objections_to_enter, verdict}
use Rattle.sc_papers.specs.WellFormed.{IsProper, IsShort, WellFormed, WithinLimits}
use Rattle.sc_papers.specs.declared.amendment.Amendment.TheVariants.{Enter}
use Rattle.sc_papers.specs.declared.amendment.Refusal.TheVariants.{RosterFull, StudentExists}
use Rattle.sc_papers.specs.declared.limits.TheConstants.{MOST_SCHOOLS, MOST_STUDENTS}
use Rattle.sc_papers.specs.declared.records.School.{School}
use Rattle.sc_papers.specs.declared.records.Student.{Student}
use Rattle.sc_papers.proofs.Unobjected.{none-first_of, none-no_choices, none-refuse_if, none-too_long, none-twice_in, none-unknown_in, none-unknown_school}
use Rattle.sc_intake.specs.File.{after_header}
use Rattle.sc_intake.specs.Lists.{choices_of, list_number, lists_in}
use Rattle.sc_intake.specs.Papers.{all_entered, entered_by, filled, opening, papers_in, papers_of}
use Rattle.sc_intake.specs.Roster.{is_roster_header, roster_in, roster_number, student_of}
use Rattle.sc_intake.specs.Schools.{school_number, school_of, schools_in}
use Rattle.sc_intake.specs.declared.fault.Source.TheVariants.{Lists, Roster, Schools}
use Rattle.sc_intake.specs.declared.lists.ListRow.{ListRow}
use Rattle.sc_intake.specs.declared.roster.RosterRow.{RosterRow}
use Rattle.sc_intake.specs.declared.schools.SchoolRow.{SchoolRow}
use Rattle.sc_intake.proofs.InStep.{filled-in-step, in-step, in-step-parts}
use Rattle.sc_lines.specs.Line.{list_text}
use Rattle.sc_lines.specs.Spelling.{IsSchool, IsSchoolOrNone}
use Rattle.sc_export.specs.Files.{continues, continuing_text, file_text, is_longer, list_fields, list_header, lists_text, roster_fields, roster_header, roster_text, school_fields, school_header, schools_text}
use Rattle.sc_export.specs.Ranges.{AreInRange, IsSchoolInRange, IsStudentInRange}
use Rattle.sc_export.proofs.Fields.{continuing-ok, continuing-reads, continuing-tidy, decimal-tidy, kept, list-ok, list-reads, list-tidy, number-reads, within-ok}
use Rattle.sc_export.proofs.Plain.{AllRows, IsRow, continuing-plain, decimal-plain, list-plain, is_plain}
use Rattle.sc_export.proofs.RowsBack as back
use Rattle.sc_export.proofs.RowsBack.{file-read, rows_from}
use Rattle.sc_export.proofs.Sizes.{AllShort, IsShortRow, continuing-short, decimal-short, four-short, list-short, rows-short, three-short, two-short}

-- ---- the schools

abbrev made_school : ℕ → ℕ × School → SchoolRow
made_school n e = record { row = n; number = e.0; zone = e.1.zone; seats = e.1.seats }

abbrev IsBackSchool : ℕ × School → Type 0
IsBackSchool = back.IsBack Schools MOST_SCHOOLS 3 school_number school_of (λ e. e.0) school_fields made_school

school-back : (e : ℕ × School) → IsSchoolInRange e → e.1.seats ≤ 10000 → IsBackSchool e
unfolding field_at
school-back e ok seats =
    let number = ok.0.1 in
    let zone = ok.1.1 in
    record {
      wide = refl;
      reads = λ n. rw (
        kept (decimal e.0) (decimal-tidy e.0 (omega arith)),
        kept (decimal e.1.zone) (decimal-tidy e.1.zone (omega arith)),
        kept (decimal e.1.seats) (decimal-tidy e.1.seats (omega arith)),
        number-reads e.0 (omega arith),
        number-reads e.1.zone (omega arith),
        number-reads e.1.seats (omega arith),
        within-ok 1 99999 e.0 ok.0,
        within-ok 0 9999 e.1.zone ok.1,
        within-ok 0 10000 e.1.seats (omega arith, seats),
      ) refl;
      keyed = λ n. refl;
    }

school-backs : (es : List (ℕ × School)) → All IsSchoolInRange es → All (λ e. e.1.seats ≤ 10000) es → AllByRecursion IsBackSchool es
school-backs [] ok seats = tt
school-backs (e ∷ es) ok seats = (
  school-back e (All-head IsSchoolInRange e es ok) (All-head (λ (x : ℕ × School). x.1.seats ≤ 10000) e es seats),
  school-backs es (All-tail IsSchoolInRange e es ok) (All-tail (λ (x : ℕ × School). x.1.seats ≤ 10000) e es seats),
)

schools-plain : (es : List (ℕ × School)) → All IsSchoolInRange es → All (λ e. e.1.seats ≤ 10000) es → AllRows (map school_fields es)
schools-plain [] ok seats = tt
schools-plain (e ∷ es) ok seats =
    let here = All-head IsSchoolInRange e es ok in
    let number = here.0.1 in
    let zone = here.1.1 in
    let some = All-head (λ (x : ℕ × School). x.1.seats ≤ 10000) e es seats in (
      (decimal-plain e.0 (omega arith), (decimal-plain e.1.zone (omega arith), (decimal-plain e.1.seats (omega arith), tt))),
      schools-plain es (All-tail IsSchoolInRange e es ok) (All-tail (λ (x : ℕ × School). x.1.seats ≤ 10000) e es seats),
    )

schools-short : (es : List (ℕ × School)) → All IsSchoolInRange es → All (λ e. e.1.seats ≤ 10000) es → AllShort (map school_fields es)
schools-short [] ok seats = tt
schools-short (e ∷ es) ok seats =
    let here = All-head IsSchoolInRange e es ok in
    let number = here.0.1 in
    let zone = here.1.1 in
    let some = All-head (λ (x : ℕ × School). x.1.seats ≤ 10000) e es seats in
    let a = decimal-short e.0 (omega arith) in
    let b = decimal-short e.1.zone (omega arith) in
    let c = decimal-short e.1.seats (omega arith) in (
      three-short (decimal e.0) (decimal e.1.zone) (decimal e.1.seats) (omega arith),
      schools-short es (All-tail IsSchoolInRange e es ok) (All-tail (λ (x : ℕ × School). x.1.seats ≤ 10000) e es seats),
    )

abbrev school_rows : List (ℕ × School) → List SchoolRow
school_rows es = back.rows_from Schools MOST_SCHOOLS 3 school_number school_of (λ e. e.0) school_fields made_school 2 es

keys-same : {X : Type 0} (es : List (ℕ × X)) → map (λ e. e.0) es ≡ keys_of es
keys-same [] = refl
keys-same (e ∷ es) = ap (λ (ks : List ℕ). e.0 ∷ ks) (keys-same es)

schools-read : (m : Market) → WellFormed m → WithinLimits m → AreInRange m → schools_in (schools_text m) ≡ Ok (school_rows m.schools)
unfolding after_header field_at is_plain
schools-read m formed limits ranges =
    let es = m.schools in
    let count = limits.schools in
    let few : length (schools_text m) ≤ 67108864 =
    let all = rows-short (school_header ∷ map school_fields es) (three-short (codes "school") (codes "zone") (codes "seats") (omega arith), schools-short es ranges.schools limits.seats) in
    omega (arith, length-map es school_fields) in
    let read = file-read Schools 115 99 104 _ school_header (map school_fields es) refl refl few ((refl, (refl, (refl, tt))), schools-plain es ranges.schools limits.seats) in
    let rows = back.rows-back Schools MOST_SCHOOLS 3 school_number school_of (λ e. e.0) school_fields made_school [] es (school-backs es ranges.schools limits.seats) (omega arith) (rw (keys-same es) formed.schools_differ) in
    rw read rows

-- ---- the students

-- the schools that papers know are in range
known-range : (es : List (ℕ × School)) (s : ℕ) → All IsSchoolInRange es → is_some (lookup (nat_eq s) es) ≡ true → IsSchool s
known-range [] s ok known = cc known
known-range (e ∷ es) s ok known = elim (cases_Bool (nat_eq s e.0)) [
  | inl same ↦
      let is : s ≡ e.0 = grind (arith, nat_tests, same) in
      rw is (All-head IsSchoolInRange e es ok).0
  | inr other ↦ known-range es s (All-tail IsSchoolInRange e es ok) (rw other at known)
]

-- what an entry needs so that its rows are read back
record IsReadable (e : ℕ × Student) : Type 0 where
  pub ranges : IsStudentInRange e
  pub siblings : All IsSchool e.1.siblings
  pub choices : All IsSchool e.1.choices
  pub continuing : IsSchoolOrNone e.1.continuing
  pub short : IsShort e.1

continuing-known : (m : Market) (continuing : Option ℕ) → All IsSchoolInRange m.schools → IfSome continuing (λ s. is_school m s ≡ true) → IsSchoolOrNone continuing
continuing-known m None ok known = tt
continuing-known m (Some s) ok known = known-range m.schools s ok known

readable : (m : Market) (e : ℕ × Student) → All IsSchoolInRange m.schools → IsStudentInRange e → IsProper m e.1 → IsShort e.1 → IsReadable e
readable m e ok ranges proper short = record {
  ranges = ranges;
  siblings = λ k d within. known-range m.schools _ ok (proper.siblings_known k d within);
  choices = λ k d within. known-range m.schools _ ok (proper.choices_known k d within);
  continuing = continuing-known m e.1.continuing ok proper.continuing_known;
  short = short;
}

all-readable : (m : Market) (es : List (ℕ × Student)) → All IsSchoolInRange m.schools → All IsStudentInRange es → All (λ e. IsProper m e.1) es → All (λ e. IsShort e.1) es
    → AllByRecursion IsReadable es
all-readable m [] ok ranges proper short = tt
all-readable m (e ∷ es) ok ranges proper short = (
  readable m e ok (All-head IsStudentInRange e es ranges) (All-head (λ (x : ℕ × Student). IsProper m x.1) e es proper) (All-head (λ (x : ℕ × Student). IsShort x.1) e es short),
  all-readable m es ok (All-tail IsStudentInRange e es ranges) (All-tail (λ (x : ℕ × Student). IsProper m x.1) e es proper) (All-tail (λ (x : ℕ × Student). IsShort x.1) e es short),
)

-- ---- the roster

abbrev made_student : ℕ → ℕ × Student → RosterRow
made_student n e = record { row = n; student = e.0; zone = e.1.zone; siblings = e.1.siblings; continuing = e.1.continuing }

abbrev width_of : Bool → ℕ
width_of longer = length (roster_header longer)

abbrev IsBackStudent : Bool → ℕ × Student → Type 0
IsBackStudent longer = back.IsBack Roster MOST_STUDENTS (width_of longer) roster_number student_of (λ e. e.0) (roster_fields longer) made_student

-- the shorter form has everybody whole
abbrev Fits : Bool → ℕ × Student → Type 0
Fits longer e = longer ≡ false → e.1.continuing ≡ None

student-back : (longer : Bool) (e : ℕ × Student) → IsReadable e → Fits longer e → IsBackStudent longer e
unfolding field_at
student-back true e ok fits =
    let number = ok.ranges.0.1 in
    let zone = ok.ranges.1.1 in
    record {
      wide = refl;
      reads = λ n. rw (
        kept (decimal e.0) (decimal-tidy e.0 (omega arith)),
        kept (decimal e.1.zone) (decimal-tidy e.1.zone (omega arith)),
        kept (list_text e.1.siblings) (list-tidy e.1.siblings ok.siblings),
        kept (continuing_text e.1.continuing) (continuing-tidy e.1.continuing ok.continuing),
        number-reads e.0 (omega arith),
        number-reads e.1.zone (omega arith),
        list-reads e.1.siblings ok.siblings,
        continuing-reads e.1.continuing ok.continuing,
        within-ok 1 999999999 e.0 ok.ranges.0,
        within-ok 0 9999 e.1.zone ok.ranges.1,
        list-ok e.1.siblings ok.siblings,
        continuing-ok e.1.continuing ok.continuing,
      ) refl;
      keyed = λ n. refl;
    }
student-back false e ok fits =
    let number = ok.ranges.0.1 in
    let zone = ok.ranges.1.1 in
    record {
      wide = refl;
      reads = λ n. rw (
        kept (decimal e.0) (decimal-tidy e.0 (omega arith)),
        kept (decimal e.1.zone) (decimal-tidy e.1.zone (omega arith)),
        kept (list_text e.1.siblings) (list-tidy e.1.siblings ok.siblings),
        number-reads e.0 (omega arith),
        number-reads e.1.zone (omega arith),
        list-reads e.1.siblings ok.siblings,
        continuing-reads None tt,
        within-ok 1 999999999 e.0 ok.ranges.0,
        within-ok 0 9999 e.1.zone ok.ranges.1,
        list-ok e.1.siblings ok.siblings,
        fits refl,
      ) refl;
      keyed = λ n. refl;
    }

-- where nobody continues anywhere, everybody fits the shorter form
none-continues : (longer : Bool) (es : List (ℕ × Student)) → (longer ≡ false → list_any continues es ≡ false) → AllByRecursion (Fits longer) es
none-continues longer [] none = tt
none-continues longer (e ∷ es) none = (λ shorter. nowhere e.1.continuing (or-first (continues e) (list_any continues es) (none shorter)), none-continues longer es (λ shorter. or-second (continues e) (list_any continues es) (none shorter)))
  where
    nowhere : (o : Option ℕ) → is_some o ≡ false → o ≡ None
    nowhere None e = refl
    nowhere (Some s) e = cc e

    or-first : (a b : Bool) → (a || b) ≡ false → a ≡ false
    or-first false b e = refl
    or-first true b e = cc e

    or-second : (a b : Bool) → (a || b) ≡ false → b ≡ false
    or-second false b e = e
    or-second true b e = cc e

students-back : (longer : Bool) (es : List (ℕ × Student)) → AllByRecursion IsReadable es → AllByRecursion (Fits longer) es → AllByRecursion (IsBackStudent longer) es
students-back longer [] ok fits = tt
students-back longer (e ∷ es) ok fits = (student-back longer e ok.0 fits.0, students-back longer es ok.1 fits.1)

student-plain : (longer : Bool) (e : ℕ × Student) → IsReadable e → IsRow (roster_fields longer e)
student-plain true e ok =
    let number = ok.ranges.0.1 in
    let zone = ok.ranges.1.1 in
    (decimal-plain e.0 (omega arith), (decimal-plain e.1.zone (omega arith), (list-plain e.1.siblings ok.siblings, (continuing-plain e.1.continuing ok.continuing, tt))))
student-plain false e ok =
    let number = ok.ranges.0.1 in
    let zone = ok.ranges.1.1 in
    (decimal-plain e.0 (omega arith), (decimal-plain e.1.zone (omega arith), (list-plain e.1.siblings ok.siblings, tt)))

students-plain : (longer : Bool) (es : List (ℕ × Student)) → AllByRecursion IsReadable es → AllRows (map (roster_fields longer) es)
students-plain longer [] ok = tt
students-plain longer (e ∷ es) ok = (student-plain longer e ok.0, students-plain longer es ok.1)

student-short : (longer : Bool) (e : ℕ × Student) → IsReadable e → IsShortRow (roster_fields longer e)
student-short true e ok =
    let number = ok.ranges.0.1 in
    let zone = ok.ranges.1.1 in
    let a = decimal-short e.0 (omega arith) in
    let b = decimal-short e.1.zone (omega arith) in
    let c = list-short e.1.siblings ok.siblings ok.short.siblings in
    let d = continuing-short e.1.continuing ok.continuing in
    four-short (decimal e.0) (decimal e.1.zone) (list_text e.1.siblings) (continuing_text e.1.continuing) (omega arith)
student-short false e ok =
    let number = ok.ranges.0.1 in
    let zone = ok.ranges.1.1 in
    let a = decimal-short e.0 (omega arith) in
    let b = decimal-short e.1.zone (omega arith) in
    let c = list-short e.1.siblings ok.siblings ok.short.siblings in
    three-short (decimal e.0) (decimal e.1.zone) (list_text e.1.siblings) (omega arith)

students-short : (longer : Bool) (es : List (ℕ × Student)) → AllByRecursion IsReadable es → AllShort (map (roster_fields longer) es)
students-short longer [] ok = tt
students-short longer (e ∷ es) ok = (student-short longer e ok.0, students-short longer es ok.1)

abbrev roster_rows : Bool → ℕ → List (ℕ × Student) → List RosterRow
roster_rows longer n es = back.rows_from Roster MOST_STUDENTS (width_of longer) roster_number student_of (λ e. e.0) (roster_fields longer) made_student n es

header-short : (longer : Bool) → IsShortRow (roster_header longer)
header-short true = four-short (codes "student") (codes "zone") (codes "siblings") (codes "continuing") (omega arith)
header-short false = three-short (codes "student") (codes "zone") (codes "siblings") (omega arith)

header-plain : (longer : Bool) → IsRow (roster_header longer)
unfolding is_plain
header-plain true = (refl, (refl, (refl, (refl, tt))))
header-plain false = (refl, (refl, (refl, tt)))

below-header : (longer : Bool) (rest : List (List (List ℕ))) → after_header Roster is_roster_header (roster_header longer ∷ rest) ≡ Ok (width_of longer, rest)
unfolding after_header field_at
below-header true rest = refl
below-header false rest = refl

roster-read : (longer : Bool) (es : List (ℕ × Student)) → length es ≤ 200000 → AllByRecursion IsReadable es → AllByRecursion (Fits longer) es → IsDistinct nat_eq (keys_of es)
    → roster_in (file_text (roster_header longer) (map (roster_fields longer) es)) ≡ Ok (roster_rows longer 2 es)
roster-read longer es count ok fits differ =
    let few : length (file_text (roster_header longer) (map (roster_fields longer) es)) ≤ 67108864 =
    let all = rows-short (roster_header longer ∷ map (roster_fields longer) es) (header-short longer, students-short longer es ok) in
    omega (arith, length-map es (roster_fields longer)) in
    let read = file-read Roster 115 116 117 _ (roster_header longer) (map (roster_fields longer) es) refl refl few (header-plain longer, students-plain longer es ok) in
    let rows = back.rows-back Roster MOST_STUDENTS (width_of longer) roster_number student_of (λ e. e.0) (roster_fields longer) made_student [] es (students-back longer es ok fits) (omega arith) (rw (keys-same es) differ) in
    rw (read, below-header longer (map (roster_fields longer) es)) rows

-- ---- the lists

abbrev made_list : ℕ → ℕ × Student → ListRow
made_list n e = record { row = n; student = e.0; choices = e.1.choices }

abbrev IsBackList : ℕ × Student → Type 0
IsBackList = back.IsBack Lists MOST_STUDENTS 2 list_number choices_of (λ e. e.0) list_fields made_list

list-back : (e : ℕ × Student) → IsReadable e → IsBackList e
unfolding field_at
list-back e ok =
    let number = ok.ranges.0.1 in
    record {
      wide = refl;
      reads = λ n. rw (
        kept (decimal e.0) (decimal-tidy e.0 (omega arith)),
        kept (list_text e.1.choices) (list-tidy e.1.choices ok.choices),
        number-reads e.0 (omega arith),
        list-reads e.1.choices ok.choices,
        within-ok 1 999999999 e.0 ok.ranges.0,
        list-ok e.1.choices ok.choices,
      ) refl;
      keyed = λ n. refl;
    }

lists-back : (es : List (ℕ × Student)) → AllByRecursion IsReadable es → AllByRecursion IsBackList es
lists-back [] ok = tt
lists-back (e ∷ es) ok = (list-back e ok.0, lists-back es ok.1)

lists-plain : (es : List (ℕ × Student)) → AllByRecursion IsReadable es → AllRows (map list_fields es)
lists-plain [] ok = tt
lists-plain (e ∷ es) ok =
    let number = ok.0.ranges.0.1 in
    ((decimal-plain e.0 (omega arith), (list-plain e.1.choices ok.0.choices, tt)), lists-plain es ok.1)

lists-short : (es : List (ℕ × Student)) → AllByRecursion IsReadable es → AllShort (map list_fields es)
lists-short [] ok = tt
lists-short (e ∷ es) ok =
    let number = ok.0.ranges.0.1 in
    let a = decimal-short e.0 (omega arith) in
    let b = list-short e.1.choices ok.0.choices ok.0.short.choices in
    (two-short (decimal e.0) (list_text e.1.choices) (omega arith), lists-short es ok.1)

abbrev list_rows : ℕ → List (ℕ × Student) → List ListRow
list_rows n es = back.rows_from Lists MOST_STUDENTS 2 list_number choices_of (λ e. e.0) list_fields made_list n es

lists-read : (es : List (ℕ × Student)) → length es ≤ 200000 → AllByRecursion IsReadable es → IsDistinct nat_eq (keys_of es)
    → lists_in (file_text list_header (map list_fields es)) ≡ Ok (list_rows 2 es)
unfolding after_header field_at is_plain
lists-read es count ok differ =
    let few : length (file_text list_header (map list_fields es)) ≤ 67108864 =
    let all = rows-short (list_header ∷ map list_fields es) (two-short (codes "student") (codes "choices") (omega arith), lists-short es ok) in
    omega (arith, length-map es list_fields) in
    let read = file-read Lists 115 116 117 _ list_header (map list_fields es) refl refl few ((refl, (refl, tt)), lists-plain es ok) in
    let rows = back.rows-back Lists MOST_STUDENTS 2 list_number choices_of (λ e. e.0) list_fields made_list [] es (lists-back es ok) (omega arith) (rw (keys-same es) differ) in
    rw read rows

-- ---- the papers

-- the rows of the schools make the schools
schools-opened : (n : ℕ) (es : List (ℕ × School))
    → map (λ row. (row.number, record { zone = row.zone; seats = row.seats })) (back.rows_from Schools MOST_SCHOOLS 3 school_number school_of (λ e. e.0) school_fields made_school n es) ≡ es
unfolding rows_from
schools-opened n [] = refl
schools-opened n (e ∷ es) = ap (λ (rest : List (ℕ × School)). e ∷ rest) (schools-opened (n + 1) es)

-- both files have the same students in the same order
same-step : (longer : Bool) (n k : ℕ) (es : List (ℕ × Student)) → map roster_number (roster_rows longer n es) ≡ map list_number (list_rows k es)
unfolding rows_from
same-step longer n k [] = refl
same-step longer n k (e ∷ es) = ap (λ (rest : List ℕ). e.0 ∷ rest) (same-step longer (n + 1) (k + 1) es)

list-numbers : (k : ℕ) (es : List (ℕ × Student)) → map list_number (list_rows k es) ≡ keys_of es
unfolding rows_from
list-numbers k [] = refl
list-numbers k (e ∷ es) = ap (λ (rest : List ℕ). e.0 ∷ rest) (list-numbers (k + 1) es)

-- the papers with the first of their students
abbrev with_first : Market → List (ℕ × Student) → Market
with_first m es = record m { students = es }

-- a student whose number is none of those before is not in the papers yet
not-yet : (done rest : List (ℕ × Student)) (e : ℕ × Student) → IsDistinct nat_eq (keys_of (done ++ e ∷ rest)) → is_some (lookup (nat_eq e.0) done) ≡ false
unfolding IsDistinct
not-yet [] rest e differ = refl
not-yet (d ∷ done) rest e differ =
    let other : nat_eq e.0 d.0 ≡ false = nat_eq_equiv.symm e.0 d.0 ∙ among done differ.0 in
    rw other (not-yet done rest e differ.1)
  where
    among : (done : List (ℕ × Student)) → AllByRecursion (λ z. nat_eq d.0 z ≡ false) (keys_of (done ++ e ∷ rest)) → nat_eq d.0 e.0 ≡ false
    among [] apart = apart.0
    among (x ∷ xs) apart = among xs apart.1

-- nothing is said against entering them
unobjected : (m : Market) (done rest : List (ℕ × Student)) (e : ℕ × Student) → IsDistinct nat_eq (keys_of (done ++ e ∷ rest)) → IsProper m e.1 → IsShort e.1
    → length done + 1 ≤ 200000 → verdict (with_first m done) (Enter e.0 e.1.zone e.1.siblings e.1.choices e.1.continuing) ≡ None
unobjected m done rest e differ proper short room =
    let n = with_first m done in
    let student = e.1 in
    let fits : nat_le MOST_STUDENTS (length done) ≡ false = grind (arith, nat_tests, room) in
    none-first_of (objections_to_enter n e.0 student.siblings student.choices student.continuing) (
      none-refuse_if (is_student n e.0) StudentExists (not-yet done rest e differ),
      (
        none-no_choices student.choices proper.choices_some,
        (
          none-too_long student.choices short.choices,
          (
            none-too_long student.siblings short.siblings,
            (
              none-unknown_in n student.choices proper.choices_known,
              (
                none-unknown_in n student.siblings proper.siblings_known,
                (
                  none-unknown_school n student.continuing proper.continuing_known,
                  (
                    none-twice_in student.choices proper.choices_differ,
                    (
                      none-twice_in student.siblings proper.siblings_differ,
                      (none-refuse_if (nat_le MOST_STUDENTS (length done)) RosterFull fits, tt),
                    ),
                  ),
                ),
              ),
            ),
          ),
        ),
      ),
    )

-- the students enter one after the other
all-back : (m : Market) (longer : Bool) (lists earlier : List ListRow) (k : ℕ) (done es : List (ℕ × Student)) → lists ≡ earlier ++ list_rows k es → IsDistinct nat_eq (map list_number lists)
    → IsDistinct nat_eq (keys_of (done ++ es)) → All (λ e. IsProper m e.1) es → All (λ e. IsShort e.1) es → length done + length es ≤ 200000
    → all_entered lists (with_first m done) (roster_rows longer k es) ≡ Ok (with_first m (done ++ es))
unfolding rows_from all_entered
all-back m longer lists earlier k done [] parts differ keys proper short few = ap (λ (es : List (ℕ × Student)). Ok (with_first m es)) (sym (append-nil done))
all-back m longer lists earlier k done (e ∷ es) parts differ keys proper short few =
    let here = All-head (λ (x : ℕ × Student). IsProper m x.1) e es proper in
    let small = All-head (λ (x : ℕ × Student). IsShort x.1) e es short in
    let free = unobjected m done es e keys here small (omega arith) in
    let row = made_student k e in
    let list = made_list k e in
    let entered : entered_by (with_first m done) row (Some list) ≡ Ok (with_first m (done ++ e ∷ [])) = rw free refl in
    let step : map roster_number (row ∷ roster_rows longer (k + 1) es) ≡ map list_number (list ∷ list_rows (k + 1) es) = same-step longer k k (e ∷ es) in
    let on = in-step lists earlier (list_rows (k + 1) es) (roster_rows longer (k + 1) es) row list differ parts step (all_entered lists (with_first m done) (roster_rows longer k (e ∷ es))) (with_first m done) (with_first m (done ++ e ∷ [])) refl entered in
    let together : (done ++ e ∷ []) ++ es ≡ done ++ e ∷ es = append_assoc done (e ∷ []) es in
    let more = all-back m longer lists (earlier ++ list ∷ []) (k + 1) (done ++ e ∷ []) es (in-step-parts lists earlier (list_rows (k + 1) es) (roster_rows longer (k + 1) es) row list differ parts step) differ
    (rw together keys) (All-tail (λ (x : ℕ × Student). IsProper m x.1) e es proper) (All-tail (λ (x : ℕ × Student). IsShort x.1) e es short) (omega (arith, length-append done (e ∷ []))) in
    on ∙ more ∙ ap (λ (all : List (ℕ × Student)). Ok (with_first m all)) together

papers-made : (m : Market) (longer : Bool) → WellFormed m → WithinLimits m → papers_of m.seed (school_rows m.schools) (roster_rows longer 2 m.students) (list_rows 2 m.students) ≡ Ok m
papers-made m longer formed limits =
    let es = m.students in
    let lists = list_rows 2 es in
    let opened : opening m.seed (school_rows m.schools) ≡ with_first m [] = ap (λ (schools : List (ℕ × School)). record { seed = m.seed; schools = schools; students = [] }) (schools-opened 2 m.schools) in
    let differ : IsDistinct nat_eq (map list_number lists) = rw (list-numbers 2 es) formed.students_differ in
    ap (λ (n : Market). filled n (roster_rows longer 2 es) lists) opened
    ∙ filled-in-step (with_first m []) (roster_rows longer 2 es) lists (same-step longer 2 2 es)
    ∙ all-back m longer lists [] 2 [] es refl differ formed.students_differ formed.students_proper limits.lists (let few = limits.students in omega arith)

-- reading the files of papers gives the papers
pub read-back : (m : Market) → WellFormed m → WithinLimits m → AreInRange m → papers_in m.seed (schools_text m) (roster_text m) (lists_text m) ≡ Ok m
read-back m formed limits ranges =
    let es = m.students in
    let ok = all-readable m es ranges.schools ranges.students formed.students_proper limits.lists in
    let fits = none-continues (is_longer m) es (λ none. none) in
    rw (schools-read m formed limits ranges, roster-read (is_longer m) es limits.students ok fits formed.students_differ, lists-read es limits.students ok formed.students_differ)
    (papers-made m (is_longer m) formed limits)
