-- The records that stand beside flat papers, and what is made of these.
use Rattle.std.proofs.Common.{◌≡◌, refl, set-set, ap, subst, sym, ◌∙◌, All, ℕ, ◌+◌, ◌<◌, nat_eq, List, [], ◌∷◌, ◌++◌, length, get_or, map, take, Option, Some, None, false, is_some, position, slice_get, arith}
use Rattle.std.specs.Prelude.{slice_set}
use Rattle.std.specs.Option.{option_and_then, option_map, option_map_or}
use Rattle.std.proofs.lemmas.Bool.{false≢true}
use Rattle.std.proofs.lemmas.Cmp.{nat_eq_equiv}
use Rattle.std.proofs.lemmas.List.{get_or-map, length-map, map-append, take_more, take-map}
use Rattle.std.proofs.lemmas.Map.Entries.{lookup_from_place}
use Rattle.std.proofs.lemmas.Option.{get_or_from_slice_get, none-some, slice_get-map}
use Rattle.sc_papers.specs.Classed.{Classed}
use Rattle.sc_papers.specs.Market.{Market, choices_of, continuing_of, siblings_of, student_at, student_of, students_of, zone_of}
use Rattle.sc_papers.specs.Records.{AreRecords}
use Rattle.sc_papers.specs.Placed.{schools_at}
use Rattle.sc_papers.specs.Verdict.{changed_student, first_of, unknown_student}
use Rattle.sc_papers.specs.WellFormed.{WellFormed}
use Rattle.sc_papers.specs.declared.amendment.Refusal.{Refusal}
use Rattle.sc_papers.specs.declared.records.Student.{Student}
use Rattle.sc_papers.proofs.Changing.{place-found, put_student, set-found}
use Rattle.sc_papers.proofs.ChangingRepresentation.{put-known}
use Rattle.sc_papers.proofs.EntryOrder.{entry-there}
use Rattle.sc_papers.proofs.Hands.{hand-record, hand-student, position-low}
use Rattle.sc_papers.proofs.Keys.{found-by_position, record-there}
use Rattle.sc_papers.proofs.Objections.{first_of-none}
use Rattle.sc_papers.proofs.TakingBack.{known-student}

-- at a student's position stands what the papers hold of the student
pub record-at : (m : Market) (i at : ℕ) → position (nat_eq i) (students_of m) ≡ Some at → slice_get (map (λ e. e.1) m.students) at ≡ student_of m i
record-at m i at found = go (student_of m i) refl
  where
    go : (o : Option Student) → student_of m i ≡ o → slice_get (map (λ e. e.1) m.students) at ≡ student_of m i
    go None none = let known = found-by_position m.students i (Some at) found in cc
    go (Some student) known =
        slice_get-map (λ e. e.1) m.students at
        ∙ ap (option_map (λ e. e.1)) (ap (slice_get m.students) (place-found (nat_eq i) (students_of m) at (sym found)) ∙ entry-there i student m.students known)
        ∙ sym known

-- and of nobody they hold nothing
pub no-record : (m : Market) (i : ℕ) → None ≡ position (nat_eq i) (students_of m) → None ≡ student_of m i
no-record m i none = go (student_of m i) (found-by_position m.students i None (sym none))
  where
    go : (o : Option Student) → is_some o ≡ false → None ≡ o
    go None same = refl
    go (Some student) same = cc

-- who may be named is in the papers
pub no-student : (m : Market) (i : ℕ) (others : List (Option Refusal)) → None ≡ position (nat_eq i) (students_of m)
    → first_of (unknown_student m i ∷ others) ≡ None → ⊥
no-student m i others none allowed =
    let known = known-student m i (first_of-none (unknown_student m i ∷ others) allowed).0 in
    none-some known.0 (no-record m i none ∙ known.1)

-- so a record is read
pub record-low : (m : Market) (records : List Student) (i at : ℕ) → AreRecords m records → position (nat_eq i) (students_of m) ≡ Some at → at < length records
record-low m records i at are found = omega (arith, position-low m i at found, ap length are, length-map m.students (λ e. e.1))

pub record-read : (m : Market) (records : List Student) (i at : ℕ) (student : Student) → AreRecords m records → position (nat_eq i) (students_of m) ≡ Some at
    → slice_get records at ≡ Some student → student_of m i ≡ Some student
record-read m records i at student are found here = sym (record-at m i at found) ∙ ap (λ rs. slice_get rs at) (sym are) ∙ here

pub records-read : (m : Market) → WellFormed m → (at : ℕ) → slice_get (map (λ e. e.1) m.students) at ≡ option_and_then (student_of m) (slice_get (students_of m) at)
records-read m well at = go (slice_get m.students at) refl
  where
    go : (o : Option (ℕ × Student)) → slice_get m.students at ≡ o → slice_get (map (λ e. e.1) m.students) at ≡ option_and_then (student_of m) (slice_get (students_of m) at)
    go None none =
        slice_get-map (λ e. e.1) m.students at ∙ ap (option_map (λ e. e.1)) none
        ∙ sym (ap (option_and_then (student_of m)) (slice_get-map (λ e. e.0) m.students at ∙ ap (option_map (λ e. e.0)) none))
    go (Some (i, student)) here =
        slice_get-map (λ e. e.1) m.students at ∙ ap (option_map (λ e. e.1)) here
        ∙ record-there m at i student here (lookup_from_place nat_eq_equiv m.students at i student well.students_differ here)

-- one record more
pub records-more : (m : Market) → WellFormed m → (records : List Student) (at : ℕ) (student : Student) → at < length m.students
    → student_of m (student_at m at) ≡ Some student → records ≡ take at (map (λ e. e.1) m.students) → records ++ student ∷ [] ≡ take (at + 1) (map (λ e. e.1) m.students)
records-more m well records at student low known before =
    let all = map (λ (e : ℕ × Student). e.1) m.students in
    let here : slice_get all at ≡ Some student = records-read m well at ∙ hand-record m at low ∙ known in
    let within : at < length all = omega (arith, low, length-map m.students (λ e. e.1)) in
    ap (λ rs. rs ++ student ∷ []) before
    ∙ ap (λ s. take at all ++ s ∷ []) (sym (get_or_from_slice_get all at student student here))
    ∙ sym (take_more all at student within)

-- what is put in the place of a record that was taken out is what the papers hold then
pub records-put : (m new : Market) (records rest put : List Student) (i at : ℕ) (none student : Student) → AreRecords m records → position (nat_eq i) (students_of m) ≡ Some at
    → rest ≡ slice_set records at none → put ≡ slice_set rest at student → new ≡ changed_student m i (λ before. student) → AreRecords new put
records-put m new records rest put i at none student are found taken back is =
    back ∙ ap (λ rs. slice_set rs at student) taken ∙ set-set records at none student
    ∙ ap (λ rs. slice_set rs at student) are ∙ set-found (λ k w. w) i m.students student at (sym found)
    ∙ ap (λ (n : Market). map (λ e. e.1) n.students) (put-known m i at student found ∙ sym is)

-- a change of what the papers hold puts what it makes of it in its place
pub changed-known : (m : Market) (i : ℕ) (before : Student) (change : Student → Student) → student_of m i ≡ Some before
    → changed_student m i (λ x. change before) ≡ changed_student m i change
changed-known m i before change known =
    ap (λ o. option_map_or (λ (x : Student). put_student m i (change before)) o m) known
    ∙ sym (ap (λ o. option_map_or (λ (x : Student). put_student m i (change x)) o m) known)

-- one school more
pub schools-more : (schools places : List ℕ) (k p s d : ℕ) (made : List ℕ) → k < length places → p ≡ get_or places k d → Some s ≡ slice_get schools p
    → made ≡ schools_at schools (take k places) → made ++ s ∷ [] ≡ schools_at schools (take (k + 1) places)
schools-more schools places k p s d made low is there before =
    ap (λ xs. xs ++ s ∷ []) before
    ∙ ap (λ x. schools_at schools (take k places) ++ x ∷ []) (sym (get_or_from_slice_get schools p s 0 (sym there)))
    ∙ sym (map-append (λ q. get_or schools q 0) (take k places) (p ∷ []))
    ∙ ap (schools_at schools) (ap (λ (q : ℕ). take k places ++ q ∷ []) is ∙ sym (take_more places k d low))

pub schools-chosen_more : (schools : List ℕ) (choices : List Classed) (k p s : ℕ) (d : Classed) (made : List ℕ) → k < length choices → p ≡ (get_or choices k d).position
    → Some s ≡ slice_get schools p → made ≡ schools_at schools (map (λ c. c.position) (take k choices))
    → made ++ s ∷ [] ≡ schools_at schools (map (λ c. c.position) (take (k + 1) choices))
schools-chosen_more schools choices k p s d made low is there before =
    let places = map (λ c. c.position) choices in
    schools-more schools places k p s d.position made (omega (arith, low, length-map choices (λ c. c.position)))
    (is ∙ sym (get_or-map (λ c. c.position) choices k d d.position low)) there (before ∙ ap (schools_at schools) (sym (take-map (λ c. c.position) k choices)))
    ∙ ap (schools_at schools) (take-map (λ c. c.position) (k + 1) choices)

-- choices whose places are those of schools are within them
pub chosen-low : (n : ℕ) (choices : List Classed) → All (λ p. p < n) (map (λ c. c.position) choices) → All (λ (c : Classed). c.position < n) choices
chosen-low n choices low = λ k d within.
    subst (λ p. p < n) (get_or-map (λ c. c.position) choices k d d.position within) (low k d.position (omega (arith, within, length-map choices (λ c. c.position))))

-- the record that is made of what the papers tell of a student is what they hold
pub made-record : (m : Market) (at zone : ℕ) (continuing : Option ℕ) (siblings choices : List ℕ) → at < length m.students
    → zone ≡ zone_of m (student_at m at) → continuing ≡ continuing_of m (student_at m at) → siblings ≡ siblings_of m (student_at m at) → choices ≡ choices_of m (student_at m at)
    → student_of m (student_at m at) ≡ Some (record { zone = zone; continuing = continuing; siblings = siblings; choices = choices })
unfolding choices_of
made-record m at zone continuing siblings choices low zoned continues sibling chosen = go (student_of m (student_at m at)) refl
  where
    go : (o : Option Student) → student_of m (student_at m at) ≡ o → student_of m (student_at m at) ≡ Some (record { zone = zone; continuing = continuing; siblings = siblings; choices = choices })
    go None none = absurd (false≢true (sym (ap is_some none) ∙ hand-student m at low))
    go (Some student) known =
        let zone_is = sym (zoned ∙ ap (λ o. option_map_or (λ (x : Student). x.zone) o 0) known) in
        let continuing_is = sym (continues ∙ ap (λ o. option_and_then (λ (x : Student). x.continuing) o) known) in
        let siblings_are = sym (sibling ∙ ap (λ o. option_map_or (λ (x : Student). x.siblings) o []) known) in
        let choices_are = sym (chosen ∙ ap (λ o. option_map_or (λ (x : Student). x.choices) o []) known) in
        known ∙ (λ t. Some (record { zone = zone_is t; continuing = continuing_is t; siblings = siblings_are t; choices = choices_are t }))
