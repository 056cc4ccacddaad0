-- A student who may enter, and where the schools of their choices stand.
use Rattle.std.proofs.Common.{◌≡◌, ℕ, ◌≤◌, nat_eq, List, [], ◌∷◌, length, map, position, true, All, Option, Some, None, Result, Ok, Err, refl, ap, subst, sym, ◌∙◌, arith}
use Rattle.std.specs.Result.{IfErr, IsErrAnd, OnOk}
use Rattle.std.specs.Option.{option_map}
use Rattle.std.specs.Prelude.{nat_le, slice_index_or, unwrap_or}
use Rattle.std.proofs.lemmas.List.{length-map}
use Rattle.sc_papers.specs.Market.{Market, is_school, is_student, schools_of, zone_at}
use Rattle.sc_papers.specs.Entry.{objections_to_enter_at, with_choices_at, MayEnterAt}
use Rattle.sc_papers.specs.Placed.{schools_at, AreOfSchools}
use Rattle.sc_papers.specs.Classed.{Classed}
use Rattle.sc_papers.specs.StudentRow.{Row, class_in, classed_at, classed_in, positions_in, row_at, row_of}
use Rattle.sc_papers.specs.Verdict.{first_of, first_repeat, no_choices, objections_to_enter, refuse_if, too_long, twice_in, unknown_in, unknown_school, unless_refused}
use Rattle.sc_papers.specs.WellFormed.{WellFormed}
use Rattle.sc_papers.specs.declared.limits.TheConstants.{LONGEST_LIST, MOST_STUDENTS}
use Rattle.sc_papers.specs.declared.records.Student.{Student}
use Rattle.sc_papers.specs.declared.amendment.Refusal.{Refusal}
use Rattle.sc_papers.specs.declared.amendment.Refusal.TheVariants.{RosterFull, SchoolTwice, StudentExists}
use Rattle.sc_papers.proofs.ChoicePositions.{known-places}
use Rattle.sc_papers.proofs.Entering.{MayEnter-allowed}
use Rattle.sc_papers.proofs.Placed.{placed-known, placed-once, placed-there, places-back, places-low}
use Rattle.sc_papers.proofs.Unobjected.{none-too_long, none-unknown_in}

-- the table says where each school stands in the order of entry
abbrev pub IsTable : Market → List (Option ℕ) → Type 0
IsTable m table = (s : ℕ) → slice_index_or table s None ≡ position (nat_eq s) (schools_of m)

-- objections that do not apply can be left out
skipped : {R : Type 0} (a b d f g h j : Option R)
    → first_of (a ∷ b ∷ None ∷ d ∷ None ∷ f ∷ g ∷ None ∷ h ∷ j ∷ []) ≡ first_of (a ∷ b ∷ d ∷ f ∷ g ∷ h ∷ j ∷ [])
skipped (Some r) b d f g h j = refl
skipped None (Some r) d f g h j = refl
skipped None None (Some r) f g h j = refl
skipped None None None (Some r) g h j = refl
skipped None None None None (Some r) h j = refl
skipped None None None None None h j = refl

-- nothing is said of choices whose schools stand at positions, but where there are none
pub objections-at : (m : Market) → WellFormed m → (i : ℕ) (siblings positions : List ℕ) (continuing : Option ℕ)
    → AreOfSchools m positions → length positions ≤ LONGEST_LIST → first_repeat [] positions ≡ None
    → first_of (objections_to_enter m i siblings (schools_at (schools_of m) positions) continuing)
    ≡ first_of (objections_to_enter_at m i siblings positions continuing)
objections-at m well i siblings positions continuing within short once =
    let choices = schools_at (schools_of m) positions in
    let are = placed-there m well positions within in
    let many = length-map positions (λ p. slice_index_or (schools_of m) p 0) in
    let long : too_long choices ≡ None = none-too_long choices (omega (arith, short, many)) in
    let unknown : unknown_in m choices ≡ None = none-unknown_in m choices (placed-known m choices positions are) in
    let twice : twice_in choices ≡ None = ap (option_map SchoolTwice) (placed-once m positions choices are once) in
    rw (long, unknown, twice, many) (skipped (refuse_if (is_student m i) StudentExists) (no_choices positions)
    (too_long siblings) (unknown_in m siblings) (unknown_school m continuing) (twice_in siblings)
    (refuse_if (nat_le MOST_STUDENTS (length m.students)) RosterFull))

-- what a test tells whose answer is a refusal, if there is one
tested : {P : Type 0} (result : Result (Unit {0}) Refusal) (o : Option Refusal) → result ≡ unless_refused o → (o ≡ None → P)
    → OnOk result P × IfErr result (λ e. Some e ≡ o)
tested (Ok x) None same given = (given refl, tt)
tested (Ok x) (Some r) same given = cc
tested (Err e) None same given = cc
tested (Err e) (Some r) same given = let one : e ≡ r = cc in (tt, ap Some one)

-- and so the tests of an entry
pub entry-tested : (m : Market) → WellFormed m → (i : ℕ) (student : Student) (positions : List ℕ) (result : Result (Unit {0}) Refusal)
    → AreOfSchools m positions → length positions ≤ LONGEST_LIST → first_repeat [] positions ≡ None
    → result ≡ unless_refused (first_of (objections_to_enter_at m i student.siblings positions student.continuing))
    → OnOk result (MayEnterAt m i student positions)
    × IfErr result (λ e. Some e ≡ first_of (objections_to_enter m i student.siblings (schools_at (schools_of m) positions) student.continuing))
entry-tested m well i student positions result within short once same =
    tested result (first_of (objections_to_enter m i student.siblings (schools_at (schools_of m) positions) student.continuing))
    (same ∙ ap unless_refused (sym (objections-at m well i student.siblings positions student.continuing within short once)))
    (λ allowed. record { within = within; allowed = allowed })

-- a student who may enter, with the positions that the table gives
pub MayEnterAt-filled : (m : Market) (table : List (Option ℕ)) → IsTable m table → (i : ℕ) (student : Student) (positions : List ℕ)
    → first_of (objections_to_enter m i student.siblings student.choices student.continuing) ≡ None
    → positions ≡ positions_in table student.choices
    → MayEnterAt m i student positions × (schools_at (schools_of m) positions ≡ student.choices)
MayEnterAt-filled m table tabled i student positions allowed filled =
    let are = ap (map Some) filled ∙ known-places m table tabled student.choices (MayEnter-allowed m i student allowed).lists.choices_known in
    let back = places-back m student.choices positions are in (
      record {
        within = places-low m student.choices positions are;
        allowed = subst (λ (choices : List ℕ). first_of (objections_to_enter m i student.siblings choices student.continuing) ≡ None) (sym back) allowed;
      },
      back,
    )

-- the choices of the schools at some positions are those that the table gives
pub choices-tabled : (m : Market) → WellFormed m → (table : List (Option ℕ)) → IsTable m table → (student : Student) (positions : List ℕ)
    → AreOfSchools m positions → map (classed_at m student) positions ≡ classed_in (zone_at m) table (with_choices_at m positions student)
choices-tabled m well table tabled student positions within = go positions (placed-there m well positions within)
  where
    go : (ps : List ℕ) → map Some ps ≡ map (λ s. position (nat_eq s) (schools_of m)) (schools_at (schools_of m) ps)
        → map (classed_at m student) ps ≡ classed_in (zone_at m) table (with_choices_at m ps student)
    go [] are = refl
    go (p ∷ ps) are =
        let s = slice_index_or (schools_of m) p 0 in
        let here : Some p ≡ position (nat_eq s) (schools_of m) = cc in
        let rest : map Some ps ≡ map (λ x. position (nat_eq x) (schools_of m)) (schools_at (schools_of m) ps) = cc in
        let own : p ≡ unwrap_or (slice_index_or table s None) 0 = ap (λ o. unwrap_or o 0) (here ∙ sym (tabled s)) in
        λ t. record { position = own t; class = class_in student s (zone_at m s) } ∷ go ps rest t

-- and so the row is that of a student whose choices' schools stand where the table says
pub row-tabled : (m : Market) → WellFormed m → (table : List (Option ℕ)) → IsTable m table → (i d : ℕ) (student : Student) (positions : List ℕ) (row : Row)
    → All (λ s. is_school m s ≡ true) student.choices → positions ≡ positions_in table student.choices
    → row ≡ row_at (map (classed_at m student) positions) i d student → row ≡ row_of (zone_at m) table i d student
row-tabled m well table tabled i d student positions row known filled is =
    let are = ap (map Some) filled ∙ known-places m table tabled student.choices known in
    is ∙ ap (λ (cs : List Classed). row_at cs i d student) (choices-tabled m well table tabled student positions (places-low m student.choices positions are))
    ∙ ap (λ (list : List ℕ). row_of (zone_at m) table i d (record student { choices = list })) (places-back m student.choices positions are)

-- the error of a test that fails is the refusal
refused-same : (o : Option Refusal) (r : Refusal) → Err r ≡ unless_refused o → Some r ≡ o
refused-same None r same = cc
refused-same (Some refusal) r same = let one : r ≡ refusal = cc in ap Some one

pub failed-refusal : {T : Type 0} (result : Result T Refusal) (o : Option Refusal) (r : Refusal) → IsErrAnd result (λ e. e ≡ r) → Err r ≡ unless_refused o → IfErr result (λ e. Some e ≡ o)
failed-refusal (Ok x) o r told same = tt
failed-refusal (Err e) o r told same = ap Some told ∙ refused-same o r same
