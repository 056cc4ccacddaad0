-- Rows of a tidy text, of their fields.
use Rattle.std.proofs.Common.{◌≡◌, ℕ, ◌==◌, Bool, true, false, List, [], ◌∷◌, ◌++◌, length, refl, ap, ◌∙◌, arith, Option, Some, None, Result, Ok, Err}
use Rattle.std.proofs.lemmas.Bool.Decides.{nat_tests}
use Rattle.csv.specs.Records.{field_at}
use Rattle.sc_papers.specs.declared.school_no.TheConstants.SchoolNo.{GREATEST as greatest_school}
use Rattle.sc_intake.specs.Blanks.{trimmed}
use Rattle.sc_intake.specs.Fault.{◌>>=◌}
use Rattle.sc_intake.specs.Field.{as_school, as_school_or_none, as_student, as_zone, is_within, number_of, number_or_none, numbers_after, words_after}
use Rattle.sc_intake.specs.File.{text_at}
use Rattle.sc_intake.specs.Lists.{choices_of}
use Rattle.sc_intake.specs.Plain.{cut, first_line}
use Rattle.sc_intake.specs.Roster.{student_of}
use Rattle.sc_intake.specs.Tidy.{AreSchools, EndsRow, HasLine, IsSchoolOrNone, TakesField, TakesNumber, TakesRejection, TakesRow}
use Rattle.sc_intake.specs.declared.blanks.Blanks.TheVariants.{InLine}
use Rattle.sc_intake.specs.declared.fault.Cause.{Cause}
use Rattle.sc_intake.specs.declared.roster.RosterRow.{RosterRow}
use Rattle.sc_intake.proofs.TidyFields.{digits-clean, number-digits, trimmed-number}
use Rattle.sc_intake.proofs.TidyLines.{first-record, line-last, line-more}

-- no bytes are no schools
pub no-schools : (text : List ℕ) → TakesField text text (AreSchools [])
unfolding numbers_after words_after
no-schools text = record { field = []; cut = refl; clean = refl; reads = (refl, refl) }

-- and no school
pub no-school : (text : List ℕ) → TakesField text text (IsSchoolOrNone None)
unfolding number_or_none
no-school text = record { field = []; cut = refl; clean = refl; reads = refl }

-- a number is a school
pub one-school : (text after : List ℕ) (n : ℕ) → TakesNumber text after n → is_within 1 greatest_school n ≡ true → TakesField text after (IsSchoolOrNone (Some n))
unfolding number_or_none
one-school text after n takes school =
    let are = number-digits takes.digits n takes.number in
    let number = trimmed-number takes.digits n takes.number in
    let some : (length (trimmed InLine takes.digits) == 0) ≡ false = let size = (number-digits (trimmed InLine takes.digits) n number).some in grind (arith, nat_tests) in
    record { field = takes.digits; cut = takes.cut; clean = digits-clean takes.digits are.all; reads = rw (some, number, school) refl }

-- a field that is the last of its line
field-last : {Reads : List ℕ → Type 0} (text rest : List ℕ) (takes : TakesField text rest Reads) → first_line rest ≡ [] → HasLine text rest (takes.field ∷ [])
field-last text rest takes ends = let last = line-last takes.field rest takes.clean ends in rw (← takes.cut) at last

-- a row of three fields ends after the third
pub ends-short : (text : List ℕ) → first_line text ≡ [] → EndsRow 3 text text None
unfolding number_or_none field_at
ends-short text ends = record { fields = []; width_is = refl; reads = refl; line = λ third clean. line-last third text clean ends }

-- and one of four after the fourth
pub ends-long : (text more rest : List ℕ) (school : Option ℕ) → text ≡ 44 ∷ more → TakesField more rest (IsSchoolOrNone school) → first_line rest ≡ [] → EndsRow 4 text rest school
unfolding field_at
ends-long text more rest school comma takes ends = record {
  fields = takes.field ∷ [];
  width_is = refl;
  reads = takes.reads;
  line = λ third clean. rw comma (line-more third more rest (takes.field ∷ []) clean (field-last more rest takes ends));
}

-- a row of the lists
pub list-row : (by_lines : Bool) (row : ℕ) (text after more rest : List ℕ) (n student : ℕ) (choices : List ℕ) → TakesNumber text after n → after ≡ 44 ∷ more → TakesField more rest (AreSchools choices) → first_line rest ≡ []
    → as_student n ≡ Ok student → TakesRow choices_of 2 row (cut by_lines text) (cut by_lines rest) (record { row = row; student = student; choices = choices })
unfolding field_at
list-row by_lines row text after more rest n student choices takes comma field ends ranged =
    let digits = takes.digits in
    let are = number-digits digits n takes.number in
    let clean = digits-clean digits are.all in
    let whole : text ≡ digits ++ 44 ∷ more = takes.cut ∙ ap (λ (t : List ℕ). digits ++ t) comma in
    let tail : HasLine more rest (field.field ∷ []) = field-last more rest field ends in
    let line : HasLine (digits ++ 44 ∷ more) rest (digits ∷ field.field ∷ []) = line-more digits more rest (field.field ∷ []) clean tail in
    record {
      fields = digits ∷ field.field ∷ [];
      next = ap (cut by_lines) whole ∙ first-record by_lines digits (44 ∷ more) rest (digits ∷ field.field ∷ []) clean are.some line;
      reads = rw (trimmed-number digits n takes.number, field.reads.0, ranged, field.reads.1) refl;
    }

-- a rejection
pub rejection-row : (by_lines : Bool) (text after more rest : List ℕ) (n k student school : ℕ) → TakesNumber text after n → after ≡ 44 ∷ more → TakesNumber more rest k → first_line rest ≡ []
    → as_student n ≡ Ok student → as_school k ≡ Ok school → TakesRejection (cut by_lines text) (cut by_lines rest) (record { student = student; school = school })
unfolding field_at
rejection-row by_lines text after more rest n k student school takes comma takes_school ends ranged school_ranged =
    let digits = takes.digits in
    let school_digits = takes_school.digits in
    let are = number-digits digits n takes.number in
    let clean = digits-clean digits are.all in
    let whole : text ≡ digits ++ 44 ∷ more = takes.cut ∙ ap (λ (t : List ℕ). digits ++ t) comma in
    let last = line-last school_digits rest (digits-clean school_digits (number-digits school_digits k takes_school.number).all) ends in
    let tail : HasLine more rest (school_digits ∷ []) = rw (← takes_school.cut) at last in
    let line : HasLine (digits ++ 44 ∷ more) rest (digits ∷ school_digits ∷ []) = line-more digits more rest (school_digits ∷ []) clean tail in
    record {
      fields = digits ∷ school_digits ∷ [];
      next = ap (cut by_lines) whole ∙ first-record by_lines digits (44 ∷ more) rest (digits ∷ school_digits ∷ []) clean are.some line;
      reads = rw (trimmed-number digits n takes.number, trimmed-number school_digits k takes_school.number, ranged, school_ranged) refl;
    }

-- a row of the roster with this school at which its student continues
abbrev roster_row : ℕ → ℕ → ℕ → List ℕ → Option ℕ → Result RosterRow Cause
roster_row row student zone siblings continuing = Ok (record { row = row; student = student; zone = zone; siblings = siblings; continuing = continuing })

-- a row of the roster
pub roster-row : (by_lines : Bool) (width row : ℕ) (text after_student text_zone after_zone text_siblings after_siblings rest : List ℕ) (n z student zone : ℕ) (siblings : List ℕ) (continuing : Option ℕ)
    → TakesNumber text after_student n → after_student ≡ 44 ∷ text_zone → TakesNumber text_zone after_zone z → after_zone ≡ 44 ∷ text_siblings
    → TakesField text_siblings after_siblings (AreSchools siblings) → EndsRow width after_siblings rest continuing → as_student n ≡ Ok student → as_zone z ≡ Ok zone
    → TakesRow student_of width row (cut by_lines text) (cut by_lines rest) (record { row = row; student = student; zone = zone; siblings = siblings; continuing = continuing })
unfolding field_at
roster-row by_lines width row text after_student text_zone after_zone text_siblings after_siblings rest n z student zone siblings continuing takes comma takes_zone zone_comma field ends ranged zone_ranged =
    let digits = takes.digits in
    let zone_digits = takes_zone.digits in
    let are = number-digits digits n takes.number in
    let zone_are = number-digits zone_digits z takes_zone.number in
    let clean = digits-clean digits are.all in
    let zone_clean = digits-clean zone_digits zone_are.all in
    let whole : text ≡ digits ++ 44 ∷ text_zone = takes.cut ∙ ap (λ (t : List ℕ). digits ++ t) comma in
    let zone_whole : text_zone ≡ zone_digits ++ 44 ∷ text_siblings = takes_zone.cut ∙ ap (λ (t : List ℕ). zone_digits ++ t) zone_comma in
    let third_line = ends.line field.field field.clean in
    let third : HasLine text_siblings rest (field.field ∷ ends.fields) = rw (← field.cut) at third_line in
    let second_line = line-more zone_digits text_siblings rest (field.field ∷ ends.fields) zone_clean third in
    let second : HasLine text_zone rest (zone_digits ∷ field.field ∷ ends.fields) = rw (← zone_whole) at second_line in
    let first : HasLine (digits ++ 44 ∷ text_zone) rest (digits ∷ zone_digits ∷ field.field ∷ ends.fields) = line-more digits text_zone rest (zone_digits ∷ field.field ∷ ends.fields) clean second in
    let size : (length (digits ∷ zone_digits ∷ field.field ∷ ends.fields) == width) ≡ true = let is = ends.width_is in grind (arith, nat_tests) in
    record {
      fields = digits ∷ zone_digits ∷ field.field ∷ ends.fields;
      next = ap (cut by_lines) whole ∙ first-record by_lines digits (44 ∷ text_zone) rest (digits ∷ zone_digits ∷ field.field ∷ ends.fields) clean are.some first;
      reads = rw size (reads-student row (digits ∷ zone_digits ∷ field.field ∷ ends.fields) n z student zone siblings continuing (trimmed-number digits n takes.number) (trimmed-number zone_digits z takes_zone.number) field.reads ends.reads ranged zone_ranged);
    }
  where
    reads-student : (row : ℕ) (fields : List (List ℕ)) (n z student zone : ℕ) (siblings : List ℕ) (continuing : Option ℕ)
        → number_of (text_at fields 0) ≡ Ok n → number_of (text_at fields 1) ≡ Ok z → AreSchools siblings (text_at fields 2) → IsSchoolOrNone continuing (text_at fields 3)
        → as_student n ≡ Ok student → as_zone z ≡ Ok zone
        → student_of row fields ≡ Ok (record { row = row; student = student; zone = zone; siblings = siblings; continuing = continuing })
    reads-student row fields n z student zone siblings continuing number zone_number schools school ranged zone_ranged =
        rw (number, zone_number, schools.0, ranged, zone_ranged, schools.1) (by (number_or_none (text_at fields 3)) school)
      where
        by : (r : Result (Option ℕ) Cause) → (r >>= as_school_or_none) ≡ Ok continuing
            → (r >>= λ d. as_school_or_none d >>= roster_row row student zone siblings) ≡ roster_row row student zone siblings continuing
        by (Ok d) is = rw is refl
        by (Err e) is = cc is
