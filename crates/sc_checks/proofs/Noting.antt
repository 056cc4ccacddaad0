-- Faults that are left to be told, before the first is.
use Rattle.std.proofs.Common.{◌≡◌, refl, ap, ◌∙◌, ℕ, List, ◌++◌, Ok, Err, Option}
use Rattle.std.specs.Prelude.{Result}
use Rattle.sc_intake.specs.Checking.{faults_alone, faults_together, good_of, known_schools, lists_judged, roster_judged, schools_judged, script_faults, Judged}
use Rattle.sc_intake.specs.declared.fault.IntakeFault.{IntakeFault}
use Rattle.sc_intake.specs.declared.lists.ListRow.{ListRow}
use Rattle.sc_intake.specs.declared.roster.RosterRow.{RosterRow}
use Rattle.sc_intake.specs.declared.schools.SchoolRow.{SchoolRow}
use Rattle.sc_checks.specs.Checks.{every_fault, faults_of_good}
use Rattle.sc_checks.proofs.Seeds.{same-together}

good-together : (seed : List ℕ) (known : List SchoolRow → List SchoolRow) (schools : Result (Judged (List SchoolRow)) IntakeFault) (roster : Result (Judged (List RosterRow)) IntakeFault) (lists : Result (Judged (List ListRow)) IntakeFault)
    → faults_of_good seed known (good_of schools) (good_of roster) (good_of lists) ≡ faults_together seed known schools roster lists
good-together seed known (Ok schools) (Ok roster) (Ok lists) = refl
good-together seed known (Ok schools) (Ok roster) (Err fault) = refl
good-together seed known (Ok schools) (Err fault) lists = refl
good-together seed known (Err fault) roster lists = refl

-- all faults are left, under whichever seed
pub all-left : (seed any schools roster lists script : List ℕ) (first second third last : List IntakeFault)
    → (school_rows : Option (List SchoolRow)) (roster_rows : Option (List RosterRow)) (list_rows : Option (List ListRow))
    → first ≡ faults_alone (schools_judged schools) → second ≡ faults_alone (roster_judged roster) → third ≡ faults_alone (lists_judged lists) → last ≡ script_faults script
    → school_rows ≡ good_of (schools_judged schools) → roster_rows ≡ good_of (roster_judged roster) → list_rows ≡ good_of (lists_judged lists)
    → first ++ second ++ third ++ faults_of_good seed (known_schools schools) school_rows roster_rows list_rows ++ last ≡ every_fault any schools roster lists script
all-left seed any schools roster lists script first second third last school_rows roster_rows list_rows e1 e2 e3 e4 a b c =
    ap (λ (f : List IntakeFault). f ++ second ++ third ++ faults_of_good seed (known_schools schools) school_rows roster_rows list_rows ++ last) e1
    ∙ ap (λ (f : List IntakeFault). faults_alone (schools_judged schools) ++ f ++ third ++ faults_of_good seed (known_schools schools) school_rows roster_rows list_rows ++ last) e2
    ∙ ap (λ (f : List IntakeFault). faults_alone (schools_judged schools) ++ faults_alone (roster_judged roster) ++ f ++ faults_of_good seed (known_schools schools) school_rows roster_rows list_rows ++ last) e3
    ∙ ap (λ (f : List IntakeFault). faults_alone (schools_judged schools) ++ faults_alone (roster_judged roster) ++ faults_alone (lists_judged lists) ++ faults_of_good seed (known_schools schools) school_rows roster_rows list_rows ++ f) e4
    ∙ ap (λ (f : List IntakeFault). faults_alone (schools_judged schools) ++ faults_alone (roster_judged roster) ++ faults_alone (lists_judged lists) ++ f ++ script_faults script)
    (ap (λ (rows : Option (List SchoolRow)). faults_of_good seed (known_schools schools) rows roster_rows list_rows) a
    ∙ ap (λ (rows : Option (List RosterRow)). faults_of_good seed (known_schools schools) (good_of (schools_judged schools)) rows list_rows) b
    ∙ ap (λ (rows : Option (List ListRow)). faults_of_good seed (known_schools schools) (good_of (schools_judged schools)) (good_of (roster_judged roster)) rows) c
    ∙ good-together seed (known_schools schools) (schools_judged schools) (roster_judged roster) (lists_judged lists)
    ∙ same-together seed any (known_schools schools) (schools_judged schools) (roster_judged roster) (lists_judged lists))
