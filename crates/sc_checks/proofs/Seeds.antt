-- No seed changes the faults.
use Rattle.std.proofs.Common.{◌≡◌, refl, ap, ◌∙◌, ℕ, List, [], ◌∷◌, ◌++◌, Ok, Err, Option, None, Some}
use Rattle.std.specs.Prelude.{Result, flat_map}
use Rattle.sc_papers.specs.Market.{Market}
use Rattle.sc_papers.specs.Verdict.{verdict}
use Rattle.sc_papers.specs.declared.amendment.Amendment.TheVariants.{Enter}
use Rattle.sc_papers.specs.declared.amendment.Refusal.{Refusal}
use Rattle.sc_intake.specs.Checking.{faults_alone, faults_in, faults_of_list, faults_of_rows, faults_together, known_schools, lists_judged, roster_judged, schools_judged, students_judged, unjudged, with_row, Judged}
use Rattle.sc_intake.specs.Papers.{entered_by, list_of, opening, unless_refused}
use Rattle.sc_intake.specs.declared.fault.Cause.{Cause}
use Rattle.sc_intake.specs.declared.fault.IntakeFault.{IntakeFault}
use Rattle.sc_intake.specs.declared.fault.Source.TheVariants.{Roster}
use Rattle.sc_intake.specs.declared.lists.ListRow.{ListRow}
use Rattle.sc_intake.specs.declared.roster.RosterRow.{RosterRow}
use Rattle.sc_intake.specs.declared.schools.SchoolRow.{SchoolRow}

-- papers under another seed
reseeded : List ℕ → Market → Market
reseeded seed m = record m { seed = seed }

reseeded_next : List ℕ → Result Market Cause → Result Market Cause
reseeded_next seed (Ok m) = Ok (reseeded seed m)
reseeded_next seed (Err cause) = Err cause

reseeded_judged : List ℕ → Judged Market → Judged Market
reseeded_judged seed judged = record { good = reseeded seed judged.good; faults = judged.faults }

-- a student enters in the same way
entered-reseeded : (seed : List ℕ) (m : Market) (row : RosterRow) (list : Option ListRow)
    → entered_by (reseeded seed m) row list ≡ reseeded_next seed (entered_by m row list)
unfolding reseeded reseeded_next
entered-reseeded seed m row None = refl
entered-reseeded seed m row (Some list) = by (verdict m (Enter row.student row.zone row.siblings list.choices row.continuing))
  where
    by : (v : Option Refusal)
        → unless_refused (reseeded seed m) (Enter row.student row.zone row.siblings list.choices row.continuing) v
        ≡ reseeded_next seed (unless_refused m (Enter row.student row.zone row.siblings list.choices row.continuing) v)
    by None = refl
    by (Some r) = refl

row-reseeded : (seed : List ℕ) (row : ℕ) (so_far : Judged Market) (next : Result Market Cause)
    → with_row Roster row (reseeded_judged seed so_far) (reseeded_next seed next) ≡ reseeded_judged seed (with_row Roster row so_far next)
unfolding reseeded_next reseeded_judged
row-reseeded seed row so_far (Ok m) = refl
row-reseeded seed row so_far (Err cause) = refl

-- and so do the students of a roster
students-reseeded : (seed : List ℕ) (lists : List ListRow) (so_far : Judged Market) (roster : List RosterRow)
    → students_judged lists (reseeded_judged seed so_far) roster ≡ reseeded_judged seed (students_judged lists so_far roster)
unfolding students_judged reseeded_judged
students-reseeded seed lists so_far [] = refl
students-reseeded seed lists so_far (row ∷ rest) =
    ap (λ (next : Result Market Cause). students_judged lists (with_row Roster row.row (reseeded_judged seed so_far) next) rest)
    (entered-reseeded seed so_far.good row (list_of lists row.student))
    ∙ ap (λ (judged : Judged Market). students_judged lists judged rest) (row-reseeded seed row.row so_far (entered_by so_far.good row (list_of lists row.student)))
    ∙ students-reseeded seed lists (with_row Roster row.row so_far (entered_by so_far.good row (list_of lists row.student))) rest

same-of-rows : (seed other : List ℕ) (schools : List SchoolRow) (roster : List RosterRow) (lists : List ListRow)
    → faults_of_rows seed schools roster lists ≡ faults_of_rows other schools roster lists
unfolding reseeded reseeded_judged
same-of-rows seed other schools roster lists =
    ap (λ (judged : Judged Market). judged.faults ++ flat_map (faults_of_list roster) lists)
    (students-reseeded seed lists (unjudged (opening other schools)) roster)

pub same-together : (seed other : List ℕ) (known : List SchoolRow → List SchoolRow) (schools : Result (Judged (List SchoolRow)) IntakeFault) (roster : Result (Judged (List RosterRow)) IntakeFault) (lists : Result (Judged (List ListRow)) IntakeFault)
    → faults_together seed known schools roster lists ≡ faults_together other known schools roster lists
same-together seed other known (Ok schools) (Ok roster) (Ok lists) = same-of-rows seed other (known schools.good) roster.good lists.good
same-together seed other known (Ok schools) (Ok roster) (Err fault) = refl
same-together seed other known (Ok schools) (Err fault) lists = refl
same-together seed other known (Err fault) roster lists = refl

pub same-faults : (seed other schools roster lists : List ℕ) → faults_in seed schools roster lists ≡ faults_in other schools roster lists
same-faults seed other schools roster lists =
    ap (λ (together : List IntakeFault). faults_alone (schools_judged schools) ++ faults_alone (roster_judged roster) ++ faults_alone (lists_judged lists) ++ together)
    (same-together seed other (known_schools schools) (schools_judged schools) (roster_judged roster) (lists_judged lists))
