-- Papers are made exactly where there is no fault, and what is told otherwise is the first one.
use Rattle.std.proofs.Common.{◌≡◌, refl, sym, ap, subst, ◌∙◌, ℕ, Bool, true, false, List, [], ◌∷◌, ◌++◌, Ok, Err, Some}
use Rattle.std.proofs.lemmas.List.{append_assoc}
use Rattle.std.specs.Prelude.{◌↔◌, Result, flat_map, if◌then◌else◌, is_ok, not}
use Rattle.sc_papers.specs.Market.{Market}
use Rattle.sc_intake.specs.Checking.{faults_alone, faults_in, faults_of_list, faults_of_rows, faults_together, known_schools, lists_judged, roster_judged, schools_judged, students_judged, unjudged, with_row, Judged}
use Rattle.sc_intake.specs.Fault.{◌>>=◌, fault_at}
use Rattle.sc_intake.specs.File.{in_row}
use Rattle.sc_intake.specs.Lists.{choices_of, is_list_header, list_number, lists_in}
use Rattle.sc_intake.specs.Papers.{all_entered, entered_by, filled, first_not_in_roster, is_in_roster, list_of, opening, papers_in, papers_of, unless_not_in_roster}
use Rattle.sc_intake.specs.Roster.{is_roster_header, roster_in, roster_number, student_of}
use Rattle.sc_intake.specs.Rows.{next_row_at}
use Rattle.sc_intake.specs.Schools.{is_school_header, school_number, school_of, schools_in}
use Rattle.sc_papers.specs.declared.limits.TheConstants.{MOST_SCHOOLS, MOST_STUDENTS}
use Rattle.sc_intake.specs.declared.fault.Cause.{Cause}
use Rattle.sc_intake.specs.declared.fault.Cause.TheVariants.{NotInRoster}
use Rattle.sc_intake.specs.declared.fault.IntakeFault.{IntakeFault}
use Rattle.sc_intake.specs.declared.fault.Source.TheVariants.{Lists, Roster, Schools}
use Rattle.sc_intake.specs.declared.lists.ListRow.{ListRow}
use Rattle.sc_intake.specs.declared.roster.RosterRow.{RosterRow}
use Rattle.sc_intake.specs.declared.schools.SchoolRow.{SchoolRow}
use Rattle.sc_checks.specs.Readings.{reading_of, unless_faults, unless_faulty, BeginsWith}
use Rattle.sc_checks.proofs.Judging.{file-judged, first-stays}
use Rattle.sc_checks.proofs.Known.{none-known}

pub schools-judged : (text : List ℕ) → schools_in text ≡ (schools_judged text >>= unless_faulty)
schools-judged text = file-judged Schools is_school_header (next_row_at MOST_SCHOOLS school_number school_of) text

pub roster-judged : (text : List ℕ) → roster_in text ≡ (roster_judged text >>= unless_faulty)
roster-judged text = file-judged Roster is_roster_header (next_row_at MOST_STUDENTS roster_number student_of) text

pub lists-judged : (text : List ℕ) → lists_in text ≡ (lists_judged text >>= unless_faulty)
lists-judged text = file-judged Lists is_list_header (next_row_at MOST_STUDENTS list_number choices_of) text

-- a reading ends as these faults say: it is good where there are none, or else ends at the first
EndsAs : {A : Type 0} → Result A IntakeFault → List IntakeFault → Type 0
EndsAs (Ok good) faults = faults ≡ []
EndsAs (Err fault) faults = BeginsWith fault faults

-- what was judged ends as its faults say
judged-ends : {A : Type 0} (judged : Judged A) → EndsAs (unless_faulty judged) judged.faults
unfolding EndsAs
judged-ends {A = A} judged = by judged.faults
  where
    by : (faults : List IntakeFault) → EndsAs (unless_faults judged.good faults) faults
    by [] = refl
    by (fault ∷ rest) = (rest, refl)

-- so does a file
file-ends : {A : Type 0} (judged : Result (Judged A) IntakeFault) → EndsAs (judged >>= unless_faulty) (faults_alone judged)
unfolding EndsAs
file-ends (Ok judged) = judged-ends judged
file-ends (Err fault) = ([], refl)

-- one step after another ends as the faults of the first say, and then those of the second
step-ends : {A B : Type 0} (first : Result A IntakeFault) (second : A → Result B IntakeFault) (before after : List IntakeFault)
    → EndsAs first before → ((good : A) → first ≡ Ok good → EndsAs (second good) after) → EndsAs (first >>= second) (before ++ after)
unfolding EndsAs
step-ends (Ok good) second before after none more =
    subst (λ (faults : List IntakeFault). EndsAs (second good) (faults ++ after)) (sym none) (more good refl)
step-ends (Err fault) second before after begins more = (begins.0 ++ after, ap (λ (faults : List IntakeFault). faults ++ after) begins.1)

students-stay : (lists : List ListRow) (so_far : Judged Market) (roster : List RosterRow) (fault : IntakeFault)
    → unless_faulty so_far ≡ Err fault → unless_faulty (students_judged lists so_far roster) ≡ Err fault
unfolding students_judged
students-stay lists so_far [] fault first = first
students-stay lists so_far (row ∷ rest) fault first =
    students-stay lists (with_row Roster row.row so_far (entered_by so_far.good row (list_of lists row.student))) rest fault
    (first-stays Roster row.row so_far (entered_by so_far.good row (list_of lists row.student)) fault first)

-- students enter as they are judged
students-judged : (lists : List ListRow) (m : Market) (roster : List RosterRow)
    → all_entered lists m roster ≡ unless_faulty (students_judged lists (unjudged m) roster)
unfolding all_entered students_judged
students-judged lists m [] = refl
students-judged lists m (row ∷ rest) = by (entered_by m row (list_of lists row.student)) (λ n. students-judged lists n rest)
  where
    by : (next : Result Market Cause) → ((n : Market) → all_entered lists n rest ≡ unless_faulty (students_judged lists (unjudged n) rest))
        → (in_row Roster row.row next >>= λ n. all_entered lists n rest) ≡ unless_faulty (students_judged lists (with_row Roster row.row (unjudged m) next) rest)
    by (Ok n) more = more n
    by (Err cause) more =
        sym (students-stay lists (with_row Roster row.row (unjudged m) (Err cause)) rest (fault_at Roster row.row cause) refl)

-- papers have no list of nobody where no list has that fault
lists-end : (m : Market) (roster : List RosterRow) (lists : List ListRow)
    → EndsAs (unless_not_in_roster m (first_not_in_roster roster lists)) (flat_map (faults_of_list roster) lists)
unfolding EndsAs
lists-end m roster [] = refl
lists-end m roster (list ∷ rest) = by (is_in_roster roster list.student) (lists-end m roster rest)
  where
    by : (is_in : Bool) → EndsAs (unless_not_in_roster m (first_not_in_roster roster rest)) (flat_map (faults_of_list roster) rest)
        → EndsAs (unless_not_in_roster m (if not is_in then Some list else first_not_in_roster roster rest))
        ((if is_in then [] else fault_at Lists list.row NotInRoster ∷ []) ++ flat_map (faults_of_list roster) rest)
    by true more = more
    by false more = (flat_map (faults_of_list roster) rest, refl)

-- rows make papers as their faults say
rows-end : (seed : List ℕ) (schools : List SchoolRow) (roster : List RosterRow) (lists : List ListRow)
    → EndsAs (papers_of seed schools roster lists) (faults_of_rows seed schools roster lists)
unfolding filled
rows-end seed schools roster lists =
    step-ends (all_entered lists (opening seed schools) roster) (λ m. unless_not_in_roster m (first_not_in_roster roster lists))
    (students_judged lists (unjudged (opening seed schools)) roster).faults (flat_map (faults_of_list roster) lists)
    (subst (λ (reading : Result Market IntakeFault). EndsAs reading (students_judged lists (unjudged (opening seed schools)) roster).faults)
    (sym (students-judged lists (opening seed schools) roster)) (judged-ends (students_judged lists (unjudged (opening seed schools)) roster)))
    (λ m is. lists-end m roster lists)

-- what was judged good is what a reading gives
good-is : {A : Type 0} (judged : Judged A) (good : A) → unless_faulty judged ≡ Ok good → judged.good ≡ good
good-is {A = A} judged good read = by judged.faults read
  where
    by : (faults : List IntakeFault) → unless_faults judged.good faults ≡ Ok good → judged.good ≡ good
    by [] e = cc
    by (fault ∷ rest) e = absurd (cc e)

-- the faults of what files say together are those of the rows that were read, where no other school is known
together-is : (seed : List ℕ) (known : List SchoolRow → List SchoolRow) (schools : Result (Judged (List SchoolRow)) IntakeFault) (roster : Result (Judged (List RosterRow)) IntakeFault) (lists : Result (Judged (List ListRow)) IntakeFault)
    → (school_rows : List SchoolRow) (roster_rows : List RosterRow) (list_rows : List ListRow) → known school_rows ≡ school_rows
    → (schools >>= unless_faulty) ≡ Ok school_rows → (roster >>= unless_faulty) ≡ Ok roster_rows → (lists >>= unless_faulty) ≡ Ok list_rows
    → faults_together seed known schools roster lists ≡ faults_of_rows seed school_rows roster_rows list_rows
together-is seed known (Ok schools) (Ok roster) (Ok lists) school_rows roster_rows list_rows same a b c =
    ap (λ (rows : List SchoolRow). faults_of_rows seed rows roster.good lists.good) (ap known (good-is schools school_rows a) ∙ same)
    ∙ ap (λ (rows : List RosterRow). faults_of_rows seed school_rows rows lists.good) (good-is roster roster_rows b)
    ∙ ap (λ (rows : List ListRow). faults_of_rows seed school_rows roster_rows rows) (good-is lists list_rows c)
together-is seed known (Ok schools) (Ok roster) (Err fault) school_rows roster_rows list_rows same a b c = absurd (cc c)
together-is seed known (Ok schools) (Err fault) lists school_rows roster_rows list_rows same a b c = absurd (cc b)
together-is seed known (Err fault) roster lists school_rows roster_rows list_rows same a b c = absurd (cc a)

-- three files, judged, make papers as their faults say
judged-end : (seed : List ℕ) (known : List SchoolRow → List SchoolRow) (schools : Result (Judged (List SchoolRow)) IntakeFault) (roster : Result (Judged (List RosterRow)) IntakeFault) (lists : Result (Judged (List ListRow)) IntakeFault)
    → ((rows : List SchoolRow) → (schools >>= unless_faulty) ≡ Ok rows → known rows ≡ rows)
    → EndsAs ((schools >>= unless_faulty) >>= λ school_rows. (roster >>= unless_faulty) >>= λ roster_rows. (lists >>= unless_faulty) >>= λ list_rows. papers_of seed school_rows roster_rows list_rows)
    (faults_alone schools ++ (faults_alone roster ++ (faults_alone lists ++ faults_together seed known schools roster lists)))
judged-end seed known schools roster lists same =
    step-ends (schools >>= unless_faulty) (λ school_rows. (roster >>= unless_faulty) >>= λ roster_rows. (lists >>= unless_faulty) >>= λ list_rows. papers_of seed school_rows roster_rows list_rows)
    (faults_alone schools) (faults_alone roster ++ (faults_alone lists ++ faults_together seed known schools roster lists)) (file-ends schools)
    (λ school_rows a. step-ends (roster >>= unless_faulty) (λ roster_rows. (lists >>= unless_faulty) >>= λ list_rows. papers_of seed school_rows roster_rows list_rows)
    (faults_alone roster) (faults_alone lists ++ faults_together seed known schools roster lists) (file-ends roster)
    (λ roster_rows b. step-ends (lists >>= unless_faulty) (λ list_rows. papers_of seed school_rows roster_rows list_rows)
    (faults_alone lists) (faults_together seed known schools roster lists) (file-ends lists)
    (λ list_rows c. subst (λ (faults : List IntakeFault). EndsAs (papers_of seed school_rows roster_rows list_rows) faults)
    (sym (together-is seed known schools roster lists school_rows roster_rows list_rows (same school_rows a) a b c))
    (rows-end seed school_rows roster_rows list_rows))))

abbrev papers_of_judged : List ℕ → List ℕ → List ℕ → List ℕ → Result Market IntakeFault
papers_of_judged seed schools roster lists =
    reading_of (schools_judged schools) >>= λ school_rows. reading_of (roster_judged roster) >>= λ roster_rows. reading_of (lists_judged lists) >>= λ list_rows. papers_of seed school_rows roster_rows list_rows

in_turn : (a b c d : List IntakeFault) → a ++ (b ++ (c ++ d)) ≡ a ++ b ++ c ++ d
in_turn a b c d = simp append_assoc

files-end : (seed schools roster lists : List ℕ) → EndsAs (papers_in seed schools roster lists) (faults_in seed schools roster lists)
files-end seed schools roster lists =
    rw (schools-judged schools, roster-judged roster, lists-judged lists)
    (subst (λ (faults : List IntakeFault). EndsAs (papers_of_judged seed schools roster lists) faults)
    (in_turn (faults_alone (schools_judged schools)) (faults_alone (roster_judged roster)) (faults_alone (lists_judged lists))
    (faults_together seed (known_schools schools) (schools_judged schools) (roster_judged roster) (lists_judged lists)))
    (judged-end seed (known_schools schools) (schools_judged schools) (roster_judged roster) (lists_judged lists) (none-known schools)))

-- what that says of a reading and its faults
good-where-none : {A : Type 0} (reading : Result A IntakeFault) (faults : List IntakeFault) → EndsAs reading faults → (is_ok reading ≡ true ↔ faults ≡ [])
unfolding EndsAs
good-where-none (Ok good) faults none = (λ is. none, λ is. refl)
good-where-none (Err fault) faults begins = (λ is. absurd (cc is), λ none. absurd (cc (none, begins.1)))

told-first : {A : Type 0} (reading : Result A IntakeFault) (faults : List IntakeFault) (fault : IntakeFault) → EndsAs reading faults → (reading ≡ Err fault ↔ BeginsWith fault faults)
unfolding EndsAs
told-first (Ok good) faults fault none = (λ told. absurd (cc told), λ begins. absurd (cc (none, begins.1)))
told-first (Err first) faults fault begins = (
  λ told. let same : first ≡ fault = cc told in (begins.0, begins.1 ∙ ap (λ (f : IntakeFault). f ∷ begins.0) same),
  λ others. cc (others.1, begins.1),
)

pub no-fault-in-papers : (seed schools roster lists : List ℕ) → (is_ok (papers_in seed schools roster lists) ≡ true ↔ faults_in seed schools roster lists ≡ [])
no-fault-in-papers seed schools roster lists = good-where-none (papers_in seed schools roster lists) (faults_in seed schools roster lists) (files-end seed schools roster lists)

pub first-fault-is-told : (seed schools roster lists : List ℕ) (fault : IntakeFault) → (papers_in seed schools roster lists ≡ Err fault ↔ BeginsWith fault (faults_in seed schools roster lists))
first-fault-is-told seed schools roster lists fault = told-first (papers_in seed schools roster lists) (faults_in seed schools roster lists) fault (files-end seed schools roster lists)
