-- One row more, in judging.
use Rattle.std.proofs.Common.{◌≡◌, ℕ, ◌+◌, ◌<◌, ◌≤◌, List, [], ◌∷◌, ◌++◌, length, get_or, take, drop, refl, sym, ap, ◌∙◌, Ok, append_assoc, append-nil, Err, Option, None, Some}
use Rattle.std.specs.Prelude.{Result, flat_map}
use Rattle.std.proofs.lemmas.Grind.{flat_map-append}
use Rattle.std.proofs.lemmas.List.{at_drop_all, at_drop_more, take_more}
use Rattle.sc_papers.specs.Market.{Market}
use Rattle.sc_intake.specs.Checking.{Judged, fault_of, judged_from, known_from, named_school, script_faults_from, students_judged, unjudged, with_known, with_row}
use Rattle.sc_intake.specs.Fault.{fault_at}
use Rattle.sc_intake.specs.Papers.{entered_by, list_of}
use Rattle.sc_intake.specs.Rows.{added}
use Rattle.sc_intake.specs.Sheets.{cause_in}
use Rattle.sc_intake.specs.Script.{stamped_of}
use Rattle.sc_intake.specs.Sheets.{with_told}
use Rattle.sc_intake.specs.declared.fault.Cause.{Cause}
use Rattle.sc_intake.specs.declared.fault.IntakeFault.{IntakeFault}
use Rattle.sc_intake.specs.declared.fault.Source.{Source}
use Rattle.sc_intake.specs.declared.fault.Source.TheVariants.{Roster, Script}
use Rattle.sc_intake.specs.declared.lists.ListRow.{ListRow}
use Rattle.sc_intake.specs.declared.roster.RosterRow.{RosterRow}
use Rattle.sc_intake.specs.declared.schools.SchoolRow.{SchoolRow}
use Rattle.sc_papers.specs.declared.amendment.Stamped.{Stamped}

with_told-twice : {A : Type 0} (first second : List IntakeFault) (judged : Judged A) → with_told (first ++ second) judged ≡ with_told first (with_told second judged)
with_told-twice first second judged = rw (append_assoc first second judged.faults) refl

-- the judging goes on after a record
pub judged-step : {R : Type 0} (row : ℕ) (source : Source) (read : ℕ → List R → List (List ℕ) → Result R Cause) (whole so_far later : Judged (List R)) (left rest : List (List (List ℕ))) (fields : List (List ℕ))
    → whole ≡ judged_from row source read so_far left → left ≡ fields ∷ rest → later ≡ with_row source row so_far (added so_far.good (read row so_far.good fields))
    → whole ≡ judged_from (row + 1) source read later rest
unfolding judged_from
judged-step row source read whole so_far later left rest fields so next is = so ∙ ap (judged_from row source read so_far) next ∙ ap (λ j. judged_from (row + 1) source read j rest) (sym is)

-- faults that were told before stand before those that follow
pub judged-after : {R : Type 0} (row : ℕ) (source : Source) (read : ℕ → List R → List (List ℕ) → Result R Cause) (good : List R) (told : List IntakeFault) (left : List (List (List ℕ)))
    → judged_from row source read (record { good = good; faults = told }) left ≡ with_told told (judged_from row source read (unjudged good) left)
unfolding judged_from
judged-after row source read good told [] = rw (append-nil told) refl
judged-after {R = R} row source read good told (fields ∷ rest) = by (added good (read row good fields)) (λ better faults. judged-after (row + 1) source read better faults rest)
  where
    by : (next : Result (List R) Cause)
        → ((better : List R) (faults : List IntakeFault)
        → judged_from (row + 1) source read (record { good = better; faults = faults }) rest ≡ with_told faults (judged_from (row + 1) source read (unjudged better) rest))
        → judged_from (row + 1) source read (with_row source row (record { good = good; faults = told }) next) rest
        ≡ with_told told (judged_from (row + 1) source read (with_row source row (unjudged good) next) rest)
    by (Ok better) more = more better told
    by (Err cause) more =
        more good (told ++ fault_at source row cause ∷ [])
        ∙ with_told-twice told (fault_at source row cause ∷ []) (judged_from (row + 1) source read (unjudged good) rest)
        ∙ sym (ap (with_told told) (more good (fault_at source row cause ∷ [])))

-- a fault of the next row is told, and the judging goes on after it
pub judged-told : {R : Type 0} (row : ℕ) (source : Source) (read : ℕ → List R → List (List ℕ) → Result R Cause) (whole : Judged (List R)) (old new : List R) (told : List IntakeFault) (left rest : List (List (List ℕ))) (fields : List (List ℕ))
    → whole ≡ judged_from row source read (unjudged old) left → left ≡ fields ∷ rest
    → record { good = new; faults = told } ≡ with_row source row (unjudged old) (added old (read row old fields))
    → whole ≡ with_told told (judged_from (row + 1) source read (unjudged new) rest)
judged-told row source read whole old new told left rest fields so next is =
    judged-step row source read whole (unjudged old) (record { good = new; faults = told }) left rest fields so next is ∙ judged-after (row + 1) source read new told rest

-- it ends with the records
pub judged-end : {R : Type 0} (row : ℕ) (source : Source) (read : ℕ → List R → List (List ℕ) → Result R Cause) (whole so_far : Judged (List R)) (left : List (List (List ℕ)))
    → whole ≡ judged_from row source read so_far left → left ≡ [] → so_far ≡ whole
unfolding judged_from
judged-end row source read whole so_far left so end = sym (so ∙ ap (judged_from row source read so_far) end)

-- the judging goes on after a student
pub student-step : (lists : List ListRow) (whole so_far later : Judged Market) (roster : List RosterRow) (i : ℕ) (row : RosterRow)
    → whole ≡ students_judged lists so_far (drop i roster) → i < length roster → row ≡ get_or roster i row
    → later ≡ with_row Roster row.row so_far (entered_by so_far.good row (list_of lists row.student))
    → whole ≡ students_judged lists later (drop (i + 1) roster)
unfolding students_judged
student-step lists whole so_far later roster i row so within at is =
    so ∙ at_drop_more (students_judged lists so_far) roster i row within ∙ ap (λ (r : RosterRow). students_judged lists so_far (r ∷ drop (i + 1) roster)) (sym at)
    ∙ ap (λ j. students_judged lists j (drop (i + 1) roster)) (sym is)

-- it ends with the roster
pub student-end : (lists : List ListRow) (whole so_far : Judged Market) (roster : List RosterRow) (i : ℕ)
    → whole ≡ students_judged lists so_far (drop i roster) → length roster ≤ i → so_far ≡ whole
unfolding students_judged
student-end lists whole so_far roster i so past = sym (so ∙ at_drop_all (students_judged lists so_far) roster i past)

-- a list more
pub lists-more : (f : ListRow → List IntakeFault) (before now later : List IntakeFault) (lists : List ListRow) (i : ℕ) (list : ListRow)
    → now ≡ before ++ flat_map f (take i lists) → i < length lists → list ≡ get_or lists i list → later ≡ now ++ f list
    → later ≡ before ++ flat_map f (take (i + 1) lists)
lists-more f before now later lists i list so within at is =
    is ∙ ap (λ x. x ++ f list) so ∙ append_assoc before (flat_map f (take i lists)) (f list)
    ∙ ap (λ x. before ++ x) (ap (λ x. flat_map f (take i lists) ++ x) (sym (append-nil (f list))) ∙ sym (flat_map-append f (take i lists) (list ∷ []))
    ∙ ap (flat_map f) (sym (take_more lists i list within ∙ ap (λ r. take i lists ++ r ∷ []) (sym at))))

-- a script's record more has no fault
pub script-step : (row : ℕ) (whole : List IntakeFault) (found : Option Cause) (left rest : List (List (List ℕ))) (fields : List (List ℕ))
    → whole ≡ script_faults_from row left → left ≡ fields ∷ rest → found ≡ cause_in (stamped_of fields) → found ≡ None
    → whole ≡ script_faults_from (row + 1) rest
unfolding script_faults_from
script-step row whole found left rest fields so next is none =
    so ∙ ap (script_faults_from row) next ∙ ap (λ x. x ++ script_faults_from (row + 1) rest) (by (stamped_of fields) (sym is ∙ none))
  where
    by : (reading : Result Stamped Cause) → cause_in reading ≡ None → fault_of Script row reading ≡ []
    by (Ok x) is = refl
    by (Err cause) is = cc is

-- or one, which is told
pub script-told : (row : ℕ) (whole : List IntakeFault) (found : Option Cause) (cause : Cause) (left rest : List (List (List ℕ))) (fields : List (List ℕ))
    → whole ≡ script_faults_from row left → left ≡ fields ∷ rest → found ≡ cause_in (stamped_of fields) → found ≡ Some cause
    → whole ≡ fault_at Script row cause ∷ script_faults_from (row + 1) rest
unfolding script_faults_from
script-told row whole found cause left rest fields so next is some =
    so ∙ ap (script_faults_from row) next ∙ ap (λ x. x ++ script_faults_from (row + 1) rest) (by (stamped_of fields) (sym is ∙ some))
  where
    by : (reading : Result Stamped Cause) → cause_in reading ≡ Some cause → fault_of Script row reading ≡ fault_at Script row cause ∷ []
    by (Ok x) is = cc is
    by (Err other) is = let same : other ≡ cause = cc is in ap (λ (c : Cause). fault_at Script row c ∷ []) same

-- it ends with the script
pub script-end : (row : ℕ) (whole : List IntakeFault) (left : List (List (List ℕ)))
    → whole ≡ script_faults_from row left → left ≡ [] → whole ≡ []
unfolding script_faults_from
script-end row whole left so end = so ∙ ap (script_faults_from row) end

-- a record more names a school that is known, or one more, or none
pub known-step : (row : ℕ) (whole known later : List SchoolRow) (left rest : List (List (List ℕ))) (fields : List (List ℕ))
    → whole ≡ known_from row known left → left ≡ fields ∷ rest → later ≡ with_known known (named_school row fields)
    → whole ≡ known_from (row + 1) later rest
unfolding known_from
known-step row whole known later left rest fields so next is = so ∙ ap (known_from row known) next ∙ ap (λ k. known_from (row + 1) k rest) (sym is)

pub known-end : (row : ℕ) (whole known : List SchoolRow) (left : List (List (List ℕ)))
    → whole ≡ known_from row known left → left ≡ [] → known ≡ whole
unfolding known_from
known-end row whole known left so end = sym (so ∙ ap (known_from row known) end)
