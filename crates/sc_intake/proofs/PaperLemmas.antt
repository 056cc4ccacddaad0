-- One row more, in papers.
use Rattle.std.proofs.Common.{◌≡◌, ℕ, suc, zero, ◌+◌, ◌<◌, ◌≤◌, Bool, true, false, cond, nat_eq, List, [], ◌∷◌, ◌++◌, length, map, get_or, take, drop, inl, inr, refl, sym, ap, ◌∙◌, arith, Ok, Err, Option, Some, None}
use Rattle.std.specs.Prelude.{Result, ◌||◌, nat_le, not, is_some, find, slice_get, option_and_then}
use Rattle.std.specs.Option.{option_or}
use Rattle.std.specs.List.{position, IsDistinct}
use Rattle.std.proofs.lemmas.Bool.{cases_Bool}
use Rattle.std.specs.Ordering.{is_eq, nat_cmp}
use Rattle.std.proofs.lemmas.Cmp.{nat_eq_equiv}
use Rattle.std.proofs.lemmas.List.{at_drop_all, at_drop_more, get_or-map, length-map, length-take, take_more}
use Rattle.std.proofs.lemmas.List.Folds.{find-append}
use Rattle.std.proofs.lemmas.Option.{slice_get-get_or}
use Rattle.std.proofs.lemmas.Bool.Decides.{nat_tests}
use Rattle.std.proofs.lemmas.Map.Keys.{IsDistinct-tail, apart_from_distinct}
use Rattle.std.specs.Map.{lookup}
use Rattle.sc_papers.proofs.Keys.{found-by_position}
use Rattle.sc_papers.specs.Market.{Market, is_school, is_student, students_of}
use Rattle.sc_papers.specs.Verdict.{IsRefusal, IsSchoolRefusal, after, school_verdict, verdict}
use Rattle.sc_papers.specs.declared.amendment.Amendment.{Amendment}
use Rattle.sc_papers.specs.declared.amendment.Amendment.TheVariants.{Enter}
use Rattle.sc_papers.specs.declared.amendment.Refusal.{Refusal}
use Rattle.sc_intake.specs.Fault.{◌>>=◌, IsFault, fault_at, no_memory}
use Rattle.sc_intake.specs.File.{in_row}
use Rattle.sc_intake.specs.Lists.{list_number}
use Rattle.sc_intake.specs.Rows.{AreRows}
use Rattle.sc_intake.specs.Schools.{school_number}
use Rattle.sc_papers.specs.declared.limits.TheConstants.{MOST_SCHOOLS}
use Rattle.sc_papers.specs.declared.school_refusal.SchoolRefusal.{SchoolRefusal}
use Rattle.sc_papers.specs.declared.school_refusal.SchoolRefusal.TheVariants.{OutOfMemory as no_memory_there}
use Rattle.sc_intake.specs.Papers.{all_entered, amended, cause_of, entered_by, filled, list_of, opening, first_not_in_roster, unless_refused, is_in_roster, unknown_list}
use Rattle.sc_intake.specs.declared.fault.Cause.{Cause}
use Rattle.sc_intake.specs.declared.fault.Cause.TheVariants.{NotInRoster, OutOfMemory}
use Rattle.sc_intake.specs.declared.fault.IntakeFault.{IntakeFault}
use Rattle.sc_intake.specs.declared.fault.Source.TheVariants.{Lists, Roster}
use Rattle.sc_intake.specs.declared.lists.ListRow.{ListRow}
use Rattle.sc_intake.specs.declared.roster.RosterRow.{RosterRow}
use Rattle.sc_intake.specs.declared.schools.SchoolRow.{SchoolRow}
use Rattle.sc_intake.proofs.SeenLemmas.{cmp-eq}

-- a list's student has no earlier list
none-earlier : (lists : List ListRow) (i : ℕ) (d : ListRow) → IsDistinct nat_eq (map list_number lists) → i < length lists
    → list_of (take i lists) (get_or lists i d).student ≡ None
none-earlier [] i d differ within = absurd (omega arith)
none-earlier (list ∷ rest) zero d differ within = refl
none-earlier (list ∷ rest) (suc i) d differ within =
    let apart : nat_eq list.student (get_or (map list_number (list ∷ rest)) (suc i) 0) ≡ false = apart_from_distinct nat_eq (map list_number (list ∷ rest)) 0 (suc i) 0 differ (omega arith) (omega (arith, length-map (list ∷ rest) list_number)) in
    let at : get_or (map list_number (list ∷ rest)) (suc i) 0 ≡ (get_or rest i d).student = get_or-map list_number rest i d 0 (omega arith) in
    let other : nat_eq (get_or rest i d).student list.student ≡ false = nat_eq_equiv.symm (get_or rest i d).student list.student ∙ rw at at apart in
    rw other (none-earlier rest i d (IsDistinct-tail nat_eq list.student (map list_number rest) differ) (omega arith))

pub or-none : {X : Type 0} (o : Option X) → option_or o None ≡ o
or-none None = refl
or-none (Some x) = refl

-- a position more
pub positions-more : (lists : List ListRow) (i : ℕ) (row : ListRow) (before after : ℕ → Option ℕ) → IsDistinct nat_eq (map list_number lists)
    → i < length lists → row ≡ get_or lists i row
    → ((q : ℕ) → option_and_then (slice_get lists) (before q) ≡ list_of (take i lists) q)
    → ((q : ℕ) → after q ≡ cond (is_eq (nat_cmp row.student q)) (Some i) (before q))
    → (q : ℕ) → option_and_then (slice_get lists) (after q) ≡ list_of (take (i + 1) lists) q
positions-more lists i row before after differ within at positions puts q =
    let put = λ (q : ℕ). rw (cmp-eq row.student q) at (puts q) in
    let more : list_of (take (i + 1) lists) q ≡ option_or (list_of (take i lists) q) (cond (nat_eq q row.student) (Some row) None) =
    ap (λ (part : List ListRow). list_of part q) (take_more lists i row within ∙ ap (λ (r : ListRow). take i lists ++ r ∷ []) (sym at)) ∙ find-append (λ (r : ListRow). nat_eq q r.student) (take i lists) (row ∷ []) in
    let turned = nat_eq_equiv.symm q row.student in
    elim (cases_Bool (nat_eq row.student q)) [
      | inl same ↦
          let is : q ≡ row.student = grind (arith, nat_tests) in
          let there : slice_get lists i ≡ Some row = slice_get-get_or lists i row within ∙ ap Some (sym at) in
          let none : list_of (take i lists) q ≡ None = ap (list_of (take i lists)) (is ∙ ap list_number at) ∙ none-earlier lists i row differ within in
          let found : cond (nat_eq q row.student) (Some row) None ≡ Some row = rw (turned, same) refl in
          let now : after q ≡ Some i = put q ∙ rw same refl in
          ap (option_and_then (slice_get lists)) now ∙ there ∙ sym (more ∙ rw (none, found) refl)
      | inr other ↦
          let missing : cond (nat_eq q row.student) (Some row) None ≡ None = rw (turned, other) refl in
          let now : after q ≡ before q = put q ∙ rw other refl in
          ap (option_and_then (slice_get lists)) now ∙ positions q ∙ sym (more ∙ rw missing (or-none (list_of (take i lists) q)))
    ]

pub all_entered-more : (lists : List ListRow) (m n : Market) (row : RosterRow) (rest : List RosterRow) → entered_by m row (list_of lists row.student) ≡ Ok n
    → all_entered lists m (row ∷ rest) ≡ all_entered lists n rest
unfolding all_entered
all_entered-more lists m n row rest e = rw e refl

pub all_entered-bad : (lists : List ListRow) (m : Market) (row : RosterRow) (rest : List RosterRow) (cause : Cause) → entered_by m row (list_of lists row.student) ≡ Err cause
    → all_entered lists m (row ∷ rest) ≡ Err (fault_at Roster row.row cause)
unfolding all_entered
all_entered-bad lists m row rest cause e = rw e refl

-- the reading goes on after a student
pub enter-step : (lists : List ListRow) (reading : Result Market IntakeFault) (m n : Market) (roster : List RosterRow) (i : ℕ) (row : RosterRow)
    → reading ≡ all_entered lists m (drop i roster) → i < length roster → row ≡ get_or roster i row
    → entered_by m row (list_of lists row.student) ≡ Ok n
    → reading ≡ all_entered lists n (drop (i + 1) roster)
enter-step lists reading m n roster i row so_far within at entered =
    so_far ∙ at_drop_more (all_entered lists m) roster i row within ∙ ap (λ (r : RosterRow). all_entered lists m (r ∷ drop (i + 1) roster)) (sym at)
    ∙ all_entered-more lists m n row (drop (i + 1) roster) entered

-- it ends at a fault
pub enter-fault : (lists : List ListRow) (reading : Result Market IntakeFault) (m : Market) (roster : List RosterRow) (i : ℕ) (row : RosterRow) (cause : Cause) (fault : IntakeFault)
    → reading ≡ all_entered lists m (drop i roster) → i < length roster → row ≡ get_or roster i row
    → IsFault OutOfMemory (entered_by m row (list_of lists row.student)) cause → fault ≡ fault_at Roster row.row cause
    → IsFault (no_memory Roster) reading fault
enter-fault lists reading m roster i row cause fault so_far within at bad is = elim bad [
  | inl refused ↦ inl (rw is (so_far ∙ at_drop_more (all_entered lists m) roster i row within ∙ ap (λ (r : RosterRow). all_entered lists m (r ∷ drop (i + 1) roster)) (sym at)
      ∙ all_entered-bad lists m row (drop (i + 1) roster) cause refused))
  | inr none ↦ inr (is ∙ rw none refl)
]

-- it ends with the roster
pub enter-end : (lists : List ListRow) (reading : Result Market IntakeFault) (m : Market) (roster : List RosterRow) (i : ℕ)
    → reading ≡ all_entered lists m (drop i roster) → length roster ≤ i → reading ≡ Ok m
unfolding all_entered
enter-end lists reading m roster i so_far past = so_far ∙ at_drop_all (all_entered lists m) roster i past

-- the error of an amendment is the refusal's cause, or want of memory
pub amended-refused : (m : Market) (a : Amendment) (r : Refusal) → IsRefusal (verdict m a) r → IsFault OutOfMemory (amended m a) (cause_of r)
amended-refused m a r refused = by (verdict m a) refused
  where
    by : (v : Option Refusal) → IsRefusal v r → IsFault OutOfMemory (unless_refused m a v) (cause_of r)
    by None is = inr (rw is refl)
    by (Some s) is = inl (rw is refl)

is_some-push : {X : Type 0} (es : List (ℕ × X)) (e : ℕ × X) (i : ℕ) → is_some (lookup (nat_eq i) (es ++ e ∷ [])) ≡ (is_some (lookup (nat_eq i) es) || nat_eq i e.0)
is_some-push [] e i = elim (cases_Bool (nat_eq i e.0)) [ inl same ↦ rw same refl | inr other ↦ rw other refl ]
is_some-push (x ∷ es) e i = elim (cases_Bool (nat_eq i x.0)) [ inl same ↦ rw same refl | inr other ↦ rw other (is_some-push es e i) ]

pub or-false : (a : Bool) → a ≡ (a || false)
or-false true = refl
or-false false = refl

or-assoc : (a b c : Bool) → ((a || b) || c) ≡ (a || (b || c))
or-assoc true b c = refl
or-assoc false b c = refl

-- who is in the papers after one student has entered
pub entered-students : (m n : Market) (row : RosterRow) (list : Option ListRow) → entered_by m row list ≡ Ok n → (i : ℕ)
    → is_student n i ≡ (is_student m i || nat_eq i row.student)
entered-students m n row None entered i = cc entered
entered-students m n row (Some list) entered i = by (verdict m a) entered
  where
    a : Amendment
    a = Enter row.student row.zone row.siblings list.choices row.continuing

    by : (v : Option Refusal) → unless_refused m (Enter row.student row.zone row.siblings list.choices row.continuing) v ≡ Ok n → is_student n i ≡ (is_student m i || nat_eq i row.student)
    by None is =
        let same : after m (Enter row.student row.zone row.siblings list.choices row.continuing) ≡ n = cc in
        ap (λ (p : Market). is_student p i) (sym same) ∙ is_some-push m.students (row.student, record { zone = row.zone; siblings = row.siblings; choices = list.choices; continuing = row.continuing }) i
    by (Some r) is = cc is

-- who is in the papers after the roster has entered
pub all-students : (lists : List ListRow) (m n : Market) (roster : List RosterRow) → all_entered lists m roster ≡ Ok n → (i : ℕ)
    → is_student n i ≡ (is_student m i || is_in_roster roster i)
unfolding all_entered
all-students lists m n [] entered i = let same : m ≡ n = cc in ap (λ (p : Market). is_student p i) (sym same) ∙ or-false (is_student m i)
all-students lists m n (row ∷ rest) entered i = by (entered_by m row (list_of lists row.student)) refl entered (λ k. all-students lists k n rest)
  where
    by : (r : Result Market Cause) → entered_by m row (list_of lists row.student) ≡ r
        → (in_row Roster row.row r >>= λ k. all_entered lists k rest) ≡ Ok n
        → ((k : Market) → all_entered lists k rest ≡ Ok n → (j : ℕ) → is_student n j ≡ (is_student k j || is_in_roster rest j))
        → is_student n i ≡ (is_student m i || is_in_roster (row ∷ rest) i)
    by (Ok k) is entered more =
        more k entered i ∙ ap (λ (b : Bool). b || is_in_roster rest i) (entered-students m k row (list_of lists row.student) is i)
        ∙ or-assoc (is_student m i) (nat_eq i row.student) (is_in_roster rest i)
    by (Err cause) is entered more = cc entered

find-same : (p q : ListRow → Bool) → ((list : ListRow) → p list ≡ q list) → (lists : List ListRow) → find p lists ≡ find q lists
find-same p q same [] = refl
find-same p q same (list ∷ rest) = rw (same list, find-same p q same rest) refl

-- a student has a position exactly where they are in the papers
pub known_by_position : (m : Market) (i : ℕ) → is_some (position (nat_eq i) (students_of m)) ≡ is_student m i
known_by_position m i = sym (found-by_position m.students i (position (nat_eq i) (students_of m)) refl)

-- nobody else is in them
pub same-unknown : (lists : List ListRow) (m n : Market) (roster : List RosterRow) → m.students ≡ [] → all_entered lists m roster ≡ Ok n
    → unknown_list n lists ≡ first_not_in_roster roster lists
same-unknown lists m n roster fresh entered =
    let none : (i : ℕ) → is_student m i ≡ false = λ i. rw fresh refl in
    find-same (λ list. not (is_student n list.student)) (λ list. not (is_in_roster roster list.student))
    (λ list. ap not (all-students lists m n roster entered list.student ∙ ap (λ (b : Bool). b || is_in_roster roster list.student) (none list.student))) lists

-- a list of nobody in the roster
pub filled-not-in-roster : (m n : Market) (roster : List RosterRow) (lists : List ListRow) (list : ListRow) → all_entered lists m roster ≡ Ok n
    → first_not_in_roster roster lists ≡ Some list → filled m roster lists ≡ Err (fault_at Lists list.row NotInRoster)
unfolding filled
filled-not-in-roster m n roster lists list entered found = rw (entered, found) refl

-- each list is of a student of the roster
pub filled-all : (m n : Market) (roster : List RosterRow) (lists : List ListRow) → all_entered lists m roster ≡ Ok n
    → first_not_in_roster roster lists ≡ None → filled m roster lists ≡ Ok n
unfolding filled
filled-all m n roster lists entered none = rw (entered, none) refl

-- a fault of the roster
pub filled-fault : (m : Market) (roster : List RosterRow) (lists : List ListRow) (fault : IntakeFault) → IsFault (no_memory Roster) (all_entered lists m roster) fault
    → IsFault (no_memory Roster) (filled m roster lists) fault
unfolding filled
filled-fault m roster lists fault bad = elim bad [ inl is ↦ inl (rw is refl) | inr is ↦ inr is ]

-- a school's number is not among the earlier ones
no-earlier : (seed : List ℕ) (schools : List SchoolRow) (i : ℕ) (d : SchoolRow) → IsDistinct nat_eq (map school_number schools) → i < length schools
    → is_school (opening seed (take i schools)) (get_or schools i d).number ≡ false
no-earlier seed [] i d differ within = absurd (omega arith)
no-earlier seed (school ∷ rest) zero d differ within = refl
no-earlier seed (school ∷ rest) (suc i) d differ within =
    let apart : nat_eq school.number (get_or (map school_number (school ∷ rest)) (suc i) 0) ≡ false = apart_from_distinct nat_eq (map school_number (school ∷ rest)) 0 (suc i) 0 differ (omega arith) (omega (arith, length-map (school ∷ rest) school_number)) in
    let at : get_or (map school_number (school ∷ rest)) (suc i) 0 ≡ (get_or rest i d).number = get_or-map school_number rest i d 0 (omega arith) in
    let other : nat_eq (get_or rest i d).number school.number ≡ false = nat_eq_equiv.symm (get_or rest i d).number school.number ∙ rw at at apart in
    rw other (no-earlier seed rest i d (IsDistinct-tail nat_eq school.number (map school_number rest) differ) (omega arith))

length-opening : (seed : List ℕ) (schools : List SchoolRow) → length (opening seed schools).schools ≡ length schools
length-opening seed [] = refl
length-opening seed (school ∷ rest) = ap suc (length-opening seed rest)

has-room : (n : ℕ) → n < MOST_SCHOOLS → nat_le MOST_SCHOOLS n ≡ false
has-room n few = grind (arith, nat_tests)

-- so the papers refuse it for memory alone
pub school-refused : (seed : List ℕ) (schools : List SchoolRow) (i : ℕ) (row : SchoolRow) (r : SchoolRefusal) → AreRows school_number MOST_SCHOOLS schools
    → i < length schools → row ≡ get_or schools i row
    → IsSchoolRefusal (school_verdict (opening seed (take i schools)) row.number) r → r ≡ no_memory_there
school-refused seed schools i row r are within at refused =
    let new : is_school (opening seed (take i schools)) row.number ≡ false = ap (λ (x : SchoolRow). is_school (opening seed (take i schools)) x.number) at ∙ no-earlier seed schools i row are.differ within in
    let few = are.few in
    let taken = length-take i schools in
    let size = length-opening seed (take i schools) in
    let room = has-room (length (opening seed (take i schools)).schools) (omega arith) in
    rw (new, room) at refused
