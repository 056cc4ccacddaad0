-- The journal of a run is replayed to the run's papers.
use Rattle.std.proofs.Common.{◌≡◌, ◌≢◌, ℕ, ◌+◌, ◌≤◌, ◌==◌, arith, ap, Bool, true, false, ◌&&◌, ◌||◌, if◌then◌else◌, List, [], ◌∷◌, ◌++◌, Option, None, Some, Result, Ok, Err, length, refl, sym, subst, ◌∙◌, append-nil}
use Rattle.std.proofs.lemmas.Bool.Decides.{nat_tests}
use Rattle.std.proofs.lemmas.List.Elements.{All-append, All-cons, All-head, All-nil, All-tail}
use Rattle.std.specs.Int.{IsInRange}
use Rattle.std.specs.List.{All, list_all}
use Rattle.std.specs.Prelude.{map, ⊤}
use Rattle.sc_papers.specs.Market.{Market}
use Rattle.sc_papers.specs.declared.amendment.Amendment.{Amendment}
use Rattle.sc_papers.specs.declared.amendment.Amendment.TheVariants.{Enter, Withdraw, Rerank, Add, Close, Correct}
use Rattle.sc_papers.specs.declared.amendment.Refusal.{Refusal}
use Rattle.sc_papers.specs.declared.amendment.Stamped.{Stamped}
use Rattle.sc_stamps.specs.Verdict.{StampedPapers, after_stamped_verdict, stamped_verdict, unamended}
use Rattle.sc_intake.specs.Fault.{◌>>=◌}
use Rattle.sc_intake.specs.Field.{all_schools, as_school, as_school_or_none, is_within, numbers_in, number_of, number_or_none, within}
use Rattle.sc_intake.specs.File.{text_at, records_in}
use Rattle.sc_intake.specs.Script.{add_of, amendment_of, close_of, correct_of, count_at, enter_of, list_at, number_at, or_shape, rerank_of, school_at, school_or_none_at, script_in, stamp_at, stamped_in, stamped_of, student_at, withdraw_of, zone_at}
use Rattle.sc_intake.specs.declared.fault.Cause.{Cause}
use Rattle.sc_intake.specs.declared.fault.Cause.TheVariants.{Fields, Range}
use Rattle.sc_intake.specs.declared.fault.Source.TheVariants.{Script}
use Rattle.sc_journal.specs.Journal.{after_all, journal_text, AreAccepted, IsReplay}
use Rattle.sc_lines.specs.Spelling.{IsInRanges, IsSchool, IsSchoolOrNone}
use Rattle.sc_journal.specs.declared.journal.Tail.TheVariants.{Whole}
use Rattle.sc_journal.proofs.Stamping.{accepted-after}
use Rattle.sc_steps.specs.Script.{after_record, after_script}
use Rattle.sc_runs.specs.Run.{accepted, accepted_in, unless_verdict}
use Rattle.sc_runs.proofs.Allowing.{allowed-papers, allowed-room}

-- a first amendment of this verdict, and those accepted after it
AreAccepted-first : (p : StampedPapers) (stamped : Stamped) (found : Option Refusal) (rest : List Amendment) → stamped_verdict p stamped ≡ found
    → AreAccepted (after_stamped_verdict p stamped.amendment found) rest → AreAccepted p (unless_verdict stamped.amendment found ++ rest)
AreAccepted-first p stamped None rest is accepted_after = (allowed-papers p stamped is, accepted_after)
AreAccepted-first p stamped (Some refusal) rest is accepted_after = accepted_after

-- the accepted amendments of a script are accepted in turn
AreAccepted-accepted : (p : StampedPapers) (script : List (Result Stamped Refusal)) → AreAccepted p (accepted p script)
AreAccepted-accepted p [] = tt
AreAccepted-accepted p (Ok stamped ∷ rest) =
    AreAccepted-first p stamped (stamped_verdict p stamped) (accepted (after_record p (Ok stamped)) rest) refl (AreAccepted-accepted (after_record p (Ok stamped)) rest)
AreAccepted-accepted p (Err refusal ∷ rest) = AreAccepted-accepted p rest

after_all-first : (p : StampedPapers) (amendment : Amendment) (found : Option Refusal) (rest : List Amendment)
    → after_all p (unless_verdict amendment found ++ rest) ≡ after_all (after_stamped_verdict p amendment found) rest
after_all-first p amendment None rest = refl
after_all-first p amendment (Some refusal) rest = refl

-- they make the papers and the stamps after the script
after_all-accepted : (p : StampedPapers) (script : List (Result Stamped Refusal)) → after_all p (accepted p script) ≡ after_script p script
after_all-accepted p [] = refl
after_all-accepted p (Ok stamped ∷ rest) =
    after_all-first p stamped.amendment (stamped_verdict p stamped) (accepted (after_record p (Ok stamped)) rest)
    ∙ after_all-accepted (after_record p (Ok stamped)) rest
after_all-accepted p (Err refusal ∷ rest) = after_all-accepted p rest

-- an amendment of this verdict is counted where it is accepted, and there is room for it
counted-first : (p : StampedPapers) (stamped : Stamped) (found : Option Refusal) (rest : List Amendment) → stamped_verdict p stamped ≡ found
    → (after_stamped_verdict p stamped.amendment found).stamps.accepted + length rest ≤ 999999999
    → p.stamps.accepted + length (unless_verdict stamped.amendment found ++ rest) ≤ 999999999
counted-first p stamped None rest is room =
    let more = accepted-after p stamped.amendment in
    omega arith
counted-first p stamped (Some refusal) rest is room = room

room-after : (p : StampedPapers) (stamped : Stamped) (found : Option Refusal) → stamped_verdict p stamped ≡ found → p.stamps.accepted ≤ 999999999
    → (after_stamped_verdict p stamped.amendment found).stamps.accepted ≤ 999999999
room-after p stamped None is room =
    let more = accepted-after p stamped.amendment in
    let left = allowed-room p stamped is in
    omega arith
room-after p stamped (Some refusal) is room = room

-- no more amendments of a script are accepted than there are numbers for
counted : (p : StampedPapers) (script : List (Result Stamped Refusal)) → p.stamps.accepted ≤ 999999999 → p.stamps.accepted + length (accepted p script) ≤ 999999999
counted p [] room = omega arith
counted p (Ok stamped ∷ rest) room =
    counted-first p stamped (stamped_verdict p stamped) (accepted (after_record p (Ok stamped)) rest) refl
    (counted (after_record p (Ok stamped)) rest (room-after p stamped (stamped_verdict p stamped) refl room))
counted p (Err refusal ∷ rest) room = counted p rest room

pub length-accepted : (m : Market) (script : List (Result Stamped Refusal)) → length (accepted (unamended m) script) ≤ 999999999
length-accepted m script = let few = counted (unamended m) script (omega arith) in omega arith

-- the steps of a reading that gives something
bind-ok : {A B E : Type 0} (r : Result A E) (f : A → Result B E) (y : B) → (r >>= f) ≡ Ok y → (x : A) × (r ≡ Ok x) × (f x ≡ Ok y)
bind-ok (Ok x) f y is = (x, refl, is)
bind-ok (Err e) f y is = cc

-- a test that is passed where something is read
if-ok : {A E : Type 0} (b : Bool) (r : Result A E) (e : E) (y : A) → (if b then r else Err e) ≡ Ok y → r ≡ Ok y
if-ok true r e y is = is
if-ok false r e y is = cc

within-by : (b : Bool) (n m : ℕ) → (if b then Ok n else Err Range) ≡ Ok m → (b ≡ true) × (n ≡ m)
within-by true n m is = (refl, cc)
within-by false n m is = cc

IsInRange-tested : (least greatest n : ℕ) → is_within least greatest n ≡ true → IsInRange least greatest n
IsInRange-tested least greatest n is = (grind (arith, nat_tests), grind (arith, nat_tests))

-- a number that a field gives is of its range
number_at-ranged : (least greatest : ℕ) (fields : List (List ℕ)) (place n : ℕ) → number_at least greatest fields place ≡ Ok n → IsInRange least greatest n
number_at-ranged least greatest fields place n is =
    let (x, read, ranged) = bind-ok (number_of (text_at fields place)) (within least greatest) n is in
    let (tested, same) = within-by (is_within least greatest x) x n ranged in
    subst (IsInRange least greatest) same (IsInRange-tested least greatest x tested)

schools-by : (b : Bool) (ns ms : List ℕ) → (if b then Ok ns else Err Range) ≡ Ok ms → (b ≡ true) × (ns ≡ ms)
schools-by true ns ms is = (refl, cc)
schools-by false ns ms is = cc

and-both : (a b : Bool) → (a && b) ≡ true → (a ≡ true) × (b ≡ true)
and-both true b is = (refl, is)
and-both false b is = cc

All-schools : (ns : List ℕ) → list_all (is_within 1 99999) ns ≡ true → All IsSchool ns
All-schools [] is = All-nil IsSchool
All-schools (n ∷ ns) is =
    let (first, rest) = and-both (is_within 1 99999 n) (list_all (is_within 1 99999) ns) is in
    All-cons IsSchool n ns (IsInRange-tested 1 99999 n first) (All-schools ns rest)

-- the schools that a field gives are of their range
list_at-ranged : (fields : List (List ℕ)) (place : ℕ) (schools : List ℕ) → list_at fields place ≡ Ok schools → All IsSchool schools
unfolding list_at
list_at-ranged fields place schools is =
    let (ns, read, ranged) = bind-ok (numbers_in (text_at fields place)) all_schools schools is in
    let (tested, same) = schools-by (list_all (is_within 1 99999) ns) ns schools ranged in
    subst (All IsSchool) same (All-schools ns tested)

-- what readings of one, two, four or five fields make, each of which gives something
made-one : {A Y E : Type 0} (r : Result A E) (make : A → Y) (y : Y) → (r >>= λ a. Ok (make a)) ≡ Ok y → (a : A) × (r ≡ Ok a) × (make a ≡ y)
made-one (Ok a) make y is = (a, refl, cc)
made-one (Err e) make y is = cc

made-two : {A B Y E : Type 0} (r : Result A E) (s : Result B E) (make : A → B → Y) (y : Y) → (r >>= λ a. s >>= λ b. Ok (make a b)) ≡ Ok y
    → (a : A) × (b : B) × (r ≡ Ok a) × (s ≡ Ok b) × (make a b ≡ y)
made-two (Ok a) (Ok b) make y is = (a, b, refl, refl, cc)
made-two (Ok a) (Err e) make y is = cc
made-two (Err e) s make y is = cc

made-four : {A B C D Y E : Type 0} (r : Result A E) (s : Result B E) (t : Result C E) (u : Result D E) (make : A → B → C → D → Y) (y : Y)
    → (r >>= λ a. s >>= λ b. t >>= λ c. u >>= λ d. Ok (make a b c d)) ≡ Ok y
    → (a : A) × (b : B) × (c : C) × (d : D) × (r ≡ Ok a) × (s ≡ Ok b) × (t ≡ Ok c) × (u ≡ Ok d) × (make a b c d ≡ y)
made-four (Ok a) (Ok b) (Ok c) (Ok d) make y is = (a, b, c, d, refl, refl, refl, refl, cc)
made-four (Ok a) (Ok b) (Ok c) (Err e) make y is = cc
made-four (Ok a) (Ok b) (Err e) u make y is = cc
made-four (Ok a) (Err e) t u make y is = cc
made-four (Err e) s t u make y is = cc

made-five : {A B C D F Y E : Type 0} (r : Result A E) (s : Result B E) (t : Result C E) (u : Result D E) (v : Result F E) (make : A → B → C → D → F → Y) (y : Y)
    → (r >>= λ a. s >>= λ b. t >>= λ c. u >>= λ d. v >>= λ f. Ok (make a b c d f)) ≡ Ok y
    → (a : A) × (b : B) × (c : C) × (d : D) × (f : F) × (r ≡ Ok a) × (s ≡ Ok b) × (t ≡ Ok c) × (u ≡ Ok d) × (v ≡ Ok f) × (make a b c d f ≡ y)
made-five (Ok a) (Ok b) (Ok c) (Ok d) (Ok f) make y is = (a, b, c, d, f, refl, refl, refl, refl, refl, cc)
made-five (Ok a) (Ok b) (Ok c) (Ok d) (Err e) make y is = cc
made-five (Ok a) (Ok b) (Ok c) (Err e) v make y is = cc
made-five (Ok a) (Ok b) (Err e) u v make y is = cc
made-five (Ok a) (Err e) t u v make y is = cc
made-five (Err e) s t u v make y is = cc

within-school : (n s : ℕ) → as_school n ≡ Ok s → IsSchool s
within-school n s is =
    let (tested, same) = within-by (is_within 1 99999 n) n s is in
    subst IsSchool same (IsInRange-tested 1 99999 n tested)

-- a school's number that may be missing is of its range
as_school_or_none-ranged : (found school : Option ℕ) → as_school_or_none found ≡ Ok school → IsSchoolOrNone school
as_school_or_none-ranged None school is = let same : None ≡ school = cc is in subst IsSchoolOrNone same tt
as_school_or_none-ranged (Some n) school is =
    let made = made-one (as_school n) Some school is in
    subst IsSchoolOrNone made.2 (within-school n made.0 made.1)

school_or_none_at-ranged : (fields : List (List ℕ)) (place : ℕ) (school : Option ℕ) → school_or_none_at fields place ≡ Ok school → IsSchoolOrNone school
school_or_none_at-ranged fields place school is =
    let (found, read, ranged) = bind-ok (number_or_none (text_at fields place)) as_school_or_none school is in
    as_school_or_none-ranged found school ranged

-- an amendment that is read, of whatever word, is in the ranges
enter_of-ranged : (fields : List (List ℕ)) (amendment : Amendment) → enter_of fields ≡ Ok amendment → IsInRanges amendment
unfolding enter_of
enter_of-ranged fields amendment is =
    let made = made-five (student_at fields 2) (zone_at fields 3) (list_at fields 4) (list_at fields 5) (school_or_none_at fields 6) Enter amendment
    (if-ok (length fields == 6 || length fields == 7) (student_at fields 2 >>= λ i. zone_at fields 3 >>= λ z. list_at fields 4 >>= λ s. list_at fields 5 >>= λ c. school_or_none_at fields 6 >>= λ o. Ok (Enter i z s c o)) Fields amendment is) in
    subst IsInRanges made.10 (
      number_at-ranged 1 999999999 fields 2 made.0 made.5,
      number_at-ranged 0 9999 fields 3 made.1 made.6,
      list_at-ranged fields 4 made.2 made.7,
      list_at-ranged fields 5 made.3 made.8,
      school_or_none_at-ranged fields 6 made.4 made.9,
    )

withdraw_of-ranged : (fields : List (List ℕ)) (amendment : Amendment) → withdraw_of fields ≡ Ok amendment → IsInRanges amendment
unfolding withdraw_of
withdraw_of-ranged fields amendment is =
    let made = made-one (student_at fields 2) Withdraw amendment (if-ok (length fields == 3) (student_at fields 2 >>= λ i. Ok (Withdraw i)) Fields amendment is) in
    subst IsInRanges made.2 (number_at-ranged 1 999999999 fields 2 made.0 made.1)

rerank_of-ranged : (fields : List (List ℕ)) (amendment : Amendment) → rerank_of fields ≡ Ok amendment → IsInRanges amendment
unfolding rerank_of
rerank_of-ranged fields amendment is =
    let made = made-two (student_at fields 2) (list_at fields 3) Rerank amendment
    (if-ok (length fields == 4) (student_at fields 2 >>= λ i. list_at fields 3 >>= λ c. Ok (Rerank i c)) Fields amendment is) in
    subst IsInRanges made.4 (number_at-ranged 1 999999999 fields 2 made.0 made.2, list_at-ranged fields 3 made.1 made.3)

add_of-ranged : (fields : List (List ℕ)) (amendment : Amendment) → add_of fields ≡ Ok amendment → IsInRanges amendment
unfolding add_of
add_of-ranged fields amendment is =
    let made = made-two (school_at fields 2) (count_at fields 3) Add amendment
    (if-ok (length fields == 4) (school_at fields 2 >>= λ s. count_at fields 3 >>= λ n. Ok (Add s n)) Fields amendment is) in
    subst IsInRanges made.4 (number_at-ranged 1 99999 fields 2 made.0 made.2, number_at-ranged 1 10000 fields 3 made.1 made.3)

close_of-ranged : (fields : List (List ℕ)) (amendment : Amendment) → close_of fields ≡ Ok amendment → IsInRanges amendment
unfolding close_of
close_of-ranged fields amendment is =
    let made = made-two (school_at fields 2) (count_at fields 3) Close amendment
    (if-ok (length fields == 4) (school_at fields 2 >>= λ s. count_at fields 3 >>= λ n. Ok (Close s n)) Fields amendment is) in
    subst IsInRanges made.4 (number_at-ranged 1 99999 fields 2 made.0 made.2, number_at-ranged 1 10000 fields 3 made.1 made.3)

correct_of-ranged : (fields : List (List ℕ)) (amendment : Amendment) → correct_of fields ≡ Ok amendment → IsInRanges amendment
unfolding correct_of
correct_of-ranged fields amendment is =
    let made = made-four (student_at fields 2) (zone_at fields 3) (list_at fields 4) (school_or_none_at fields 5) Correct amendment
    (if-ok (length fields == 5 || length fields == 6) (student_at fields 2 >>= λ i. zone_at fields 3 >>= λ z. list_at fields 4 >>= λ s. school_or_none_at fields 5 >>= λ o. Ok (Correct i z s o)) Fields amendment is) in
    subst IsInRanges made.8 (
      number_at-ranged 1 999999999 fields 2 made.0 made.4,
      number_at-ranged 0 9999 fields 3 made.1 made.5,
      list_at-ranged fields 4 made.2 made.6,
      school_or_none_at-ranged fields 5 made.3 made.7,
    )

-- one reading or another, by a test
if-either : {A E : Type 0} (P : A → Type 0) (b : Bool) (r s : Result A E) (y : A) → (r ≡ Ok y → P y) → (s ≡ Ok y → P y) → (if b then r else s) ≡ Ok y → P y
if-either P true r s y first second is = first is
if-either P false r s y first second is = second is

amendment_of-ranged : (fields : List (List ℕ)) (amendment : Amendment) → amendment_of fields ≡ Ok amendment → IsInRanges amendment
unfolding amendment_of
amendment_of-ranged fields amendment is =
    if-either IsInRanges _ (enter_of fields) _ amendment (enter_of-ranged fields amendment)
    (if-either IsInRanges _ (withdraw_of fields) _ amendment (withdraw_of-ranged fields amendment)
    (if-either IsInRanges _ (rerank_of fields) _ amendment (rerank_of-ranged fields amendment)
    (if-either IsInRanges _ (add_of fields) _ amendment (add_of-ranged fields amendment)
    (if-either IsInRanges _ (close_of fields) _ amendment (close_of-ranged fields amendment)
    (if-either IsInRanges _ (correct_of fields) (Err Fields) amendment (correct_of-ranged fields amendment) (λ none. cc))))))
    is

-- a record of a script, where it is an amendment, is in the ranges
abbrev IsRecordInRanges : Result Stamped Refusal → Type 0
IsRecordInRanges (Ok stamped) = IsInRanges stamped.amendment
IsRecordInRanges (Err refusal) = ⊤

stamped_of-ranged : (fields : List (List ℕ)) (stamped : Stamped) → stamped_of fields ≡ Ok stamped → IsInRanges stamped.amendment
unfolding stamped_of
stamped_of-ranged fields stamped is =
    let made = made-two (stamp_at fields 0) (amendment_of fields) (λ stamp amendment. record { stamp = stamp; amendment = amendment }) stamped is in
    subst IsInRanges (ap (λ s. s.amendment) made.4) (amendment_of-ranged fields made.1 made.3)

or_shape-ranged : (read : Result Stamped Cause) → ((stamped : Stamped) → read ≡ Ok stamped → IsInRanges stamped.amendment) → IsRecordInRanges (or_shape read)
or_shape-ranged (Ok stamped) ranged = ranged stamped refl
or_shape-ranged (Err cause) ranged = tt

All-ranged : (records : List (List (List ℕ))) → All IsRecordInRanges (map stamped_in records)
All-ranged [] = All-nil IsRecordInRanges
All-ranged (fields ∷ rest) =
    All-cons IsRecordInRanges (stamped_in fields) (map stamped_in rest) (or_shape-ranged (stamped_of fields) (stamped_of-ranged fields)) (All-ranged rest)

script_in-ranged : (text : List ℕ) (script : List (Result Stamped Refusal)) → script_in text ≡ Ok script → All IsRecordInRanges script
script_in-ranged text script is =
    let (records, cut, mapped) = bind-ok (records_in Script text) (λ records. Ok (map stamped_in records)) script is in
    let same : map stamped_in records ≡ script = cc in
    subst (All IsRecordInRanges) same (All-ranged records)

unless_verdict-ranged : (amendment : Amendment) (found : Option Refusal) → IsInRanges amendment → All IsInRanges (unless_verdict amendment found)
unless_verdict-ranged amendment None ranged = All-cons IsInRanges amendment [] ranged (All-nil IsInRanges)
unless_verdict-ranged amendment (Some refusal) ranged = All-nil IsInRanges

-- and so are the accepted amendments of a script
accepted-ranged : (p : StampedPapers) (script : List (Result Stamped Refusal)) → All IsRecordInRanges script → All IsInRanges (accepted p script)
accepted-ranged p [] ranged = All-nil IsInRanges
accepted-ranged p (Ok stamped ∷ rest) ranged =
    let first = All-head IsRecordInRanges (Ok stamped) rest ranged in
    let later = All-tail IsRecordInRanges (Ok stamped) rest ranged in
    All-append IsInRanges (accepted_in p (Ok stamped)) (accepted (after_record p (Ok stamped)) rest)
    (unless_verdict-ranged stamped.amendment (stamped_verdict p stamped) first) (accepted-ranged (after_record p (Ok stamped)) rest later)
accepted-ranged p (Err refusal ∷ rest) ranged =
    accepted-ranged p rest (All-tail IsRecordInRanges (Err refusal) rest ranged)

-- the journal of a run is replayed to its papers and their stamps
pub IsReplay-run : (m : Market) (text : List ℕ) (script : List (Result Stamped Refusal)) → script_in text ≡ Ok script
    → IsReplay (unamended m) (after_script (unamended m) script) (journal_text 1 (accepted (unamended m) script)) Whole
IsReplay-run m text script read = record {
  rest = [];
  replayed = record {
    amendments = accepted (unamended m) script;
    ranges = accepted-ranged (unamended m) script (script_in-ranged text script read);
    count = length-accepted m script;
    text = sym (append-nil (journal_text 1 (accepted (unamended m) script)));
    accepted = AreAccepted-accepted (unamended m) script;
    papers = sym (after_all-accepted (unamended m) script);
  };
  unbroken = All-nil (λ byte. byte ≢ 10);
  ending = refl;
}
