-- Students of a roster who enter papers one by one, each by the list of a line.
use Rattle.std.proofs.Common.{◌≡◌, ℕ, zero, suc, ◌+◌, ◌<◌, ◌≤◌, Bool, true, false, nat_eq, List, [], ◌∷◌, ◌++◌, length, map, take, drop, get_or, inl, inr, refl, sym, ap, ◌∙◌, arith, add-one, Ok, Some, ◌-◌, Err, Option, None}
use Rattle.std.specs.Prelude.{Result, ◌||◌, nat_le}
use Rattle.std.specs.List.{IsDistinct, list_any}
use Rattle.std.proofs.Math.Bool.{or-true}
use Rattle.std.proofs.lemmas.Bool.{cases_Bool, cases_lt, eqb-true, or_cases}
use Rattle.std.proofs.lemmas.Bool.Decides.{nat_tests}
use Rattle.std.proofs.lemmas.Cmp.{nat_eq_equiv}
use Rattle.std.proofs.lemmas.List.{drop_all, get_or-map, get_or_append_left, get_or_at, length-drop, length-map, length_push, map-append, take-append-drop}
use Rattle.std.proofs.lemmas.List.Folds.{list_any-append, list_any_at, list_any_none}
use Rattle.std.proofs.lemmas.List.Elements.{All-from_recursion}
use Rattle.std.proofs.lemmas.List.Sorted.{IsPermutation-to_front}
use Rattle.std.proofs.lemmas.Map.Keys.{IsDistinct-IsPermutation, IsDistinct-head, IsDistinct-push, IsDistinct-tail}
use Rattle.std.proofs.lemmas.Map.Made.{IsDistinct-from_count, length-from_keys, length-le_from_is_member}
use Rattle.std.proofs.lemmas.Map.Steps.{length-le_from_distinct_below}
use Rattle.std.proofs.Math.Seq.{drop-cons}
use Rattle.sc_papers.specs.Market.{Market, is_student}
use Rattle.sc_papers.specs.declared.limits.TheConstants.{MOST_STUDENTS}
use Rattle.sc_intake.specs.File.{rows_after, in_row}
use Rattle.sc_intake.specs.Lists.{choices_of, list_number, next_list}
use Rattle.sc_intake.specs.Papers.{all_entered, list_of, entered_by, unless_refused}
use Rattle.sc_intake.specs.Roster.{next_student, roster_number, student_of}
use Rattle.sc_intake.specs.Rows.{next_row, row_at, added, next_row_at}
use Rattle.sc_intake.specs.Tidy.{TakesRow}
use Rattle.sc_intake.specs.Together.{EntersNext, Fill}
use Rattle.sc_intake.specs.declared.fault.Cause.{Cause}
use Rattle.sc_intake.specs.declared.fault.IntakeFault.{IntakeFault}
use Rattle.sc_intake.specs.declared.fault.Source.{Source}
use Rattle.sc_intake.specs.declared.fault.Source.TheVariants.{Roster, Lists}
use Rattle.sc_intake.specs.declared.lists.ListRow.{ListRow}
use Rattle.sc_intake.specs.declared.roster.RosterRow.{RosterRow}
use Rattle.sc_intake.proofs.InStep.{in-numbers, list-at, none-missing}
use Rattle.sc_intake.proofs.PaperLemmas.{entered-students, filled-all, or-false}
use Rattle.sc_intake.proofs.RowLemmas.{row-end, row-step}
use Rattle.sc_intake.proofs.SeenLemmas.{same-number}
use Rattle.sc_papers.specs.Verdict.{after, objections, verdict}
use Rattle.sc_papers.specs.declared.amendment.Amendment.TheVariants.{Enter}
use Rattle.sc_papers.specs.declared.amendment.Refusal.{Refusal}
use Rattle.sc_papers.specs.declared.amendment.Refusal.TheVariants.{StudentExists, RosterFull}
use Rattle.sc_papers.proofs.Objections.{first_of-none, refuse_if-none}
use Rattle.sc_intake.specs.Fault.{◌>>=◌}

-- who enters is not in the papers yet, and there is room
may-enter : (m n : Market) (row : RosterRow) (list : ListRow) → entered_by m row (Some list) ≡ Ok n
    → (is_student m row.student ≡ false) × (nat_le MOST_STUDENTS (length m.students) ≡ false) × (after m (Enter row.student row.zone row.siblings list.choices row.continuing) ≡ n)
may-enter m n row list entered = by (verdict m (Enter row.student row.zone row.siblings list.choices row.continuing)) refl entered
  where
    by : (v : Option Refusal) → verdict m (Enter row.student row.zone row.siblings list.choices row.continuing) ≡ v
        → unless_refused m (Enter row.student row.zone row.siblings list.choices row.continuing) v ≡ Ok n
        → (is_student m row.student ≡ false) × (nat_le MOST_STUDENTS (length m.students) ≡ false) × (after m (Enter row.student row.zone row.siblings list.choices row.continuing) ≡ n)
    by None is done =
        let none = first_of-none (objections m (Enter row.student row.zone row.siblings list.choices row.continuing)) is in
        (refuse_if-none (is_student m row.student) StudentExists none.0, refuse_if-none (nat_le MOST_STUDENTS (length m.students)) RosterFull none.1.1.1.1.1.1.1.1.1.0, cc)
    by (Some r) is done = cc done

-- one student more is in them
entered-more : (m n : Market) (row : RosterRow) (list : ListRow) → entered_by m row (Some list) ≡ Ok n → length n.students ≡ length m.students + 1
entered-more m n row list entered =
    let same = (may-enter m n row list entered).2 in
    rw (← same) (length_push m.students (row.student, record { zone = row.zone; siblings = row.siblings; choices = list.choices; continuing = row.continuing }))

-- there is room for fewer students than before
pub room-left : (n k : Market) (row : RosterRow) (list : ListRow) → entered_by n row (Some list) ≡ Ok k → MOST_STUDENTS - length k.students < MOST_STUDENTS - length n.students
room-left n k row list entered =
    let more = entered-more n k row list entered in
    let room = (may-enter n k row list entered).1 in
    let within : length n.students < MOST_STUDENTS = grind (arith, nat_tests) in
    omega arith

-- one student more has entered
all_entered-push : (lists : List ListRow) (m n k : Market) (roster : List RosterRow) (row : RosterRow) → all_entered lists m roster ≡ Ok n
    → entered_by n row (list_of lists row.student) ≡ Ok k → all_entered lists m (roster ++ row ∷ []) ≡ Ok k
unfolding all_entered
all_entered-push lists m n k [] row entered enters = let same : m ≡ n = cc entered in rw (same, enters) refl
all_entered-push lists m n k (first ∷ rest) row entered enters =
    by (entered_by m first (list_of lists first.student)) entered (λ j so_far. all_entered-push lists j n k rest row so_far enters)
  where
    by : (r : Result Market Cause) → (in_row Roster first.row r >>= λ j. all_entered lists j rest) ≡ Ok n
        → ((j : Market) → all_entered lists j rest ≡ Ok n → all_entered lists j (rest ++ row ∷ []) ≡ Ok k)
        → (in_row Roster first.row r >>= λ j. all_entered lists j (rest ++ row ∷ [])) ≡ Ok k
    by (Ok j) done more = more j done
    by (Err cause) done more = cc done

-- a good record with a new number is one row more
added-row : {R : Type 0} (most : ℕ) (number : R → ℕ) (read : ℕ → List (List ℕ) → Result R Cause) (width row : ℕ) (earlier : List R) (fields : List (List ℕ)) (found : R)
    → nat_le most (length earlier) ≡ false → row_at read width row fields ≡ Ok found → list_any (nat_eq (number found)) (map number earlier) ≡ false
    → added earlier (next_row_at most number read width row earlier fields) ≡ Ok (earlier ++ found ∷ [])
added-row most number read width row earlier fields found room is new = rw (room, is, new) refl

-- the reading goes on after a row, if its number is a new one
row-more : {R : Type 0} (most : ℕ) (number : R → ℕ) (read : ℕ → List (List ℕ) → Result R Cause) (source : Source) (width : ℕ) (reading : Result (List R) IntakeFault) (rows : List R)
    (left rest : List (List (List ℕ))) (fields : List (List ℕ)) (row : R)
    → (IsDistinct nat_eq (map number rows) → reading ≡ rows_after 2 source (next_row most number read width) rows left)
    → left ≡ fields ∷ rest → length rows < most → row_at read width (length rows + 2) fields ≡ Ok row
    → IsDistinct nat_eq (map number (rows ++ row ∷ [])) → reading ≡ rows_after 2 source (next_row most number read width) (rows ++ row ∷ []) rest
row-more most number read source width reading rows left rest fields row so_far next room is differ =
    let numbers : IsDistinct nat_eq (map number rows ++ number row ∷ []) = rw (map-append number rows (row ∷ [])) at differ in
    let within : nat_le most (length rows) ≡ false = grind (arith, nat_tests) in
    let turned = IsDistinct-IsPermutation nat_eq nat_eq_equiv.symm _ _ (IsPermutation-to_front (map number rows) (number row)) numbers in
    let new = list_any_none (nat_eq (number row)) (map number rows) (All-from_recursion _ (map number rows) (IsDistinct-head nat_eq (number row) (map number rows) turned)) in
    row-step 2 source (next_row most number read width) reading rows (rows ++ row ∷ []) left rest fields (so_far (IsDistinct-tail nat_eq (number row) (map number rows) turned)) next
    (added-row most number read width (length rows + 2) rows fields row within is new)

any-push : (i n : ℕ) (ns : List ℕ) → (list_any (nat_eq i) ns || nat_eq i n) ≡ list_any (nat_eq i) (ns ++ n ∷ [])
any-push i n ns = ap (λ (b : Bool). list_any (nat_eq i) ns || b) (or-false (nat_eq i n)) ∙ sym (list_any-append (nat_eq i) ns (n ∷ []))

-- different numbers that are all among no more others are those others, which are different too
module _ (xs ys : List ℕ) (differ : IsDistinct nat_eq xs) (among : (i : ℕ) → list_any (nat_eq i) xs ≡ true → list_any (nat_eq i) ys ≡ true) (many : length ys ≤ length xs) where
  no-others : (i : ℕ) → list_any (nat_eq i) ys ≡ true → list_any (nat_eq i) xs ≡ true
  no-others i there = elim (cases_Bool (list_any (nat_eq i) xs)) [
    | inl is ↦ is
    | inr new ↦
        let more : length (xs ++ i ∷ []) ≤ length ys =
        length-le_from_is_member nat_eq_equiv (xs ++ i ∷ []) ys (IsDistinct-push nat_eq_equiv xs i differ new)
        (λ q one. elim (or_cases (list_any (nat_eq q) xs) (nat_eq q i) (any-push q i xs ∙ one)) [
          | inl before ↦ among q before
          | inr last ↦ rw (eqb-true q i last) there
        ]) in
        absurd (omega (arith, more, many, length_push xs i))
  ]

  same-members : (i : ℕ) → list_any (nat_eq i) xs ≡ list_any (nat_eq i) ys
  same-members i = elim (cases_Bool (list_any (nat_eq i) ys)) [
    | inl there ↦ no-others i there ∙ sym there
    | inr none ↦ elim (cases_Bool (list_any (nat_eq i) xs)) [ inl here ↦ here ∙ sym (among i here) | inr not_here ↦ not_here ∙ sym none ]
  ]

  others-differ : IsDistinct nat_eq ys
  others-differ =
      let as_many : length xs ≡ length ys = omega (arith, many, length-le_from_is_member nat_eq_equiv xs ys differ among) in
      IsDistinct-from_count nat_eq_equiv ys (sym (length-from_keys nat_eq_equiv xs ys differ same-members) ∙ as_many)

-- a row of the lists is this one
pub record IsRow (width : ℕ) (lists : List (List (List ℕ))) (k : ℕ) (list : ListRow) : Type 0 where
  pub left : List (List (List ℕ))
  pub takes : TakesRow choices_of width (k + 2) (drop k lists) left list

module _ (width : ℕ) (lists : List (List (List ℕ))) where
  -- it is no other
  same-row : (k : ℕ) (a b : ListRow) → IsRow width lists k a → IsRow width lists k b → a ≡ b
  same-row k a b is other =
      let next = is.takes.next in
      let other_next = other.takes.next in
      let fields : is.takes.fields ≡ other.takes.fields = cc in
      let reads = is.takes.reads in
      let other_reads : row_at choices_of width (k + 2) is.takes.fields ≡ Ok b = rw fields other.takes.reads in
      cc

  -- it is one of them
  row-within : (k : ℕ) (list : ListRow) → IsRow width lists k list → k < length lists
  row-within k list is =
      let size : length (drop k lists) ≡ suc (length is.left) = ap length is.takes.next in
      omega (arith, size, length-drop k lists)

  -- the others are left
  left-after : (k : ℕ) (list : ListRow) (is : IsRow width lists k list) → is.left ≡ drop (suc k) lists
  left-after k list is =
      let both : is.takes.fields ∷ is.left ≡ get_or lists k [] ∷ drop (suc k) lists = sym is.takes.next ∙ drop-cons lists k [] (row-within k list is) in
      cc

  -- the first rows, where each is one
  record AreRowsTo (k : ℕ) : Type 0 where
    rows : List ListRow
    many : length rows ≡ k
    each : (j : ℕ) (list : ListRow) → j < k → IsRow width lists j list → get_or rows j list ≡ list
    read : IsDistinct nat_eq (map list_number rows) → rows_after 2 Lists (next_list width) [] lists ≡ rows_after 2 Lists (next_list width) rows (drop k lists)

  rows-to : (all : (j : ℕ) → j < length lists → (list : ListRow) × IsRow width lists j list) → length lists ≤ MOST_STUDENTS → (k : ℕ) → k ≤ length lists → AreRowsTo k
  rows-to all few zero within = record { rows = []; many = refl; each = λ j list below is. absurd (omega arith); read = λ differ. refl }
  rows-to all few (suc k) within =
      let before = rows-to all few k (omega arith) in
      let found = all k (omega arith) in
      let list = found.0 in
      let is = found.1 in
      let size = length_push before.rows list in
      let reads : row_at choices_of width (length before.rows + 2) is.takes.fields ≡ Ok list = rw before.many is.takes.reads in
      record {
        rows = before.rows ++ list ∷ [];
        many = omega (arith, before.many);
        each = λ j other below is_other. elim (cases_lt j k) [
          | inl earlier ↦ get_or_append_left before.rows (list ∷ []) other j (omega (arith, before.many)) ∙ before.each j other earlier is_other
          | inr not ↦
              let last : j ≡ k = omega arith in
              let here : IsRow width lists k other = rw last at is_other in
              get_or_at before.rows list [] other j (before.many ∙ sym last) ∙ same-row k list other is here
        ];
        read = λ differ. row-more MOST_STUDENTS list_number choices_of Lists width (rows_after 2 Lists (next_list width) [] lists) before.rows (drop k lists) (drop (suc k) lists) is.takes.fields list
            before.read (rw (left-after k list is) at is.takes.next) (omega (arith, before.many)) reads differ;
      }

-- each row of the lists that has been read stands among these rows
abbrev pub HaveRows : ℕ → List (List (List ℕ)) → List ListRow → Type 0
HaveRows width lists rows = (k : ℕ) (list : ListRow) → IsRow width lists k list → (k < length rows) × (get_or rows k list ≡ list)

-- the students of the roster so far entered papers `m`, each by a row of the lists, so that they are now `n`
pub record AreEntered (width list_width : ℕ) (roster lists : List (List (List ℕ))) (m : Market) (left : List (List (List ℕ))) (n : Market) : Type 0 where
  pub earlier : List RosterRow
  pub read : rows_after 2 Roster (next_student width) [] roster ≡ rows_after 2 Roster (next_student width) earlier left
  pub different : IsDistinct nat_eq (map roster_number earlier)
  pub students : (i : ℕ) → is_student n i ≡ list_any (nat_eq i) (map roster_number earlier)
  pub counted : length n.students ≡ length earlier
  pub few : length earlier ≤ MOST_STUDENTS
  pub lines : List ℕ
  pub once : IsDistinct nat_eq lines
  pub as_many : length lines ≡ length earlier
  pub used : (k : ℕ) → list_any (nat_eq k) lines ≡ true → (list : ListRow) × IsRow list_width lists k list × (list_any (nat_eq list.student) (map roster_number earlier) ≡ true)
  pub listed : (i : ℕ) → list_any (nat_eq i) (map roster_number earlier) ≡ true → (k : ℕ) × (list : ListRow) × IsRow list_width lists k list × (list.student ≡ i)
  pub entered : (rows : List ListRow) → HaveRows list_width lists rows → IsDistinct nat_eq (map list_number rows) → all_entered rows m earlier ≡ Ok n

-- nobody entered
pub AreEntered-none : (width list_width : ℕ) (roster lists : List (List (List ℕ))) (m : Market) → m.students ≡ [] → AreEntered width list_width roster lists m roster m
unfolding IsDistinct all_entered
AreEntered-none width list_width roster lists m fresh = record {
  earlier = [];
  read = refl;
  different = tt;
  students = λ i. rw fresh refl;
  counted = ap length fresh;
  few = omega arith;
  lines = [];
  once = tt;
  as_many = refl;
  used = λ k among. cc among;
  listed = λ i among. cc among;
  entered = λ rows have differ. refl;
}

-- one student more entered
pub AreEntered-more : (width list_width : ℕ) (roster lists : List (List (List ℕ))) (m : Market) (left rest : List (List (List ℕ))) (n k : Market) (row : RosterRow) (line : ℕ) (lists_left : List (List (List ℕ)))
    → AreEntered width list_width roster lists m left n → TakesRow student_of width (length n.students + 2) left rest row
    → EntersNext list_width (line + 2) (drop line lists) lists_left n row k → AreEntered width list_width roster lists m rest k
AreEntered-more width list_width roster lists m left rest n k row line lists_left are takes next =
    let list = next.list in
    let is : IsRow list_width lists line list = record { left = lists_left; takes = next.takes } in
    let may = may-enter n k row list next.entered in
    let numbers = map roster_number are.earlier in
    let new : list_any (nat_eq row.student) numbers ≡ false = sym (are.students row.student) ∙ may.0 in
    let pushed = map-append roster_number are.earlier (row ∷ []) in
    let among : (i : ℕ) → list_any (nat_eq i) (map roster_number (are.earlier ++ row ∷ [])) ≡ (list_any (nat_eq i) numbers || nat_eq i row.student) =
    λ i. ap (list_any (nat_eq i)) pushed ∙ sym (any-push i row.student numbers) in
    let size = length_push are.earlier row in
    let within : length n.students < MOST_STUDENTS = let room = may.1 in grind (arith, nat_tests) in
    let unused : list_any (nat_eq line) are.lines ≡ false = elim (cases_Bool (list_any (nat_eq line) are.lines)) [
      | inl there ↦
          let (other, was, known) = are.used line there in
          let same : other ≡ list = same-row list_width lists line other list was is in
          let again : list_any (nat_eq row.student) numbers ≡ true = rw (next.same, ← same) known in
          cc
      | inr not ↦ not
    ] in
    record {
      earlier = are.earlier ++ row ∷ [];
      read = row-step 2 Roster (next_student width) _ are.earlier (are.earlier ++ row ∷ []) left rest takes.fields are.read takes.next
          (added-row MOST_STUDENTS roster_number student_of width (length are.earlier + 2) are.earlier takes.fields row (rw are.counted at may.1) (rw are.counted at takes.reads) new);
      different = rw pushed (IsDistinct-push nat_eq_equiv numbers row.student are.different new);
      students = λ i. entered-students n k row (Some list) next.entered i ∙ ap (λ (b : Bool). b || nat_eq i row.student) (are.students i) ∙ sym (among i);
      counted = entered-more n k row list next.entered ∙ ap (λ (count : ℕ). count + 1) are.counted ∙ sym size;
      few = omega (arith, are.counted);
      lines = are.lines ++ line ∷ [];
      once = IsDistinct-push nat_eq_equiv are.lines line are.once unused;
      as_many = length_push are.lines line ∙ ap (λ (count : ℕ). count + 1) are.as_many ∙ sym size;
      used = λ q there. elim (or_cases (list_any (nat_eq q) are.lines) (nat_eq q line) (any-push q line are.lines ∙ there)) [
        | inl before ↦
            let (other, was, known) = are.used q before in
            (other, was, among other.student ∙ rw known refl)
        | inr last ↦
            let at : q ≡ line = eqb-true q line last in
            let own : nat_eq list.student row.student ≡ true = let same = next.same in grind (arith, nat_tests) in
            let here : IsRow list_width lists q list = rw at is in
            (list, here, among list.student ∙ rw own (or-true (list_any (nat_eq list.student) numbers)))
      ];
      listed = λ i there. elim (or_cases (list_any (nat_eq i) numbers) (nat_eq i row.student) (sym (among i) ∙ there)) [
        | inl before ↦ are.listed i before
        | inr last ↦ (line, list, is, sym next.same ∙ sym (eqb-true i row.student last))
      ];
      entered = λ rows have differ.
          let (there, found) = have line list is in
          let split : rows ≡ take line rows ++ list ∷ drop (suc line) rows =
          sym (take-append-drop line rows) ∙ ap (λ (more : List ListRow). take line rows ++ more) (drop-cons rows line list there ∙ ap (λ (l : ListRow). l ∷ drop (suc line) rows) found) in
          let has : list_of rows row.student ≡ Some list = rw next.same (list-at rows (take line rows) (drop (suc line) rows) list split differ) in
          all_entered-push rows m n k are.earlier row (are.entered rows have differ) (rw has next.entered);
    }

-- where each list is the next one, the lists after it are left
pub left-after_next : (list_width : ℕ) (lists lists_left : List (List (List ℕ))) (n k : Market) (row : RosterRow)
    → EntersNext list_width (length n.students + 2) (drop (length n.students) lists) lists_left n row k → lists_left ≡ drop (length k.students) lists
left-after_next list_width lists lists_left n k row next =
    rw (entered-more n k row next.list next.entered, add-one) (left-after list_width lists (length n.students) next.list (record { left = lists_left; takes = next.takes }))

-- all entered, and no list is left
pub AreEntered-all : (width list_width : ℕ) (roster lists : List (List (List ℕ))) (m : Market) (left : List (List (List ℕ))) (n : Market)
    → AreEntered width list_width roster lists m left n → left ≡ [] → length lists ≤ length n.students → Fill width list_width roster lists m n
AreEntered-all width list_width roster lists m left n are end many =
    let all : (j : ℕ) → j < length lists → (list : ListRow) × IsRow list_width lists j list = λ j below. elim (cases_Bool (list_any (nat_eq j) are.lines)) [
      | inl there ↦ let (list, is, known) = are.used j there in (list, is)
      | inr none ↦
          let fewer = length-le_from_distinct_below (are.lines ++ j ∷ []) (length lists) (IsDistinct-push nat_eq_equiv are.lines j are.once none)
          (λ q there. elim (or_cases (list_any (nat_eq q) are.lines) (nat_eq q j) (any-push q j are.lines ∙ there)) [
            | inl before ↦ let (list, is, known) = are.used q before in row-within list_width lists q list is
            | inr last ↦ rw (eqb-true q j last) below
          ]) in
          absurd (omega (arith, many, are.counted, are.as_many, length_push are.lines j))
    ] in
    let whole = rows-to list_width lists all (omega (arith, many, are.counted, are.few)) (length lists) (omega arith) in
    let rows = whole.rows in
    let have : HaveRows list_width lists rows = λ k list is. let below = row-within list_width lists k list is in (omega (arith, whole.many), whole.each k list below is) in
    let roster_numbers = map roster_number are.earlier in
    let among : (i : ℕ) → list_any (nat_eq i) roster_numbers ≡ true → list_any (nat_eq i) (map list_number rows) ≡ true = λ i there.
    let (k, list, is, same) = are.listed i there in
    let (below, found) = have k list is in
    let number : get_or (map list_number rows) k 0 ≡ i = get_or-map list_number rows k list 0 below ∙ ap list_number found ∙ same in
    list_any_at (nat_eq i) (map list_number rows) k 0 (rw (length-map rows list_number) below) (rw number (same-number i)) in
    let no_more : length (map list_number rows) ≤ length roster_numbers =
    omega (arith, many, are.counted, whole.many, length-map are.earlier roster_number, length-map rows list_number) in
    let differ = others-differ roster_numbers (map list_number rows) are.different among no_more in
    let known = none-missing are.earlier rows (λ i there. in-numbers are.earlier i ∙ no-others roster_numbers (map list_number rows) are.different among no_more i there) in
    record {
      roster_rows = are.earlier;
      list_rows = rows;
      roster_read = row-end 2 Roster (next_student width) _ are.earlier left are.read end;
      lists_read = row-end 2 Lists (next_list list_width) _ rows (drop (length lists) lists) (whole.read differ) (drop_all (length lists) lists (omega arith));
      full = filled-all m n are.earlier rows (are.entered rows have differ) known;
    }
