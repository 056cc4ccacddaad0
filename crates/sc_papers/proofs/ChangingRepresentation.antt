-- The fields of the type `FlatPapers` stay sound where a student goes, or where what they hold of a student or a school changes.
use Rattle.std.proofs.Common.{◌≡◌, ℕ, ◌<◌, ◌≤◌, ◌+◌, nat_eq, Bool, cond, false, true, All, List, [], ◌∷◌, Option, Some, None, length, inl, inr, refl, ap, sym, ◌∙◌, arith}
use Rattle.std.specs.Prelude.{is_some, nat_lt, position, remove, slice_set}
use Rattle.std.specs.List.{AllByRecursion, IsDistinct, list_any}
use Rattle.std.specs.Option.{option_map_or}
use Rattle.std.specs.Map.{keys_of, lookup, remove_entry, set_value}
use Rattle.std.proofs.lemmas.Bool.{cases_Bool, cond-false, eqb-true, false≢true}
use Rattle.std.proofs.lemmas.Cmp.{nat_eq_equiv}
use Rattle.std.proofs.lemmas.List.{length-map}
use Rattle.std.proofs.lemmas.List.Edits.{length-remove}
use Rattle.std.proofs.lemmas.List.Elements.{All-cons, All-head, All-nil, All-tail}
use Rattle.std.proofs.lemmas.List.Quantifiers.{position-Some}
use Rattle.std.proofs.lemmas.Map.{keys-set_value, lookup-remove_entry}
use Rattle.std.proofs.lemmas.Option.{same_Some}
use Rattle.std.proofs.lemmas.Map.Entries.{length-keys_of}
use Rattle.std.proofs.lemmas.Map.Made.{is_some-lookup}
use Rattle.indexmap.specs.IndexMap.{index_map_len, spare}
use Rattle.sc_lottery.specs.Draw.{draw}
use Rattle.sc_papers.specs.Market.{Market, is_student, student_of, students_of, zone_at}
use Rattle.sc_papers.specs.Representation.{IsSound, AreKept, AreOfStudents, entry_in, market_of, rows_of}
use Rattle.sc_papers.specs.StudentRow.{Row, positions_in, row_of}
use Rattle.sc_papers.specs.Verdict.{changed_student, without_student}
use Rattle.sc_papers.specs.WellFormed.{IsProper, IsShort, WellFormed}
use Rattle.sc_papers.specs.declared.flat_papers.FlatPapers.TheInside.{Inside}
use Rattle.sc_papers.specs.declared.records.School.{School}
use Rattle.sc_papers.specs.declared.records.Student.{Student}
use Rattle.sc_papers.proofs.Changing.{is_some-set_value, put_school, put_student, remove-found, set-found, WellFormed-put_school, WellFormed-put_student, WellFormed-without_student, WithinLimits-put_school, WithinLimits-put_student, WithinLimits-without_student}
use Rattle.sc_papers.proofs.Keys.{found-by_position}
use Rattle.sc_papers.proofs.Representation.{holds-shown, KeepsOthers, Shows, kept-others, Holds}
use Rattle.sc_papers.specs.declared.seats.TheConstants.Seats.{GREATEST}

-- nobody's number takes nobody out
removed-nobody : {X : Type 0} (i : ℕ) (es : List (ℕ × X)) → list_any (nat_eq i) (keys_of es) ≡ false → remove_entry (nat_eq i) es ≡ es
removed-nobody i [] none = refl
removed-nobody i (e ∷ es) none =
    elim (cases_Bool (nat_eq i e.0)) [
      | inl here ↦ let no : true ≡ false = rw here at none in cc
      | inr other ↦ rw other (ap (λ rest. e ∷ rest) (removed-nobody i es (rw other at none)))
    ]

pub without-absent : (m : Market) (i : ℕ) → None ≡ position (nat_eq i) (students_of m) → m ≡ without_student m i
without-absent m i none =
    let absent = sym (is_some-lookup (nat_eq i) m.students) ∙ found-by_position m.students i None (sym none) in
    let same = removed-nobody i m.students absent in
    λ t. record m { students = sym same t }

-- keys that differ from the first
keys-apart : {X : Type 0} (i : ℕ) (x : X) (es : List (ℕ × X)) → IsDistinct nat_eq (keys_of ((i, x) ∷ es)) → All (λ e. nat_eq i e.0 ≡ false) es
unfolding IsDistinct
keys-apart {X = X} i x es differ = go es differ.0
  where
    go : (rest : List (ℕ × X)) → AllByRecursion (λ y. nat_eq i y ≡ false) (keys_of rest) → All (λ e. nat_eq i e.0 ≡ false) rest
    go [] apart = All-nil (λ e. nat_eq i e.0 ≡ false)
    go (e ∷ rest) apart = All-cons (λ (e' : ℕ × X). nat_eq i e'.0 ≡ false) e rest apart.0 (go rest apart.1)

keys-rest : {X : Type 0} (e : ℕ × X) (es : List (ℕ × X)) → IsDistinct nat_eq (keys_of (e ∷ es)) → IsDistinct nat_eq (keys_of es)
unfolding IsDistinct
keys-rest e es differ = differ.1

-- what is kept of the students who stay
module _ (table : List (Option ℕ)) (i : ℕ) (old new : List (ℕ × List ℕ)) (others : KeepsOthers i old new) where
  abbrev Keeps : List (ℕ × List ℕ) → ℕ × Student → Type 0
  Keeps kept e = nat_lt 1 (length e.1.siblings) ≡ true → lookup (nat_eq e.0) kept ≡ Some (positions_in table e.1.siblings)

  rest-apart : (e : ℕ × Student) (es : List (ℕ × Student)) → nat_eq i e.0 ≡ true → IsDistinct nat_eq (keys_of (e ∷ es)) → All (λ x. nat_eq i x.0 ≡ false) es
  rest-apart (k, student) es here differ = rw (eqb-true i k here) (keys-apart k student es differ)

  pub kept-removed : (es : List (ℕ × Student)) → IsDistinct nat_eq (keys_of es) → AreKept table old es → AreKept table new (remove_entry (nat_eq i) es)
  kept-removed [] differ keeps = All-nil (Keeps new)
  kept-removed (e ∷ es) differ keeps =
      elim (cases_Bool (nat_eq i e.0)) [
        | inl here ↦ rw here (kept-others table i old new others es (rest-apart e es here differ) (All-tail (Keeps old) e es keeps))
        | inr other ↦
            rw other (All-cons (Keeps new) e (remove_entry (nat_eq i) es) (λ more. others e.0 other ∙ All-head (Keeps old) e es keeps more)
            (kept-removed es (keys-rest e es differ) (All-tail (Keeps old) e es keeps)))
      ]

  module _ (student : Student) (own : nat_lt 1 (length student.siblings) ≡ true → lookup (nat_eq i) new ≡ Some (positions_in table student.siblings)) where
    pub kept-set : (es : List (ℕ × Student)) → IsDistinct nat_eq (keys_of es) → AreKept table old es → AreKept table new (set_value (nat_eq i) es student)
    kept-set [] differ keeps = All-nil (Keeps new)
    kept-set (e ∷ es) differ keeps =
        elim (cases_Bool (nat_eq i e.0)) [
          | inl here ↦
              rw here (All-cons (Keeps new) (e.0, student) es (λ more. ap (λ k. lookup (nat_eq k) new) (sym (eqb-true i e.0 here)) ∙ own more)
              (kept-others table i old new others es (rest-apart e es here differ) (All-tail (Keeps old) e es keeps)))
          | inr other ↦
              rw other (All-cons (Keeps new) e (set_value (nat_eq i) es student) (λ more. others e.0 other ∙ All-head (Keeps old) e es keeps more)
              (kept-set es (keys-rest e es differ) (All-tail (Keeps old) e es keeps)))
        ]

-- of whom something is kept is a student who stays
withdrawn-known : (m : Market) (i q : ℕ) → WellFormed m → (old new : List (ℕ × List ℕ)) → KeepsOthers i old new → lookup (nat_eq i) new ≡ None → AreOfStudents m old
    → is_some (lookup (nat_eq q) new) ≡ true → is_student (without_student m i) q ≡ true
withdrawn-known m i q well old new others gone of_students known =
    elim (cases_Bool (nat_eq i q)) [
      | inl same ↦
          let none : is_some (lookup (nat_eq q) new) ≡ false = ap (λ k. is_some (lookup (nat_eq k) new)) (sym (eqb-true i q same)) ∙ ap is_some gone in
          absurd (false≢true (sym none ∙ known))
      | inr other ↦
          let before : is_student m q ≡ true = of_students q (sym (ap is_some (others q other)) ∙ known) in
          let stays : lookup (nat_eq q) (remove_entry (nat_eq i) m.students) ≡ lookup (nat_eq q) m.students =
          lookup-remove_entry nat_eq_equiv (nat_eq i) (nat_eq_equiv.congr i) q m.students well.students_differ ∙ cond-false (nat_eq i q) None (student_of m q) other in
          ap is_some stays ∙ before
    ]

-- and so where what the papers hold of a student changes
put-known_student : (m : Market) (i at : ℕ) (student : Student) (q : ℕ) → Some at ≡ position (nat_eq i) (students_of m)
    → (old new : List (ℕ × List ℕ)) → KeepsOthers i old new → AreOfStudents m old
    → is_some (lookup (nat_eq q) new) ≡ true → is_student (put_student m i student) q ≡ true
put-known_student m i at student q found old new others of_students known =
    is_some-set_value q (nat_eq i) student m.students ∙ (elim (cases_Bool (nat_eq i q)) [
      | inl same ↦ ap (is_student m) (sym (eqb-true i q same)) ∙ found-by_position m.students i (Some at) (sym found)
      | inr other ↦ of_students q (sym (ap is_some (others q other)) ∙ known)
    ])

-- there is room for those who are left where there was before one went, and at most one of whom something was kept
pub room-left : (found : Bool) (rows left kept stay before after : ℕ) → left + 1 ≡ rows → stay + cond found 1 0 ≡ kept → before ≤ after → rows ≤ kept + before → left ≤ stay + after
room-left true rows left kept stay before after one fewer more room = omega (arith, one, fewer, more, room)
room-left false rows left kept stay before after one fewer more room = omega (arith, one, fewer, more, room)

-- one row less is left
pub rows-left : (old : Inside) (i place : ℕ) (left : List Row) → IsSound old → Some place ≡ position (nat_eq i) old.numbers → left ≡ remove old.rows.items place
    → length left + 1 ≡ length old.rows.items
rows-left old i place left sound found rows =
    let m = market_of old in
    let within = (position-Some (nat_eq i) old.numbers place 0 (sym found)).0 in
    let low : place < length old.rows.items =
    omega (arith, within, ap length sound.numbers, length-keys_of m.students, length-map old.rows.items (entry_in (keys_of old.schools.entries) old.siblings.entries)) in
    omega (arith, ap length rows, length-remove old.rows.items place low)

-- a student goes, and with them what stands at their position
module _ (old new : Inside) (i place : ℕ) (sound : IsSound old)
    (seed : new.lottery ≡ old.lottery) (schools : new.schools ≡ old.schools) (positions : new.positions ≡ old.positions)
    (found : Some place ≡ position (nat_eq i) old.numbers) (left : new.numbers ≡ remove old.numbers place)
    (rows : new.rows.items ≡ remove old.rows.items place)
    (others : KeepsOthers i old.siblings.entries new.siblings.entries) (gone : lookup (nat_eq i) new.siblings.entries ≡ None)
    (room : length new.rows.items ≤ index_map_len new.siblings + spare new.siblings)
  where
    Shows-withdrawn : Shows new (without_student (market_of old) i)
    Shows-withdrawn =
        let m = market_of old in
        let at : Some place ≡ position (nat_eq i) (students_of m) = found ∙ ap (position (nat_eq i)) sound.numbers in
        record {
          seed = seed;
          schools = rw schools refl;
          positions = rw positions sound.positions;
          numbers = left ∙ ap (λ ks. remove ks place) sound.numbers ∙ remove-found (λ e. e.0) (nat_eq i) m.students place at;
          rows =
              rows ∙ ap (λ rs. remove rs place) sound.rows
              ∙ remove-found (λ e. row_of (zone_at m) old.positions e.0 (draw old.lottery e.0) e.1) (nat_eq i) m.students place at
              ∙ rw positions refl;
          siblings = rw positions (kept-removed old.positions i old.siblings.entries new.siblings.entries others m.students sound.well_formed.students_differ sound.siblings);
          of_students = λ q known. withdrawn-known m i q sound.well_formed old.siblings.entries new.siblings.entries others gone sound.of_students known;
          room = room;
        }

    pub holds-withdrawn : Holds new (without_student (market_of old) i)
    holds-withdrawn =
        holds-shown new (without_student (market_of old) i) Shows-withdrawn
        (WellFormed-without_student (market_of old) i sound.well_formed) (WithinLimits-without_student (market_of old) i sound.within_limits)

-- what the papers hold of a student who is in them is replaced
pub put-known : (m : Market) (i at : ℕ) (student : Student) → position (nat_eq i) (students_of m) ≡ Some at
    → put_student m i student ≡ changed_student m i (λ before. student)
put-known m i at student found = go (student_of m i) refl
  where
    go : (o : Option Student) → student_of m i ≡ o → put_student m i student ≡ changed_student m i (λ before. student)
    go None none = let known = found-by_position m.students i (Some at) found in cc
    go (Some before) known = sym (ap (λ o. option_map_or (λ (x : Student). put_student m i student) o m) known)

-- what the papers hold of a student changes
module _ (old new : Inside) (i place : ℕ) (student : Student) (sound : IsSound old) (proper : IsProper (market_of old) student) (short : IsShort student)
    (seed : new.lottery ≡ old.lottery) (schools : new.schools ≡ old.schools) (positions : new.positions ≡ old.positions) (numbers : new.numbers ≡ old.numbers)
    (found : Some place ≡ position (nat_eq i) (students_of (market_of old)))
    (rows : new.rows.items ≡ slice_set old.rows.items place (row_of (zone_at (market_of old)) old.positions i (draw old.lottery i) student))
    (others : KeepsOthers i old.siblings.entries new.siblings.entries)
    (own : nat_lt 1 (length student.siblings) ≡ true → lookup (nat_eq i) new.siblings.entries ≡ Some (positions_in old.positions student.siblings))
    (room : length new.rows.items ≤ index_map_len new.siblings + spare new.siblings)
  where
    Shows-put_student : Shows new (put_student (market_of old) i student)
    Shows-put_student =
        let m = market_of old in
        record {
          seed = seed;
          schools = rw schools refl;
          positions = rw positions sound.positions;
          numbers = rw numbers (sound.numbers ∙ sym (keys-set_value (nat_eq i) m.students student));
          rows =
              rows ∙ ap (λ rs. slice_set rs place (row_of (zone_at m) old.positions i (draw old.lottery i) student)) sound.rows
              ∙ set-found (λ k w. row_of (zone_at m) old.positions k (draw old.lottery k) w) i m.students student place found
              ∙ rw positions refl;
          siblings = rw positions (kept-set old.positions i old.siblings.entries new.siblings.entries others student own m.students sound.well_formed.students_differ sound.siblings);
          of_students = λ q known. put-known_student m i place student q found old.siblings.entries new.siblings.entries others sound.of_students known;
          room = room;
        }

    pub holds-put_student : Holds new (put_student (market_of old) i student)
    holds-put_student =
        holds-shown new (put_student (market_of old) i student) Shows-put_student
        (WellFormed-put_student (market_of old) i student sound.well_formed proper) (WithinLimits-put_student (market_of old) i student sound.within_limits short)

-- a school keeps its zone, and all others theirs
pub zone-put : (s k : ℕ) (before after : School) (es : List (ℕ × School)) → lookup (nat_eq s) es ≡ Some before → after.zone ≡ before.zone
    → option_map_or (λ (x : School). x.zone) (lookup (nat_eq k) (set_value (nat_eq s) es after)) 0 ≡ option_map_or (λ (x : School). x.zone) (lookup (nat_eq k) es) 0
zone-put s k before after [] known same = cc
zone-put s k before after (e ∷ es) known same =
    elim (cases_Bool (nat_eq s e.0)) [
      | inl here ↦
          let is : Some e.1 ≡ Some before = rw here at known in
          elim (cases_Bool (nat_eq k e.0)) [
            | inl own ↦ rw (here, own) (same ∙ sym (ap (λ (x : School). x.zone) (same_Some e.1 before is)))
            | inr apart ↦ rw (here, apart) refl
          ]
      | inr other ↦
          elim (cases_Bool (nat_eq k e.0)) [
            | inl own ↦ rw (other, own) refl
            | inr apart ↦ rw (other, apart) (zone-put s k before after es (rw other at known) same)
          ]
    ]

-- what the papers hold of a school changes
module _ (old new : Inside) (s : ℕ) (school : School) (sound : IsSound old) (seats : school.seats ≤ GREATEST)
    (zone : (k : ℕ) → zone_at (put_school (market_of old) s school) k ≡ zone_at (market_of old) k)
    (seed : new.lottery ≡ old.lottery) (positions : new.positions ≡ old.positions) (put : new.schools.entries ≡ set_value (nat_eq s) old.schools.entries school)
    (numbers : new.numbers ≡ old.numbers) (rows : new.rows ≡ old.rows) (siblings : new.siblings ≡ old.siblings)
  where
    Shows-put_school : Shows new (put_school (market_of old) s school)
    Shows-put_school = record {
      seed = seed;
      schools = put;
      positions = rw (positions, keys-set_value (nat_eq s) old.schools.entries school) sound.positions;
      numbers = rw numbers sound.numbers;
      rows = rw (rows, positions) (sound.rows ∙ (λ t. rows_of old.lottery (λ k. sym (zone k) t) old.positions (market_of old).students));
      siblings = rw (siblings, positions) sound.siblings;
      of_students = rw siblings sound.of_students;
      room = rw (rows, siblings) sound.room;
    }

    pub holds-put_school : Holds new (put_school (market_of old) s school)
    holds-put_school =
        holds-shown new (put_school (market_of old) s school) Shows-put_school
        (WellFormed-put_school (market_of old) s school sound.well_formed) (WithinLimits-put_school (market_of old) s school sound.within_limits seats)

-- copied fields tell of the same market
module _ (old new : Inside) (sound : IsSound old)
    (seed : new.lottery ≡ old.lottery) (schools : new.schools.entries ≡ old.schools.entries) (positions : new.positions ≡ old.positions)
    (numbers : new.numbers ≡ old.numbers) (rows : new.rows.items ≡ old.rows.items) (siblings : new.siblings.entries ≡ old.siblings.entries)
    (room : length old.rows.items ≤ spare new.siblings)
  where
    Shows-copied : Shows new (market_of old)
    Shows-copied = record {
      seed = seed;
      schools = schools;
      positions = rw positions sound.positions;
      numbers = numbers ∙ sound.numbers;
      rows = rw positions (rows ∙ sound.rows);
      siblings = rw (positions, siblings) sound.siblings;
      of_students = rw siblings sound.of_students;
      room = omega (arith, room, ap length rows);
    }

    pub holds-copied : Holds new (market_of old)
    holds-copied = holds-shown new (market_of old) Shows-copied sound.well_formed sound.within_limits
