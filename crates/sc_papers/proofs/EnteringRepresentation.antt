-- What the fields of the type `FlatPapers` tell of once a student has entered.
use Rattle.std.proofs.Common.{◌≡◌, ◌⊎◌, ◌≤◌, ◌+◌, ℕ, nat_eq, true, false, List, [], ◌∷◌, ◌++◌, All, Some, None, length, map, refl, ap, sym, ◌∙◌, inl, inr}
use Rattle.std.specs.Prelude.{is_some, nat_lt}
use Rattle.std.proofs.lemmas.Bool.{cases_Bool, eq-eqb, eqb-true, or_left, or_right}
use Rattle.std.proofs.lemmas.List.Elements.{All-cons, All-nil, All-push}
use Rattle.std.proofs.lemmas.List.Folds.{list_any-append}
use Rattle.std.proofs.lemmas.Map.Made.{is_some-lookup}
use Rattle.std.specs.List.{list_any}
use Rattle.std.specs.Map.{lookup}
use Rattle.indexmap.specs.IndexMap.{index_map_len, spare}
use Rattle.sc_lottery.specs.Draw.{draw}
use Rattle.sc_papers.specs.Entry.{with_choices_at}
use Rattle.sc_papers.specs.Market.{Market, is_student, students_of, zone_at}
use Rattle.sc_papers.specs.Placed.{AreOfSchools}
use Rattle.sc_papers.specs.Representation.{IsSound, AreOfStudents, market_of}
use Rattle.sc_papers.specs.Classed.{Classed}
use Rattle.sc_papers.specs.StudentRow.{Row, classed_at, positions_in, row_at, row_of}
use Rattle.sc_papers.specs.Verdict.{with_student}
use Rattle.sc_papers.specs.declared.flat_papers.FlatPapers.TheInside.{Inside}
use Rattle.sc_papers.specs.declared.records.Student.{Student}
use Rattle.sc_papers.proofs.Entering.{MayEnter, WellFormed-with_student, WithinLimits-with_student, keys_of-push}
use Rattle.sc_papers.proofs.EnteringAt.{choices-tabled}
use Rattle.sc_papers.proofs.Representation.{holds-shown, KeepsOthers, Shows, kept-others, Holds}

-- what stands for one student more
map-push : {X : Type 0} (f : ℕ × Student → X) (es : List (ℕ × Student)) (e : ℕ × Student) → map f (es ++ e ∷ []) ≡ map f es ++ f e ∷ []
map-push f [] e = refl
map-push f (x ∷ es) e = ap (λ rest. f x ∷ rest) (map-push f es e)

-- the row that is made of a student who may enter
pub row-made : (old : Inside) (i : ℕ) (student : Student) (positions : List ℕ) → IsSound old → AreOfSchools (market_of old) positions
    → (d : ℕ) (row : Row) → d ≡ draw old.lottery i → row ≡ row_at (map (classed_at (market_of old) student) positions) i d student
    → row ≡ row_of (zone_at (market_of old)) old.positions i (draw old.lottery i) (with_choices_at (market_of old) positions student)
row-made old i student positions sound within d row drawn is =
    is ∙ ap (λ (cs : List Classed). row_at cs i d student) (choices-tabled (market_of old) sound.well_formed old.positions sound.positions student positions within)
    ∙ ap (λ (x : ℕ). row_of (zone_at (market_of old)) old.positions i x (with_choices_at (market_of old) positions student)) drawn

-- who is not in the papers is none of the students
others-differ : (i : ℕ) (es : List (ℕ × Student)) → lookup (nat_eq i) es ≡ None → All (λ e. nat_eq i e.0 ≡ false) es
others-differ i [] none = All-nil (λ e. nat_eq i e.0 ≡ false)
others-differ i (e ∷ es) none =
    elim (cases_Bool (nat_eq i e.0)) [
      | inl same ↦ let some : Some e.1 ≡ None = rw same at none in cc
      | inr other ↦ All-cons (λ (x : ℕ × Student). nat_eq i x.0 ≡ false) e es other (others-differ i es (rw other at none))
    ]

-- of whom something is kept now is the one of whom it is kept anew, or a student of before
of_student-put : (m : Market) (i q : ℕ) (old new : List (ℕ × List ℕ)) → KeepsOthers i old new → AreOfStudents m old
    → is_some (lookup (nat_eq q) new) ≡ true → (nat_eq i q ≡ true) ⊎ (is_student m q ≡ true)
of_student-put m i q old new others of_students known =
    elim (cases_Bool (nat_eq i q)) [
      | inl same ↦ inl same
      | inr other ↦ inr (of_students q (sym (ap is_some (others q other)) ∙ known))
    ]

entered-known : (m : Market) (i : ℕ) (student : Student) (q : ℕ) → (nat_eq i q ≡ true) ⊎ (is_student m q ≡ true) → is_student (with_student m i student) q ≡ true
entered-known m i student q known =
    let among : is_student (with_student m i student) q ≡ list_any (nat_eq q) (students_of m ++ i ∷ []) =
    is_some-lookup (nat_eq q) (m.students ++ (i, student) ∷ []) ∙ ap (list_any (nat_eq q)) (keys_of-push m.students (i, student)) in
    among ∙ list_any-append (nat_eq q) (students_of m) (i ∷ []) ∙ (elim known [
      | inl same ↦ or_right (list_any (nat_eq q) (students_of m)) (list_any (nat_eq q) (i ∷ [])) (or_left (nat_eq q i) false (eq-eqb q i (sym (eqb-true i q same))))
      | inr before ↦ or_left (list_any (nat_eq q) (students_of m)) (list_any (nat_eq q) (i ∷ [])) (sym (is_some-lookup (nat_eq q) m.students) ∙ before)
    ])

module _ (old new : Inside) (i : ℕ) (student : Student) (sound : IsSound old) (may : MayEnter (market_of old) i student)
    (seed : new.lottery ≡ old.lottery) (schools : new.schools ≡ old.schools) (positions : new.positions ≡ old.positions)
    (pushed : new.numbers ≡ old.numbers ++ i ∷ [])
    (row : new.rows.items ≡ old.rows.items ++ row_of (zone_at (market_of old)) old.positions i (draw old.lottery i) student ∷ [])
    (others : KeepsOthers i old.siblings.entries new.siblings.entries)
    (own : nat_lt 1 (length student.siblings) ≡ true → lookup (nat_eq i) new.siblings.entries ≡ Some (positions_in old.positions student.siblings))
    (room : length new.rows.items ≤ index_map_len new.siblings + spare new.siblings)
  where
    Shows-entered : Shows new (with_student (market_of old) i student)
    Shows-entered =
        let m = market_of old in
        record {
          seed = seed;
          schools = rw schools refl;
          positions = rw positions sound.positions;
          numbers = pushed ∙ ap (λ ks. ks ++ i ∷ []) sound.numbers ∙ sym (keys_of-push m.students (i, student));
          rows =
              row ∙ ap (λ rows. rows ++ row_of (zone_at m) old.positions i (draw old.lottery i) student ∷ []) sound.rows
              ∙ rw (positions, map-push (λ e. row_of (zone_at m) old.positions e.0 (draw old.lottery e.0) e.1) m.students (i, student)) refl;
          siblings = rw positions
              (All-push (λ (e : ℕ × Student). nat_lt 1 (length e.1.siblings) ≡ true → lookup (nat_eq e.0) new.siblings.entries ≡ Some (positions_in old.positions e.1.siblings)) m.students (i, student)
              (kept-others old.positions i old.siblings.entries new.siblings.entries others m.students (others-differ i m.students may.new) sound.siblings) own);
          of_students = λ q known. entered-known m i student q (of_student-put m i q old.siblings.entries new.siblings.entries others sound.of_students known);
          room = room;
        }

    pub holds-entered : Holds new (with_student (market_of old) i student)
    holds-entered =
        holds-shown new (with_student (market_of old) i student) Shows-entered
        (WellFormed-with_student (market_of old) i student sound.well_formed may)
        (WithinLimits-with_student (market_of old) i student sound.within_limits may)
