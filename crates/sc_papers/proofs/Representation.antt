-- Fields that tell of a market's students, schools and draws hold that market, and are sound.
use Rattle.std.proofs.Common.{◌≡◌, ◌≤◌, ◌<◌, ◌+◌, ◌||◌, ℕ, nat_eq, true, false, List, [], ◌∷◌, Option, Some, None, All, length, map, option_to_list, position, slice_get, refl, ap, sym, subst, ◌∙◌, arith, inl, inr}
use Rattle.std.specs.Prelude.{is_some, nat_lt, slice_index_or, unwrap_or}
use Rattle.std.specs.List.{AllByRecursion, IsDistinct, list_any}
use Rattle.std.specs.Map.{keys_of, lookup}
use Rattle.std.proofs.lemmas.Cmp.{nat_eq_equiv}
use Rattle.std.proofs.lemmas.List.{length-map}
use Rattle.std.proofs.lemmas.Map.Entries.{length-keys_of}
use Rattle.std.proofs.lemmas.Map.Made.{is_some-lookup}
use Rattle.std.proofs.lemmas.Map.Steps.{length-le_from_keys}
use Rattle.std.proofs.lemmas.Bool.{cases_Bool, eqb-true}
use Rattle.std.proofs.lemmas.Bool.Decides.{nat_tests}
use Rattle.std.proofs.lemmas.List.Elements.{All-head, All-tail}
use Rattle.std.proofs.lemmas.Option.{get_or_from_slice_get}
use Rattle.indexmap.specs.IndexMap.{index_map_len, spare}
use Rattle.sc_lottery.specs.Draw.{draw}
use Rattle.sc_papers.specs.Market.{Market, is_school, schools_of, students_of, zone_at}
use Rattle.sc_papers.specs.Placed.{schools_at}
use Rattle.sc_papers.specs.Representation.{IsSound, AreKept, AreOfStudents, entry_in, market_of, rows_of}
use Rattle.sc_papers.specs.StudentRow.{classed_in, positions_in, row_of}
use Rattle.sc_papers.specs.WellFormed.{IsProper, WellFormed, WithinLimits}
use Rattle.sc_papers.specs.declared.flat_papers.FlatPapers.TheInside.{Inside}
use Rattle.sc_papers.specs.declared.records.Student.{Student}
use Rattle.sc_papers.proofs.Keys.{found-by_position}
use Rattle.sc_papers.proofs.Positions.{position-there}

-- the fields tell of this market
pub record Shows (p : Inside) (m : Market) : Type 0 where
  pub seed : p.lottery ≡ m.seed
  pub schools : p.schools.entries ≡ m.schools
  pub positions : (s : ℕ) → slice_index_or p.positions s None ≡ position (nat_eq s) (schools_of m)
  pub numbers : p.numbers ≡ students_of m
  pub rows : p.rows.items ≡ rows_of m.seed (zone_at m) p.positions m.students
  pub siblings : AreKept p.positions p.siblings.entries m.students
  pub of_students : AreOfStudents m p.siblings.entries
  pub room : length p.rows.items ≤ index_map_len p.siblings + spare p.siblings

-- the positions of classed choices are those that the table gives
pub positions-classed : (zones : ℕ → ℕ) (table : List (Option ℕ)) (student : Student) (schools : List ℕ)
    → map (λ c. c.position) (classed_in zones table (record student { choices = schools })) ≡ positions_in table schools
positions-classed zones table student [] = refl
positions-classed zones table student (s ∷ schools) = λ t. unwrap_or (slice_index_or table s None) 0 ∷ positions-classed zones table student schools t

-- a list of one at most is its first
pub first-only : (xs : List ℕ) → nat_lt 1 (length xs) ≡ false → option_to_list (slice_get xs 0) ≡ xs
first-only [] short = refl
first-only (x ∷ []) short = refl
first-only (x ∷ y ∷ xs) short = let more : nat_lt 1 (length (x ∷ y ∷ xs)) ≡ true = grind (arith, nat_tests) in cc

module _ (m : Market) (table : List (Option ℕ)) (kept : List (ℕ × List ℕ)) (tabled : (s : ℕ) → slice_index_or table s None ≡ position (nat_eq s) (schools_of m)) where
  -- the position of a school of the papers leads back to it
  school-back : (s : ℕ) → is_school m s ≡ true → slice_index_or (schools_of m) (unwrap_or (slice_index_or table s None) 0) 0 ≡ s
  school-back s known =
      go (position (nat_eq s) (schools_of m)) refl
    where
      go : (o : Option ℕ) → position (nat_eq s) (schools_of m) ≡ o → slice_index_or (schools_of m) (unwrap_or (slice_index_or table s None) 0) 0 ≡ s
      go None none = let missing = found-by_position m.schools s None none in cc
      go (Some at) found =
          ap (λ o. slice_index_or (schools_of m) (unwrap_or o 0) 0) (tabled s ∙ found)
          ∙ get_or_from_slice_get (schools_of m) at s 0 (position-there (schools_of m) s at found)

  -- and so those of a list lead back to the list
  pub schools-back : (list : List ℕ) → All (λ s. is_school m s ≡ true) list → schools_at (schools_of m) (positions_in table list) ≡ list
  schools-back [] known = refl
  schools-back (s ∷ list) known =
      λ t. school-back s (All-head (λ x. is_school m x ≡ true) s list known) t ∷ schools-back list (All-tail (λ x. is_school m x ≡ true) s list known) t

  -- so the row leads back to the student
  entry-back : (i : ℕ) (student : Student) → IsProper m student
      → (nat_lt 1 (length student.siblings) ≡ true → lookup (nat_eq i) kept ≡ Some (positions_in table student.siblings))
      → entry_in (schools_of m) kept (row_of (zone_at m) table i (draw m.seed i) student) ≡ (i, student)
  entry-back i student proper keeps =
      let choices = ap (schools_at (schools_of m)) (positions-classed (zone_at m) table student student.choices) ∙ schools-back student.choices proper.choices_known in
      elim (cases_Bool (nat_lt 1 (length student.siblings))) [
        | inl more ↦
            let own = ap (λ o. schools_at (schools_of m) (unwrap_or o [])) (keeps more) ∙ schools-back student.siblings proper.siblings_known in
            rw more (λ t. (i, record { zone = student.zone; continuing = student.continuing; siblings = own t; choices = choices t }))
        | inr one ↦
            let own = first-only student.siblings one in
            rw one (λ t. (i, record { zone = student.zone; continuing = student.continuing; siblings = own t; choices = choices t }))
      ]

  -- and the rows to the students
  pub entries-back : (es : List (ℕ × Student)) → All (λ e. IsProper m e.1) es → AreKept table kept es → map (entry_in (schools_of m) kept) (rows_of m.seed (zone_at m) table es) ≡ es
  entries-back [] proper keeps = refl
  entries-back ((i, student) ∷ es) proper keeps =
      let own : IsProper m student = All-head (λ (e : ℕ × Student). IsProper m e.1) (i, student) es proper in
      let told : nat_lt 1 (length student.siblings) ≡ true → lookup (nat_eq i) kept ≡ Some (positions_in table student.siblings) =
      All-head (λ (e : ℕ × Student). nat_lt 1 (length e.1.siblings) ≡ true → lookup (nat_eq e.0) kept ≡ Some (positions_in table e.1.siblings)) (i, student) es keeps in
      let rest = entries-back es (All-tail (λ (e : ℕ × Student). IsProper m e.1) (i, student) es proper)
      (All-tail (λ (e : ℕ × Student). nat_lt 1 (length e.1.siblings) ≡ true → lookup (nat_eq e.0) kept ≡ Some (positions_in table e.1.siblings)) (i, student) es keeps) in
      λ t. entry-back i student own told t ∷ rest t

-- the fields are sound, and hold this market
abbrev pub Holds : Inside → Market → Type 0
Holds p m = IsSound p × (market_of p ≡ m)

-- so it is with fields that tell of one
pub holds-shown : (p : Inside) (m : Market) → Shows p m → WellFormed m → WithinLimits m → Holds p m
holds-shown p m shows well within =
    let students : (market_of p).students ≡ m.students =
    rw (shows.schools, shows.rows) (entries-back m p.positions p.siblings.entries shows.positions m.students well.students_proper shows.siblings) in
    let is : market_of p ≡ m = λ t. record { seed = shows.seed t; schools = shows.schools t; students = students t } in (
      record {
        well_formed = rw is well;
        within_limits = rw is within;
        positions = λ s. shows.positions s ∙ sym (ap (λ (n : Market). position (nat_eq s) (schools_of n)) is);
        numbers = shows.numbers ∙ sym (ap students_of is);
        rows = shows.rows ∙ sym (λ t. rows_of (shows.seed t) (zone_at (is t)) p.positions (is t).students);
        siblings = subst (λ (n : Market). AreKept p.positions p.siblings.entries n.students) (sym is) shows.siblings;
        of_students = subst (λ (n : Market). AreOfStudents n p.siblings.entries) (sym is) shows.of_students;
        room = shows.room;
      },
      is,
    )

-- what is kept of all others stays
abbrev pub KeepsOthers : ℕ → List (ℕ × List ℕ) → List (ℕ × List ℕ) → Type 0
KeepsOthers i old new = (q : ℕ) → nat_eq i q ≡ false → lookup (nat_eq q) new ≡ lookup (nat_eq q) old

-- and so it is what is kept of students who are others
pub kept-others : (table : List (Option ℕ)) (i : ℕ) (old new : List (ℕ × List ℕ)) → KeepsOthers i old new → (es : List (ℕ × Student))
    → All (λ e. nat_eq i e.0 ≡ false) es → AreKept table old es → AreKept table new es
kept-others table i old new others es differ keeps = λ k d low more. others _ (differ k d low) ∙ keeps k d low more

-- a number of which nothing is kept is none of those of which something is
distinct-more : {X : Type 0} (i : ℕ) (es : List (ℕ × X)) → lookup (nat_eq i) es ≡ None → IsDistinct nat_eq (keys_of es) → IsDistinct nat_eq (i ∷ keys_of es)
unfolding IsDistinct
distinct-more {X = X} i es none differ = (go es none, differ)
  where
    go : (rest : List (ℕ × X)) → lookup (nat_eq i) rest ≡ None → AllByRecursion (λ y. nat_eq i y ≡ false) (keys_of rest)
    go [] none' = tt
    go (e ∷ rest) none' =
        elim (cases_Bool (nat_eq i e.0)) [
          | inl same ↦ let some : Some e.1 ≡ None = rw same at none' in cc
          | inr other ↦ (other, go rest (rw other at none'))
        ]

-- no more is kept than there are students
module _ (p : Inside) (sound : IsSound p) (differ : IsDistinct nat_eq (keys_of p.siblings.entries)) where
  rows-many : length p.rows.items ≡ length (market_of p).students
  rows-many = sym (length-map p.rows.items (entry_in (schools_of (market_of p)) p.siblings.entries))

  among-students : (q : ℕ) → list_any (nat_eq q) (keys_of p.siblings.entries) ≡ true → is_some (lookup (nat_eq q) (market_of p).students) ≡ true
  among-students q among = sound.of_students q (is_some-lookup (nat_eq q) p.siblings.entries ∙ among)

  pub kept-few : length p.siblings.entries ≤ length p.rows.items
  kept-few =
      let few = length-le_from_keys nat_eq_equiv (keys_of p.siblings.entries) (market_of p).students differ among-students in
      omega (arith, few, rows-many, length-keys_of p.siblings.entries)

  -- and fewer where nothing is kept of one of them
  pub kept-fewer : (i : ℕ) → is_some (lookup (nat_eq i) (market_of p).students) ≡ true → lookup (nat_eq i) p.siblings.entries ≡ None → length p.siblings.entries < length p.rows.items
  kept-fewer i known none =
      let few = length-le_from_keys nat_eq_equiv (i ∷ keys_of p.siblings.entries) (market_of p).students (distinct-more i p.siblings.entries none differ) (λ q among. elim (cases_Bool (nat_eq q i)) [
        | inl same ↦ ap (λ k. is_some (lookup (nat_eq k) (market_of p).students)) (eqb-true q i same) ∙ known
        | inr other ↦ among-students q (sym (ap (λ b. b || list_any (nat_eq q) (keys_of p.siblings.entries)) other) ∙ among)
      ]) in
      omega (arith, few, rows-many, length-keys_of p.siblings.entries)
