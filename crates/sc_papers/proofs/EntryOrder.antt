-- A student who moves in the order of entry, and back; and two who change places.
use Rattle.std.proofs.Common.{map, ◌≡◌, ℕ, zero, suc, ◌+◌, ◌-◌, ◌<◌, ◌≤◌, nat_eq, List, [], ◌∷◌, ◌++◌, length, take, insert, remove, slice_get, swap, Option, Some, None, IsPermutation, true, refl, sym, ap, subst, ◌∙◌, arith, inl, inr}
use Rattle.std.specs.Prelude.{is_some, nat_lt}
use Rattle.std.specs.Option.{option_map_or}
use Rattle.std.specs.Map.{keys_of, lookup, remove_entry}
use Rattle.std.specs.List.{position_or_len}
use Rattle.std.proofs.Math.Seq.{take-append_seam}
use Rattle.std.proofs.lemmas.Bool.{cases_Bool, cond-true, eq-eqb, eqb-true}
use Rattle.std.proofs.lemmas.Cmp.{nat_eq_equiv}
use Rattle.std.proofs.lemmas.List.{length-map}
use Rattle.std.proofs.lemmas.List.Sorted.{All-permutation, IsPermutation-insert, IsPermutation-map, IsPermutation-refl, IsPermutation-remove, IsPermutation-swap, IsPermutation-trans, length_permutation}
use Rattle.std.proofs.lemmas.Map.{lookup-remove_entry}
use Rattle.std.proofs.lemmas.Map.Keys.{IsDistinct-IsPermutation}
use Rattle.std.proofs.lemmas.Option.{get_or_from_slice_get, slice_get_within}
use Rattle.indexmap.specs.IndexMap.{move_index}
use Rattle.indexmap.proofs.RemoveLemmas.{moved_last}
use Rattle.sc_lottery.specs.Draw.{draw}
use Rattle.sc_papers.specs.EntryOrder.{with_moved_student, with_swapped_students}
use Rattle.sc_papers.specs.Market.{Market, is_student, student_of, students_of, zone_at}
use Rattle.sc_papers.specs.Restriction.{cut}
use Rattle.sc_papers.specs.Representation.{IsSound, market_of}
use Rattle.sc_papers.specs.StudentRow.{positions_in, row_of}
use Rattle.sc_papers.specs.WellFormed.{IsProper, IsShort, WellFormed, WithinLimits}
use Rattle.sc_papers.specs.declared.flat_papers.FlatPapers.TheInside.{Inside}
use Rattle.sc_papers.specs.declared.records.Student.{Student}
use Rattle.sc_papers.specs.Verdict.{objections_to_withdraw, verdict, without_student}
use Rattle.sc_papers.specs.declared.amendment.Amendment.TheVariants.{Withdraw}
use Rattle.sc_papers.proofs.Entering.{IsProper-known}
use Rattle.sc_papers.proofs.Objections.{first_of-none}
use Rattle.sc_papers.proofs.Reordering.{lookup-reordered}
use Rattle.sc_papers.proofs.Representation.{holds-shown, Holds}
use Rattle.sc_papers.proofs.TakingBack.{known-student, remove-last}

-- what a move makes of an item that is there
pub moved-there : {X : Type 0} (xs : List X) (from to : ℕ) (x : X) → slice_get xs from ≡ Some x → move_index xs from to ≡ insert (remove xs from) to x
moved-there xs from to x there = ap (λ o. option_map_or (λ y. insert (remove xs from) to y) o xs) there

-- the same items, in another order
pub moved-items : {X : Type 0} (xs : List X) (from to : ℕ) → IsPermutation xs (move_index xs from to)
moved-items {X = X} xs from to = go (slice_get xs from) refl
  where
    go : (found : Option X) → slice_get xs from ≡ found → IsPermutation xs (move_index xs from to)
    go None none = subst (IsPermutation xs) (sym (ap (λ o. option_map_or (λ y. insert (remove xs from) to y) o xs) none)) (IsPermutation-refl xs)
    go (Some x) there =
        subst (IsPermutation xs) (sym (moved-there xs from to x there))
        (IsPermutation-trans xs (x ∷ remove xs from) (insert (remove xs from) to x)
        (IsPermutation-remove xs from x (slice_get_within xs from x there) (sym (get_or_from_slice_get xs from x x there)))
        (IsPermutation-insert (remove xs from) to x))

-- papers with the same students in another order
abbrev reordered : Market → List (ℕ × Student) → Market
reordered m students = record m { students = students }

-- well-formed
WellFormed-reordered : (m : Market) (students : List (ℕ × Student)) → IsPermutation m.students students → WellFormed m → WellFormed (reordered m students)
WellFormed-reordered m students moved formed = record {
  schools_differ = formed.schools_differ;
  students_differ = IsDistinct-IsPermutation nat_eq nat_eq_equiv.symm (keys_of m.students) (keys_of students) (IsPermutation-map (λ e. e.0) m.students students moved) formed.students_differ;
  students_proper =
      let proper = IsProper-known m (reordered m students) (λ s known. known) in
      All-permutation (λ (entry : ℕ × Student). IsProper (reordered m students) entry.1) m.students students moved (λ k d here. proper _ (formed.students_proper k d here));
}

pub WellFormed-swapped : (m : Market) (a b : ℕ) → a < length m.students → b < length m.students → WellFormed m → WellFormed (with_swapped_students m a b)
WellFormed-swapped m a b low high formed = WellFormed-reordered m (swap m.students a b) (IsPermutation-swap m.students (swap m.students a b) a b low high refl) formed

-- and within the limits
WithinLimits-reordered : (m : Market) (students : List (ℕ × Student)) → IsPermutation m.students students → WithinLimits m → WithinLimits (reordered m students)
WithinLimits-reordered m students moved within = record {
  schools = within.schools;
  seats = within.seats;
  students = let same = length_permutation m.students students moved in let bound = within.students in omega arith;
  lists = All-permutation (λ (entry : ℕ × Student). IsShort entry.1) m.students students moved within.lists;
}

-- what is kept of a student
abbrev Keeps : Inside → ℕ × Student → Type 0
Keeps p e = nat_lt 1 (length e.1.siblings) ≡ true → lookup (nat_eq e.0) p.siblings.entries ≡ Some (positions_in p.positions e.1.siblings)

-- the same students are known
moved-known : (m : Market) (students : List (ℕ × Student)) (q : ℕ) → IsPermutation m.students students → WellFormed m → is_student m q ≡ true → is_student (reordered m students) q ≡ true
moved-known m students q moved well known =
    ap is_some (lookup-reordered m.students students moved well.students_differ q) ∙ known

-- the fields of the type `FlatPapers` stay sound where students stand in another order, and what stands at their positions too
pub holds-reordered : (old new : Inside) (students : List (ℕ × Student)) → IsPermutation (market_of old).students students → IsSound old
    → new.lottery ≡ old.lottery → new.schools ≡ old.schools → new.positions ≡ old.positions → new.numbers ≡ map (λ e. e.0) students
    → new.rows.items ≡ map (λ e. row_of (zone_at (market_of old)) old.positions e.0 (draw old.lottery e.0) e.1) students → new.siblings ≡ old.siblings
    → Holds new (reordered (market_of old) students)
holds-reordered old new students moved sound seed schools positions numbers rows siblings =
    let m = market_of old in
    let row = λ (e : ℕ × Student). row_of (zone_at m) old.positions e.0 (draw old.lottery e.0) e.1 in
    holds-shown new (reordered m students) (record {
      seed = seed;
      schools = rw schools refl;
      positions = rw positions sound.positions;
      numbers = numbers;
      rows = rows ∙ rw positions refl;
      siblings = rw (positions, siblings) (All-permutation (Keeps old) m.students students moved sound.siblings);
      of_students = rw siblings (λ q known. moved-known m students q moved sound.well_formed (sound.of_students q known));
      room = rw siblings (omega (arith, sound.room, ap length sound.rows, ap length rows, length-map m.students row, length-map students row, length_permutation m.students students moved));
    }) (WellFormed-reordered m students moved sound.well_formed) (WithinLimits-reordered m students moved sound.within_limits)

-- what is put in at a place stands there
inserted-there : {X : Type 0} (ys : List X) (at : ℕ) (x : X) → at ≤ length ys → slice_get (insert ys at x) at ≡ Some x
inserted-there [] zero x low = refl
inserted-there [] (suc at) x low = absurd (omega (arith, low))
inserted-there (y ∷ ys) zero x low = refl
inserted-there (y ∷ ys) (suc at) x low = inserted-there ys at x (omega (arith, low))

-- and taken out there it leaves the others
inserted-removed : {X : Type 0} (ys : List X) (at : ℕ) (x : X) → at ≤ length ys → remove (insert ys at x) at ≡ ys
inserted-removed [] zero x low = refl
inserted-removed [] (suc at) x low = absurd (omega (arith, low))
inserted-removed (y ∷ ys) zero x low = refl
inserted-removed (y ∷ ys) (suc at) x low = ap (λ rest. y ∷ rest) (inserted-removed ys at x (omega (arith, low)))

-- what is taken out comes back where it stood
pub removed-inserted : {X : Type 0} (xs : List X) (at : ℕ) (x : X) → slice_get xs at ≡ Some x → insert (remove xs at) at x ≡ xs
removed-inserted [] at x there = cc
removed-inserted (y ∷ xs) zero x there = let same : Some y ≡ Some x = there in let is : y ≡ x = cc in rw is refl
removed-inserted (y ∷ xs) (suc at) x there = ap (λ rest. y ∷ rest) (removed-inserted xs at x there)

length-taken_out : {X : Type 0} (xs : List X) (at : ℕ) (x : X) → slice_get xs at ≡ Some x → length (remove xs at) + 1 ≡ length xs
length-taken_out [] at x there = cc
length-taken_out (y ∷ xs) zero x there = omega arith
length-taken_out (y ∷ xs) (suc at) x there = let rest = length-taken_out xs at x there in omega (arith, rest)

-- a move there and back
moved-back : {X : Type 0} (xs : List X) (from to : ℕ) (x : X) → slice_get xs from ≡ Some x → to < length xs → move_index (move_index xs from to) to from ≡ xs
moved-back xs from to x there low =
    let within : to ≤ length (remove xs from) = omega (arith, low, length-taken_out xs from x there) in
    ap (λ ys. move_index ys to from) (moved-there xs from to x there)
    ∙ moved-there (insert (remove xs from) to x) to from x (inserted-there (remove xs from) to x within)
    ∙ ap (λ ys. insert ys from x) (inserted-removed (remove xs from) to x within)
    ∙ removed-inserted xs from x there

-- the entry of a number that is there stands at its place
get-next : {X : Type 0} (x : X) (xs : List X) (m n : ℕ) → m ≡ suc n → slice_get (x ∷ xs) m ≡ slice_get xs n
get-next x xs m n next = rw next refl

remove-next : {X : Type 0} (x : X) (xs : List X) (m n : ℕ) → m ≡ suc n → remove (x ∷ xs) m ≡ x ∷ remove xs n
remove-next x xs m n next = rw next refl

pub entry-there : {X : Type 0} (i : ℕ) (x : X) (es : List (ℕ × X)) → lookup (nat_eq i) es ≡ Some x → slice_get es (position_or_len (nat_eq i) (keys_of es)) ≡ Some (i, x)
entry-there i x [] found = cc
entry-there i x (e ∷ es) found =
    elim (cases_Bool (nat_eq i e.0)) [
      | inl here ↦
          let some : Some e.1 ≡ Some x = rw here at found in
          let value : e.1 ≡ x = cc in
          let own : e.0 ≡ i = sym (eqb-true i e.0 here) in
          rw here (λ t. Some (own t, value t))
      | inr other ↦
          let n = position_or_len (nat_eq i) (keys_of es) in
          rw other (get-next e es (1 + n) n (omega arith) ∙ entry-there i x es (rw other at found))
    ]

-- and taken out there, it leaves the entries of the others
removed-there : {X : Type 0} (i : ℕ) (es : List (ℕ × X)) → remove es (position_or_len (nat_eq i) (keys_of es)) ≡ remove_entry (nat_eq i) es
removed-there i [] = refl
removed-there i (e ∷ es) =
    elim (cases_Bool (nat_eq i e.0)) [
      | inl here ↦ rw here refl
      | inr other ↦
          let n = position_or_len (nat_eq i) (keys_of es) in
          rw other (remove-next e es (1 + n) n (omega arith) ∙ ap (λ rest. e ∷ rest) (removed-there i es))
    ]

-- a student who may withdraw goes last
module _ (m : Market) (i : ℕ) (well : WellFormed m) (allowed : verdict m (Withdraw i) ≡ None) where
  abbrev place : ℕ
  place = position_or_len (nat_eq i) (students_of m)

  abbrev moved : Market
  moved = with_moved_student m place (length m.students - 1)

  known : (student : Student) × (student_of m i ≡ Some student)
  known = known-student m i (first_of-none (objections_to_withdraw m i) allowed).0

  there : slice_get m.students place ≡ Some (i, known.0)
  there = entry-there i known.0 m.students known.1

  pub last-within : position_or_len (nat_eq i) (students_of m) < length m.students
  last-within = slice_get_within m.students place (i, known.0) there

  last-students : moved.students ≡ remove_entry (nat_eq i) m.students ++ (i, known.0) ∷ []
  last-students = moved_last m.students place (i, known.0) there ∙ ap (λ es. es ++ (i, known.0) ∷ []) (removed-there i m.students)

  fewer : length (remove_entry (nat_eq i) m.students) ≡ length m.students - 1
  fewer = omega (arith, length-taken_out m.students place (i, known.0) there, ap (λ (es : List (ℕ × Student)). length es) (removed-there i m.students))

  -- before the student all others stand in their order
  pub last-others : cut (with_moved_student m (position_or_len (nat_eq i) (students_of m)) (length m.students - 1)) (length m.students - 1) ≡ without_student m i
  unfolding cut
  last-others =
      let others : take (length m.students - 1) moved.students ≡ remove_entry (nat_eq i) m.students =
      (λ t. take (sym fewer t) (last-students t)) ∙ take-append_seam (remove_entry (nat_eq i) m.students) ((i, known.0) ∷ []) in
      (λ t. let n : Market = record m { students = others t } in n)

  -- who then are left without the student
  pub last-withdrawn : without_student (with_moved_student m (position_or_len (nat_eq i) (students_of m)) (length m.students - 1)) i ≡ without_student m i
  last-withdrawn =
      let gone : lookup (nat_eq i) (remove_entry (nat_eq i) m.students) ≡ None =
      lookup-remove_entry nat_eq_equiv (nat_eq i) (nat_eq_equiv.congr i) i m.students well.students_differ ∙ cond-true (nat_eq i i) None (student_of m i) (eq-eqb i i refl) in
      let others : remove_entry (nat_eq i) moved.students ≡ remove_entry (nat_eq i) m.students =
      ap (remove_entry (nat_eq i)) last-students ∙ remove-last i known.0 (remove_entry (nat_eq i) m.students) gone in
      (λ t. let n : Market = record m { students = others t } in n)

  -- and the student goes back
  pub last-back : with_moved_student (with_moved_student m (position_or_len (nat_eq i) (students_of m)) (length m.students - 1)) (length m.students - 1) (position_or_len (nat_eq i) (students_of m)) ≡ m
  last-back =
      let back = moved-back m.students place (length m.students - 1) (i, known.0) there (omega (arith, last-within)) in
      (λ t. let n : Market = record m { students = back t } in n)
