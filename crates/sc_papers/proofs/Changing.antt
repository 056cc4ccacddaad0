-- Papers with a student gone, or with what they hold of a student or of a school changed, stay well-formed and within their
-- limits.
use Rattle.std.proofs.Common.{◌≡◌, ℕ, suc, ◌+◌, ◌≤◌, ◌==◌, nat_eq, Bool, false, List, [], ◌∷◌, length, map, Option, Some, None, refl, sym, ap, ◌∙◌, subst, arith, inl, inr}
use Rattle.std.specs.Prelude.{nat_lt, is_some, position, remove, slice_set}
use Rattle.std.specs.Map.{keys_of, lookup, remove_entry, set_value}
use Rattle.std.specs.List.{All, AllByRecursion, IsDistinct, position_or_len}
use Rattle.std.specs.Option.{IfSome}
use Rattle.std.proofs.lemmas.Bool.{cases_Bool, eqb-true}
use Rattle.std.proofs.lemmas.Bool.Decides.{nat_tests}
use Rattle.std.proofs.lemmas.List.Elements.{All-cons, All-head, All-tail}
use Rattle.std.proofs.lemmas.Map.{keys-set_value, length-set_value}
use Rattle.std.proofs.lemmas.Map.Entries.{All-lookup}
use Rattle.sc_papers.specs.Market.{Market}
use Rattle.sc_papers.specs.Verdict.{first_of, objections_to_rerank, objections_to_correct, without_student}
use Rattle.sc_papers.specs.WellFormed.{WellFormed, WithinLimits, IsProper, IsShort}
use Rattle.sc_papers.specs.declared.records.School.{School}
use Rattle.sc_papers.specs.declared.records.Student.{Student}
use Rattle.sc_papers.specs.declared.amendment.Refusal.TheVariants.{EmptyList}
use Rattle.sc_papers.proofs.Objections.{first_of-none, refuse_if-none, too_long-none, twice_in-none, unknown_in-none, unknown_school-none}
use Rattle.sc_papers.proofs.Entering.{IsProper-known}
use Rattle.sc_papers.specs.declared.seats.TheConstants.Seats.{GREATEST}

-- what holds of each entry, and of the new value, holds of each entry after a change
pub All-set_value : {X : Type 0} (P : ℕ × X → Type 0) (test : ℕ → Bool) (w : X) → ((k : ℕ) → P (k, w))
    → (es : List (ℕ × X)) → All P es → All P (set_value test es w)
All-set_value P test w new [] all = all
All-set_value P test w new (e ∷ es) all =
    elim (cases_Bool (test e.0)) [
      | inl here ↦ rw here (All-cons P (e.0, w) es (new e.0) (All-tail P e es all))
      | inr other ↦ rw other (All-cons P e (set_value test es w) (All-head P e es all) (All-set_value P test w new es (All-tail P e es all)))
    ]

-- and after a removal
pub All-remove_entry : {X : Type 0} (P : ℕ × X → Type 0) (test : ℕ → Bool) (es : List (ℕ × X)) → All P es → All P (remove_entry test es)
All-remove_entry P test [] all = all
All-remove_entry P test (e ∷ es) all =
    elim (cases_Bool (test e.0)) [
      | inl here ↦ rw here (All-tail P e es all)
      | inr other ↦ rw other (All-cons P e (remove_entry test es) (All-head P e es all) (All-remove_entry P test es (All-tail P e es all)))
    ]

-- what holds of each key holds of the keys that are left
keys-remove_entry : {X : Type 0} (P : ℕ → Type 0) (test : ℕ → Bool) (es : List (ℕ × X)) → AllByRecursion P (keys_of es) → AllByRecursion P (keys_of (remove_entry test es))
keys-remove_entry P test [] all = all
keys-remove_entry P test (e ∷ es) all =
    elim (cases_Bool (test e.0)) [
      | inl here ↦ rw here all.1
      | inr other ↦ rw other (all.0, keys-remove_entry P test es all.1)
    ]

-- keys that differ do so after a removal
pub IsDistinct-remove_entry : {X : Type 0} (test : ℕ → Bool) (es : List (ℕ × X)) → IsDistinct nat_eq (keys_of es) → IsDistinct nat_eq (keys_of (remove_entry test es))
unfolding IsDistinct
IsDistinct-remove_entry test [] differ = differ
IsDistinct-remove_entry test (e ∷ es) differ =
    elim (cases_Bool (test e.0)) [
      | inl here ↦ rw here differ.1
      | inr other ↦ rw other (keys-remove_entry (λ y. nat_eq e.0 y ≡ false) test es differ.0, IsDistinct-remove_entry test es differ.1)
    ]

-- a removal adds no entry
pub length-remove_entry : {X : Type 0} (test : ℕ → Bool) (es : List (ℕ × X)) → length (remove_entry test es) ≤ length es
length-remove_entry test [] = omega arith
length-remove_entry test (e ∷ es) =
    elim (cases_Bool (test e.0)) [
      | inl here ↦ rw here (omega arith)
      | inr other ↦ rw other (let fewer = length-remove_entry test es in omega arith)
    ]

remove-suc : {Y : Type 0} (x : Y) (xs : List Y) (m n : ℕ) → m ≡ suc n → remove (x ∷ xs) m ≡ x ∷ remove xs n
remove-suc x xs m n next = rw next refl

-- taking out the place of an entry leaves what stands for the entries that are left
remove-place : {X Y : Type 0} (f : ℕ × X → Y) (test : ℕ → Bool) (es : List (ℕ × X))
    → remove (map f es) (position_or_len test (keys_of es)) ≡ map f (remove_entry test es)
remove-place f test [] = refl
remove-place f test (e ∷ es) =
    elim (cases_Bool (test e.0)) [
      | inl here ↦ rw here refl
      | inr other ↦
          let n = position_or_len test (keys_of es) in
          rw other (remove-suc (f e) (map f es) (1 + n) n (omega arith) ∙ ap (λ rows. f e ∷ rows) (remove-place f test es))
    ]

set-suc : {Y : Type 0} (x : Y) (xs : List Y) (m n : ℕ) (y : Y) → m ≡ suc n → slice_set (x ∷ xs) m y ≡ x ∷ slice_set xs n y
set-suc x xs m n y next = rw next refl

-- putting something else in the place of an entry leaves what stands for the entries after the change
set-place : {X Y : Type 0} (f : ℕ → X → Y) (i : ℕ) (es : List (ℕ × X)) (w : X)
    → slice_set (map (λ e. f e.0 e.1) es) (position_or_len (nat_eq i) (keys_of es)) (f i w) ≡ map (λ e. f e.0 e.1) (set_value (nat_eq i) es w)
set-place f i [] w = refl
set-place f i (e ∷ es) w =
    elim (cases_Bool (nat_eq i e.0)) [
      | inl here ↦ let same : i ≡ e.0 = eqb-true i e.0 here in rw here (ap (λ k. f k w ∷ map (λ x. f x.0 x.1) es) same)
      | inr other ↦
          let n = position_or_len (nat_eq i) (keys_of es) in
          rw other (set-suc (f e.0 e.1) (map (λ x. f x.0 x.1) es) (1 + n) n (f i w) (omega arith) ∙ ap (λ rows. f e.0 e.1 ∷ rows) (set-place f i es w))
    ]

-- the place that a search answers
pub place-found : (test : ℕ → Bool) (ks : List ℕ) (p : ℕ) → Some p ≡ position test ks → p ≡ position_or_len test ks
place-found test ks p found =
    elim (cases_Bool (nat_lt (position_or_len test ks) (length ks))) [
      | inl within ↦ let same : Some p ≡ Some (position_or_len test ks) = rw within at found in cc
      | inr past ↦ let none : Some p ≡ None = rw past at found in cc
    ]

pub remove-found : {X Y : Type 0} (f : ℕ × X → Y) (test : ℕ → Bool) (es : List (ℕ × X)) (p : ℕ) → Some p ≡ position test (keys_of es)
    → remove (map f es) p ≡ map f (remove_entry test es)
remove-found f test es p found = rw (place-found test (keys_of es) p found) (remove-place f test es)

pub set-found : {X Y : Type 0} (f : ℕ → X → Y) (i : ℕ) (es : List (ℕ × X)) (w : X) (p : ℕ) → Some p ≡ position (nat_eq i) (keys_of es)
    → slice_set (map (λ e. f e.0 e.1) es) p (f i w) ≡ map (λ e. f e.0 e.1) (set_value (nat_eq i) es w)
set-found f i es w p found = rw (place-found (nat_eq i) (keys_of es) p found) (set-place f i es w)

-- the same keys are found after a change
pub is_some-set_value : {X : Type 0} (q : ℕ) (test : ℕ → Bool) (w : X) (es : List (ℕ × X)) → is_some (lookup (nat_eq q) (set_value test es w)) ≡ is_some (lookup (nat_eq q) es)
is_some-set_value q test w [] = refl
is_some-set_value q test w (e ∷ es) =
    elim (cases_Bool (test e.0)) [
      | inl here ↦
          elim (cases_Bool (nat_eq q e.0)) [
            | inl same ↦ rw (here, same) refl
            | inr apart ↦ rw (here, apart) refl
          ]
      | inr other ↦
          elim (cases_Bool (nat_eq q e.0)) [
            | inl same ↦ rw (other, same) refl
            | inr apart ↦ rw (other, apart) (is_some-set_value q test w es)
          ]
    ]

-- what holds of each value holds of the one that is found
pub All-found : {X : Type 0} (P : X → Type 0) (i : ℕ) (es : List (ℕ × X)) (x : X) → Some x ≡ lookup (nat_eq i) es → All (λ e. P e.1) es → P x
All-found P i es x found all = subst (λ o. IfSome o P) (sym found) (All-lookup P (nat_eq i) es all)

-- without a student the papers stay well-formed
pub WellFormed-without_student : (m : Market) (i : ℕ) → WellFormed m → WellFormed (without_student m i)
WellFormed-without_student m i formed = record {
  schools_differ = formed.schools_differ;
  students_differ = IsDistinct-remove_entry (nat_eq i) m.students formed.students_differ;
  students_proper =
      let proper = IsProper-known m (without_student m i) (λ s known. known) in
      All-remove_entry (λ (entry : ℕ × Student). IsProper (without_student m i) entry.1) (nat_eq i) m.students
      (λ k d here. proper _ (formed.students_proper k d here));
}

-- and within the limits
pub WithinLimits-without_student : (m : Market) (i : ℕ) → WithinLimits m → WithinLimits (without_student m i)
WithinLimits-without_student m i within = record {
  schools = within.schools;
  seats = within.seats;
  students = let fewer = length-remove_entry (nat_eq i) m.students in let bound = within.students in omega arith;
  lists = All-remove_entry (λ (entry : ℕ × Student). IsShort entry.1) (nat_eq i) m.students within.lists;
}

-- the papers with this in the student's place
abbrev pub put_student : Market → ℕ → Student → Market
put_student m i student = record m { students = set_value (nat_eq i) m.students student }

-- with proper lists in a student's place they stay well-formed
pub WellFormed-put_student : (m : Market) (i : ℕ) (student : Student) → WellFormed m → IsProper m student → WellFormed (put_student m i student)
WellFormed-put_student m i student formed lists = record {
  schools_differ = formed.schools_differ;
  students_differ = rw (keys-set_value (nat_eq i) m.students student) formed.students_differ;
  students_proper =
      let proper = IsProper-known m (put_student m i student) (λ s known. known) in
      All-set_value (λ (entry : ℕ × Student). IsProper (put_student m i student) entry.1) (nat_eq i) student (λ k. proper student lists) m.students
      (λ k d here. proper _ (formed.students_proper k d here));
}

-- and with short ones within the limits
pub WithinLimits-put_student : (m : Market) (i : ℕ) (student : Student) → WithinLimits m → IsShort student → WithinLimits (put_student m i student)
WithinLimits-put_student m i student within short = record {
  schools = within.schools;
  seats = within.seats;
  students = rw (length-set_value (nat_eq i) m.students student) within.students;
  lists = All-set_value (λ (entry : ℕ × Student). IsShort entry.1) (nat_eq i) student (λ k. short) m.students within.lists;
}

-- the papers with this in the school's place
abbrev pub put_school : Market → ℕ → School → Market
put_school m s school = record m { schools = set_value (nat_eq s) m.schools school }

-- with a school changed they stay well-formed
pub WellFormed-put_school : (m : Market) (s : ℕ) (school : School) → WellFormed m → WellFormed (put_school m s school)
WellFormed-put_school m s school formed = record {
  schools_differ = rw (keys-set_value (nat_eq s) m.schools school) formed.schools_differ;
  students_differ = formed.students_differ;
  students_proper =
      let proper = IsProper-known m (put_school m s school) (λ t known. is_some-set_value t (nat_eq s) school m.schools ∙ known) in
      λ k d here. proper _ (formed.students_proper k d here);
}

-- and within the limits
pub WithinLimits-put_school : (m : Market) (s : ℕ) (school : School) → WithinLimits m → school.seats ≤ GREATEST → WithinLimits (put_school m s school)
WithinLimits-put_school m s school within seats = record {
  schools = rw (length-set_value (nat_eq s) m.schools school) within.schools;
  seats = All-set_value (λ (entry : ℕ × School). entry.1.seats ≤ GREATEST) (nat_eq s) school (λ k. seats) m.schools within.seats;
  students = within.students;
  lists = within.lists;
}

-- nothing said against the choices, they may stand in the old ones' place
pub IsProper-reranked : (m : Market) (i : ℕ) (student : Student) (choices : List ℕ) → first_of (objections_to_rerank m i choices) ≡ None
    → IsProper m student → IsProper m (record student { choices = choices })
IsProper-reranked m i student choices allowed proper =
    let none = first_of-none (objections_to_rerank m i choices) allowed in
    let some : (length choices == 0) ≡ false = refuse_if-none (length choices == 0) EmptyList none.1.0 in
    record {
      choices_some = grind (arith, nat_tests);
      choices_known = unknown_in-none m choices none.1.1.1.0;
      choices_differ = twice_in-none choices none.1.1.1.1.0;
      siblings_known = proper.siblings_known;
      siblings_differ = proper.siblings_differ;
      continuing_known = proper.continuing_known;
    }

pub IsShort-reranked : (m : Market) (i : ℕ) (student : Student) (choices : List ℕ) → first_of (objections_to_rerank m i choices) ≡ None
    → IsShort student → IsShort (record student { choices = choices })
IsShort-reranked m i student choices allowed short =
    let none = first_of-none (objections_to_rerank m i choices) allowed in
    record { choices = too_long-none choices none.1.1.0; siblings = short.siblings }

-- nothing said against the circumstances, they may stand in the old ones' place
pub IsProper-corrected : (m : Market) (i : ℕ) (student : Student) (zone : ℕ) (siblings : List ℕ) (continuing : Option ℕ) → first_of (objections_to_correct m i siblings continuing) ≡ None
    → IsProper m student → IsProper m (record student { zone = zone; siblings = siblings; continuing = continuing })
IsProper-corrected m i student zone siblings continuing allowed proper =
    let none = first_of-none (objections_to_correct m i siblings continuing) allowed in
    record {
      choices_some = proper.choices_some;
      choices_known = proper.choices_known;
      choices_differ = proper.choices_differ;
      siblings_known = unknown_in-none m siblings none.1.1.0;
      siblings_differ = twice_in-none siblings none.1.1.1.1.0;
      continuing_known = unknown_school-none m continuing none.1.1.1.0;
    }

pub IsShort-corrected : (m : Market) (i : ℕ) (student : Student) (zone : ℕ) (siblings : List ℕ) (continuing : Option ℕ) → first_of (objections_to_correct m i siblings continuing) ≡ None
    → IsShort student → IsShort (record student { zone = zone; siblings = siblings; continuing = continuing })
IsShort-corrected m i student zone siblings continuing allowed short =
    let none = first_of-none (objections_to_correct m i siblings continuing) allowed in
    record { choices = short.choices; siblings = too_long-none siblings none.1.0 }
