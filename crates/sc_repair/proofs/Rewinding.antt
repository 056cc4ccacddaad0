-- The papers after an amendment are alike up to the rewind point, so the segments before it still stand.
use Rattle.std.proofs.Common.{◌≡◌, refl, ap, sym, subst, ◌∙◌, ℕ, zero, suc, ◌+◌, ◌<◌, ◌≤◌, ◌==◌, nat_eq, Bool, true, false, List, [], ◌∷◌, length, Option, Some, None, Contains, take, is_some, ◌-◌, arith}
use Rattle.std.proofs.lemmas.Bool.Decides.{nat_tests}
use Rattle.std.specs.Prelude.{get_or, position}
use Rattle.std.specs.List.{list_any}
use Rattle.std.specs.Map.{lookup, set_value}
use Rattle.std.specs.Option.{option_map_or}
use Rattle.std.proofs.lemmas.Bool.{eqb-true, eq-eqb, false≢true}
use Rattle.std.proofs.lemmas.Cmp.{nat_eq_equiv}
use Rattle.std.proofs.lemmas.Grind.{common_steps}
use Rattle.std.proofs.lemmas.List.{get_or-take, length-map, length-take, length-take-le, take-append-le, take-map, take-take}
use Rattle.std.proofs.lemmas.List.Folds.{list_any_at}
use Rattle.std.proofs.lemmas.List.Sums.{fails_before_first}
use Rattle.std.proofs.lemmas.Map.{keys-set_value, lookup-set_value}
use Rattle.std.proofs.lemmas.Option.{none-some}
use Rattle.sc_papers.specs.Market.{Market, student_of, school_of, students_of, choices_of, seats_of}
use Rattle.sc_papers.specs.Log.{IsSettled}
use Rattle.sc_papers.specs.Restriction.{cut, joined, AlikeUpTo, IsSegmented}
use Rattle.sc_papers.specs.Verdict.{after, with_student, without_student, changed_student, with_seats}
use Rattle.sc_papers.specs.declared.amendment.Amendment.{Amendment}
use Rattle.sc_papers.specs.declared.amendment.Amendment.TheVariants.{Enter, Withdraw, Rerank, Add, Close, Correct}
use Rattle.sc_papers.specs.declared.records.School.{School}
use Rattle.sc_papers.specs.declared.records.Student.{Student}
use Rattle.sc_papers.specs.declared.rejection.Rejection.{Rejection}
use Rattle.sc_papers.proofs.Changing.{put_school, put_student}
use Rattle.sc_papers.proofs.Cutting.{cut-cut, length-students_cut}
use Rattle.sc_papers.proofs.Rewinding.{alike-seats, alike-students, settled-rewound}
use Rattle.sc_papers.proofs.Students.{lister-among}
use Rattle.sc_region.proofs.Changes.{of-changed}
use Rattle.sc_repair.proofs.Positions.{position-within, take-put, take-removed}
use Rattle.sc_repair.specs.Rewinding.{first_to_list, lists, position_of, rewind_point}

-- what a look-up finds among the first entries it finds among all
lookup-take : {X : Type 0} (k i : ℕ) (es : List (ℕ × X)) (x : X) → lookup (nat_eq i) (take k es) ≡ Some x → lookup (nat_eq i) es ≡ Some x
lookup-take zero i es x found = absurd (none-some x found)
lookup-take (suc k) i [] x found = found
lookup-take (suc k) i (e ∷ es) x found = grind (arith, common_steps, found, lookup-take k i es x)

-- who lists a school in papers that are cut lists it in the whole papers
pub listed-cut : (m : Market) (k i s : ℕ) → Contains (choices_of (cut m k) i) s → Contains (choices_of m i) s
unfolding choices_of cut
listed-cut m k i s listed = go (student_of (cut m k) i) refl listed
  where
    go : (found : Option Student) → student_of (cut m k) i ≡ found → Contains (option_map_or (λ student. student.choices) found []) s → Contains (choices_of m i) s
    go None is (j, low, at) = absurd (omega (arith, low))
    go (Some student) is in_list =
        subst (λ found. Contains (option_map_or (λ entry. entry.choices) found []) s) (sym (lookup-take k i m.students student is)) in_list

-- papers that are alike up to k are alike up to each position before it
pub alike-less : (m n : Market) (j k : ℕ) → j ≤ k → AlikeUpTo k m n → AlikeUpTo j m n
alike-less m n j k low alike = record {
  seed = alike.seed;
  students = sym (take-take j k n.students low) ∙ ap (take j) alike.students ∙ take-take j k m.students low;
  zones = alike.zones;
  seats = λ i s listed. alike.seats i s (listed-cut (cut m k) j i s (subst (λ p. Contains (choices_of p i) s) (sym (cut-cut m j k low)) listed));
}

-- rewinding: the segments of the first k students still stand for papers that are alike up to k
pub segments-rewound : (m n : Market) (k : ℕ) → AlikeUpTo k m n → k ≤ length m.students → k ≤ length n.students → (segments : List (List Rejection)) → IsSegmented m segments → IsSegmented (cut n k) (take k segments)
segments-rewound m n k alike low_m low_n segments segmented = record {
  one_each = count ∙ sym (length-students_cut n k (omega (arith, low_n, length-map n.students (λ e. e.0))));
  settled = λ j low. settled_first j (omega (arith, low, count));
}
  where
    enough : k ≤ length segments
    enough = omega (arith, low_m, segmented.one_each, length-map m.students (λ e. e.0))

    count : length (take k segments) ≡ k
    count = length-take-le k segments enough

    settled_first : (j : ℕ) → j ≤ k → IsSettled (cut (cut n k) j) (joined (take j (take k segments)))
    settled_first j low =
        subst (λ p. IsSettled p (joined (take j (take k segments)))) (sym (cut-cut n j k low))
        (subst (λ firsts. IsSettled (cut n j) (joined firsts)) (sym (take-take j k segments low))
        (settled-rewound m n j (joined (take j segments)) (alike-less m n j k low alike) (segmented.settled j (omega (arith, low, enough)))))

-- who lists a school in papers cut at k stands before k
lister-cut : (m : Market) (k i s : ℕ) → Contains (choices_of (cut m k) i) s → (place : ℕ) × (place < k) × (get_or (students_of m) place i ≡ i)
unfolding cut
lister-cut m k i s listed =
    let (place, low, at) = lister-among (cut m k) i s listed in
    let within : place < k = omega (arith, low, length-map (take k m.students) (λ e. e.0), length-take k m.students) in
    (place, within, sym (get_or-take k (students_of m) place i within) ∙ ap (λ is. get_or is place i) (take-map (λ e. e.0) k m.students) ∙ at)

-- a student before the first who lists a school does not list it
unlisted-before : (m : Market) (s i : ℕ) → Contains (choices_of (cut m (first_to_list m s)) i) s → ⊥
unlisted-before m s i listed =
    let (place, low, at) = lister-cut m (first_to_list m s) i s listed in
    let unlisted : lists m s i ≡ false = ap (lists m s) (sym at) ∙ fails_before_first (lists m s) (students_of m) place i low in
    let (choice, within, is) = listed-cut m (first_to_list m s) i s listed in
    false≢true (sym unlisted ∙ list_any_at (λ t. t == s) (choices_of m i) choice s within (eq-eqb (get_or (choices_of m i) choice s) s is))

-- what is asked of a school is the same after a school has changed, where it is the same of that school
pub field-kept : (f : School → ℕ) (s t : ℕ) (v w : School) (es : List (ℕ × School)) → lookup (nat_eq s) es ≡ Some v → (nat_eq s t ≡ true → f w ≡ f v)
    → option_map_or f (lookup (nat_eq t) (set_value (nat_eq s) es w)) 0 ≡ option_map_or f (lookup (nat_eq t) es) 0
field-kept f s t v w es found kept =
    let set = lookup-set_value nat_eq_equiv (nat_eq s) (λ x y same. ap (λ n. nat_eq n y) (eqb-true s x same)) t w es (ap is_some found) in
    grind (arith, nat_tests, common_steps, set, found, kept)

-- papers with other seats for a school
alike-seated : (m : Market) (s seats : ℕ) → AlikeUpTo (first_to_list m s) m (with_seats m s seats)
unfolding seats_of
alike-seated m s seats =
    of-changed (AlikeUpTo (first_to_list m s) m) (school_of m s) _ m (alike-students m m (first_to_list m s) refl refl refl) (λ school is.
    let put : School = record school { seats = seats } in
    alike-seats m (put_school m s put) (first_to_list m s) s refl refl
    (λ t. field-kept (λ found. found.zone) s t school put m.schools is (λ same. refl))
    (λ t apart. field-kept (λ found. found.seats) s t school put m.schools is (λ same. absurd (apart (sym (eqb-true s t same)))))
    (unlisted-before m s))

-- papers with a student changed
alike-changed : (m : Market) (i : ℕ) (change : Student → Student) → AlikeUpTo (position_of m i) m (changed_student m i change)
alike-changed m i change =
    of-changed (AlikeUpTo (position_of m i) m) (student_of m i) _ m (alike-students m m (position_of m i) refl refl refl) (λ student is.
    alike-students m (put_student m i (change student)) (position_of m i) refl refl (take-put (nat_eq i) (position_of m i) m.students (change student) (omega arith)))

-- papers and what an amendment makes of them are alike up to its rewind point
pub alike-after : (m : Market) (a : Amendment) → AlikeUpTo (rewind_point m a) m (after m a)
alike-after m (Enter i zone siblings choices continuing) =
    let student : Student = record { zone = zone; siblings = siblings; choices = choices; continuing = continuing } in
    alike-students m (with_student m i student) (length m.students) refl refl (take-append-le (length m.students) m.students ((i, student) ∷ []) (omega arith))
alike-after m (Withdraw i) = alike-students m (without_student m i) (position_of m i) refl refl (take-removed (nat_eq i) (position_of m i) m.students (omega arith))
alike-after m (Rerank i choices) = alike-changed m i (λ student. record student { choices = choices })
alike-after m (Add s count) = alike-seated m s (seats_of m s + count)
alike-after m (Close s count) = alike-seated m s (seats_of m s - count)
alike-after m (Correct i zone siblings continuing) = alike-changed m i (λ student. record student { zone = zone; siblings = siblings; continuing = continuing })

-- the rewind point is within the papers
pub rewind_within : (m : Market) (a : Amendment) → rewind_point m a ≤ length m.students
rewind_within m (Enter i zone siblings choices continuing) = omega arith
rewind_within m (Withdraw i) = position-within (nat_eq i) m.students
rewind_within m (Rerank i choices) = position-within (nat_eq i) m.students
rewind_within m (Add s count) = position-within (lists m s) m.students
rewind_within m (Close s count) = position-within (lists m s) m.students
rewind_within m (Correct i zone siblings continuing) = position-within (nat_eq i) m.students

-- a change of a student or a school leaves the students' numbers, and so as many
pub students-changed : (m : Market) (i : ℕ) (change : Student → Student) → students_of (changed_student m i change) ≡ students_of m
students-changed m i change = of-changed (λ n. students_of n ≡ students_of m) (student_of m i) _ m refl (λ student is. keys-set_value (nat_eq i) m.students (change student))

pub students-seated : (m : Market) (s seats : ℕ) → students_of (with_seats m s seats) ≡ students_of m
students-seated m s seats = of-changed (λ n. students_of n ≡ students_of m) (school_of m s) _ m refl (λ school is. refl)

-- and within the amended papers
pub rewind-within_after : (m : Market) (a : Amendment) → rewind_point m a ≤ length (after m a).students
rewind-within_after m a =
    let k = rewind_point m a in
    omega (arith, rewind_within m a, ap (λ (es : List (ℕ × Student)). length es) (alike-after m a).students, length-take k m.students, length-take k (after m a).students)

-- the segments before the rewind point still stand after the amendment
pub segments_after : (m : Market) (a : Amendment) (segments : List (List Rejection)) → IsSegmented m segments → IsSegmented (cut (after m a) (rewind_point m a)) (take (rewind_point m a) segments)
segments_after m a = segments-rewound m (after m a) (rewind_point m a) (alike-after m a) (rewind_within m a) (rewind-within_after m a)

-- a list with a position for a test is one that has a member that passes it
some-listed : (test : ℕ → Bool) (xs : List ℕ) → is_some (position test xs) ≡ list_any test xs
some-listed test [] = refl
some-listed test (x ∷ xs) = grind (arith, some-listed test xs, common_steps)

-- a student who has a rank for a school lists it
pub rank-lists : (m : Market) (s i : ℕ) → is_some (position (λ t. t == s) (choices_of m i)) ≡ lists m s i
rank-lists m s i = some-listed (λ t. t == s) (choices_of m i)
