-- The region is found among students of whom it is known that they have all of it.
use Rattle.std.proofs.Common.{◌≡◌, ◌↔◌, ◌==◌, inl, inr, ◌<◌, ap, refl, subst, sym, ◌∙◌, ℕ, List, [], ◌∷◌, length, map, Bool, true, Some, None, Contains, Global, Vec, filter, slice_get, arith, false}
use Rattle.std.proofs.lemmas.Bool.{eqb-true, eq-eqb, cases_Bool, cond-false, cond-true}
use Rattle.std.proofs.lemmas.Map.Entries.{length-keys_of}
use Rattle.std.proofs.lemmas.Option.{slice_get_within}
use Rattle.sc_papers.specs.Market.{Market, is_student, schools_of, student_at, students_of, choices_of, is_school}
use Rattle.sc_papers.specs.Verdict.{verdict}
use Rattle.sc_papers.specs.WellFormed.{WellFormed}
use Rattle.sc_papers.specs.declared.amendment.Amendment.{Amendment}
use Rattle.sc_papers.proofs.Choices.{contains-at, place-of}
use Rattle.sc_papers.proofs.Counting.{contains-cons, contains-head, contains-tail}
use Rattle.sc_papers.proofs.Hands.{hand-is, hand-student}
use Rattle.sc_papers.proofs.Positions.{among-student, student-among}
use Rattle.sc_region.specs.Groups.{first_choice, group_of, is_member, joined_students, position_of, schools_of_group, positions_in, start_of, students_at, widened, joined_list, new_choices}
use Rattle.sc_region.specs.Districts.{AreDistricts, AreSearchedFrom, AreWidened, DistrictsView, firsts_at, lists_in}
use Rattle.sc_region.specs.Region.{InRegion}
use Rattle.sc_region.specs.Telling.{AreOfRegion, HeldTogether}
use Rattle.std.specs.List.Sorted.{IsStrictlyIncreasing}
use Rattle.std.specs.Prelude.{slice_index, if◌then◌else◌}
use Rattle.std.proofs.lemmas.List.Kept.{IsStrictlyIncreasing-filter}
use Rattle.std.specs.List.{range_with_len}
use Rattle.std.proofs.lemmas.List.{length-map}
use Rattle.sc_region.specs.declared.first.First.{First}
use Rattle.sc_region.proofs.Firsts.{names}
use Rattle.sc_region.proofs.Filtering.{filter-among, filter-kept}
use Rattle.sc_region.proofs.Joining.{first-known, joined-partial, position-within, AreWhole, grouped-together, joined-together, list-coarser}
use Rattle.sc_region.proofs.Reaching.{in-member, partial-in, students-tell, TellRegion, new-together, region_groups, widened-coarser}
use Rattle.sc_region.proofs.Rising.{range-from, range-rising, range-there}
use Rattle.sc_papers.proofs.Students.{choice-known, lister-among}
use Rattle.sc_region.proofs.Changes.{new-known, start-known}
use Rattle.sc_region.proofs.Roots.{joined-nothing}

-- what stands in a list stands, mapped, in the mapped one
map-kept : (f : ℕ → ℕ) (xs : List ℕ) (x : ℕ) → Contains xs x → Contains (map f xs) (f x)
map-kept f [] x (k, low, at) = absurd (omega (arith, low))
map-kept f (y ∷ xs) x among = elim (contains-cons y xs x among) [
  | inl same ↦ subst (λ z. Contains (f y ∷ map f xs) (f z)) same (contains-head (f y) (map f xs))
  | inr later ↦ contains-tail (f y) (map f xs) (f x) (map-kept f xs x later)
]

-- and the other way round
map-among : (f : ℕ → ℕ) (xs : List ℕ) (y : ℕ) → Contains (map f xs) y → (x : ℕ) × Contains xs x × (f x ≡ y)
map-among f [] y (k, low, at) = absurd (omega (arith, low))
map-among f (x ∷ xs) y among = elim (contains-cons (f x) (map f xs) y among) [
  | inl same ↦ (x, contains-head x xs, same)
  | inr later ↦ let (z, there, is) = map-among f xs y later in (z, contains-tail x xs z there, is)
]

-- whoever stands at some positions is in the papers
pub at-known : (m : Market) (positions : List ℕ) → ((p : ℕ) → Contains positions p → p < length (students_of m)) → (i : ℕ) → Contains (students_at m positions) i → is_student m i ≡ true
at-known m positions within i among =
    let (p, there, is) = map-among (student_at m) positions i among in
    subst (λ j. is_student m j ≡ true) is (hand-student m p (omega (arith, within p there, length-keys_of m.students)))

-- positions that have all of some students have each of them
pub listed-student : (m : Market) (positions : List ℕ) (Of : ℕ → Type 0) → ((p : ℕ) → p < length (students_of m) → Of (student_at m p) → Contains positions p)
    → (i : ℕ) → Contains (students_of m) i → Of i → Contains (students_at m positions) i
listed-student m positions Of all i there its =
    let (p, here) = place-of (students_of m) i there in
    let own : student_at m p ≡ i = hand-is m p i here in
    subst (Contains (students_at m positions)) own (map-kept (student_at m) positions p (all p (slice_get_within (students_of m) p i here) (subst Of (sym own) its)))

-- the lists of students at positions that have all of the region tell it
pub enough-tell : (m : Market) (a : Amendment) → WellFormed m → verdict m a ≡ None → (positions : List ℕ) → ((p : ℕ) → Contains positions p → p < length (students_of m))
    → ((p : ℕ) → p < length (students_of m) → InRegion m a (student_at m p) → Contains positions p) → TellRegion m a (widened m a (joined_students m (students_at m positions)))
enough-tell m a well allowed positions within enough =
    students-tell m a well allowed (students_at m positions) (at-known m positions within) (λ i inside known. listed-student m positions (InRegion m a) enough i (student-among m i known) inside)

-- of rising positions that have all of the region, those that the groups tell are the region's
module _ (m : Market) (a : Amendment) (groups : List ℕ) (tell : TellRegion m a groups) (positions : List ℕ) (rising : IsStrictlyIncreasing positions)
    (within : (p : ℕ) → Contains positions p → p < length (students_of m)) (enough : (p : ℕ) → p < length (students_of m) → InRegion m a (student_at m p) → Contains positions p) where
  abbrev told : ℕ → Bool
  told q = is_member m groups (group_of m groups (start_of m a)) (student_at m q)

  positions-exact : (p i : ℕ) → slice_get (students_of m) p ≡ Some i → (Contains (filter told positions) p ↔ InRegion m a i)
  positions-exact p i here = (to, from)
    where
      own : student_at m p ≡ i
      own = hand-is m p i here

      known : is_student m i ≡ true
      known = among-student m i (contains-at (students_of m) p i here)

      to : Contains (filter told positions) p → InRegion m a i
      to among = (tell i known).0 (ap (λ j. is_member m groups (group_of m groups (start_of m a)) j) (sym own) ∙ (filter-among told positions p among).1)

      from : InRegion m a i → Contains (filter told positions) p
      from inside =
          filter-kept told positions p (enough p (slice_get_within (students_of m) p i here) (subst (InRegion m a) (sym own) inside))
          (ap (λ j. is_member m groups (group_of m groups (start_of m a)) j) own ∙ (tell i known).1 inside)

  pub region-told : (at : ℕ) → at ≡ position_of m (start_of m a) → (numbers found : List ℕ) (group : ℕ) → numbers ≡ groups → group ≡ slice_index groups at
      → found ≡ positions_in m numbers group positions → AreOfRegion m a found
  unfolding positions_in
  region-told at its numbers found group same own are =
      subst (AreOfRegion m a) (sym (are ∙ (λ t. positions_in m (same t) ((own ∙ ap (slice_index groups) its) t) positions))) (record {
        rising = IsStrictlyIncreasing-filter told positions rising;
        within = λ p among. omega (arith, within p (filter-among told positions p among).0, length-keys_of m.students);
        exact = positions-exact;
      })

-- no list leaves its district, so the region lies in the widened one to begin with
district-near : (m : Market) (a : Amendment) → WellFormed m → (d : DistrictsView) → AreWidened m a d → (group : ℕ) → group ≡ group_of m d.groups (start_of m a)
    → (i : ℕ) → InRegion m a i → is_student m i ≡ true → group_of m d.groups (first_choice m i) ≡ group
district-near m a well d before group its i inside known =
    subst (λ gs. group_of m gs (first_choice m i) ≡ group_of m gs (start_of m a)) before.joined
    (in-member m a well before.allowed d.groups before.districts.one_each (λ j. Unit {0}) (λ j s of listed. before.districts.closed j s listed) (λ j within. tt) i inside known)
    ∙ sym its

-- the positions of the schools of a group
pub position-among : (groups : List ℕ) (group at : ℕ) → Contains (schools_of_group groups group) at → (at < length groups) × (slice_index groups at ≡ group)
unfolding schools_of_group
position-among groups group at among =
    let (there, passes) = filter-among (λ q. slice_index groups q == group) (range_with_len 0 (length groups)) at among in
    (omega (arith, (range-from 0 (length groups) at there).1), eqb-true _ _ passes)

pub position-kept : (groups : List ℕ) (group at : ℕ) → at < length groups → slice_index groups at ≡ group → Contains (schools_of_group groups group) at
unfolding schools_of_group
position-kept groups group at low is = filter-kept (λ q. slice_index groups q == group) (range_with_len 0 (length groups)) at (range-there 0 (length groups) at (omega arith) (omega (arith, low))) (eq-eqb _ _ is)

-- each is that of a school of the papers, and has a list of students
pub position-low : (m : Market) (d : DistrictsView) → AreDistricts m d → (schools : List ℕ) (group at : ℕ) → schools ≡ schools_of_group d.groups group → Contains schools at → at < length (schools_of m)
position-low m d districts schools group at are among = omega (arith, (position-among d.groups group at (subst (λ xs. Contains xs at) are among)).0, districts.one_each)

pub position-listed : (m : Market) (d : DistrictsView) → AreDistricts m d → (lists : List (Vec First Global)) → lists_in lists ≡ d.firsts → (at : ℕ) → at < length (schools_of m) → at < length lists
position-listed m d districts lists are at low = omega (arith, low, districts.firsts_each, ap length are, length-map lists names)

-- the widened districts tell the region, where the lists of a few hold the one to begin with together
pub held-tell : (m : Market) (a : Amendment) → WellFormed m → (d : DistrictsView) → AreWidened m a d → (at : ℕ) → at ≡ position_of m (start_of m a)
    → (schools : List ℕ) → schools ≡ schools_of_group d.groups (slice_index d.groups at) → HeldTogether m schools at → TellRegion m a d.groups
unfolding is_member
held-tell m a well d before at its schools are held i known = (to, from)
  where
    first : ℕ
    first = first_choice m i

    low : position_of m first < length d.groups
    low = omega (arith, (position-within m first (first-known m well i known)).0, before.districts.one_each)

    to : is_member m d.groups (group_of m d.groups (start_of m a)) i ≡ true → InRegion m a i
    to passes =
        let own : slice_index d.groups (position_of m first) ≡ slice_index d.groups at = eqb-true _ _ passes ∙ ap (slice_index d.groups) (sym its) in
        let here = subst (λ xs. Contains xs (position_of m first)) (sym are) (position-kept d.groups (slice_index d.groups at) (position_of m first) low own) in
        partial-in m a well before.allowed (joined_students m (students_at m held.few)) (joined-partial m well a (students_at m held.few) (at-known m held.few held.within)) i (student-among m i known)
        (held.together (position_of m first) here ∙ ap (slice_index (joined_students m (students_at m held.few))) its)

    from : InRegion m a i → is_member m d.groups (group_of m d.groups (start_of m a)) i ≡ true
    from inside = eq-eqb _ _ (district-near m a well d before (group_of m d.groups (start_of m a)) refl i inside known)

-- districts, the schools of the one to begin with, and rising positions of students: of all whose first choice is in that one, and so of all of the region
pub record HasDistrict (m : Market) (a : Amendment) (d : DistrictsView) (start : ℕ) (schools positions : List ℕ) : Type 0 where
  pub before : AreWidened m a d
  pub low : start < length d.groups
  pub schools_are : schools ≡ schools_of_group d.groups (slice_index d.groups start)
  pub rising : IsStrictlyIncreasing positions
  pub within : (p : ℕ) → Contains positions p → p < length (students_of m)
  pub all : (p : ℕ) → p < length (students_of m) → group_of m d.groups (first_choice m (student_at m p)) ≡ slice_index d.groups start → Contains positions p
  pub enough : (p : ℕ) → p < length (students_of m) → InRegion m a (student_at m p) → Contains positions p

-- those of the students who are listed there are such
pub listed-district : (m : Market) (a : Amendment) → WellFormed m → (d now : DistrictsView) → d ≡ now → (start : ℕ) → AreSearchedFrom m a now start
    → (schools : List ℕ) → schools ≡ schools_of_group now.groups (slice_index now.groups start) → (found positions : List ℕ) → positions ≡ found → IsStrictlyIncreasing found
    → ((p : ℕ) → Contains found p → p < length (students_of m))
    → ((at p : ℕ) → Contains schools at → p < length (students_of m) → Contains (firsts_at d.firsts at) (student_at m p) → Contains found p)
    → HasDistrict m a d start schools positions
listed-district m a well d now view start searched schools are found positions same rising within listed = subst (HasDistrict m a d start schools) (sym same) (record {
  before = before;
  low = omega (arith, searched.within, before.districts.one_each);
  schools_are = schools_are;
  rising = rising;
  within = within;
  all = all;
  enough = λ p low inside. all p low (district-near m a well d before (slice_index d.groups start) (ap (slice_index d.groups) searched.start) (student_at m p) inside (known p low));
})
  where
    before : AreWidened m a d
    before = subst (AreWidened m a) (sym view) searched.widened

    schools_are : schools ≡ schools_of_group d.groups (slice_index d.groups start)
    schools_are = are ∙ ap (λ (v : DistrictsView). schools_of_group v.groups (slice_index v.groups start)) (sym view)

    known : (p : ℕ) → p < length (students_of m) → is_student m (student_at m p) ≡ true
    known p low = hand-student m p (omega (arith, low, length-keys_of m.students))

    all : (p : ℕ) → p < length (students_of m) → group_of m d.groups (first_choice m (student_at m p)) ≡ slice_index d.groups start → Contains found p
    all p low here =
        let at = position_of m (first_choice m (student_at m p)) in
        let there = (position-within m (first_choice m (student_at m p)) (first-known m well (student_at m p) (known p low))).0 in
        listed at p (subst (λ xs. Contains xs at) (sym schools_are) (position-kept d.groups (slice_index d.groups start) at (omega (arith, there, before.districts.one_each)) here)) low
        (before.districts.listed (student_at m p) (student-among m (student_at m p) (known p low)))

-- groups that tell the region tell it of all students
pub all-told : (m : Market) (a : Amendment) (groups : List ℕ) → TellRegion m a groups → (at : ℕ) → at ≡ position_of m (start_of m a) → (numbers found : List ℕ) (group : ℕ) → numbers ≡ groups → group ≡ slice_index groups at
    → found ≡ positions_in m numbers group (range_with_len 0 (length (students_of m))) → AreOfRegion m a found
all-told m a groups tell =
    region-told m a groups tell (range_with_len 0 (length (students_of m))) (range-rising 0 (length (students_of m)))
    (λ p among. omega (arith, (range-from 0 (length (students_of m)) p among).1)) (λ p low inside. range-there 0 (length (students_of m)) p (omega arith) (omega (arith, low)))

-- Districts whose groups are made anew.

-- to join what is together changes nothing
list-nothing : (m : Market) (f : ℕ) (groups list : List ℕ) → ((s : ℕ) → Contains list s → group_of m groups s ≡ group_of m groups f) → joined_list m f groups list ≡ groups
unfolding joined_list
list-nothing m f groups [] together = refl
list-nothing m f groups (s ∷ list) together =
    ap (λ g. joined_list m f g list) (joined-nothing groups (position_of m f) (position_of m s) (sym (together s (contains-head s list))))
    ∙ list-nothing m f groups list (λ t among. together t (contains-tail s list t among))

-- districts in which the new choices are together
pub together-widened : (m : Market) (a : Amendment) → verdict m a ≡ None → (d : DistrictsView) → AreDistricts m d → ((s : ℕ) → Contains (new_choices a) s → group_of m d.groups s ≡ group_of m d.groups (start_of m a))
    → AreWidened m a d
unfolding widened
together-widened m a allowed d districts together = record {
  allowed = allowed;
  districts = districts;
  joined = list-nothing m (start_of m a) d.groups (new_choices a) together;
}

-- the groups that all lists join, with the new choices joined
pub all-joined : (m : Market) (a : Amendment) (groups joined : List ℕ) → groups ≡ widened m a joined → joined ≡ joined_students m (students_of m) → groups ≡ region_groups m a
unfolding region_groups
all-joined m a groups joined is all = is ∙ ap (widened m a) all

-- groups that hold all lists together, with the new choices joined
module _ (m : Market) (a : Amendment) (well : WellFormed m) (allowed : verdict m a ≡ None) where
  pub new-near : (groups : List ℕ) → AreWhole m groups → (s : ℕ) → Contains (new_choices a) s → group_of m (widened m a groups) s ≡ group_of m (widened m a groups) (start_of m a)
  new-near groups whole = new-together m a well allowed groups whole (λ i. ⊥) (λ i s none listed. absurd none)

  pub groups-widened : (groups : List ℕ) → AreWhole m groups
      → ((i s : ℕ) → Contains (choices_of m i) s → group_of m groups s ≡ group_of m groups (first_choice m i))
      → (d : DistrictsView) → AreDistricts m d → AreWidened m a (record { groups = widened m a groups; firsts = d.firsts })
  unfolding widened
  groups-widened groups whole closed d districts =
      together-widened m a allowed (record { groups = widened m a groups; firsts = d.firsts })
      (record {
        one_each = (list-coarser m (start_of m a) groups (new_choices a) whole).whole;
        closed = λ i s listed.
            let known = among-student m i (lister-among m i s listed) in
            (widened-coarser m a well allowed groups whole (λ j. Unit {0}) (λ j t of old. closed j t old)).kept s (first_choice m i) (choice-known m well i s listed) (first-known m well i known) (closed i s listed);
        firsts_each = districts.firsts_each;
        listed = districts.listed;
      })
      (new-near groups whole)

  -- one district regrouped by the lists of all who have their first choice there
  module _ (d : DistrictsView) (before : AreWidened m a d) (group : ℕ) (its : group ≡ group_of m d.groups (start_of m a))
      (students : List ℕ) (known : (i : ℕ) → Contains students i → is_student m i ≡ true)
      (enough : (i : ℕ) → Contains (students_of m) i → group_of m d.groups (first_choice m i) ≡ group → Contains students i)
      (exact : List ℕ) (is : exact ≡ widened m a (joined_students m students))
      (new : List ℕ) (one_each : length new ≡ length d.groups)
      (numbers : (p : ℕ) → p < length d.groups → slice_index new p ≡ (if slice_index d.groups p == group then slice_index exact p else slice_index d.groups p)) where
    inside : (s : ℕ) → is_school m s ≡ true → group_of m d.groups s ≡ group → group_of m new s ≡ group_of m exact s
    inside s s_known here =
        let low : position_of m s < length d.groups = omega (arith, (position-within m s s_known).0, before.districts.one_each) in
        numbers (position_of m s) low ∙ cond-true (group_of m d.groups s == group) (group_of m exact s) (group_of m d.groups s) (eq-eqb _ _ here)

    outside : (s : ℕ) → is_school m s ≡ true → (group_of m d.groups s == group) ≡ false → group_of m new s ≡ group_of m d.groups s
    outside s s_known apart =
        let low : position_of m s < length d.groups = omega (arith, (position-within m s s_known).0, before.districts.one_each) in
        numbers (position_of m s) low ∙ cond-false (group_of m d.groups s == group) (group_of m exact s) (group_of m d.groups s) apart

    exact-together : (i s : ℕ) → Contains students i → Contains (choices_of m i) s → group_of m exact s ≡ group_of m exact (first_choice m i)
    exact-together i s among listed =
        rw is
        ((widened-coarser m a well allowed (joined_students m students) (joined-partial m well a students known).whole (λ j. ⊥) (λ j t none old. absurd none)).kept
        s (first_choice m i) (choice-known m well i s listed) (first-known m well i (known i among)) (joined-together m well students known i s among listed))

    closed : (i s : ℕ) → Contains (choices_of m i) s → group_of m new s ≡ group_of m new (first_choice m i)
    closed i s listed =
        let there = lister-among m i s listed in
        let i_known = among-student m i there in
        let s_known = choice-known m well i s listed in
        let first_known = first-known m well i i_known in
        let same = before.districts.closed i s listed in
        elim (cases_Bool (group_of m d.groups (first_choice m i) == group)) [
          | inl own ↦
              let here = eqb-true (group_of m d.groups (first_choice m i)) group own in
              inside s s_known (same ∙ here) ∙ exact-together i s (enough i there here) listed ∙ sym (inside (first_choice m i) first_known here)
          | inr other ↦
              outside s s_known (ap (λ g. g == group) same ∙ other) ∙ same ∙ sym (outside (first_choice m i) first_known other)
        ]

    new-beside : (s : ℕ) → Contains (new_choices a) s → group_of m new s ≡ group_of m new (start_of m a)
    new-beside s among =
        let start_known = start-known m a well allowed in
        let s_known = new-known m a allowed s among in
        let beside : group_of m d.groups s ≡ group_of m d.groups (start_of m a) =
        subst (λ gs. group_of m gs s ≡ group_of m gs (start_of m a)) before.joined (new-near d.groups before.districts.one_each s among) in
        inside s s_known (beside ∙ sym its)
        ∙ subst (λ gs. group_of m gs s ≡ group_of m gs (start_of m a)) (sym is) (new-near (joined_students m students) (joined-partial m well a students known).whole s among)
        ∙ sym (inside (start_of m a) start_known (sym its))

    pub regrouped-widened : AreWidened m a (record { groups = new; firsts = d.firsts })
    regrouped-widened =
        together-widened m a allowed (record { groups = new; firsts = d.firsts })
        (record {
          one_each = one_each ∙ before.districts.one_each;
          closed = closed;
          firsts_each = before.districts.firsts_each;
          listed = before.districts.listed;
        })
        new-beside

  -- the groups that all lists join
  pub all-widened : (d : DistrictsView) → AreDistricts m d → AreWidened m a (record { groups = region_groups m a; firsts = d.firsts })
  unfolding region_groups
  all-widened d districts =
      groups-widened (joined_students m (students_of m)) (joined-partial m well a (students_of m) (among-student m)).whole (λ i s listed. grouped-together m well i s listed) d districts
