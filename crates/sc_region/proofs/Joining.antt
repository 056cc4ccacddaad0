-- Students' choices and the positions of their schools, and what joining lists does to the groups of schools.
use Rattle.std.proofs.Common.{◌≡◌, ◌∙◌, ap, ℕ, ◌<◌, nat_eq, true, List, [], get_or, length, Option, Some, None, Contains, IfSome, is_some, sym, map, position, arith, ◌⊎◌, inl, inr, subst, ◌∷◌, take, ◌+◌, min, max, Bool}
use Rattle.std.proofs.lemmas.Grind.{common_steps}
use Rattle.std.proofs.lemmas.List.{get_or_read, get_or-map, length-map, get_or_default, map_push, take_more}
use Rattle.std.specs.Option.{option_map_or}
use Rattle.std.proofs.lemmas.Bool.{false≢true}
use Rattle.std.proofs.lemmas.List.Elements.{Contains-get_or}
use Rattle.std.proofs.lemmas.Map.Entries.{All-lookup, length-keys_of}
use Rattle.sc_papers.specs.Market.{Market, choices_of, is_student, student_of, schools_of, is_school, student_at, students_of}
use Rattle.sc_papers.specs.WellFormed.{WellFormed, IsProper}
use Rattle.sc_papers.specs.declared.records.Student.{Student}
use Rattle.sc_region.specs.Groups.{first_choice, position_of, group_of, joined, joined_choices, joined_list, joined_students, moved, students_at}
use Rattle.sc_papers.specs.Classed.{Classed}
use Rattle.sc_papers.proofs.Positions.{position-at, among-student, school-position}
use Rattle.std.specs.List.{fold, position_or_len, range_with_len}
use Rattle.std.proofs.lemmas.Bool.Decides.{nat_tests}
use Rattle.std.proofs.lemmas.List.Sums.{fold-append}
use Rattle.sc_papers.proofs.Counting.{contains-cons, contains-head, contains-tail}
use Rattle.sc_papers.proofs.Students.{choice-known, lister-among}
use Rattle.sc_region.proofs.Roots.{length-joined}
use Rattle.std.proofs.lemmas.List.FromFn.{get_or-range_with_len, length-range_with_len}
use Rattle.sc_papers.specs.declared.amendment.Amendment.{Amendment}
use Rattle.sc_region.specs.Region.{Lists}

pub choices-some : (m : Market) → WellFormed m → (i : ℕ) → is_student m i ≡ true → 0 < length (choices_of m i)
unfolding choices_of
choices-some m well i known = go (student_of m i) (All-lookup (IsProper m) (nat_eq i) m.students well.students_proper) known
  where
    go : (found : Option Student) → IfSome found (IsProper m) → is_some found ≡ true → 0 < length (option_map_or (λ student. student.choices) found [])
    go None proper known = absurd (false≢true known)
    go (Some student) proper known = proper.choices_some

pub first-listed : (m : Market) → WellFormed m → (i : ℕ) → is_student m i ≡ true → Contains (choices_of m i) (first_choice m i)
first-listed m well i known = Contains-get_or (choices_of m i) 0 0 (choices-some m well i known)

-- a first choice that is read
pub first-read : (xs ys : List ℕ) (r : ℕ) → 0 < length ys → r ≡ get_or xs 0 r → xs ≡ ys → r ≡ get_or ys 0 0
first-read xs ys r some is same = let here : r ≡ get_or ys 0 r = is ∙ ap (λ zs. get_or zs 0 r) same in get_or_read ys 0 r some here 0

-- What joining lists does to the groups of schools.

-- after a move two groups are one where they were one, or where they are the two that the move makes one
moved-same : (x y g h : ℕ) → moved (min x y) (max x y) g ≡ moved (min x y) (max x y) h → (g ≡ h) ⊎ (((g ≡ x) × (h ≡ y)) ⊎ ((g ≡ y) × (h ≡ x)))
moved-same x y g h same = grind (arith, nat_tests, same)

moved-joins : (x y : ℕ) → moved (min x y) (max x y) x ≡ moved (min x y) (max x y) y
moved-joins x y = grind (arith, nat_tests)

-- a position that a search finds
pub position-is : (test : ℕ → Bool) (xs : List ℕ) (p : ℕ) → position test xs ≡ Some p → position_or_len test xs ≡ p
position-is test xs p found = grind (arith, nat_tests, common_steps, found)

-- a school of the papers has a position among them
pub position-within : (m : Market) (s : ℕ) → is_school m s ≡ true → (position_of m s < length (schools_of m)) × (get_or (schools_of m) (position_of m s) s ≡ s)
position-within m s known =
    let (at, found) = school-position m s known in
    let here = position-at (schools_of m) s at found in
    rw (position-is (nat_eq s) (schools_of m) at found) here

-- groups of all schools
abbrev pub AreWhole : Market → List ℕ → Type 0
AreWhole m groups = length groups ≡ length (schools_of m)

-- and groups in which schools of the papers that were in one group are so still
pub record Coarser (m : Market) (old new : List ℕ) : Type 0 where
  pub whole : AreWhole m new
  pub kept : (s t : ℕ) → is_school m s ≡ true → is_school m t ≡ true → group_of m old s ≡ group_of m old t → group_of m new s ≡ group_of m new t

pub joined-whole : (m : Market) (groups : List ℕ) (a b : ℕ) → AreWhole m groups → AreWhole m (joined groups a b)
joined-whole m groups a b whole = length-joined groups a b ∙ whole

joined-moves : (m : Market) (groups : List ℕ) (s t u : ℕ) → AreWhole m groups → is_school m u ≡ true
    → group_of m (joined groups (position_of m s) (position_of m t)) u ≡ moved (min (group_of m groups s) (group_of m groups t)) (max (group_of m groups s) (group_of m groups t)) (group_of m groups u)
unfolding joined
joined-moves m groups s t u whole known =
    let within = (position-within m u known).0 in
    get_or-map (moved (min (group_of m groups s) (group_of m groups t)) (max (group_of m groups s) (group_of m groups t))) groups (position_of m u) 0 0 (omega (arith, within, whole))

-- two schools are linked where a chain of lists leads from the one to the other: next to one another in
-- it stand schools that one student lists
pub data Linked (m : Market) (a : Amendment) : ℕ → ℕ → Type 0 where
  itself : (s : ℕ) → Linked m a s s
  shared : (i s t : ℕ) → Lists m a i s → Lists m a i t → Linked m a s t
  through : (s t u : ℕ) → Linked m a s t → Linked m a t u → Linked m a s u

pub Linked-sym : (m : Market) (a : Amendment) (s t : ℕ) → Linked m a s t → Linked m a t s
Linked-sym m a _ _ (itself s) = itself s
Linked-sym m a _ _ (shared i s t first second) = shared i t s second first
Linked-sym m a _ _ (through s t u first second) = through u t s (Linked-sym m a t u second) (Linked-sym m a s t first)

-- groups in the course of joining: each school of the papers has one, and those in one group are linked
pub record IsPartial (m : Market) (a : Amendment) (groups : List ℕ) : Type 0 where
  pub whole : AreWhole m groups
  pub sound : (s t : ℕ) → is_school m s ≡ true → is_school m t ≡ true → group_of m groups s ≡ group_of m groups t → Linked m a s t

-- what each step of a fold does to groups
module _ {X : Type 0} (m : Market) (step : List ℕ → X → List ℕ) (each : (x : X) (groups : List ℕ) → AreWhole m groups → Coarser m groups (step groups x)) where
  fold-coarser : (xs : List X) (groups : List ℕ) → AreWhole m groups → Coarser m groups (fold step groups xs)
  fold-coarser [] groups whole = record { whole = whole; kept = λ s t s_known t_known same. same }
  fold-coarser (x ∷ xs) groups whole =
      let next = each x groups whole in
      let all = fold-coarser xs (step groups x) next.whole in record {
        whole = all.whole;
        kept = λ s t s_known t_known same. all.kept s t s_known t_known (next.kept s t s_known t_known same);
      }

  -- what a step brings about stays so where coarser groups keep it
  fold-brings : (Holds : X → List ℕ → Type 0) → ((x : X) (groups : List ℕ) → AreWhole m groups → Holds x (step groups x))
      → ((x : X) (old new : List ℕ) → Coarser m old new → Holds x old → Holds x new)
      → (xs : List X) (groups : List ℕ) → AreWhole m groups → (x : X) → Contains xs x → Holds x (fold step groups xs)
  fold-brings Holds brings keeps [] groups whole x (k, low, at) = absurd (omega (arith, low))
  fold-brings Holds brings keeps (y ∷ xs) groups whole x among =
      let next = (each y groups whole).whole in
      elim (contains-cons y xs x among) [
        | inl same ↦ subst (λ z. Holds z (fold step (step groups y) xs)) same (keeps y (step groups y) (fold step (step groups y) xs) (fold-coarser xs (step groups y) next) (brings y groups whole))
        | inr later ↦ fold-brings Holds brings keeps xs (step groups y) next x later
      ]

-- what each step keeps, all keep
fold-keeps : {X : Type 0} (step : List ℕ → X → List ℕ) (P : List ℕ → Type 0) (xs : List X) → ((x : X) → Contains xs x → (groups : List ℕ) → P groups → P (step groups x))
    → (groups : List ℕ) → P groups → P (fold step groups xs)
fold-keeps step P [] each groups holds = holds
fold-keeps step P (x ∷ xs) each groups holds = fold-keeps step P xs (λ y among. each y (contains-tail x xs y among)) (step groups x) (each x (contains-head x xs) groups holds)

-- two schools joined
module _ (m : Market) (groups : List ℕ) (f s : ℕ) (whole : AreWhole m groups) where
  join-coarser : Coarser m groups (joined groups (position_of m f) (position_of m s))
  join-coarser = record {
    whole = joined-whole m groups (position_of m f) (position_of m s) whole;
    kept = λ u v u_known v_known same.
        joined-moves m groups f s u whole u_known
        ∙ ap (moved (min (group_of m groups f) (group_of m groups s)) (max (group_of m groups f) (group_of m groups s))) same
        ∙ sym (joined-moves m groups f s v whole v_known);
  }

  join-together : is_school m f ≡ true → is_school m s ≡ true
      → group_of m (joined groups (position_of m f) (position_of m s)) s ≡ group_of m (joined groups (position_of m f) (position_of m s)) f
  join-together f_known s_known =
      joined-moves m groups f s s whole s_known ∙ sym (moved-joins (group_of m groups f) (group_of m groups s)) ∙ sym (joined-moves m groups f s f whole f_known)

join-partial : (m : Market) (a : Amendment) (groups : List ℕ) (f s : ℕ) → is_school m f ≡ true → is_school m s ≡ true → Linked m a f s → IsPartial m a groups
    → IsPartial m a (joined groups (position_of m f) (position_of m s))
join-partial m a groups f s f_known s_known link before = record {
  whole = joined-whole m groups (position_of m f) (position_of m s) before.whole;
  sound = λ u v u_known v_known same.
      elim (moved-same (group_of m groups f) (group_of m groups s) (group_of m groups u) (group_of m groups v)
      (sym (joined-moves m groups f s u before.whole u_known) ∙ same ∙ joined-moves m groups f s v before.whole v_known)) [
        | inl one ↦ before.sound u v u_known v_known one
        | inr (inl (by_f, by_s)) ↦
            through u f v (before.sound u f u_known f_known by_f) (through f s v link (before.sound s v s_known v_known (sym by_s)))
        | inr (inr (by_s, by_f)) ↦
            through u s v (before.sound u s u_known s_known by_s) (through s f v (Linked-sym m a f s link) (before.sound f v f_known v_known (sym by_f)))
      ];
}

-- each school of a list joined to one school
pub list-coarser : (m : Market) (f : ℕ) (groups list : List ℕ) → AreWhole m groups → Coarser m groups (joined_list m f groups list)
unfolding joined_list
list-coarser m f groups list whole = fold-coarser m (λ g s. joined g (position_of m f) (position_of m s)) (λ s g g_whole. join-coarser m g f s g_whole) list groups whole

module _ (m : Market) (f : ℕ) (f_known : is_school m f ≡ true) (list : List ℕ) (known : (s : ℕ) → Contains list s → is_school m s ≡ true) where
  pub list-together : (groups : List ℕ) → AreWhole m groups → (s : ℕ) → Contains list s → group_of m (joined_list m f groups list) s ≡ group_of m (joined_list m f groups list) f
  unfolding joined_list
  list-together groups whole s among =
      fold-brings m (λ g t. joined g (position_of m f) (position_of m t)) (λ t g g_whole. join-coarser m g f t g_whole)
      (λ t g. is_school m t ≡ true → group_of m g t ≡ group_of m g f) (λ t g g_whole t_known. join-together m g f t g_whole f_known t_known)
      (λ t old new coarser holds t_known. coarser.kept t f t_known f_known (holds t_known)) list groups whole s among (known s among)

  pub list-partial : (a : Amendment) (groups : List ℕ) → ((s : ℕ) → Contains list s → Linked m a f s) → IsPartial m a groups → IsPartial m a (joined_list m f groups list)
  unfolding joined_list
  list-partial a groups links before =
      fold-keeps (λ g s. joined g (position_of m f) (position_of m s)) (IsPartial m a) list
      (λ s among g g_before. join-partial m a g f s f_known (known s among) (links s among) g_before) groups before

-- the groups before any choices are joined, and with those of one student more
pub groups-begun : (m : Market) (count : ℕ) (groups : List ℕ) → count ≡ length m.schools → groups ≡ range_with_len 0 count → (groups ≡ joined_students m []) × AreWhole m groups
unfolding joined_students
groups-begun m count groups all begun =
    let start = begun ∙ ap (range_with_len 0) (all ∙ sym (length-keys_of m.schools)) in
    (start, ap (λ (gs : List ℕ). length gs) start ∙ length-range_with_len 0 (length (schools_of m)))

pub joined_next : (m : Market) (positions : List ℕ) (at : ℕ) → at < length positions
    → joined_students m (students_at m (take (at + 1) positions)) ≡ joined_choices m (joined_students m (students_at m (take at positions))) (student_at m (get_or positions at 0))
unfolding joined_students
joined_next m positions at low =
    let start = range_with_len 0 (length (schools_of m)) in
    let last = student_at m (get_or positions at 0) in
    ap (fold (joined_choices m) start) (ap (students_at m) (take_more positions at 0 low) ∙ map_push (student_at m) (take at positions) (get_or positions at 0))
    ∙ fold-append (joined_choices m) start (students_at m (take at positions)) (last ∷ [])

-- the choices of students joined
module _ (m : Market) (well : WellFormed m) where
  pub first-known : (i : ℕ) → is_student m i ≡ true → is_school m (first_choice m i) ≡ true
  first-known i known = choice-known m well i (first_choice m i) (first-listed m well i known)

  start-whole : AreWhole m (range_with_len 0 (length (schools_of m)))
  start-whole = length-range_with_len 0 (length (schools_of m))

  start-partial : (a : Amendment) → IsPartial m a (range_with_len 0 (length (schools_of m)))
  start-partial a = record {
    whole = start-whole;
    sound = λ s t s_known t_known same.
        let s_there = position-within m s s_known in
        let t_there = position-within m t t_known in
        let one_position : position_of m s ≡ position_of m t =
        omega (arith, get_or-range_with_len 0 (length (schools_of m)) (position_of m s) 0 s_there.0, get_or-range_with_len 0 (length (schools_of m)) (position_of m t) 0 t_there.0, same) in
        let one : s ≡ t = sym s_there.1 ∙ get_or_default (schools_of m) (position_of m s) s t s_there.0 ∙ ap (λ p. get_or (schools_of m) p t) one_position ∙ t_there.1 in
        subst (Linked m a s) one (itself s);
  }

  -- the groups that the choices of some students join
  pub joined-partial : (a : Amendment) (students : List ℕ) → ((i : ℕ) → Contains students i → is_student m i ≡ true) → IsPartial m a (joined_students m students)
  unfolding joined_students
  joined-partial a students known =
      fold-keeps (joined_choices m) (IsPartial m a) students
      (λ i among groups before.
      list-partial m (first_choice m i) (first-known i (known i among)) (choices_of m i) (choice-known m well i) a groups
      (λ s listed. shared i (first_choice m i) s (inl (first-listed m well i (known i among))) (inl listed)) before)
      (range_with_len 0 (length (schools_of m))) (start-partial a)

  pub joined-together : (students : List ℕ) → ((i : ℕ) → Contains students i → is_student m i ≡ true) → (i s : ℕ) → Contains students i → Contains (choices_of m i) s
      → group_of m (joined_students m students) s ≡ group_of m (joined_students m students) (first_choice m i)
  unfolding joined_students
  joined-together students known i s among =
      fold-brings m (joined_choices m) (λ j groups whole. list-coarser m (first_choice m j) groups (choices_of m j) whole)
      (λ j groups. is_student m j ≡ true → (t : ℕ) → Contains (choices_of m j) t → group_of m groups t ≡ group_of m groups (first_choice m j))
      (λ j groups whole j_known. list-together m (first_choice m j) (first-known j j_known) (choices_of m j) (choice-known m well j) groups whole)
      (λ j old new coarser holds j_known t listed. coarser.kept t (first_choice m j) (choice-known m well j t listed) (first-known j j_known) (holds j_known t listed))
      students (range_with_len 0 (length (schools_of m))) start-whole i among (known i among) s

  -- and of all
  pub grouped-together : (i s : ℕ) → Contains (choices_of m i) s
      → group_of m (joined_students m (students_of m)) s ≡ group_of m (joined_students m (students_of m)) (first_choice m i)
  grouped-together i s listed = joined-together (students_of m) (λ j among. among-student m j among) i s (lister-among m i s listed) listed

-- The positions of a student's choices are those of the schools that they name.

-- these are the positions of the choices' schools
abbrev pub ArePositions : Market → List ℕ → List ℕ → Type 0
ArePositions m positions choices = map Some positions ≡ map (λ s. position (nat_eq s) (schools_of m)) choices

-- as many as there are choices
positions-count : (m : Market) (positions choices : List ℕ) → ArePositions m positions choices → length positions ≡ length choices
positions-count m positions choices same =
    sym (length-map positions Some) ∙ ap length same ∙ length-map choices (λ s. position (nat_eq s) (schools_of m))

pub choices-count : (m : Market) (listed : List Classed) (choices : List ℕ) → ArePositions m (map (λ c. c.position) listed) choices → length listed ≡ length choices
choices-count m listed choices same = sym (length-map listed (λ c. c.position)) ∙ positions-count m (map (λ c. c.position) listed) choices same

-- each is the position at which its school is found
choice-found : (m : Market) (positions choices : List ℕ) → ArePositions m positions choices
    → (k p s : ℕ) → k < length positions → position (nat_eq (get_or choices k s)) (schools_of m) ≡ Some (get_or positions k p)
choice-found m positions choices same k p s low =
    sym (get_or-map (λ t. position (nat_eq t) (schools_of m)) choices k s (Some p) (omega (arith, low, positions-count m positions choices same)))
    ∙ ap (λ (l : List (Option ℕ)). get_or l k (Some p)) (sym same)
    ∙ get_or-map Some positions k p (Some p) low

-- and so each choice has the position of its school
pub choice-told : (m : Market) (listed : List Classed) (choices : List ℕ) → ArePositions m (map (λ c. c.position) listed) choices
    → (k s : ℕ) (c : Classed) → k < length listed → c ≡ get_or listed k c → c.position ≡ position_of m (get_or choices k s)
choice-told m listed choices same k s c low is =
    ap (λ c'. c'.position) is ∙ sym (get_or-map (λ c'. c'.position) listed k c c.position low)
    ∙ sym (position-is (nat_eq (get_or choices k s)) (schools_of m) (get_or (map (λ c'. c'.position) listed) k c.position)
    (choice-found m (map (λ c'. c'.position) listed) choices same k c.position s (omega (arith, low, length-map listed (λ c'. c'.position)))))

-- within the schools
pub choice-within : (m : Market) (listed : List Classed) (choices : List ℕ) → ArePositions m (map (λ c. c.position) listed) choices
    → (k : ℕ) (c : Classed) → k < length listed → c ≡ get_or listed k c → c.position < length (schools_of m)
choice-within m listed choices same k c low is =
    let places = map (λ c'. c'.position) listed in
    let here : c.position ≡ get_or places k c.position = ap (λ c'. c'.position) is ∙ sym (get_or-map (λ c'. c'.position) listed k c c.position low) in
    omega (
      arith,
      here,
      (position-at (schools_of m) (get_or choices k 0) (get_or places k c.position)
          (choice-found m places choices same k c.position 0 (omega (arith, low, length-map listed (λ c'. c'.position))))).0,
    )
