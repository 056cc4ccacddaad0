-- The groups that lists and the new choices join tell the region.
use Rattle.std.proofs.Common.{◌≡◌, ◌⊎◌, ◌↔◌, inl, inr, sym, ap, subst, ◌∙◌, ℕ, nat_eq, Bool, true, List, Some, None, Contains, filter}
use Rattle.std.specs.List.{IsDistinct}
use Rattle.std.proofs.lemmas.Bool.{eqb-true, eq-eqb}
use Rattle.std.proofs.lemmas.List.Elements.{Contains-append_cases, Contains-append_left, Contains-append_right}
use Rattle.sc_papers.specs.Market.{Market, choices_of, is_school, is_student, students_of}
use Rattle.sc_papers.specs.Verdict.{verdict}
use Rattle.sc_papers.specs.WellFormed.{WellFormed}
use Rattle.sc_papers.specs.declared.amendment.Amendment.{Amendment}
use Rattle.sc_papers.proofs.Positions.{among-student, student-among}
use Rattle.sc_papers.proofs.Students.{choice-known, lister-among}
use Rattle.sc_region.proofs.Filtering.{filter-among, filter-differ, filter-kept}
use Rattle.sc_region.specs.Groups.{entrants, first_choice, group_of, is_member, joined_students, members_beside, members_of, new_choices, start_of, widened}
use Rattle.sc_region.specs.Region.{amended_student, InRegion, amended, concerned, next, Lists}
use Rattle.sc_region.proofs.Changes.{amended-known, amended-some, entrant-amended, entrants-differ, new-amended, new-known, new-listed, old-or_new, start-amended, start-first, start-known, start-listed}
use Rattle.sc_region.proofs.Joining.{first-listed, Linked, itself, shared, through, AreWhole, Coarser, IsPartial, joined-partial, joined-together, list-coarser, list-partial, list-together}

-- the groups that all lists join, those before the amendment and those after it
unfoldable pub region_groups : Market → Amendment → List ℕ
region_groups m a = widened m a (joined_students m (students_of m))

-- the region in order of entry
unfoldable pub region_members : Market → Amendment → List ℕ
region_members m a = members_beside m a (region_groups m a)

module _ (m : Market) (a : Amendment) (well : WellFormed m) (allowed : verdict m a ≡ None) where
  -- what a student lists is an old choice, or a new one of the amended student
  by-old : (i s : ℕ) → Lists m a i s → Contains (choices_of m i) s ⊎ ((amended_student a ≡ Some i) × Contains (new_choices a) s)
  by-old i s (inl listed) = inl listed
  by-old i s (inr listed) = old-or_new m a well allowed i s listed

  first_known : is_school m (start_of m a) ≡ true
  first_known = start-known m a well allowed

  -- a new choice is linked to the school to begin with
  new-linked : (s : ℕ) → Contains (new_choices a) s → Linked m a (start_of m a) s
  new-linked s among =
      let (i, is) = new-amended a s among in
      shared i (start_of m a) s (start-listed m a well allowed i is) (inr (new-listed m a allowed i s is among))

  -- all who list a school are in the region
  start-in : (i : ℕ) → Lists m a i (start_of m a) → InRegion m a i
  start-in i lists = elim (amended-some a) [
    | inl (j, is) ↦ next i j (start_of m a) (amended j is) (start-listed m a well allowed j is) lists
    | inr (s, is) ↦ concerned i s is (subst (Lists m a i) (start-amended m a s is) lists)
  ]

  linked-in : (s t : ℕ) → Linked m a s t → ((i : ℕ) → Lists m a i s → InRegion m a i) → (i : ℕ) → Lists m a i t → InRegion m a i
  linked-in _ _ (itself s) all = all
  linked-in _ _ (shared j s t first second) all = λ i lists. next i j t (all j first) second lists
  linked-in _ _ (through s t u first second) all = linked-in t u second (linked-in s t first all)

  -- the region has students of the papers, and the one who enters
  lister-known : (i s : ℕ) → Lists m a i s → (is_student m i ≡ true) ⊎ Contains (entrants a) i
  lister-known i s lists = elim (by-old i s lists) [
    | inl old ↦ inl (among-student m i (lister-among m i s old))
    | inr (is, new) ↦ amended-known m a allowed i is
  ]

  pub in-known : (i : ℕ) → InRegion m a i → (is_student m i ≡ true) ⊎ Contains (entrants a) i
  in-known _ (amended i is) = amended-known m a allowed i is
  in-known _ (concerned i s is listed) = lister-known i s listed
  in-known _ (next i j s within first second) = lister-known i s second

-- groups of linked schools: whoever's first choice is in the group to begin with, is in the region
module _ (m : Market) (a : Amendment) (well : WellFormed m) (allowed : verdict m a ≡ None) (groups : List ℕ) (before : IsPartial m a groups) where
  pub partial-in : (i : ℕ) → Contains (students_of m) i → group_of m groups (first_choice m i) ≡ group_of m groups (start_of m a) → InRegion m a i
  partial-in i among same =
      let known = among-student m i among in
      let listed = first-listed m well i known in
      linked-in m a well allowed (start_of m a) (first_choice m i)
      (before.sound (start_of m a) (first_choice m i) (first_known m a well allowed) (choice-known m well i (first_choice m i) listed) (sym same))
      (start-in m a well allowed) i (inl listed)

  widened-partial : IsPartial m a (widened m a groups)
  unfolding widened
  widened-partial =
      list-partial m (start_of m a) (first_known m a well allowed) (new_choices a) (new-known m a allowed) a groups (new-linked m a well allowed) before

-- groups that hold together what some students list before the amendment
module _ (m : Market) (a : Amendment) (well : WellFormed m) (allowed : verdict m a ≡ None) (groups : List ℕ) (whole : AreWhole m groups)
    (Of : ℕ → Type 0) (closed : (i s : ℕ) → Of i → Contains (choices_of m i) s → group_of m groups s ≡ group_of m groups (first_choice m i)) where
  pub widened-coarser : Coarser m groups (widened m a groups)
  unfolding widened
  widened-coarser = list-coarser m (start_of m a) groups (new_choices a) whole

  pub new-together : (s : ℕ) → Contains (new_choices a) s → group_of m (widened m a groups) s ≡ group_of m (widened m a groups) (start_of m a)
  unfolding widened
  new-together s among =
      list-together m (start_of m a) (first_known m a well allowed) (new_choices a) (new-known m a allowed) groups whole s among

  old-together : (i s : ℕ) → Of i → Contains (choices_of m i) s → group_of m (widened m a groups) s ≡ group_of m (widened m a groups) (first_choice m i)
  old-together i s of listed =
      let known = among-student m i (lister-among m i s listed) in
      widened-coarser.kept s (first_choice m i) (choice-known m well i s listed) (choice-known m well i (first_choice m i) (first-listed m well i known)) (closed i s of listed)

  amended-together : (i s : ℕ) → Of i → amended_student a ≡ Some i → Contains (choices_of m i) s → group_of m (widened m a groups) s ≡ group_of m (widened m a groups) (start_of m a)
  amended-together i s of is listed = old-together i s of listed ∙ ap (group_of m (widened m a groups)) (sym (start-first m a allowed i s is listed))

  -- all that such a student lists, before or after, is in one of the widened groups
  pub region-together : (i s t : ℕ) → Of i → Lists m a i s → Lists m a i t → group_of m (widened m a groups) s ≡ group_of m (widened m a groups) t
  region-together i s t of first second = go (by-old m a well allowed i s first) (by-old m a well allowed i t second)
    where
      go : Contains (choices_of m i) s ⊎ ((amended_student a ≡ Some i) × Contains (new_choices a) s)
          → Contains (choices_of m i) t ⊎ ((amended_student a ≡ Some i) × Contains (new_choices a) t)
          → group_of m (widened m a groups) s ≡ group_of m (widened m a groups) t
      go (inl old_s) (inl old_t) = old-together i s of old_s ∙ sym (old-together i t of old_t)
      go (inl old_s) (inr (is, new_t)) = amended-together i s of is old_s ∙ sym (new-together t new_t)
      go (inr (is, new_s)) (inl old_t) = new-together s new_s ∙ sym (amended-together i t of is old_t)
      go (inr (is, new_s)) (inr (also, new_t)) = new-together s new_s ∙ sym (new-together t new_t)

  -- and where the region is of them, all that one of the region lists is in the group to begin with
  in-near : ((i : ℕ) → InRegion m a i → Of i) → (i : ℕ) → InRegion m a i → (t : ℕ) → Lists m a i t → group_of m (widened m a groups) t ≡ group_of m (widened m a groups) (start_of m a)
  in-near all _ (amended i is) t lists =
      region-together i t (start_of m a) (all i (amended i is)) lists (start-listed m a well allowed i is)
  in-near all _ (concerned i s is listed) t lists =
      region-together i t (start_of m a) (all i (concerned i s is listed)) lists (subst (Lists m a i) (sym (start-amended m a s is)) listed)
  in-near all _ (next i j s within first second) t lists =
      region-together i t s (all i (next i j s within first second)) lists second ∙ in-near all j within s first

  pub in-member : ((i : ℕ) → InRegion m a i → Of i) → (i : ℕ) → InRegion m a i → is_student m i ≡ true
      → group_of m (widened m a groups) (first_choice m i) ≡ group_of m (widened m a groups) (start_of m a)
  in-member all i within known = in-near all i within (first_choice m i) (inl (first-listed m well i known))

-- a student of the papers is in the region just where their first choice is in the group of the school to begin with
abbrev pub TellRegion : Market → Amendment → List ℕ → Type 0
TellRegion m a groups = (i : ℕ) → is_student m i ≡ true → (is_member m groups (group_of m groups (start_of m a)) i ≡ true ↔ InRegion m a i)

-- the lists of students of the papers tell it, where all of them who are in it are among these
pub students-tell : (m : Market) (a : Amendment) → WellFormed m → verdict m a ≡ None → (students : List ℕ) → ((i : ℕ) → Contains students i → is_student m i ≡ true)
    → ((i : ℕ) → InRegion m a i → is_student m i ≡ true → Contains students i) → TellRegion m a (widened m a (joined_students m students))
unfolding is_member
students-tell m a well allowed students known enough i i_known = (
  λ passes. partial-in m a well allowed _ (widened-partial m a well allowed (joined_students m students) (joined-partial m well a students known)) i (student-among m i i_known) (eqb-true _ _ passes),
  λ inside.
      eq-eqb _ _
      (in-member m a well allowed (joined_students m students) (joined-partial m well a students known).whole (InRegion m a)
      (λ j s within listed. joined-together m well students known j s (enough j within (among-student m j (lister-among m j s listed))) listed)
      (λ j within. within) i inside i_known),
)

-- the groups that all lists join
module _ (m : Market) (a : Amendment) (well : WellFormed m) (allowed : verdict m a ≡ None) where
  pub all-tell : TellRegion m a (region_groups m a)
  unfolding region_groups
  all-tell = students-tell m a well allowed (students_of m) (among-student m) (λ i within known. student-among m i known)

  abbrev test : ℕ → Bool
  test = is_member m (region_groups m a) (group_of m (region_groups m a) (start_of m a))

  -- the members are the region
  pub region-exact : (i : ℕ) → (Contains (region_members m a) i ↔ InRegion m a i)
  unfolding region_members members_of
  region-exact i = (to, from)
    where
      to : Contains (region_members m a) i → InRegion m a i
      to among = elim (Contains-append_cases (filter test (students_of m)) (entrants a) i among) [
        | inl member ↦ let (there, passes) = filter-among test (students_of m) i member in (all-tell i (among-student m i there)).0 passes
        | inr enters ↦ amended i (entrant-amended m a i enters)
      ]

      from : InRegion m a i → Contains (region_members m a) i
      from within = elim (in-known m a well allowed i within) [
        | inl known ↦ Contains-append_left (filter test (students_of m)) (entrants a) i (filter-kept test (students_of m) i (student-among m i known) ((all-tell i known).1 within))
        | inr enters ↦ Contains-append_right (filter test (students_of m)) (entrants a) i enters
      ]

  -- and they differ
  pub region-differs : IsDistinct nat_eq (region_members m a)
  unfolding region_members members_of
  region-differs =
      entrants-differ m a allowed (filter test (students_of m)) (λ i among. among-student m i (filter-among test (students_of m) i among).0)
      (filter-differ test (students_of m) well.students_differ)
