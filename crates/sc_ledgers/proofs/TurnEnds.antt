-- Where each turn of a run ended: as the run goes on by a turn, as turns are taken anew, and as a student leaves.
use Rattle.std.proofs.Common.{◌≡◌, inl, inr, zero, suc, refl, ap, sym, subst, ◌∙◌, ℕ, ◌≤◌, ◌<◌, ◌+◌, ◌-◌, Bool, not, true, false, List, [], ◌∷◌, ◌++◌, All, Contains, length, get_or, map, nat_eq, position, remove, set, slice_get, take, cond, Option, Some, None, is_some, ◌==◌, ◌&&◌, arith}
use Rattle.std.specs.Option.{option_and_then, option_map_or}
use Rattle.std.proofs.lemmas.Bool.{cases_eq, cases_lt, cond-false, cond-true, eqb-true, false_from_ne_true, false≢true}
use Rattle.std.proofs.lemmas.List.{get_or_append_left, get_or_default, get_or-map, get_or_push, get_or-set_other, get_or-set_same, get_or-take, length-map, length_push, length-set, length-take-le, take_more}
use Rattle.std.proofs.lemmas.List.Edits.{get_or-remove_above, get_or-remove_below, length-remove}
use Rattle.std.proofs.lemmas.List.Elements.{All-contains, Contains-get_or}
use Rattle.std.proofs.lemmas.Option.{get_or_from_slice_get, none-some, slice_get-get_or, slice_get_within}
use Rattle.sc_papers.specs.Market.{Market, choices_of, is_school, is_student, schools_of, student_at, students_of}
use Rattle.sc_papers.specs.Restriction as whole
use Rattle.sc_papers.specs.Restriction.{is_among_first}
use Rattle.sc_papers.specs.Verdict.{without_student}
use Rattle.sc_papers.specs.WellFormed.{WellFormed}
use Rattle.sc_papers.specs.Log.{IsValidAfter}
use Rattle.sc_papers.specs.declared.rejection.Rejection.{Rejection}
use Rattle.sc_papers.specs.declared.records.Student.{Student}
use Rattle.sc_papers.proofs.Choices.{contains-at, one-place}
use Rattle.sc_papers.proofs.Cutting.{cut-restricted, length-students_cut}
use Rattle.sc_papers.proofs.Hands.{hand-student}
use Rattle.sc_papers.proofs.Positions.{school-position}
use Rattle.sc_papers.proofs.Restriction.{Restricts, restricted-restricts}
use Rattle.sc_papers.proofs.Students.{choice-known}
use Rattle.sc_papers.proofs.Subsets as papers
use Rattle.sc_papers.proofs.Validity.{next-listed}
use Rattle.sc_ledgers.specs.Cohort.{Cohort, cohort, cut, has_entered, IsRunTo}
use Rattle.sc_ledgers.specs.Ends.{place_of, AreEnds, AreEndsTo, EndsThere, NamesNone}
use Rattle.sc_ledgers.specs.Ledger.{log_at}
use Rattle.sc_ledgers.specs.Opening.{everybody}
use Rattle.sc_ledgers.specs.Proposals.{choice_after, end_of, ends_placed}
use Rattle.sc_ledgers.specs.Sweep.{is_amended}
use Rattle.sc_ledgers.proofs.Cohorts.{lister-entered}
use Rattle.sc_ledgers.proofs.Opening.{entries-listed}
use Rattle.sc_ledgers.proofs.Staying.{valid-turn}
use Rattle.sc_ledgers.proofs.TurnPlaces.{choices-some}
use Rattle.sc_ledgers.proofs.Without.{but, students-without, without-restricted}

-- what is made of the items of a list, of which one has given way or is gone
pub map-set : {X Y : Type 0} (f : X → Y) (xs : List X) (k : ℕ) (x : X) → map f (set xs k x) ≡ set (map f xs) k (f x)
map-set f [] k x = refl
map-set f (y ∷ xs) zero x = refl
map-set f (y ∷ xs) (suc k) x = ap (λ ys. f y ∷ ys) (map-set f xs k x)

pub map-remove : {X Y : Type 0} (f : X → Y) (xs : List X) (k : ℕ) → map f (remove xs k) ≡ remove (map f xs) k
map-remove f [] zero = refl
map-remove f [] (suc k) = refl
map-remove f (x ∷ xs) zero = refl
map-remove f (x ∷ xs) (suc k) = ap (λ ys. f x ∷ ys) (map-remove f xs k)

-- a turn ended alike in both papers, where neither who entered nor anybody whom its segment names has other choices
pub end-beside : (m n : Market) (i : ℕ) (rest : List Rejection) → choices_of n i ≡ choices_of m i → All (λ e. choices_of n e.student ≡ choices_of m e.student) rest → end_of n i rest ≡ end_of m i rest
unfolding end_of choice_after
end-beside m n i rest first later = go (slice_get rest (length rest - 1)) refl
  where
    go : (last : Option Rejection) → slice_get rest (length rest - 1) ≡ last → option_map_or (choice_after n) last (slice_get (choices_of n i) 0) ≡ option_map_or (choice_after m) last (slice_get (choices_of m i) 0)
    go None none = ap (λ xs. slice_get xs 0) first
    go (Some e) at = ap (λ xs. option_and_then (λ rank. slice_get xs (rank + 1)) (position (λ s. s == e.school) xs))
        (All-contains (λ x. choices_of n x.student ≡ choices_of m x.student) rest e later (length rest - 1, slice_get_within rest (length rest - 1) e at, get_or_from_slice_get rest (length rest - 1) e e at))

-- and so at the same place, where the schools are the same
place-same : (m n : Market) (found : Option ℕ) → schools_of n ≡ schools_of m → place_of n found ≡ place_of m found
place-same m n None schools = refl
place-same m n (Some s) schools = ap (position (nat_eq s)) schools

place-beside : (m n : Market) (i : ℕ) (rest : List Rejection) → schools_of n ≡ schools_of m → choices_of n i ≡ choices_of m i → All (λ e. choices_of n e.student ≡ choices_of m e.student) rest → place_of n (end_of n i rest) ≡ place_of m (end_of m i rest)
place-beside m n i rest schools first later = ap (place_of n) (end-beside m n i rest first later) ∙ place-same m n (end_of m i rest) schools

-- whoever a segment names has entered by then
entries-entered : (c : Cohort) (k : ℕ) → WellFormed c.papers → (log more : List Rejection) → IsValidAfter (cut c k) log more → (p : ℕ) (d : Rejection) → p < length more → has_entered c k (get_or more p d).student ≡ true
entries-entered c k well log [] valid p d low = absurd (omega (arith, low))
entries-entered c k well log (e ∷ more) valid zero d low = lister-entered c k e.student e.school well (next-listed (cut c k) log e.student e.school valid.0.next)
entries-entered c k well log (e ∷ more) valid (suc p) d low = entries-entered c k well (log ++ e ∷ []) more valid.1 p d (omega (arith, low))

pub turn-entered : (c : Cohort) (to : ℕ) (segments : List (List Rejection)) (t : ℕ) → WellFormed c.papers → IsRunTo c to segments → t < length segments → All (λ e. has_entered c (t + 1) e.student ≡ true) (get_or segments t [])
turn-entered c to segments t well run low =
    entries-entered c (t + 1) well (log_at segments t) (get_or segments t []) (valid-turn c segments t (get_or segments t []) run (slice_get-get_or segments t [] low))

-- who has entered enters
enters-of : (first enters : Bool) → (first && enters) ≡ true → enters ≡ true
enters-of true enters is = is
enters-of false enters is = absurd (false≢true is)

-- one turn more
pub ends-push : (m : Market) (segments : List (List Rejection)) (ends : List (Option ℕ)) (chain : List Rejection) (end : Option ℕ) → end ≡ place_of m (end_of m (student_at m (length segments)) chain) → AreEnds m segments ends → AreEnds m (segments ++ chain ∷ []) (ends ++ end ∷ [])
ends-push m segments ends chain end is before = record {
  one_each = omega (arith, length_push ends end, length_push segments chain, before.one_each);
  there = λ t low. elim (cases_lt t (length segments)) [
    | inl earlier ↦
        get_or_append_left ends (end ∷ []) None t (omega (arith, earlier, before.one_each))
        ∙ before.there t earlier
        ∙ ap (λ l. place_of m (end_of m (student_at m t) l)) (sym (get_or_append_left segments (chain ∷ []) [] t earlier))
    | inr late ↦
        let last : length segments ≡ t = omega (arith, late, low, length_push segments chain) in
        get_or_push ends end None t (before.one_each ∙ last)
        ∙ is
        ∙ (λ u. place_of m (end_of m (student_at m (last u)) (sym (get_or_push segments chain [] t last) u)))
  ];
}

-- before the first turn, and of one more of the turns of a run
pub ends-none : (m : Market) → AreEnds m [] []
ends-none m = record { one_each = refl; there = λ t low. absurd (omega (arith, low)) }

pub ends-next : (m : Market) (segments : List (List Rejection)) (k : ℕ) (rest : List Rejection) (ends more : List (Option ℕ)) (end : Option ℕ) → slice_get segments k ≡ Some rest → end ≡ place_of m (end_of m (student_at m k) rest) → more ≡ ends ++ end ∷ [] → AreEnds m (take k segments) ends → AreEnds m (take (k + 1) segments) more
ends-next m segments k rest ends more end here is pushed before =
    let low : k < length segments = slice_get_within segments k rest here in
    let many : length (take k segments) ≡ k = length-take-le k segments (omega (arith, low)) in
    subst (AreEnds m (take (k + 1) segments)) (sym pushed)
    (subst (λ l. AreEnds m l (ends ++ end ∷ [])) (sym (take_more segments k rest low ∙ ap (λ r. take k segments ++ r ∷ []) (get_or_from_slice_get segments k rest rest here)))
    (ends-push m (take k segments) ends rest end (is ∙ ap (λ at. place_of m (end_of m (student_at m at) rest)) (sym many)) before))

-- the turn at k names nobody who is amended
pub ends-still : {m : Market} {amended : Option ℕ} {segments : List (List Rejection)} {ends : List (Option ℕ)} (k : ℕ) → NamesNone amended (student_at m k) (get_or segments k []) → AreEndsTo m amended segments k ends → AreEndsTo m amended segments (k + 1) ends
ends-still {m} {amended} {segments} {ends} k names before = record {
  one_each = before.one_each;
  there = λ t low told. elim (cases_eq t k) [
    | inl same ↦ subst (EndsThere m segments ends) (sym same) (before.there k (subst (λ p. p < length segments) same low) (λ high. names))
    | inr other ↦ before.there t low (λ high. told (omega (arith, high, other)))
  ];
}

-- so do all turns between
pub ends-along : {m : Market} {amended : Option ℕ} {segments : List (List Rejection)} {ends : List (Option ℕ)} (k p : ℕ) → ((t : ℕ) → k ≤ t → t < p → NamesNone amended (student_at m t) (get_or segments t [])) → AreEndsTo m amended segments k ends → AreEndsTo m amended segments p ends
ends-along k p between before = record {
  one_each = before.one_each;
  there = λ t low told. elim (cases_lt t p) [
    | inl earlier ↦ before.there t low (λ high. between t high earlier)
    | inr late ↦ before.there t low (λ high. told late)
  ];
}

-- the turn at k was taken anew, and ended there
pub ends-anew : {m : Market} {amended : Option ℕ} {segments : List (List Rejection)} {ends : List (Option ℕ)} (k : ℕ) (chain : List Rejection) (end : Option ℕ) → k < length segments → end ≡ place_of m (end_of m (student_at m k) chain) → AreEndsTo m amended segments k ends → AreEndsTo m amended (set segments k chain) (k + 1) (set ends k end)
ends-anew {m} {amended} {segments} {ends} k chain end within is before = record {
  one_each = length-set ends k end ∙ before.one_each ∙ sym (length-set segments k chain);
  there = λ t low told. elim (cases_eq t k) [
    | inl same ↦
        subst (EndsThere m (set segments k chain) (set ends k end)) (sym same)
        (get_or-set_same ends k end None (omega (arith, within, before.one_each)) ∙ is
        ∙ ap (λ l. place_of m (end_of m (student_at m k) l)) (sym (get_or-set_same segments k chain [] within)))
    | inr other ↦
        let kept : get_or (set segments k chain) t [] ≡ get_or segments t [] = get_or-set_other segments k t chain [] other in
        get_or-set_other ends k t end None other
        ∙ before.there t (omega (arith, low, length-set segments k chain)) (λ high. subst (NamesNone amended (student_at m t)) kept (told (omega (arith, high, other))))
        ∙ ap (λ l. place_of m (end_of m (student_at m t) l)) (sym kept)
  ];
}

-- and before all are known, or after
pub ends-all : {m : Market} {amended : Option ℕ} {segments : List (List Rejection)} {ends : List (Option ℕ)} (k : ℕ) → length segments ≤ k → AreEndsTo m amended segments k ends → AreEnds m segments ends
ends-all k all before = record {
  one_each = before.one_each;
  there = λ t low. before.there t low (λ high. absurd (omega (arith, all, low, high)));
}

-- of papers of which only one student has other choices
pub ends-beside : (m n : Market) (amended : Option ℕ) (k : ℕ) (segments : List (List Rejection)) (ends : List (Option ℕ)) → students_of n ≡ students_of m → schools_of n ≡ schools_of m → ((j : ℕ) → is_amended amended j ≡ false → choices_of n j ≡ choices_of m j)
    → ((t : ℕ) → t < k → t < length segments → NamesNone amended (student_at m t) (get_or segments t [])) → AreEnds m segments ends → AreEndsTo n amended segments k ends
ends-beside m n amended k segments ends students schools rows earlier before = record {
  one_each = before.one_each;
  there = λ t low told.
      let here : student_at n t ≡ student_at m t = ap (λ xs. get_or xs t 0) students in
      let names : NamesNone amended (student_at m t) (get_or segments t []) = elim (cases_lt t k) [
        | inl early ↦ earlier t early low
        | inr late ↦ subst (λ i. NamesNone amended i (get_or segments t [])) here (told late)
      ] in
      before.there t low
      ∙ sym (place-beside m n (student_at m t) (get_or segments t []) schools (rows (student_at m t) names.0) (λ p d high. rows (get_or (get_or segments t []) p d).student (names.1 p d high)))
      ∙ ap (λ i. place_of n (end_of n i (get_or segments t []))) (sym here);
}

-- the last student of the papers is not there yet: a run of the others ended alike in all papers
module _ (m : Market) (position : ℕ) (well : WellFormed m) (low : position ≤ length m.students) where
  abbrev pub few : Market
  few = whole.cut m position

  -- whoever lists a school there has the same choices in all papers
  rows-few : (j s : ℕ) → Contains (choices_of few j) s → choices_of m j ≡ choices_of few j
  rows-few j s listed = go (is_among_first m position j) refl
    where
      of_first : choices_of few j ≡ cond (is_among_first m position j) (choices_of m j) []
      of_first = ap (λ p. choices_of p j) (cut-restricted m position well) ∙ (restricted-restricts m (is_among_first m position)).choices j

      go : (b : Bool) → is_among_first m position j ≡ b → choices_of m j ≡ choices_of few j
      go true first = sym (of_first ∙ cond-true (is_among_first m position j) (choices_of m j) [] first)
      go false none = absurd (omega (arith, (subst (λ xs. Contains xs s) (of_first ∙ cond-false (is_among_first m position j) (choices_of m j) [] none) listed).1))

  schools-few : schools_of m ≡ schools_of few
  unfolding whole.cut
  schools-few = refl

  students-few : (t : ℕ) → t < position → student_at few t ≡ student_at m t
  unfolding whole.cut
  students-few t early =
      get_or-map (λ e. e.0) (take position m.students) t nobody 0 (omega (arith, early, low, length-take-le position m.students low))
      ∙ ap (λ (e : ℕ × Student). e.0) (get_or-take position m.students t nobody early)
      ∙ sym (get_or-map (λ e. e.0) m.students t nobody 0 (omega (arith, early, low)))
    where
      nobody : ℕ × Student
      nobody = (0, record { zone = 0; continuing = None; siblings = []; choices = [] })

  pub ends-few : (segments : List (List Rejection)) (ends : List (Option ℕ)) → IsRunTo (cohort few everybody) position segments → AreEnds few segments ends → AreEnds m segments ends
  ends-few segments ends run before = record {
    one_each = before.one_each;
    there = λ t within.
        let early : t < position = omega (arith, within, run.one_each) in
        let i : ℕ = student_at few t in
        let rest : List Rejection = get_or segments t [] in
        let own : 0 < length (choices_of few i) = choices-some few (papers.well-cut m position well) i (hand-student few t (omega (arith, early, low, length-students_cut m position (omega (arith, low, length-map m.students (λ e. e.0))), length-map few.students (λ e. e.0)))) in
        before.there t within
        ∙ sym (place-beside few m i rest schools-few (rows-few i (get_or (choices_of few i) 0 0) (Contains-get_or (choices_of few i) 0 0 own))
        (λ p d high. rows-few (get_or rest p d).student (get_or rest p d).school
        (entries-listed (cohort few everybody) (t + 1) (papers.well-cut m position well) rest (log_at segments t) (valid-turn (cohort few everybody) segments t rest run (slice_get-get_or segments t [] within)) (get_or rest p d) (p, high, get_or_default rest p (get_or rest p d) d high))))
        ∙ ap (λ j. place_of m (end_of m j rest)) (students-few t early);
  }

-- a student leaves, in whose turn nothing came: the others ended alike
module _ (c : Cohort) (n : Market) (position i : ℕ) (segments : List (List Rejection)) (ends : List (Option ℕ)) (well : WellFormed c.papers) (here : slice_get (students_of c.papers) position ≡ Some i) (gone : n ≡ without_student c.papers i) (others : (j : ℕ) → c.enters j ≡ not (i == j))
    (run : IsRunTo c (length (students_of c.papers)) segments) (before : AreEnds c.papers segments ends) where
  restricts : Restricts n c.papers (but i)
  restricts = subst (λ p. Restricts p c.papers (but i)) (sym (gone ∙ without-restricted c.papers i well)) (restricted-restricts c.papers (but i))

  rows-left : (j : ℕ) → but i j ≡ true → choices_of n j ≡ choices_of c.papers j
  rows-left j other = restricts.choices j ∙ cond-true (but i j) (choices_of c.papers j) [] other

  schools-left : schools_of n ≡ schools_of c.papers
  schools-left = ap schools_of gone

  within : position < length (students_of c.papers)
  within = slice_get_within (students_of c.papers) position i here

  count : length segments ≡ length (students_of c.papers)
  count = run.one_each

  other-student : (t : ℕ) → t < length segments → (t ≡ position → ⊥) → but i (student_at c.papers t) ≡ true
  other-student t low apart =
      ap not (false_from_ne_true (i == student_at c.papers t) (λ same. apart
      (one-place (students_of c.papers) t position i well.students_differ
      (slice_get-get_or (students_of c.papers) t 0 (omega (arith, low, count)) ∙ ap Some (sym (eqb-true i (student_at c.papers t) same))) here)))

  place-left : (t : ℕ) → t < length segments → (t ≡ position → ⊥) → place_of c.papers (end_of c.papers (student_at c.papers t) (get_or segments t [])) ≡ place_of n (end_of n (student_at c.papers t) (get_or segments t []))
  place-left t low apart =
      let rest : List Rejection = get_or segments t [] in
      sym (place-beside c.papers n (student_at c.papers t) rest schools-left (rows-left (student_at c.papers t) (other-student t low apart))
      (λ p d high. rows-left (get_or rest p d).student (sym (others (get_or rest p d).student) ∙ enters-of (is_among_first c.papers (t + 1) (get_or rest p d).student) (c.enters (get_or rest p d).student) (turn-entered c (length (students_of c.papers)) segments t well run low p d high))))

  students-left : students_of n ≡ remove (students_of c.papers) position
  students-left = ap students_of gone ∙ students-without c.papers position i well here

  pub ends-left : AreEnds n (remove segments position) (remove ends position)
  ends-left = record {
    one_each = omega (arith, length-remove ends position (omega (arith, within, count, before.one_each)), length-remove segments position (omega (arith, within, count)), before.one_each);
    there = λ t low. elim (cases_lt t position) [
      | inl early ↦
          let at : t < length segments = omega (arith, early, within, count) in
          get_or-remove_below ends position None t early (omega (arith, within, count, before.one_each))
          ∙ before.there t at
          ∙ place-left t at (λ same. omega (arith, same, early))
          ∙ ap (λ j. place_of n (end_of n j (get_or segments t []))) (sym (ap (λ xs. get_or xs t 0) students-left ∙ get_or-remove_below (students_of c.papers) position 0 t early within))
          ∙ ap (λ l. place_of n (end_of n (student_at n t) l)) (sym (get_or-remove_below segments position [] t early (omega (arith, within, count))))
      | inr late ↦
          let at : t + 1 < length segments = omega (arith, low, length-remove segments position (omega (arith, within, count))) in
          get_or-remove_above ends position None t late (omega (arith, within, count, before.one_each))
          ∙ before.there (t + 1) at
          ∙ place-left (t + 1) at (λ same. omega (arith, same, late))
          ∙ ap (λ j. place_of n (end_of n j (get_or segments (t + 1) []))) (sym (ap (λ xs. get_or xs t 0) students-left ∙ get_or-remove_above (students_of c.papers) position 0 t late within))
          ∙ ap (λ l. place_of n (end_of n (student_at n t) l)) (sym (get_or-remove_above segments position [] t late (omega (arith, within, count))))
    ];
  }

-- the choice after a school is a school of the papers
after-known : (m : Market) → WellFormed m → (e : Rejection) (s : ℕ) → choice_after m e ≡ Some s → is_school m s ≡ true
unfolding choice_after
after-known m well e s is = go (position (λ t. t == e.school) (choices_of m e.student)) is
  where
    go : (rank : Option ℕ) → option_and_then (λ r. slice_get (choices_of m e.student) (r + 1)) rank ≡ Some s → is_school m s ≡ true
    go None none = absurd (none-some s none)
    go (Some r) at = choice-known m well e.student s (contains-at (choices_of m e.student) (r + 1) s at)

-- a school of the papers has a place
place-known : (m : Market) (found : Option ℕ) → ((s : ℕ) → found ≡ Some s → is_school m s ≡ true) → is_some (place_of m found) ≡ is_some found
place-known m None known = refl
place-known m (Some s) known = let (at, is) = school-position m s (known s refl) in ap is_some is

-- a turn ended in a place where it ended at some school
pub placed-there : (m : Market) → WellFormed m → (i : ℕ) (segment : List Rejection) → is_student m i ≡ true → is_some (place_of m (end_of m i segment)) ≡ ends_placed m segment
unfolding end_of ends_placed
placed-there m well i segment known = go (slice_get segment (length segment - 1))
  where
    first : slice_get (choices_of m i) 0 ≡ Some (get_or (choices_of m i) 0 0)
    first = slice_get-get_or (choices_of m i) 0 0 (choices-some m well i known)

    go : (last : Option Rejection) → is_some (place_of m (option_map_or (choice_after m) last (slice_get (choices_of m i) 0))) ≡ option_map_or (λ e. is_some (choice_after m e)) last true
    go None = place-known m (slice_get (choices_of m i) 0) (λ s is. choice-known m well i s (contains-at (choices_of m i) 0 s is)) ∙ ap is_some first
    go (Some e) = place-known m (choice_after m e) (after-known m well e)
