-- Along the turns of a sweep.
use Rattle.std.proofs.Common.{◌≡◌, inl, inr, refl, ap, sym, subst, ◌∙◌, ℕ, zero, suc, ◌≤◌, ◌<◌, ◌+◌, ◌-◌, Bool, true, false, List, [], ◌∷◌, ◌++◌, drop, length, get_or, nat_eq, position, set, slice_get, take, Option, Some, None, Contains, arith}
use Rattle.std.proofs.lemmas.Bool.{false_from_ne_true, false≢true}
use Rattle.std.proofs.lemmas.List.{get_or_default, get_or-set_same, drop_more, length_push, length-map, length-set, length-take, map-append, take_all, take_more, take-set-le}
use Rattle.std.proofs.lemmas.List.Elements.{Contains-push_cases}
use Rattle.std.proofs.lemmas.Option.{get_or_from_slice_get, slice_get-get_or, slice_get_within}
use Rattle.sc_papers.specs.Market.{Market, schools_of, student_at, students_of}
use Rattle.sc_papers.specs.Restriction.{entries_of, AreApart}
use Rattle.sc_papers.specs.declared.rejection.Rejection.{Rejection}
use Rattle.sc_papers.proofs.Positions.{position-there}
use Rattle.sc_checkpoint.specs.Chains.{logs_in, replaced, with_chain, Chain}
use Rattle.sc_weave.proofs.Part.{segment-fails}
use Rattle.sc_checkpoint.proofs.Replacing.{replaced-length, replaced-other, replaced-push}
use Rattle.sc_ledgers.specs.Cohort.{Cohort}
use Rattle.sc_ledgers.specs.Course.{labels_of, AreTogether}
use Rattle.sc_ledgers.specs.Elsewhere.{cohort_of, AreAmong}
use Rattle.sc_ledgers.specs.Ends.{place_of, AreEnds, AreEndsTo, NamesNone}
use Rattle.sc_ledgers.specs.Marks.{flag_at, marked_in, FlagsPass, Marking}
use Rattle.sc_ledgers.specs.Proposals.{end_of}
use Rattle.sc_ledgers.specs.Renewed.{anew, AreTurnsOf, IsSweeping, IsUnderWay, NoneBetween, Renewed}
use Rattle.sc_ledgers.specs.Sweep.{is_amended, AreAmended, AreInside, AreInRegion, IsNext, IsSwept, IsTaken}
use Rattle.sc_ledgers.specs.declared.elsewhere.Stance.{Stance}
use Rattle.sc_ledgers.specs.declared.following.Rows.{Rows}
use Rattle.sc_ledgers.specs.declared.ledger.Label.{Label}
use Rattle.sc_ledgers.specs.declared.opened.Ledgers.{Ledgers}
use Rattle.sc_ledgers.proofs.Cohorts.{run-segments}
use Rattle.sc_ledgers.proofs.Passing.{none-of, swept-passes}
use Rattle.sc_ledgers.proofs.TurnEnds.{ends-all, ends-along, ends-anew, ends-still}

take-next : (xs : List (List Rejection)) (k : ℕ) (x : List Rejection) → slice_get xs k ≡ Some x → take (k + 1) xs ≡ take k xs ++ x ∷ []
take-next xs k x here = take_more xs k x (slice_get_within xs k x here) ∙ ap (λ r. take k xs ++ r ∷ []) (get_or_from_slice_get xs k x x here)

-- over turns of students outside the region
pub swept-along : {m n : Cohort} {amended : Option ℕ} {before : List ℕ} {reseated marked : ℕ → Bool} {old : List (List Rejection)} {labels : ℕ → List Label} {list : List Stance} (test : ℕ → Bool) (now : List (List Rejection)) → AreAmended m n amended before reseated old → AreApart m.papers test → AreInside m.papers test marked → ((j : ℕ) → is_amended amended j ≡ true → test j ≡ true)
    → (k more : ℕ) → k + more ≤ length old → ((t : ℕ) → k ≤ t → slice_get now t ≡ slice_get old t) → NoneBetween n.papers test k (k + more)
    → IsSwept m n amended old (take k now) k labels list marked reseated → IsSwept m n amended old (take (k + more) now) (k + more) labels list marked reseated
swept-along {m} {n} {amended} {before} {reseated} {marked} {old} {labels} {list} test now both apart inside theirs k zero low same none swept = subst (λ t. IsSwept m n amended old (take t now) t labels list marked reseated) (omega arith) swept
swept-along {m} {n} {amended} {before} {reseated} {marked} {old} {labels} {list} test now both apart inside theirs k (suc more) low same none swept =
    let i : ℕ = get_or (students_of n.papers) k 0 in
    let rest : List Rejection = get_or old k [] in
    let here : slice_get (students_of n.papers) k ≡ Some i = slice_get-get_or (students_of n.papers) k 0 (omega (arith, low, both.older.one_each, ap length both.students)) in
    let segment : slice_get old k ≡ Some rest = slice_get-get_or old k [] (omega (arith, low)) in
    let next = swept-passes test both swept apart inside theirs here segment (none k i (omega arith) (omega arith) here) in
    subst (λ t. IsSwept m n amended old (take t now) t labels list marked reseated) (omega arith)
    (swept-along test now both apart inside theirs (k + 1) more (omega (arith, low)) (λ t late. same t (omega (arith, late))) (λ t j late early at. none t j (omega (arith, late)) (omega (arith, early)) at)
    (subst (λ l. IsSwept m n amended old l (k + 1) labels list marked reseated) (sym (take-next now k rest (same k (omega arith) ∙ segment))) next))

-- a region's schools are listed by its students alone
apart-of : (m : Market) (test inner : ℕ → Bool) → AreTogether m test inner → AreApart m test
apart-of m test inner together = record {
  none_shared = λ a b s within out first second. false≢true (sym out ∙ sym (together b s second) ∙ together a s first ∙ within);
}

inside-of : (m n : Market) (test inner : ℕ → Bool) (flags : List Bool) → AreTogether m test inner → FlagsPass (λ p. inner (get_or (schools_of n) p 0)) flags → AreInside m test (marked_in n flags)
inside-of m n test inner flags together marked s j is listed = go (position (nat_eq s) (schools_of n)) refl
  where
    go : (found : Option ℕ) → position (nat_eq s) (schools_of n) ≡ found → test j ≡ true
    go None at = absurd (false≢true (ap (flag_at flags) (sym at) ∙ is))
    go (Some p) at =
        sym (together j s listed)
        ∙ ap inner (sym (get_or_from_slice_get (schools_of n) p s 0 (position-there (schools_of n) s p at)))
        ∙ marked p (ap (flag_at flags) (sym at) ∙ is)

-- from the position at hand on the segments are as they were
still-there : (old : List (List Rejection)) (renewed : Renewed) (k : ℕ) → ((p : ℕ) → Contains renewed.positions p → p < k) → (t : ℕ) → k ≤ t → slice_get (anew old renewed) t ≡ slice_get old t
still-there old renewed k before t late = replaced-other old renewed.positions (logs_in renewed.chains) t (λ here. omega (arith, before t here, late))

-- a turn of a student outside the region names nobody who is amended
names-between : {m : Cohort} {rows : Rows} {reseated test inner : ℕ → Bool} {old : List (List Rejection)} {renewed : Renewed} {k : ℕ} {ledgers : Ledgers} {list : List Stance} {marks : Marking} → IsSweeping m rows reseated test inner old renewed k ledgers list marks → (t : ℕ) → k ≤ t → t < length old
    → (slice_get (students_of rows.papers.now) t ≡ Some (student_at rows.papers.now t) → test (student_at rows.papers.now t) ≡ false) → NamesNone rows.amended (student_at rows.papers.now t) (get_or (anew old renewed) t [])
names-between {m} {rows} {reseated} {test} {inner} {old} {renewed} {k} sweeping t late low none =
    let n = rows.papers.now in
    let i : ℕ = student_at n t in
    let rest : List Rejection = get_or old t [] in
    let both = sweeping.both in
    let here : slice_get (students_of n) t ≡ Some i = slice_get-get_or (students_of n) t 0 (omega (arith, low, both.older.one_each, ap length both.students)) in
    let segment : slice_get old t ≡ Some rest = slice_get-get_or old t [] low in
    let same : rest ≡ get_or (anew old renewed) t [] = sym (get_or_from_slice_get (anew old renewed) t rest [] (still-there old renewed k sweeping.before t late ∙ segment)) in
    let outside : entries_of test rest ≡ [] = segment-fails m.papers test old t i rest both.well_m (apart-of m.papers test inner sweeping.region.old) (run-segments m old both.well_m both.all both.older) (ap (λ xs. slice_get xs t) (sym both.students) ∙ here) segment (none here) in
    let beside : (j : ℕ) → test j ≡ false → is_amended rows.amended j ≡ false = λ j fails. false_from_ne_true (is_amended rows.amended j) (λ is. false≢true (sym fails ∙ sweeping.region.theirs j is)) in
    subst (NamesNone rows.amended i) same
    (beside i (none here), λ p d high. beside (get_or rest p d).student (none-of test rest outside (get_or rest p d) (p, high, get_or_default rest p (get_or rest p d) d high)))

pub sweeping-along : {m : Cohort} {rows : Rows} {reseated test inner : ℕ → Bool} {old : List (List Rejection)} {renewed : Renewed} {ledgers : Ledgers} {list : List Stance} {marks : Marking} (k p : ℕ) → k ≤ p → p ≤ length old → NoneBetween rows.papers.now test k p → IsSweeping m rows reseated test inner old renewed k ledgers list marks → IsSweeping m rows reseated test inner old renewed p ledgers list marks
sweeping-along {m} {rows} {reseated} {test} {inner} {old} {renewed} {ledgers} {list} {marks} k p up low none sweeping =
    let same : k + (p - k) ≡ p = omega (arith, up) in
    record {
      both = sweeping.both;
      region = sweeping.region;
      swept = subst (λ t. IsSwept m (cohort_of rows) rows.amended old (take t (anew old renewed)) t (labels_of rows.papers.now ledgers.schools.items) list (marked_in rows.papers.now marks.flags) reseated) same
          (swept-along test (anew old renewed) sweeping.both (apart-of m.papers test inner sweeping.region.old) (inside-of m.papers rows.papers.now test inner marks.flags sweeping.region.old sweeping.inside.marked) sweeping.region.theirs
          k (p - k) (omega (arith, low, up)) (still-there old renewed k sweeping.before) (λ t j late early at. none t j late (omega (arith, early, up)) at) sweeping.swept);
      ended = ends-along k p (λ t late early. names-between sweeping t late (omega (arith, early, low)) (none t (student_at rows.papers.now t) late early)) sweeping.ended;
      throughout = sweeping.throughout;
      inside = sweeping.inside;
      as_many = sweeping.as_many;
      before = λ q here. omega (arith, sweeping.before q here, up);
    }

-- the turn at the position is next
pub sweeping-next : {m : Cohort} {rows : Rows} {reseated test inner : ℕ → Bool} {old : List (List Rejection)} {renewed : Renewed} {k : ℕ} {ledgers : Ledgers} {list : List Stance} {marks : Marking} (segment : List Rejection) → slice_get old k ≡ Some segment → IsSweeping m rows reseated test inner old renewed k ledgers list marks
    → IsNext m (cohort_of rows) rows.amended rows.before.now reseated old (take k (anew old renewed)) k segment (labels_of rows.papers.now ledgers.schools.items) list marks
sweeping-next segment here sweeping = record {
  both = sweeping.both;
  swept = sweeping.swept;
  throughout = sweeping.throughout;
  here = here;
}

-- it is told where each turn ended
pub sweeping-many : {m : Cohort} {rows : Rows} {reseated test inner : ℕ → Bool} {old : List (List Rejection)} {renewed : Renewed} {k : ℕ} {ledgers : Ledgers} {list : List Stance} {marks : Marking} → IsSweeping m rows reseated test inner old renewed k ledgers list marks → length ledgers.ends ≡ length old
sweeping-many {old = old} {renewed = renewed} sweeping = sweeping.ended.one_each ∙ replaced-length old renewed.positions (logs_in renewed.chains)

-- and so where this one did, if it names nobody who is amended
pub sweeping-end : {m : Cohort} {rows : Rows} {reseated test inner : ℕ → Bool} {old : List (List Rejection)} {renewed : Renewed} {k : ℕ} {ledgers : Ledgers} {list : List Stance} {marks : Marking} (rest : List Rejection) → slice_get old k ≡ Some rest → IsSweeping m rows reseated test inner old renewed k ledgers list marks
    → NamesNone rows.amended (student_at rows.papers.now k) rest → get_or ledgers.ends k None ≡ place_of rows.papers.now (end_of rows.papers.now (student_at rows.papers.now k) rest)
sweeping-end {rows = rows} {old = old} {renewed = renewed} {k = k} rest here sweeping names =
    let same : get_or (anew old renewed) k [] ≡ rest = get_or_from_slice_get (anew old renewed) k rest [] (still-there old renewed k sweeping.before k (omega arith) ∙ here) in
    sweeping.ended.there k (omega (arith, slice_get_within old k rest here, replaced-length old renewed.positions (logs_in renewed.chains))) (λ high. subst (NamesNone rows.amended (student_at rows.papers.now k)) (sym same) names)
    ∙ ap (λ l. place_of rows.papers.now (end_of rows.papers.now (student_at rows.papers.now k) l)) same

-- one segment in the place of another
set-there : (xs : List (List Rejection)) (k : ℕ) (x : List Rejection) → k < length xs → take (k + 1) (set xs k x) ≡ take k xs ++ x ∷ []
set-there xs k x low =
    take-next (set xs k x) k x (slice_get-get_or (set xs k x) k x (omega (arith, low, length-set xs k x)) ∙ ap Some (get_or-set_same xs k x x low))
    ∙ ap (λ l. l ++ x ∷ []) (take-set-le k xs k x (omega arith))

-- the turn was taken anew
pub sweeping-anew : {m : Cohort} {rows : Rows} {reseated test inner : ℕ → Bool} {old : List (List Rejection)} {renewed : Renewed} {k : ℕ} {ledgers ledgers' : Ledgers} {list list' : List Stance} {marks marks' : Marking} (chain : List Rejection) (student : ℕ) (more : Renewed) (end : Option ℕ) → k < length old → IsSweeping m rows reseated test inner old renewed k ledgers list marks
    → IsTaken m (cohort_of rows) rows.amended reseated old (take k (anew old renewed)) k chain (labels_of rows.papers.now ledgers'.schools.items) list' marks' → AreInRegion rows.papers.now test inner list' marks' → more.positions ≡ renewed.positions ++ k ∷ [] → more.chains ≡ with_chain renewed.chains student chain
    → end ≡ place_of rows.papers.now (end_of rows.papers.now (student_at rows.papers.now k) chain) → ledgers'.ends ≡ set ledgers.ends k end
    → IsSweeping m rows reseated test inner old more (k + 1) ledgers' list' marks'
sweeping-anew {m} {rows} {reseated} {test} {inner} {old} {renewed} {k} {ledgers} {ledgers'} {list' = list'} {marks' = marks'} chain student more end low sweeping taken inside positions chains ends kept =
    let one : Chain = record { student = student; rejections = chain } in
    let logs : logs_in more.chains ≡ logs_in renewed.chains ++ chain ∷ [] = ap logs_in chains ∙ map-append (λ (c : Chain). c.rejections) renewed.chains (one ∷ []) in
    let all : anew old more ≡ set (anew old renewed) k chain =
    ap (λ ps. replaced old ps (logs_in more.chains)) positions ∙ ap (replaced old (renewed.positions ++ k ∷ [])) logs
    ∙ replaced-push old renewed.positions (logs_in renewed.chains) k chain (sweeping.as_many ∙ sym (length-map renewed.chains (λ c. c.rejections))) in
    let within : k < length (anew old renewed) = omega (arith, low, replaced-length old renewed.positions (logs_in renewed.chains)) in
    record {
      both = sweeping.both;
      region = sweeping.region;
      swept = subst (λ l. IsSwept m (cohort_of rows) rows.amended old l (k + 1) (labels_of rows.papers.now ledgers'.schools.items) list' (marked_in rows.papers.now marks'.flags) reseated)
          (sym (ap (take (k + 1)) all ∙ set-there (anew old renewed) k chain within)) taken.swept;
      ended = subst (λ segments. AreEndsTo rows.papers.now rows.amended segments (k + 1) ledgers'.ends) (sym all)
          (subst (AreEndsTo rows.papers.now rows.amended (set (anew old renewed) k chain) (k + 1)) (sym kept) (ends-anew k chain end within ends sweeping.ended));
      throughout = taken.throughout;
      inside = inside;
      as_many = ap length positions ∙ length_push renewed.positions k ∙ omega (arith, sweeping.as_many) ∙ sym (length_push renewed.chains one) ∙ sym (ap length chains);
      before = λ p here. elim (Contains-push_cases renewed.positions k p (subst (λ ps. Contains ps p) positions here)) [
        | inl there ↦ omega (arith, sweeping.before p there)
        | inr same ↦ omega (arith, same)
      ];
    }

-- or stayed
pub sweeping-still : {m : Cohort} {rows : Rows} {reseated test inner : ℕ → Bool} {old : List (List Rejection)} {renewed : Renewed} {k : ℕ} {ledgers ledgers' : Ledgers} {list list' : List Stance} {marks marks' : Marking} (rest : List Rejection) → slice_get old k ≡ Some rest → IsSweeping m rows reseated test inner old renewed k ledgers list marks
    → IsTaken m (cohort_of rows) rows.amended reseated old (take k (anew old renewed)) k rest (labels_of rows.papers.now ledgers'.schools.items) list' marks' → AreInRegion rows.papers.now test inner list' marks'
    → NamesNone rows.amended (student_at rows.papers.now k) rest → ledgers'.ends ≡ ledgers.ends
    → IsSweeping m rows reseated test inner old renewed (k + 1) ledgers' list' marks'
sweeping-still {m} {rows} {reseated} {test} {inner} {old} {renewed} {k} {ledgers} {ledgers'} {list' = list'} {marks' = marks'} rest here sweeping taken inside names kept = record {
  both = sweeping.both;
  region = sweeping.region;
  swept = subst (λ l. IsSwept m (cohort_of rows) rows.amended old l (k + 1) (labels_of rows.papers.now ledgers'.schools.items) list' (marked_in rows.papers.now marks'.flags) reseated)
      (sym (take-next (anew old renewed) k rest (still-there old renewed k sweeping.before k (omega arith) ∙ here))) taken.swept;
  ended = subst (AreEndsTo rows.papers.now rows.amended (anew old renewed) (k + 1)) (sym kept)
      (ends-still k (subst (NamesNone rows.amended (student_at rows.papers.now k)) (sym (get_or_from_slice_get (anew old renewed) k rest [] (still-there old renewed k sweeping.before k (omega arith) ∙ here))) names) sweeping.ended);
  throughout = taken.throughout;
  inside = inside;
  as_many = sweeping.as_many;
  before = λ p there. omega (arith, sweeping.before p there);
}

-- the first of the turns that are left
pub underway-next : {m : Cohort} {rows : Rows} {reseated test inner : ℕ → Bool} {old : List (List Rejection)} {renewed : Renewed} {ledgers : Ledgers} {list : List Stance} {marks : Marking} (p : ℕ) (rest : List ℕ) → IsUnderWay m rows reseated test inner old renewed ledgers list marks (p ∷ rest)
    → (p < length old) × IsSweeping m rows reseated test inner old renewed p ledgers list marks × (test (student_at rows.papers.now p) ≡ true) × AreTurnsOf rows.papers.now test (p + 1) (length old) rest
underway-next {m} {rows} {old = old} {ledgers = ledgers} {marks = marks} p rest (k, sweeping, (up, low, none, passes, turns)) =
    (low, sweeping-along k p up (omega (arith, low)) none sweeping, passes, turns)

pub underway-at : {m : Cohort} {rows : Rows} {reseated test inner : ℕ → Bool} {old : List (List Rejection)} {renewed : Renewed} {ledgers : Ledgers} {list : List Stance} {marks : Marking} (positions : List ℕ) (r p : ℕ) → r < length positions → p ≡ get_or positions r p → IsUnderWay m rows reseated test inner old renewed ledgers list marks (drop r positions)
    → (p < length old) × IsSweeping m rows reseated test inner old renewed p ledgers list marks × (test (student_at rows.papers.now p) ≡ true) × AreTurnsOf rows.papers.now test (p + 1) (length old) (drop (r + 1) positions)
underway-at {m} {rows} {reseated} {test} {inner} {old} {renewed} {ledgers} {list} {marks} positions r p low is way =
    underway-next p (drop (r + 1) positions)
    (subst (IsUnderWay m rows reseated test inner old renewed ledgers list marks) (drop_more positions r p low ∙ ap (λ x. x ∷ drop (r + 1) positions) (sym is)) way)

-- once no turn is left, what is known of both papers, and after the last turn
pub record IsOver (m : Cohort) (rows : Rows) (reseated test : ℕ → Bool) (old : List (List Rejection)) (renewed : Renewed) (ledgers : Ledgers) (list : List Stance) (marks : Marking) : Type 0 where
  pub both : AreAmended m (cohort_of rows) rows.amended rows.before.now reseated old
  pub swept : IsSwept m (cohort_of rows) rows.amended old (anew old renewed) (length old) (labels_of rows.papers.now ledgers.schools.items) list (marked_in rows.papers.now marks.flags) reseated
  pub ended : AreEnds rows.papers.now (anew old renewed) ledgers.ends
  pub among : AreAmong test list
  pub one_each : length renewed.positions ≡ length renewed.chains
  pub below : (p : ℕ) → Contains renewed.positions p → p < length old

pub underway-over : {m : Cohort} {rows : Rows} {reseated test inner : ℕ → Bool} {old : List (List Rejection)} {renewed : Renewed} {ledgers : Ledgers} {list : List Stance} {marks : Marking} → IsUnderWay m rows reseated test inner old renewed ledgers list marks []
    → IsOver m rows reseated test old renewed ledgers list marks
underway-over {m} {rows} {reseated} {old = old} {renewed = renewed} {ledgers = ledgers} {list = list} {marks = marks} (k, sweeping, none) =
    let many : length (anew old renewed) ≡ length old = replaced-length old renewed.positions (logs_in renewed.chains) in
    let low : k ≤ length old = omega (arith, sweeping.swept.as_many, length-take k (anew old renewed), many) in
    let last = sweeping-along k (length old) low (omega arith) none sweeping in
    let whole : take (length old) (anew old renewed) ≡ anew old renewed = take_all (length old) (anew old renewed) (omega (arith, many)) in
    record {
      both = last.both;
      swept = subst (λ l. IsSwept m (cohort_of rows) rows.amended old l (length old) (labels_of rows.papers.now ledgers.schools.items) list (marked_in rows.papers.now marks.flags) reseated) whole last.swept;
      ended = ends-all (length old) (omega (arith, many)) last.ended;
      among = last.inside.among;
      one_each = last.as_many;
      below = λ p here. last.before p here;
    }
