-- An amendment by which nobody enters or withdraws was made in place: the turns of its region can be taken anew.
use Rattle.std.proofs.Common.{◌≡◌, refl, ap, sym, subst, ◌∙◌, ℕ, zero, suc, ◌-◌, ◌≤◌, ◌<◌, ◌==◌, nat_eq, Bool, true, false, List, [], ◌∷◌, length, get_or, take, Option, Some, None, IfSome, slice_get, arith}
use Rattle.std.specs.List.{list_any, position_or_len}
use Rattle.std.proofs.lemmas.Bool.{eqb-true, false≢true, false_from_ne_true}
use Rattle.std.proofs.lemmas.List.{length-map}
use Rattle.std.proofs.lemmas.Bool.Decides.{nat_tests}
use Rattle.std.proofs.lemmas.Grind.{common_steps}
use Rattle.std.proofs.lemmas.Option.{none-some, slice_get-get_or, IfSome_then}
use Rattle.sc_papers.specs.Market.{Market, is_student, schools_of, student_at, student_of, students_of}
use Rattle.sc_papers.specs.Restriction.{is_among_first, AreApart}
use Rattle.sc_papers.specs.Verdict.{after}
use Rattle.sc_papers.specs.TakingBack.{TakesBack}
use Rattle.sc_papers.specs.WellFormed.{WellFormed}
use Rattle.sc_papers.specs.declared.amendment.Amendment.{Amendment}
use Rattle.sc_papers.specs.declared.amendment.Amendment.TheVariants.{Enter, Withdraw, Rerank, Add, Close, Correct}
use Rattle.sc_papers.proofs.Amending.{WellFormed-after}
use Rattle.sc_checkpoint.specs.Chains.{logs_in, students_in, Chain}
use Rattle.sc_region.specs.Marks.{marked}
use Rattle.sc_region.specs.Region.{amended}
use Rattle.sc_region.specs.Telling.{MarkRegion}
use Rattle.sc_region.proofs.Marked.{marked-told}
use Rattle.sc_ledgers.specs.Anew.{StartsAnew}
use Rattle.sc_ledgers.specs.Course.{labels_of}
use Rattle.sc_ledgers.specs.Renewed.{AreTurnsOf}
use Rattle.sc_ledgers.specs.Sweep.{is_amended, IsRegion}
use Rattle.sc_ledgers.specs.declared.following.Rows.{Rows}
use Rattle.sc_ledgers.specs.declared.ledger.Label.{Label}
use Rattle.sc_ledgers.specs.declared.opened.Ledgers.{Ledgers}
use Rattle.sc_stamps.specs.Record.{record_of}
use Rattle.sc_repair.specs.Anew.{choices_before, place_in, school_in, student_in, AreLedgersOf, IsStruck}
use Rattle.sc_repair.specs.Changed.{newcomer, ChangesInPlace}
use Rattle.sc_repair.specs.Locality.{is_among, marked_from, marked_in, TellsRegion}
use Rattle.sc_repair.specs.Rewinding.{rewind_point}
use Rattle.sc_repair.proofs.InPlace.{key-kept, known-amended, place-of_school, rows-before, schools-kept, seats-beside, student-kept}
use Rattle.sc_repair.proofs.RegionTurns.{inner_of, lies-apart, region-of, seated-inner, same-some, struck-left, student-amended, turns-of}
use Rattle.sc_repair.proofs.Regional.{marks-tell, region-apart_after, students-stay}
use Rattle.sc_repair.proofs.Rewinding.{alike-after, alike-less, rewind_within}
use Rattle.sc_repair.proofs.Resumption.{length-students}

-- whoever is among those before the first place of a number is another one
not-yet-first : (i : ℕ) (xs : List ℕ) (t : ℕ) → t ≤ position_or_len (nat_eq i) xs → list_any (λ x. x == i) (take t xs) ≡ false
not-yet-first i xs zero low = refl
not-yet-first i [] (suc t) low = refl
not-yet-first i (x ∷ xs) (suc t) low = grind (arith, nat_tests, common_steps, low, not-yet-first i xs t)

-- and so is whoever is among the first students then
other-first : (m : Market) (i t j : ℕ) → t ≤ position_or_len (nat_eq i) (students_of m) → is_among_first m t j ≡ true → (i == j) ≡ false
other-first m i t j low first = false_from_ne_true (i == j) (λ own.
    false≢true (sym (not-yet-first i (students_of m) t low) ∙ ap (λ k. list_any (λ x. x == k) (take t (students_of m))) (eqb-true i j own) ∙ first))

-- a student who is amended is not among those before the rewind point
first-unamended : (m : Market) (a : Amendment) (t j : ℕ) → t ≤ rewind_point m a → newcomer a ≡ None → is_among_first m t j ≡ true → is_amended (student_in (record_of a)) j ≡ false
first-unamended m (Enter i zone siblings choices continuing) t j low no_entry first = absurd (none-some i (sym no_entry))
first-unamended m (Withdraw i) t j low no_entry first = other-first m i t j low first
first-unamended m (Rerank i choices) t j low no_entry first = other-first m i t j low first
first-unamended m (Add s count) t j low no_entry first = refl
first-unamended m (Close s count) t j low no_entry first = refl
first-unamended m (Correct i zone siblings continuing) t j low no_entry first = other-first m i t j low first

-- an amendment in place, of papers whose chains are their students', and marks of its region
pub record IsInPlace (m : Market) (a : Amendment) (chains : List Chain) (marks : List Bool) : Type 0 where
  pub well : WellFormed m
  pub changes : ChangesInPlace m a
  pub theirs : students_in chains ≡ students_of m
  pub marked : MarkRegion m a marks

-- who is in its region
abbrev pub region_of : List Bool → List Chain → ℕ → Bool
region_of marks chains = is_among (marked_in marks chains)

-- and the schools of it
abbrev pub schools_in : Market → Amendment → List Bool → List Chain → ℕ → Bool
schools_in m a marks chains = inner_of m (after m a) (region_of marks chains) (school_in (record_of a))

module _ {m : Market} {a : Amendment} {chains : List Chain} {marks : List Bool} (given : IsInPlace m a chains marks) where
  -- the papers after it are well-formed, and the region lies apart in them
  pub well-after : WellFormed (after m a)
  well-after = WellFormed-after m a given.well given.changes.allowed

  pub tells : TellsRegion m a (region_of marks chains)
  tells = subst (λ (is : List ℕ). TellsRegion m a (is_among (marked marks is))) (sym given.theirs)
      (marks-tell m a marks given.well given.changes.allowed given.changes.no_entry given.marked.region)

  pub apart-after : AreApart (after m a) (region_of marks chains)
  apart-after = region-apart_after m a (region_of marks chains) tells

  -- everybody stands where they did, and has a segment and a mark
  pub stay : students_of (after m a) ≡ students_of m
  stay = students-stay m a given.changes.no_entry given.changes.no_withdrawal

  pub students-many : length (after m a).students ≡ length m.students
  students-many = omega (arith, ap (λ (xs : List ℕ). length xs) stay, length-students (after m a), length-students m)

  pub as-many : length (logs_in chains) ≡ length m.students
  as-many = omega (arith, length-map chains (λ (c : Chain). c.rejections), length-map chains (λ (c : Chain). c.student), ap (λ (xs : List ℕ). length xs) given.theirs, length-students m)

  marks-many : length marks ≡ length (logs_in chains)
  marks-many = given.marked.one_each ∙ sym as-many

  pub low : rewind_point m a ≤ length (logs_in chains)
  low = omega (arith, rewind_within m a, as-many)

  -- the marks tell who stands where
  told : (p : ℕ) → p < length (logs_in chains) → get_or marks p false ≡ region_of marks chains (student_at (after m a) p)
  told p within =
      let here : slice_get (students_of m) p ≡ Some (student_at m p) = slice_get-get_or (students_of m) p 0 (omega (arith, within, as-many, length-students m)) in
      marked-told marks (students_of m) p (student_at m p) given.well.students_differ here
      ∙ ap (λ (is : List ℕ). is_among (marked marks is) (student_at m p)) (sym given.theirs)
      ∙ ap (λ (is : List ℕ). region_of marks chains (get_or is p 0)) (sym stay)

  -- so the marked positions from the rewind point on are those of its students' turns
  pub turns : AreTurnsOf (after m a) (region_of marks chains) (rewind_point m a) (length (logs_in chains)) (marked_from marks (rewind_point m a))
  turns =
      turns-of (after m a) (region_of marks chains) marks (length (logs_in chains)) (rewind_point m a) (length marks - rewind_point m a)
      (omega (arith, marks-many, low)) told

  -- whoever is amended is in the region
  region-there : IsRegion m (after m a) (student_in (record_of a)) (region_of marks chains) (schools_in m a marks chains)
  region-there = region-of (lies-apart m a (region_of marks chains) tells) (student_in (record_of a))
      (λ j is. (tells j).1 (amended j (sym (student-amended a) ∙ same-some (student_in (record_of a)) j is)))

  -- all others are as they were
  kept : (j : ℕ) → is_amended (student_in (record_of a)) j ≡ false → student_of (after m a) j ≡ student_of m j
  kept j other = student-kept m a j given.changes.no_entry given.changes.no_withdrawal other

  -- the rows that its sweep is told: the papers after it, and the choices before it
  abbrev made : Amendment → Rows → Rows
  made back rows = record rows {
    papers = record rows.papers { now = after m a };
    amended = student_in (record_of a);
    before = record rows.before { now = choices_before (after m a) back (student_in (record_of a)) };
  }

  -- with these its turns can be taken anew
  started : (back : Amendment) (rows : Rows) (ledgers : Ledgers) (left : List (List Label)) → TakesBack m (after m a) back → AreLedgersOf m (logs_in chains) ledgers → IsStruck m (student_in (record_of a)) ledgers.schools.items left
      → StartsAnew m (made back rows) (region_of marks chains) (schools_in m a marks chains) (logs_in chains) (rewind_point m a) (labels_of m ledgers.schools.items) (labels_of (after m a) left) ledgers.ends (marked_from marks (rewind_point m a)) (place_in (after m a) (record_of a))
  started back rows ledgers left takes are struck =
      let left_of = struck-left m (after m a) (logs_in chains) (student_in (record_of a)) ledgers left given.well (schools-kept m a) are struck in
      record {
        well_formed = given.well;
        well_new = well-after;
        students = stay;
        schools = schools-kept m a;
        choices = rows-before m (after m a) back (student_in (record_of a)) well-after takes
            (known-some (student_in (record_of a)) (λ i is. known-amended m a i given.changes.allowed given.changes.no_entry is)) kept;
        seats = λ s beside. seats-beside m a s given.changes.allowed given.changes.no_entry given.changes.no_withdrawal beside;
        keys = λ j s other. key-kept m (after m a) j s (alike-after m a).seed ((alike-after m a).zones s) (kept j other);
        whole = are.whole;
        ended = are.ended;
        kept = left_of.kept;
        only = left_of.only;
        gone = left_of.gone;
        within = low;
        alike = λ t before. alike-less m (after m a) t (rewind_point m a) before (alike-after m a);
        first = λ t j before first. first-unamended m a t j before given.changes.no_entry first;
        region = region-there;
        inside = IfSome_then (place_in (after m a) (record_of a)) (place-of_school (after m a) (record_of a))
            (λ p at. seated-inner m (after m a) (region_of marks chains) (school_in (record_of a)) (get_or (schools_of (after m a)) p 0) at.1);
        turns = turns;
      }
    where
      known-some : (amended : Option ℕ) → ((i : ℕ) → amended ≡ Some i → is_student m i ≡ true) → IfSome amended (λ i. is_student m i ≡ true)
      known-some None known = tt
      known-some (Some i) known = known i refl

  -- and with whatever is the same as these
  pub starts-in-place : (n : Market) (back : Amendment) (rows : Rows) (ledgers : Ledgers) (left : List (List Label)) (point : ℕ) (positions : List ℕ) (place : Option ℕ) → n ≡ after m a → TakesBack m n back
      → AreLedgersOf m (logs_in chains) ledgers → IsStruck m (student_in (record_of a)) ledgers.schools.items left
      → rows.papers.now ≡ n → rows.amended ≡ student_in (record_of a) → rows.before.now ≡ choices_before n back (student_in (record_of a))
      → point ≡ rewind_point m a → positions ≡ marked_from marks point → place ≡ place_in n (record_of a)
      → StartsAnew m rows (region_of marks chains) (schools_in m a marks chains) (logs_in chains) point (labels_of m ledgers.schools.items) (labels_of n left) ledgers.ends positions place
  starts-in-place n back rows ledgers left point positions place accepted takes are struck papers amends had at from place_is =
      let Starts : Rows → ℕ → List ℕ → Option ℕ → Market → Type 0 = λ rows point positions place n.
      StartsAnew m rows (region_of marks chains) (schools_in m a marks chains) (logs_in chains) point (labels_of m ledgers.schools.items) (labels_of n left) ledgers.ends positions place in
      let same : rows ≡ made back rows = λ t. record rows {
        papers = record rows.papers { now = (papers ∙ accepted) t };
        amended = amends t;
        before = record rows.before { now = (had ∙ ap (λ p. choices_before p back (student_in (record_of a))) accepted) t };
      } in
      let all : Starts rows point positions place n ≡ Starts (made back rows) (rewind_point m a) (marked_from marks (rewind_point m a)) (place_in (after m a) (record_of a)) (after m a) = λ t.
      Starts (same t) (at t) ((from ∙ ap (marked_from marks) at) t) ((place_is ∙ ap (λ p. place_in p (record_of a)) accepted) t) (accepted t) in
      subst (λ S. S) (sym all) (started back rows ledgers left (subst (λ p. TakesBack m p back) accepted takes) are struck)
