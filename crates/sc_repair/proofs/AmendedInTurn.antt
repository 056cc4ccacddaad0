-- Papers and stamps in order of turn: what the rules say of them, and what an amendment makes of them.
use Rattle.std.proofs.Common.{◌≡◌, refl, sym, ap, subst, ◌∙◌, ℕ, ◌-◌, ◌<◌, ◌≤◌, nat_eq, List, [], ◌∷◌, length, map, remove, position, slice_get, slice_set, slice_index_or, Option, Some, None, arith, zero, suc, ◌+◌, ◌++◌, take, swap, IfSome}
use Rattle.std.specs.Prelude.{is_some, nat_le, not}
use Rattle.std.specs.List.{IsDistinct, cons_option}
use Rattle.std.specs.Map.{keys_of, lookup, remove_entry, set_value}
use Rattle.std.specs.Option.{option_and_then}
use Rattle.std.proofs.lemmas.Cmp.{nat_eq_equiv}
use Rattle.std.proofs.lemmas.Bool.{false≢true}
use Rattle.std.proofs.lemmas.List.{append-nil, map-id, length-append, length-take}
use Rattle.std.proofs.lemmas.List.Elements.{All-cons, All-nil}
use Rattle.std.proofs.lemmas.List.Sorted.{IsPermutation-map, length_permutation}
use Rattle.std.proofs.lemmas.Map.Keys.{IsDistinct-IsPermutation}
use Rattle.std.proofs.lemmas.Option.{get_or_from_slice_get, slice_get-get_or, slice_get_within, none-some, same_Some}
use Rattle.indexmap.proofs.MapLemmas.{Found-position, index-first, lookup_permutation, some_index}
use Rattle.indexmap.proofs.RemoveLemmas.{own_first}
use Rattle.sc_papers.specs.Market.{Market, seats_of, student_of, students_of, school_of, schools_of}
use Rattle.sc_papers.specs.Verdict.{first_of, no_choices, objections_to_list, refuse_if, too_long, twice_in, unknown_in, unknown_school, verdict, after, changed_school, changed_student, objections_to_withdraw, without_student}
use Rattle.sc_papers.proofs.Changing.{remove-found, set-found}
use Rattle.sc_papers.proofs.EntryOrder.{entry-there, WellFormed-swapped}
use Rattle.sc_papers.specs.declared.amendment.Amendment.{Amendment}
use Rattle.sc_papers.specs.declared.amendment.Amendment.TheVariants.{Enter, Withdraw, Rerank, Correct, Add, Close}
use Rattle.sc_papers.specs.declared.amendment.Refusal.TheVariants.{RosterFull, StudentExists, UnknownStudent}
use Rattle.sc_papers.specs.declared.amendment.Stamped.{Stamped}
use Rattle.sc_papers.specs.declared.limits.TheConstants.{MOST_STUDENTS}
use Rattle.sc_stamps.specs.Record.{record_of}
use Rattle.sc_stamps.specs.Stamps.{AreGiven, IsInStep, Stamps, stamp_at, stamp_of, marking_of, stamps_after, with_stamp, with_swapped_stamps, without_stamp}
use Rattle.sc_stamps.specs.Verdict.{stamp_verdict, stamped_verdict, StampedPapers, stamped_after}
use Rattle.sc_stamps.specs.declared.record.Record.{Record}
use Rattle.sc_stamps.specs.declared.record.Record.TheVariants.{OfStudent, OfSchool}
use Rattle.sc_repair.specs.Turns.{AreInTurn, AreTurns, TurnsOfEntry, unless_at, in_turn, left, papers_in_turn, stamped_in_turn, stamps_in_turn, begun_turns, entered, finished_turns, first_turns, last_papers, last_stamps, last_turns, position_of_leaver, swapped}
use Rattle.sc_repair.proofs.EntryTurns.{turn-alone, turn-of, AreTurns-first, AreTurns-entered, AreTurns-left, AreTurns-swapped, exchanged-first, turns-avoid}
use Rattle.sc_papers.proofs.Entering.{is_some-false}
use Rattle.sc_repair.proofs.InTurn.{Alone, Each, earlier, earlier-same, in_turn-left, in_turn-length, in_turn-permutes, in_turn-set, last-apart, remove-seam, turn-there, Avoids, in_turn-entered, in_turn-swapped, swapped-there}
use Rattle.std.proofs.lemmas.List.Edits.{length-remove, length-swap}
use Rattle.sc_papers.specs.EntryOrder.{with_swapped_students}
use Rattle.sc_papers.specs.WellFormed.{WellFormed}
use Rattle.sc_papers.specs.declared.records.School.{School}
use Rattle.sc_papers.specs.declared.records.Student.{Student}
use Rattle.sc_papers.proofs.Amending.{WellFormed-after}
use Rattle.sc_papers.proofs.Objections.{first_of-none}
use Rattle.sc_papers.proofs.TakingBack.{known-student}
use Rattle.sc_stamps.proofs.Given.{given-swapped}
use Rattle.sc_stamps.proofs.Places.{length-put}
use Rattle.sc_stamps.proofs.Step.{in-step-after}
use Rattle.sc_stamps.specs.declared.marking.Marking.{Marking}
use Rattle.sc_stamps.specs.declared.marking.Marking.TheVariants.{Newcomer, StudentLeaves}

-- in order of turn no stamp is greater than the number of accepted amendments
given-one : (n : ℕ) (stamps : List ℕ) (p : ℕ) (rest : List ℕ) → AreGiven n stamps → AreGiven n rest → (found : Option ℕ) → slice_get stamps p ≡ found → AreGiven n (cons_option found rest)
given-one n stamps p rest given others None none = others
given-one n stamps p rest given others (Some stamp) here =
    All-cons (λ one. one ≤ n) stamp rest (omega (arith, given p stamp (slice_get_within stamps p stamp here), get_or_from_slice_get stamps p stamp stamp here)) others

given-in_turn : (n : ℕ) (positions : List (Option ℕ)) (stamps : List ℕ) → AreGiven n stamps → AreGiven n (in_turn positions stamps)
given-in_turn n [] stamps given = All-nil (λ stamp. stamp ≤ n)
given-in_turn n (None ∷ positions) stamps given = given-in_turn n positions stamps given
given-in_turn n (Some p ∷ positions) stamps given = given-one n stamps p (in_turn positions stamps) given (given-in_turn n positions stamps given) (slice_get stamps p) refl

-- what stands at the position of a number
pub entry-at : {X : Type 0} (i p : ℕ) (es : List (ℕ × X)) → position (nat_eq i) (keys_of es) ≡ Some p → (v : X) × (lookup (nat_eq i) es ≡ Some v) × (slice_get es p ≡ Some (i, v))
entry-at {X = X} i p es here = go (lookup (nat_eq i) es) refl
  where
    go : (found : Option X) → lookup (nat_eq i) es ≡ found → (v : X) × (lookup (nat_eq i) es ≡ Some v) × (slice_get es p ≡ Some (i, v))
    go None none = absurd (false≢true (sym (ap is_some none) ∙ sym (some_index (nat_eq i) es) ∙ ap is_some here))
    go (Some v) is = (v, is, ap (slice_get es) (sym (Found-position (nat_eq i) es p here).or_len) ∙ entry-there i v es is)

pub unknown-at : {X : Type 0} (i : ℕ) (es : List (ℕ × X)) → position (nat_eq i) (keys_of es) ≡ None → lookup (nat_eq i) es ≡ None
unknown-at i es nobody = is_some-false (lookup (nat_eq i) es) (sym (some_index (nat_eq i) es) ∙ ap is_some nobody)

-- where numbers differ, an entry's position is that of its number
pub position-at : {X : Type 0} (i k : ℕ) (v : X) (es : List (ℕ × X)) → IsDistinct nat_eq (keys_of es) → slice_get es k ≡ Some (i, v) → position (nat_eq i) (keys_of es) ≡ Some k
position-at i k v es differ here = index-first (nat_eq i) es k (own_first nat_eq nat_eq_equiv es k i v differ here)

-- what a change or a removal of the entry makes of the list
pub set-plain : {X : Type 0} (i p : ℕ) (es : List (ℕ × X)) (w : X) → position (nat_eq i) (keys_of es) ≡ Some p → set_value (nat_eq i) es w ≡ slice_set es p (i, w)
set-plain {X = X} i p es w here =
    sym (map-id (set_value (nat_eq i) es w)) ∙ sym (set-found (λ (k : ℕ) (x : X). (k, x)) i es w p (sym here)) ∙ ap (λ (fs : List (ℕ × X)). slice_set fs p (i, w)) (map-id es)

pub remove-plain : {X : Type 0} (i p : ℕ) (es : List (ℕ × X)) → position (nat_eq i) (keys_of es) ≡ Some p → remove_entry (nat_eq i) es ≡ remove es p
remove-plain {X = X} i p es here =
    sym (map-id (remove_entry (nat_eq i) es)) ∙ sym (remove-found (λ (e : ℕ × X). e) (nat_eq i) es p (sym here)) ∙ ap (λ (fs : List (ℕ × X)). remove fs p) (map-id es)

-- entries in turn, whose keys differ
module _ {X : Type 0} (places : List (Option ℕ)) (es : List (ℕ × X)) (each : Each places (length es)) (differ : IsDistinct nat_eq (keys_of es)) where
  differ-in_turn : IsDistinct nat_eq (keys_of (in_turn places es))
  differ-in_turn =
      IsDistinct-IsPermutation nat_eq nat_eq_equiv.symm (keys_of es) (keys_of (in_turn places es)) (IsPermutation-map (λ e. e.0) es (in_turn places es) (in_turn-permutes places es each)) differ

  pub lookup-in_turn : (i : ℕ) → lookup (nat_eq i) (in_turn places es) ≡ lookup (nat_eq i) es
  lookup-in_turn i = lookup_permutation nat_eq_equiv es (in_turn places es) (in_turn-permutes places es each) differ-in_turn (nat_eq i) (nat_eq_equiv.congr i)

  -- a number that stands at a position has its place in turn
  pub position-in_turn : (i p turn : ℕ) → Alone places p turn → position (nat_eq i) (keys_of es) ≡ Some p → position (nat_eq i) (keys_of (in_turn places es)) ≡ Some (earlier places turn es)
  position-in_turn i p turn one here =
      let (v, is, at) = entry-at i p es here in
      position-at i (earlier places turn es) v (in_turn places es) differ-in_turn (turn-there places es p turn (i, v) one.here at)

  -- what stands there is changed
  pub set_value-in_turn : (i p turn : ℕ) (w : X) → Alone places p turn → position (nat_eq i) (keys_of es) ≡ Some p → in_turn places (set_value (nat_eq i) es w) ≡ set_value (nat_eq i) (in_turn places es) w
  set_value-in_turn i p turn w one here =
      let (v, is, at) = entry-at i p es here in
      ap (in_turn places) (set-plain i p es w here) ∙ in_turn-set places es p turn (i, w) one (slice_get_within es p (i, v) at)
      ∙ sym (set-plain i (earlier places turn es) (in_turn places es) w (position-in_turn i p turn one here))

-- whoever stands last is taken out
pub remove-in_turn : {X : Type 0} (t : TurnsOfEntry) (xs : List X) (turn : ℕ) → AreTurns t → length t.turns ≡ length xs → slice_get t.turns (length t.turns - 1) ≡ Some turn
    → in_turn (left t).positions (remove xs (length t.turns - 1)) ≡ remove (in_turn t.positions xs) (earlier t.positions turn xs)
remove-in_turn t [] turn are count own = absurd (omega (arith, count, slice_get_within t.turns (length t.turns - 1) turn own))
remove-in_turn {X = X} t (x ∷ xs) turn are count own =
    let (ys, y, whole, same) = last-apart x xs in
    let short : length t.turns - 1 ≡ length ys = omega (arith, count, same) in
    let one : Alone t.positions (length ys) turn = subst (λ k. Alone t.positions k turn) short (turn-alone t (length t.turns - 1) turn are own) in
    (λ u. in_turn (map (option_and_then (unless_at (short u))) t.positions) (remove (whole u) (short u)))
    ∙ ap (in_turn (map (option_and_then (unless_at (length ys))) t.positions)) (remove-seam ys y [] ∙ append-nil ys)
    ∙ in_turn-left t.positions ys y turn one
    ∙ ap (λ (zs : List X). remove (in_turn t.positions zs) (earlier t.positions turn zs)) (sym whole)

-- papers and stamps in order of turn
module _ (t : TurnsOfEntry) (m : Market) (stamps : Stamps) (kept : AreInTurn t m stamps) where
  pub each : Each t.positions (length m.students)
  each p low = let (turn, own) = turn-of t.turns p (omega (arith, low, kept.count)) in (turn, turn-alone t p turn kept.turns own)

  pub known-in_turn : (i : ℕ) → student_of (papers_in_turn t.positions m) i ≡ student_of m i
  known-in_turn i = lookup-in_turn t.positions m.students each kept.well_formed.students_differ i

  -- what can be said against an amendment is the same
  pub verdict_in_turn : (a : Amendment) → verdict (papers_in_turn t.positions m) a ≡ verdict m a
  unfolding seats_of
  verdict_in_turn (Enter i zone siblings choices continuing) =
      let known = ap is_some (known-in_turn i) in
      let count = length_permutation m.students (in_turn t.positions m.students) (in_turn-permutes t.positions m.students each) in
      (λ u. first_of (refuse_if (known u) StudentExists ∷ no_choices choices ∷ too_long choices ∷ too_long siblings ∷ unknown_in m choices ∷ unknown_in m siblings ∷ unknown_school m continuing
      ∷ twice_in choices ∷ twice_in siblings ∷ refuse_if (nat_le MOST_STUDENTS (count u)) RosterFull ∷ []))
  verdict_in_turn (Withdraw i) = let known = ap is_some (known-in_turn i) in (λ u. first_of (refuse_if (not (known u)) UnknownStudent ∷ []))
  verdict_in_turn (Rerank i choices) =
      let known = ap is_some (known-in_turn i) in (λ u. first_of (refuse_if (not (known u)) UnknownStudent ∷ no_choices choices ∷ objections_to_list m choices))
  verdict_in_turn (Correct i zone siblings continuing) =
      let known = ap is_some (known-in_turn i) in
      (λ u. first_of (refuse_if (not (known u)) UnknownStudent ∷ too_long siblings ∷ unknown_in m siblings ∷ unknown_school m continuing ∷ twice_in siblings ∷ []))
  verdict_in_turn _ = refl

  -- whoever stands at a position, and whoever does not
  pub place-in_turn : (i p turn : ℕ) → slice_get t.turns p ≡ Some turn → position (nat_eq i) (students_of m) ≡ Some p
      → position (nat_eq i) (students_of (papers_in_turn t.positions m)) ≡ Some (earlier t.positions turn m.students)
  place-in_turn i p turn own here = position-in_turn t.positions m.students each kept.well_formed.students_differ i p turn (turn-alone t p turn kept.turns own) here

  pub nobody-in_turn : (i : ℕ) → position (nat_eq i) (students_of m) ≡ None → position (nat_eq i) (students_of (papers_in_turn t.positions m)) ≡ None
  nobody-in_turn i here = is_some-false _ (some_index (nat_eq i) (in_turn t.positions m.students) ∙ ap is_some (known-in_turn i ∙ unknown-at i m.students here))

  pub own-turn : (i p : ℕ) → position (nat_eq i) (students_of m) ≡ Some p → (turn : ℕ) × (slice_get t.turns p ≡ Some turn)
  own-turn i p here =
      let (v, is, at) = entry-at i p m.students here in
      turn-of t.turns p (omega (arith, kept.count, slice_get_within m.students p (i, v) at))

  -- each record has its stamp
  pub stamp-in_turn : (r : Record) → stamp_of (papers_in_turn t.positions m) (stamps_in_turn t.positions stamps) r ≡ stamp_of m stamps r
  stamp-in_turn (OfSchool s) = refl
  stamp-in_turn (OfStudent i) = go (position (nat_eq i) (students_of m)) refl
    where
      go : (place : Option ℕ) → position (nat_eq i) (students_of m) ≡ place
          → stamp_at (in_turn t.positions stamps.students) (position (nat_eq i) (students_of (papers_in_turn t.positions m))) ≡ stamp_at stamps.students (position (nat_eq i) (students_of m))
      go None here = ap (stamp_at (in_turn t.positions stamps.students)) (nobody-in_turn i here) ∙ sym (ap (stamp_at stamps.students) here)
      go (Some p) here =
          let (turn, own) = own-turn i p here in
          let (v, is, at) = entry-at i p m.students here in
          let low : p < length stamps.students = omega (arith, kept.in_step.students, slice_get_within m.students p (i, v) at) in
          let there = slice_get-get_or stamps.students p 0 low in
          ap (stamp_at (in_turn t.positions stamps.students)) (place-in_turn i p turn own here ∙ ap Some (earlier-same t.positions turn m.students stamps.students (sym kept.in_step.students)))
          ∙ get_or_from_slice_get (in_turn t.positions stamps.students) (earlier t.positions turn stamps.students) (slice_index_or stamps.students p 0) 0
          (turn-there t.positions stamps.students p turn (slice_index_or stamps.students p 0) (turn-alone t p turn kept.turns own).here there)
          ∙ sym (ap (stamp_at stamps.students) here)

  pub stamped_verdict_in_turn : (stamped : Stamped) → stamped_verdict (stamped_in_turn t.positions m stamps) stamped ≡ stamped_verdict (record { papers = m; stamps = stamps }) stamped
  stamped_verdict_in_turn stamped =
      (λ u. first_of (verdict_in_turn stamped.amendment u ∷ stamp_verdict (stamp-in_turn (record_of stamped.amendment) u) stamped.stamp stamps.accepted ∷ []))

  -- in order of turn, the stamps are in step too
  pub step-in_turn : IsInStep (papers_in_turn t.positions m) (stamps_in_turn t.positions stamps)
  step-in_turn = record {
    students = in_turn-length t.positions stamps.students m.students kept.in_step.students;
    schools = kept.in_step.schools;
    students_given = given-in_turn stamps.accepted t.positions stamps.students kept.in_step.students_given;
    schools_given = kept.in_step.schools_given;
  }

-- An amendment of papers and stamps that stand in an order of their own, seen in order of turn.
abbrev student_with : ℕ → List ℕ → List ℕ → Option ℕ → Student
student_with zone siblings choices continuing = record { zone = zone; siblings = siblings; choices = choices; continuing = continuing }

-- whoever enters comes last in order of turn
entered-in_turn : {X : Type 0} (t : TurnsOfEntry) (xs : List X) (x : X) → AreTurns t → length t.turns ≡ length xs → in_turn (entered t).positions (xs ++ x ∷ []) ≡ in_turn t.positions xs ++ x ∷ []
entered-in_turn t xs x are count =
    (λ u. in_turn (t.positions ++ Some (count u) ∷ []) (xs ++ x ∷ [])) ∙ in_turn-entered t.positions xs x (subst (Avoids t.positions) count (turns-avoid t are))

-- an amendment leaves turns what they are
pub turns-begun : (k : Marking) (u : TurnsOfEntry) → AreTurns u → AreTurns (begun_turns k u)
turns-begun Newcomer u are = AreTurns-entered u are
turns-begun _ u are = are

turns-finished : (k : Marking) (u : TurnsOfEntry) → AreTurns u → AreTurns (finished_turns k u)
turns-finished (StudentLeaves q) u are = AreTurns-left u are
turns-finished _ u are = are

-- the three, told by equations
pub kept-along : (t u : TurnsOfEntry) (m n : Market) (stamps others : Stamps) → u ≡ t → n ≡ m → others ≡ stamps → AreInTurn t m stamps → AreInTurn u n others
kept-along t u m n stamps others turns papers marks kept =
    subst (λ (x : TurnsOfEntry). AreInTurn x n others) (sym turns) (subst (λ (x : Market). AreInTurn t x others) (sym papers) (subst (λ (x : Stamps). AreInTurn t m x) (sym marks) kept))

module _ (t : TurnsOfEntry) (m : Market) (stamps : Stamps) (kept : AreInTurn t m stamps) where
  -- what the papers hold of a student changes
  papers-changed : (i : ℕ) (change : Student → Student) → papers_in_turn t.positions (changed_student m i change) ≡ changed_student (papers_in_turn t.positions m) i change
  papers-changed i change = go (position (nat_eq i) (students_of m)) refl
    where
      go : (place : Option ℕ) → position (nat_eq i) (students_of m) ≡ place → papers_in_turn t.positions (changed_student m i change) ≡ changed_student (papers_in_turn t.positions m) i change
      go None here =
          let none : student_of m i ≡ None = unknown-at i m.students here in
          let too : student_of (papers_in_turn t.positions m) i ≡ None = known-in_turn t m stamps kept i ∙ none in
          rw (none, too) refl
      go (Some p) here =
          let (turn, own) = own-turn t m stamps kept i p here in
          let (v, is, at) = entry-at i p m.students here in
          let some : student_of m i ≡ Some v = is in
          let too : student_of (papers_in_turn t.positions m) i ≡ Some v = known-in_turn t m stamps kept i ∙ is in
          let set : in_turn t.positions (set_value (nat_eq i) m.students (change v)) ≡ set_value (nat_eq i) (in_turn t.positions m.students) (change v) =
          set_value-in_turn t.positions m.students (each t m stamps kept) kept.well_formed.students_differ i p turn (change v) (turn-alone t p turn kept.turns own) here in
          rw (some, too) (λ u. let n : Market = record m { students = set u } in n)

  -- and the student gets a stamp
  stamps-changed : (i w : ℕ) → in_turn t.positions (with_stamp stamps.students (position (nat_eq i) (students_of m)) w) ≡ with_stamp (in_turn t.positions stamps.students) (position (nat_eq i) (students_of (papers_in_turn t.positions m))) w
  stamps-changed i w = go (position (nat_eq i) (students_of m)) refl
    where
      go : (place : Option ℕ) → position (nat_eq i) (students_of m) ≡ place
          → in_turn t.positions (with_stamp stamps.students (position (nat_eq i) (students_of m)) w) ≡ with_stamp (in_turn t.positions stamps.students) (position (nat_eq i) (students_of (papers_in_turn t.positions m))) w
      go None here =
          (λ u. in_turn t.positions (with_stamp stamps.students (here u) w)) ∙ sym (λ u. with_stamp (in_turn t.positions stamps.students) (nobody-in_turn t m stamps kept i here u) w)
      go (Some p) here =
          let (turn, own) = own-turn t m stamps kept i p here in
          let (v, is, at) = entry-at i p m.students here in
          (λ u. in_turn t.positions (with_stamp stamps.students (here u) w))
          ∙ in_turn-set t.positions stamps.students p turn w (turn-alone t p turn kept.turns own) (omega (arith, kept.in_step.students, slice_get_within m.students p (i, v) at))
          ∙ sym (λ u. with_stamp (in_turn t.positions stamps.students) ((place-in_turn t m stamps kept i p turn own here ∙ ap Some (earlier-same t.positions turn m.students stamps.students (sym kept.in_step.students))) u) w)

  -- what the papers hold of a school changes
  papers-seated : (s : ℕ) (change : School → School) → papers_in_turn t.positions (changed_school m s change) ≡ changed_school (papers_in_turn t.positions m) s change
  papers-seated s change = go (school_of m s) refl
    where
      go : (found : Option School) → school_of m s ≡ found → papers_in_turn t.positions (changed_school m s change) ≡ changed_school (papers_in_turn t.positions m) s change
      go None is = rw is refl
      go (Some school) is = rw is refl

  -- two students change places
  pub swapped-in_turn : (a b : ℕ) → a < length m.students → b < length m.students → stamped_in_turn (swapped a b t).positions (with_swapped_students m a b) (with_swapped_stamps stamps a b) ≡ stamped_in_turn t.positions m stamps
  swapped-in_turn a b low high =
      let students = in_turn-swapped t.positions m.students a b low high in
      let own = in_turn-swapped t.positions stamps.students a b (omega (arith, kept.in_step.students, low)) (omega (arith, kept.in_step.students, high)) in
      (λ u. let p : StampedPapers = record { papers = record m { students = students u }; stamps = record stamps { students = own u } } in p)

  -- an amendment, by which whoever leaves stands last
  pub after-in_turn : (a : Amendment) → ((p : ℕ) → position_of_leaver (marking_of m a) ≡ Some p → p ≡ length t.turns - 1) → verdict m a ≡ None
      → stamped_in_turn (finished_turns (marking_of m a) (begun_turns (marking_of m a) t)).positions (after m a) (stamps_after m a stamps) ≡ stamped_after (stamped_in_turn t.positions m stamps) a
  unfolding seats_of
  after-in_turn (Enter i zone siblings choices continuing) last allowed =
      let student : Student = record { zone = zone; siblings = siblings; choices = choices; continuing = continuing } in
      let students = entered-in_turn t m.students (i, student) kept.turns kept.count in
      let own = entered-in_turn t stamps.students (stamps.accepted + 1) kept.turns (kept.count ∙ sym kept.in_step.students) in
      (λ u. let p : StampedPapers = record { papers = record m { students = students u }; stamps = record stamps { accepted = stamps.accepted + 1; students = own u } } in p)
  after-in_turn (Withdraw i) last allowed = go (position (nat_eq i) (students_of m)) refl
    where
      go : (place : Option ℕ) → position (nat_eq i) (students_of m) ≡ place
          → stamped_in_turn (left t).positions (without_student m i) (stamps_after m (Withdraw i) stamps) ≡ stamped_after (stamped_in_turn t.positions m stamps) (Withdraw i)
      go None here = let known = known-student m i (first_of-none (objections_to_withdraw m i) allowed).0 in absurd (none-some known.0 (sym (unknown-at i m.students here) ∙ known.1))
      go (Some p) here =
          let (turn, own) = own-turn t m stamps kept i p here in
          let at : p ≡ length t.turns - 1 = last p here in
          let mine : slice_get t.turns (length t.turns - 1) ≡ Some turn = ap (slice_get t.turns) (sym at) ∙ own in
          let place = place-in_turn t m stamps kept i p turn own here in
          let students : in_turn (left t).positions (remove_entry (nat_eq i) m.students) ≡ remove_entry (nat_eq i) (in_turn t.positions m.students) =
          ap (in_turn (left t).positions) (remove-plain i p m.students here ∙ ap (remove m.students) at)
          ∙ remove-in_turn t m.students turn kept.turns kept.count mine
          ∙ sym (remove-plain i (earlier t.positions turn m.students) (in_turn t.positions m.students) place) in
          let own_stamps : in_turn (left t).positions (without_stamp stamps.students (position (nat_eq i) (students_of m))) ≡ without_stamp (in_turn t.positions stamps.students) (position (nat_eq i) (students_of (papers_in_turn t.positions m))) =
          ap (in_turn (left t).positions) (ap (without_stamp stamps.students) here ∙ ap (remove stamps.students) at)
          ∙ remove-in_turn t stamps.students turn kept.turns (kept.count ∙ sym kept.in_step.students) mine
          ∙ ap (remove (in_turn t.positions stamps.students)) (earlier-same t.positions turn stamps.students m.students kept.in_step.students)
          ∙ sym (ap (without_stamp (in_turn t.positions stamps.students)) place) in
          (λ u. let p : StampedPapers = record { papers = record m { students = students u }; stamps = record stamps { accepted = stamps.accepted + 1; students = own_stamps u } } in p)
  after-in_turn (Rerank i choices) last allowed =
      let students = papers-changed i (λ student. record student { choices = choices }) in
      let own = stamps-changed i (stamps.accepted + 1) in
      (λ u. let p : StampedPapers = record { papers = students u; stamps = record stamps { accepted = stamps.accepted + 1; students = own u } } in p)
  after-in_turn (Add s count) last allowed =
      let schools = papers-seated s (λ school. record school { seats = seats_of m s + count }) in
      (λ u. let p : StampedPapers = record { papers = schools u; stamps = record stamps { accepted = stamps.accepted + 1; students = in_turn t.positions stamps.students; schools = with_stamp stamps.schools (position (nat_eq s) (schools_of m)) (stamps.accepted + 1) } } in p)
  after-in_turn (Close s count) last allowed =
      let schools = papers-seated s (λ school. record school { seats = seats_of m s - count }) in
      (λ u. let p : StampedPapers = record { papers = schools u; stamps = record stamps { accepted = stamps.accepted + 1; students = in_turn t.positions stamps.students; schools = with_stamp stamps.schools (position (nat_eq s) (schools_of m)) (stamps.accepted + 1) } } in p)
  after-in_turn (Correct i zone siblings continuing) last allowed =
      let students = papers-changed i (λ student. record student { zone = zone; siblings = siblings; continuing = continuing }) in
      let own = stamps-changed i (stamps.accepted + 1) in
      (λ u. let p : StampedPapers = record { papers = students u; stamps = record stamps { accepted = stamps.accepted + 1; students = own u } } in p)

  -- each student keeps a stamp and a turn
  pub kept-swapped : (a b : ℕ) → a < length m.students → b < length m.students → AreInTurn (swapped a b t) (with_swapped_students m a b) (with_swapped_stamps stamps a b)
  kept-swapped a b low high = record {
    well_formed = WellFormed-swapped m a b low high kept.well_formed;
    in_step = record {
      students = length-swap stamps.students a b ∙ kept.in_step.students ∙ sym (length-swap m.students a b);
      schools = kept.in_step.schools;
      students_given = given-swapped stamps.accepted stamps.students a b (omega (arith, kept.in_step.students, low)) (omega (arith, kept.in_step.students, high)) kept.in_step.students_given;
      schools_given = kept.in_step.schools_given;
    };
    turns = AreTurns-swapped t a b (omega (arith, kept.count, low)) (omega (arith, kept.count, high)) kept.turns;
    count = length-swap t.turns a b ∙ kept.count ∙ sym (length-swap m.students a b);
  }

  pub kept-after : (a : Amendment) → verdict m a ≡ None → AreInTurn (finished_turns (marking_of m a) (begun_turns (marking_of m a) t)) (after m a) (stamps_after m a stamps)
  kept-after a allowed = record {
    well_formed = WellFormed-after m a kept.well_formed allowed;
    in_step = in-step-after m stamps a kept.in_step;
    turns = turns-finished (marking_of m a) (begun_turns (marking_of m a) t) (turns-begun (marking_of m a) t kept.turns);
    count = count-after a allowed (in-step-after m stamps a kept.in_step);
  }
    where
      count-after : (b : Amendment) → verdict m b ≡ None → IsInStep (after m b) (stamps_after m b stamps) → length (finished_turns (marking_of m b) (begun_turns (marking_of m b) t)).turns ≡ length (after m b).students
      count-after (Enter i zone siblings choices continuing) may step =
          omega (arith, kept.count, length-append t.turns (length t.positions ∷ []), length-append m.students ((i, student_with zone siblings choices continuing) ∷ []))
      count-after (Withdraw i) may step = gone (position (nat_eq i) (students_of m)) refl
        where
          gone : (place : Option ℕ) → position (nat_eq i) (students_of m) ≡ place → length (take (length t.turns - 1) t.turns) ≡ length (remove_entry (nat_eq i) m.students)
          gone None here = let known = known-student m i (first_of-none (objections_to_withdraw m i) may).0 in absurd (none-some known.0 (sym (unknown-at i m.students here) ∙ known.1))
          gone (Some p) here =
              let (v, is, at) = entry-at i p m.students here in
              let low = slice_get_within m.students p (i, v) at in
              omega (arith, kept.count, length-take (length t.turns - 1) t.turns, length-remove m.students p low, ap (λ (es : List (ℕ × Student)). length es) (remove-plain i p m.students here))
      count-after (Rerank i choices) may step = kept.count ∙ sym kept.in_step.students ∙ sym (length-put stamps.students (position (nat_eq i) (students_of m)) (stamps.accepted + 1)) ∙ step.students
      count-after (Correct i zone siblings continuing) may step = kept.count ∙ sym kept.in_step.students ∙ sym (length-put stamps.students (position (nat_eq i) (students_of m)) (stamps.accepted + 1)) ∙ step.students
      count-after _ may step = kept.count ∙ sym kept.in_step.students ∙ step.students

-- a student who leaves stands in the papers
pub leaver-within : (m : Market) (a : Amendment) → IfSome (position_of_leaver (marking_of m a)) (λ p. p < length m.students)
leaver-within m (Withdraw i) = go (position (nat_eq i) (students_of m)) refl
  where
    go : (place : Option ℕ) → position (nat_eq i) (students_of m) ≡ place → IfSome place (λ p. p < length m.students)
    go None here = tt
    go (Some p) here = let (v, is, at) = entry-at i p m.students here in slice_get_within m.students p (i, v) at
leaver-within m _ = tt

-- papers, stamps and turns where whoever leaves has changed places with the last one
module _ (t : TurnsOfEntry) (m : Market) (stamps : Stamps) (kept : AreInTurn t m stamps) where
  pub kept-last : (place : Option ℕ) → IfSome place (λ p. p < length m.students) → AreInTurn (last_turns place t) (last_papers place m) (last_stamps place stamps)
  kept-last None within = kept
  kept-last (Some p) within =
      let turns : length t.turns - 1 ≡ length m.students - 1 = omega (arith, kept.count) in
      let marks : length stamps.students - 1 ≡ length m.students - 1 = omega (arith, kept.in_step.students) in
      kept-along _ _ _ _ _ _ (ap (λ k. swapped p k t) turns) refl (ap (with_swapped_stamps stamps p) marks) (kept-swapped t m stamps kept p (length m.students - 1) within (omega (arith, within)))

  pub same-last : (place : Option ℕ) → IfSome place (λ p. p < length m.students)
      → stamped_in_turn (last_turns place t).positions (last_papers place m) (last_stamps place stamps) ≡ stamped_in_turn t.positions m stamps
  same-last None within = refl
  same-last (Some p) within =
      let turns : length t.turns - 1 ≡ length m.students - 1 = omega (arith, kept.count) in
      let marks : length stamps.students - 1 ≡ length m.students - 1 = omega (arith, kept.in_step.students) in
      (λ u. stamped_in_turn (swapped p (turns u) t).positions (with_swapped_students m p (length m.students - 1)) (with_swapped_stamps stamps p (marks u)))
      ∙ swapped-in_turn t m stamps kept p (length m.students - 1) within (omega (arith, within))

  -- who is then the last one
  pub leaves-last : (a : Amendment) (place : Option ℕ) → place ≡ position_of_leaver (marking_of m a) → (p : ℕ) → position_of_leaver (marking_of (last_papers place m) a) ≡ Some p → p ≡ length (last_turns place t).turns - 1
  leaves-last (Withdraw i) None at p is = absurd (none-some p (at ∙ is))
  leaves-last (Withdraw i) (Some q) at p is =
      let (v, found, here) = entry-at i q m.students (sym at) in
      let low : q < length m.students = slice_get_within m.students q (i, v) here in
      let high : length m.students - 1 < length m.students = omega (arith, low) in
      let moved : slice_get (swap m.students q (length m.students - 1)) (length m.students - 1) ≡ Some (i, v) =
      ap (slice_get (swap m.students q (length m.students - 1))) (sym (exchanged-first q (length m.students - 1))) ∙ swapped-there m.students q (length m.students - 1) q low high ∙ here in
      let differ = (WellFormed-swapped m q (length m.students - 1) low high kept.well_formed).students_differ in
      let own : p ≡ length m.students - 1 = same_Some p (length m.students - 1) (sym is ∙ position-at i (length m.students - 1) v (swap m.students q (length m.students - 1)) differ moved) in
      omega (arith, own, kept.count, length-swap t.turns q (length t.turns - 1))
  leaves-last _ place at p is = absurd (none-some p is)

-- what becomes of turns hangs on the kind of the amendment alone
same-kind : (m n : Market) (u : TurnsOfEntry) (a : Amendment) → finished_turns (marking_of m a) (begun_turns (marking_of m a) u) ≡ finished_turns (marking_of n a) (begun_turns (marking_of n a) u)
same-kind m n u (Withdraw i) = refl
same-kind m n u _ = refl

-- papers, stamps and turns, told by equations, where whoever leaves by an amendment has changed places with the last one
module _ {t : TurnsOfEntry} {m : Market} {stamps : Stamps} (kept : AreInTurn t m stamps) (a : Amendment) {place : Option ℕ} {u : TurnsOfEntry} {n : Market} {others : Stamps}
    (at : place ≡ position_of_leaver (marking_of m a)) (turns : u ≡ last_turns place t) (papers : n ≡ last_papers place m) (marks : others ≡ last_stamps place stamps) where
  within : IfSome place (λ p. p < length m.students)
  within = subst (λ found. IfSome found (λ p. p < length m.students)) (sym at) (leaver-within m a)

  pub ready-kept : AreInTurn u n others
  ready-kept = kept-along _ u _ n _ others turns papers marks (kept-last t m stamps kept place within)

  pub ready-same : stamped_in_turn u.positions n others ≡ stamped_in_turn t.positions m stamps
  ready-same = (λ x. stamped_in_turn (turns x).positions (papers x) (marks x)) ∙ same-last t m stamps kept place within

  pub ready-verdict : verdict (papers_in_turn t.positions m) a ≡ verdict n a
  ready-verdict = ap (λ (p : StampedPapers). verdict p.papers a) (sym ready-same) ∙ verdict_in_turn u n others ready-kept a

  ready-last : (p : ℕ) → position_of_leaver (marking_of n a) ≡ Some p → p ≡ length u.turns - 1
  ready-last p is =
      leaves-last t m stamps kept a place at p (ap (λ (k : Market). position_of_leaver (marking_of k a)) (sym papers) ∙ is) ∙ ap (λ (x : TurnsOfEntry). length x.turns - 1) (sym turns)

  -- and once the amendment is made
  module _ {v : TurnsOfEntry} {after_it : Market} {with_it : Stamps} (allowed : verdict n a ≡ None) (made : after_it ≡ after n a) (marked : with_it ≡ stamps_after n a others)
      (turned : v ≡ finished_turns (marking_of m a) (begun_turns (marking_of m a) u)) where
    pub done-kept : AreInTurn v after_it with_it
    done-kept = kept-along _ v _ after_it _ with_it (turned ∙ same-kind m n u a) made marked (kept-after u n others ready-kept a allowed)

    pub done-in_turn : stamped_in_turn v.positions after_it with_it ≡ stamped_after (stamped_in_turn t.positions m stamps) a
    done-in_turn =
        (λ x. stamped_in_turn ((turned ∙ same-kind m n u a) x).positions (made x) (marked x))
        ∙ after-in_turn u n others ready-kept a ready-last allowed ∙ ap (λ (p : StampedPapers). stamped_after p a) ready-same

-- students who enter in the order in which they stand
pub kept-first : (m : Market) (stamps : Stamps) → WellFormed m → IsInStep m stamps → AreInTurn (first_turns (length m.students)) m stamps
kept-first m stamps well step = record { well_formed = well; in_step = step; turns = AreTurns-first (length m.students); count = first-count (length m.students) }
  where
    first-count : (count : ℕ) → length (first_turns count).turns ≡ count
    first-count zero = refl
    first-count (suc count) = length-append (first_turns count).turns (length (first_turns count).positions ∷ []) ∙ omega (arith, first-count count)
