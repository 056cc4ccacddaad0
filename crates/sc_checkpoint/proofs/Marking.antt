-- Segments at positions of the order of entry: their log, where their students stand, and a table of ranks by their entries.
use Rattle.std.proofs.Common.{◌≡◌, ap, sym, ◌∙◌, ℕ, ◌+◌, List, [], ◌∷◌, ◌++◌, length, min, Some, take, slice_get, append-nil, arith, zero, suc, ◌<◌, get_or, refl, ◌≤◌, Bool, not, Option, None, find, inl, inr, ◌==◌, nat_eq, false, ◌||◌, set, position}
use Rattle.std.proofs.lemmas.Bool.Decides.{nat_tests}
use Rattle.std.proofs.lemmas.List.{length-append, take_more, map_push}
use Rattle.std.proofs.lemmas.Grind.{flat_map-append, common_steps}
use Rattle.std.proofs.lemmas.Option.{get_or_from_slice_get, slice_get_within, none-some, same_Some, slice_get-get_or}
use Rattle.sc_papers.specs.Restriction.{joined}
use Rattle.sc_papers.specs.declared.rejection.Rejection.{Rejection}
use Rattle.sc_papers.specs.Market.{Market, students_of, choices_of}
use Rattle.sc_papers.proofs.Choices.{one-place, found-is, found-none, places-end}
use Rattle.sc_papers.specs.WellFormed.{WellFormed, WithinLimits}
use Rattle.sc_checkpoint.specs.Chains.{logs_in, students_in, with_chain, Chain}
use Rattle.sc_papers.specs.Log.{is_rejected, next_choice}
use Rattle.sc_papers.proofs.Students.{choices-short, choices-differ}
use Rattle.sc_checkpoint.specs.Ranks.{has_rank, AreRejectedRanks, IsFirstOutside, AreTabled}
use Rattle.sc_checkpoint.specs.NextChoices.{next_choices_after}
use Rattle.sc_checkpoint.specs.declared.standing.Standing.{Standing}
use Rattle.sc_checkpoint.specs.declared.rank_set.RankSet.{RankSet}
use Rattle.std.proofs.Math.Bool.{or-false}
use Rattle.std.proofs.lemmas.Bool.{cases_eq, eqb-true, eq-eqb, false≢true}
use Rattle.std.proofs.lemmas.List.Quantifiers.{position-Some}
use Rattle.std.proofs.lemmas.List.Sums.{fails_before_first}
use Rattle.sc_papers.proofs.Rejections.{is_of, rejected-push}
use Rattle.sc_checkpoint.proofs.Replacing.{get-set-other, get-set-same}

-- the first of a list and one more
pub take-next : {X : Type 0} (xs : List X) (k : ℕ) (x : X) → slice_get xs k ≡ Some x → take (k + 1) xs ≡ take k xs ++ x ∷ []
take-next xs k x here = take_more xs k x (slice_get_within xs k x here) ∙ ap (λ y. take k xs ++ y ∷ []) (get_or_from_slice_get xs k x x here)

-- one more segment, joined
pub joined_next : (segments : List (List Rejection)) (k : ℕ) (s : List Rejection) → slice_get segments k ≡ Some s → joined (take k segments) ++ s ≡ joined (take (k + 1) segments)
joined_next segments k s here =
    ap (λ last. joined (take k segments) ++ last) (sym (append-nil s)) ∙ sym (flat_map-append (λ (segment : List Rejection). segment) (take k segments) (s ∷ []))
    ∙ ap joined (sym (take-next segments k s here))

pub count-next : (segments : List (List Rejection)) (k count most : ℕ) (s : List Rejection) → slice_get segments k ≡ Some s → count ≡ min (length (joined (take k segments))) most
    → min (count + length s) most ≡ min (length (joined (take (k + 1) segments))) most
count-next segments k count most s here is =
    omega (arith, is, length-append (joined (take k segments)) s, ap (λ (log : List Rejection). length log) (joined_next segments k s here))

-- The chain, the segment and the student at a position.

-- the chain at a position, by its student and its rejections
chain-at : (chains : List Chain) (at i : ℕ) (log : List Rejection) → slice_get (students_in chains) at ≡ Some i → slice_get (logs_in chains) at ≡ Some log → slice_get chains at ≡ Some (record { student = i; rejections = log })
chain-at [] at i log here its = absurd (none-some i here)
chain-at (chain ∷ chains) zero i log here its = λ t. Some (record { student = same_Some chain.student i here t; rejections = same_Some chain.rejections log its t })
chain-at (chain ∷ chains) (suc at) i log here its = chain-at chains at i log here its

pub chain_next : (chains : List Chain) (k i : ℕ) (log : List Rejection) → slice_get (students_in chains) k ≡ Some i → slice_get (logs_in chains) k ≡ Some log → with_chain (take k chains) i log ≡ take (k + 1) chains
chain_next chains k i log here its = sym (take-next chains k (record { student = i; rejections = log }) (chain-at chains k i log here its))

-- The first choice whose rank is not in a set, and where students stand.

-- the first choice whose rank is not in the set stands at the first rank that is not
outside-at : (set : RankSet) (choices : List ℕ) (rank : ℕ) (test : ℕ → Bool) → length choices ≤ 32 → ((k t : ℕ) → slice_get choices k ≡ Some t → has_rank set k ≡ test t)
    → IsFirstOutside set rank → find (λ t. not (test t)) choices ≡ slice_get choices rank
outside-at set choices rank test short agree first =
    go (slice_get choices rank) refl
  where
    go : (o : Option ℕ) → slice_get choices rank ≡ o → find (λ t. not (test t)) choices ≡ o
    go None past =
        found-none (λ t. not (test t)) choices
        (λ k t at. ap not (sym (agree k t at) ∙ first.below k (omega (arith, places-end choices rank past, slice_get_within choices k t at))))
    go (Some s) here =
        found-is (λ t. not (test t)) choices rank s here
        (ap not (sym (agree rank s here) ∙ first.outside (omega (arith, short, slice_get_within choices rank s here))))
        (λ k t low at. ap not (sym (agree k t at) ∙ first.below k low))

-- one more student who stands
pub standings-more : (m : Market) (log : List Rejection) (students : List ℕ) (at i : ℕ) (choice : Standing) → slice_get students at ≡ Some i → choice ≡ record { student = i; next = next_choice m log i } → next_choices_after m log (take at students) ++ choice ∷ [] ≡ next_choices_after m log (take (at + 1) students)
standings-more m log students at i choice here stands =
    ap (λ last. next_choices_after m log (take at students) ++ last ∷ []) stands
    ∙ sym (map_push (λ (j : ℕ). let s : Standing = record { student = j; next = next_choice m log j } in s) (take at students) i)
    ∙ ap (next_choices_after m log) (sym (take-next students at i here))

-- the first of a student's choices that is not among those that rejected them is their next choice
pub next-found : (m : Market) (log : List Rejection) (i : ℕ) (set : RankSet) (rank : ℕ) → WithinLimits m → AreRejectedRanks m log i set → IsFirstOutside set rank
    → slice_get (choices_of m i) rank ≡ next_choice m log i
unfolding next_choice
next-found m log i set rank within agree first =
    let short : length (choices_of m i) ≤ 32 = omega (arith, choices-short m within i) in
    sym (outside-at set (choices_of m i) rank (is_rejected log i) short agree first)

-- One more entry of a log, put into a table of ranks.

-- where there is no position, no member passes
pub position-none : (test : ℕ → Bool) (xs : List ℕ) (k x : ℕ) → position test xs ≡ None → slice_get xs k ≡ Some x → test x ≡ false
position-none test xs k x none here = grind (arith, nat_tests, common_steps, none, fails_before_first test xs k x, get_or_from_slice_get xs k x x here, slice_get_within xs k x here)

-- an entry of another student or school
other-entry : (e : Rejection) (i s : ℕ) → (e.student ≡ i → e.school ≡ s → ⊥) → is_of e i s ≡ false
other-entry e i s apart = grind (arith, nat_tests, common_steps, apart)

-- it changes nothing for this student and school
other-kept : (log : List Rejection) (e : Rejection) (i s : ℕ) → (e.student ≡ i → e.school ≡ s → ⊥) → is_rejected (log ++ e ∷ []) i s ≡ is_rejected log i s
other-kept log e i s apart =
    rejected-push log e i s ∙ ap (λ b. is_rejected log i s || b) (other-entry e i s apart) ∙ or-false (is_rejected log i s)

-- an entry of no student of the table, or of a school that its student doesn't list
pub table-kept : (m : Market) (students : List ℕ) (log : List Rejection) (e : Rejection) (table : List RankSet) → ((at rank : ℕ) → at < length table → slice_get students at ≡ Some e.student → slice_get (choices_of m e.student) rank ≡ Some e.school → ⊥) → AreTabled m students log table → AreTabled m students (log ++ e ∷ []) table
table-kept m students log e table apart before = record {
  at = λ at i ranks at_student at_table rank s at_school.
      before.at at i ranks at_student at_table rank s at_school
      ∙ sym (other-kept log e i s (λ same_student same_school.
      apart at rank (slice_get_within table at ranks at_table)
      (at_student ∙ ap Some (sym same_student))
      (ap (λ j. slice_get (choices_of m j) rank) same_student ∙ at_school ∙ ap Some (sym same_school))));
}

-- no student has a number that is not in the papers
pub unknown-nowhere : (m : Market) (i : ℕ) → position (nat_eq i) (students_of m) ≡ None → (at : ℕ) → slice_get (students_of m) at ≡ Some i → ⊥
unknown-nowhere m i none at here = false≢true (sym (position-none (nat_eq i) (students_of m) at i none here) ∙ eq-eqb i i refl)

pub table-unlisted : (m : Market) (students : List ℕ) (log : List Rejection) (e : Rejection) (table : List RankSet) → position (λ s. s == e.school) (choices_of m e.student) ≡ None → AreTabled m students log table → AreTabled m students (log ++ e ∷ []) table
table-unlisted m students log e table none =
    table-kept m students log e table (λ at rank low at_student at_school.
    absurd (false≢true (sym (position-none (λ s. s == e.school) (choices_of m e.student) rank e.school none at_school) ∙ eq-eqb e.school e.school refl)))

-- the school stands at its rank
school-here : (m : Market) (i s rank : ℕ) → position (λ t. t == s) (choices_of m i) ≡ Some rank → slice_get (choices_of m i) rank ≡ Some s
school-here m i s rank found =
    let (low, is, first) = position-Some (λ t. t == s) (choices_of m i) rank 0 found in
    slice_get-get_or (choices_of m i) rank 0 low ∙ ap Some (eqb-true (get_or (choices_of m i) rank 0) s is)

-- a student stands at their position
pub student-here : (m : Market) (i at : ℕ) → position (nat_eq i) (students_of m) ≡ Some at → slice_get (students_of m) at ≡ Some i
student-here m i at found =
    let (low, is, first) = position-Some (nat_eq i) (students_of m) at 0 found in
    slice_get-get_or (students_of m) at 0 low ∙ ap Some (sym (eqb-true i (get_or (students_of m) at 0) is))

-- a set has room for the rank of a choice
pub rank-low : (m : Market) (i s rank : ℕ) → WithinLimits m → position (λ t. t == s) (choices_of m i) ≡ Some rank → rank < 32
rank-low m i s rank limits found = omega (arith, (position-Some (λ t. t == s) (choices_of m i) rank 0 found).0, choices-short m limits i)

-- of the choices of the entry's student, the one at the entry's rank is the entry's school
rank-of-entry : (m : Market) (e : Rejection) (i s rank rank_of : ℕ) → WellFormed m → e.student ≡ i → slice_get (choices_of m i) rank ≡ Some s → slice_get (choices_of m i) rank_of ≡ Some e.school → (rank == rank_of) ≡ is_of e i s
rank-of-entry m e i s rank rank_of well is_student at_school listed =
    grind (arith, nat_tests, common_steps, is_student, at_school, listed, one-place (choices_of m i) rank rank_of s (choices-differ m well i) at_school)

-- an entry put into the table
pub table-marked : (m : Market) (students : List ℕ) (log : List Rejection) (e : Rejection) (table : List RankSet) (position_of rank_of : ℕ) (old new : RankSet)
    → WellFormed m
    → ((j k t : ℕ) → slice_get students j ≡ Some t → slice_get students k ≡ Some t → j ≡ k)
    → slice_get students position_of ≡ Some e.student
    → position (λ s. s == e.school) (choices_of m e.student) ≡ Some rank_of
    → slice_get table position_of ≡ Some old
    → ((other : ℕ) → has_rank new other ≡ (has_rank old other || other == rank_of))
    → AreTabled m students log table → AreTabled m students (log ++ e ∷ []) (set table position_of new)
table-marked m students log e table position_of rank_of old new well once student school old_at added before = record {
  at = λ at i ranks at_student at_table rank s at_school. elim (cases_eq at position_of) [
    | inl same ↦
        let written = get-set-same table position_of new (slice_get_within table position_of old old_at) in
        let is_new : ranks ≡ new = same_Some ranks new (sym at_table ∙ ap (slice_get (set table position_of new)) same ∙ written) in
        let at_position : slice_get students position_of ≡ Some i = ap (slice_get students) (sym same) ∙ at_student in
        let is_student : e.student ≡ i = same_Some e.student i (sym student ∙ at_position) in
        let listed : slice_get (choices_of m i) rank_of ≡ Some e.school =
        ap (λ j. slice_get (choices_of m j) rank_of) (sym is_student) ∙ school-here m e.student e.school rank_of school in
        ap (λ set_of. has_rank set_of rank) is_new
        ∙ added rank
        ∙ ap (λ b. b || rank == rank_of) (before.at position_of i old at_position old_at rank s at_school)
        ∙ ap (λ b. is_rejected log i s || b) (rank-of-entry m e i s rank rank_of well is_student at_school listed)
        ∙ sym (rejected-push log e i s)
    | inr apart ↦
        before.at at i ranks at_student (sym (get-set-other table position_of at new apart) ∙ at_table) rank s at_school
        ∙ sym (other-kept log e i s (λ same_student same_school.
        apart (once at position_of i at_student (student ∙ ap Some same_student))))
  ];
}
