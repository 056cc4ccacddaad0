-- A turn adds one place, and takes it away again where the chain ends with a student who has no choice left.
use Rattle.std.proofs.Common.{◌≡◌, inl, inr, refl, ap, sym, subst, ◌∙◌, ℕ, suc, ◌+◌, ◌-◌, ◌<◌, ◌==◌, Bool, true, false, cond, not, ◌&&◌, ◌||◌, List, [], ◌∷◌, ◌++◌, length, Option, Some, None, IfSome, is_some, Contains, nat_eq, find, position, slice_get, append_assoc, append-nil, arith}
use Rattle.std.specs.List.{position_or_len}
use Rattle.std.specs.Option.{option_and_then, option_map_or}
use Rattle.std.proofs.lemmas.Bool.{cases_Bool, cases_eq, cond-true, cond-false, and_from, and_left, and_right, or_left, or_right, false≢true, false_from_ne_true, eq-eqb, ne_eqb}
use Rattle.std.proofs.lemmas.Cmp.{nat_eq_equiv}
use Rattle.std.proofs.lemmas.List.Elements.{filter-append}
use Rattle.std.proofs.lemmas.Map.Entries.{All-lookup}
use Rattle.std.proofs.lemmas.Option.{get_or_from_slice_get, slice_get_within}
use Rattle.sc_papers.specs.Market.{Market, choices_of, is_student, student_of, students_of}
use Rattle.sc_papers.specs.WellFormed.{WellFormed, IsProper}
use Rattle.sc_papers.specs.Matching.{how_many}
use Rattle.sc_papers.specs.Log.{is_rejected, next_choice, matching_of, IsValidAfter, IsValidEntry, IsValidLog, IsSettled}
use Rattle.sc_papers.specs.Chain.{and_one, InChain}
use Rattle.sc_papers.specs.Restriction.{cut, entries_of, is_among_first, outside, restricted}
use Rattle.sc_papers.specs.declared.records.Student.{Student}
use Rattle.sc_papers.specs.declared.rejection.Rejection.{Rejection}
use Rattle.sc_papers.proofs.Apart.{next-part}
use Rattle.sc_papers.proofs.Chain.{chain-begins, chain-puts-out, how_many-split}
use Rattle.sc_papers.proofs.Positions.{among-student, any-among, position-found, position-there}
use Rattle.sc_papers.proofs.Rejections.{next-same}
use Rattle.sc_papers.proofs.Cutting.{cut-more, cut-restricted}
use Rattle.sc_papers.proofs.Restriction.{Restricts, next-dropped, next-kept, restricted-restricts}
use Rattle.sc_papers.proofs.Standings.{next-moves}
use Rattle.sc_papers.proofs.Students.{how_many-agree}
use Rattle.sc_papers.proofs.Subsets.{next-passes, well-cut}
use Rattle.sc_papers.proofs.Validity.{next-among, next-listed}
use Rattle.sc_ledgers.specs.Proposals.{choice_after, ends_placed, made_in, placed_of}
use Rattle.sc_ledgers.proofs.Beginning.{new-student}
use Rattle.sc_ledgers.proofs.Others.{rejected-kept}
use Rattle.sc_ledgers.proofs.ValidSteps.{valid-puts_out}

-- two tests that agree on all but one student, who passes the first
pub how_many-but_one : (m : Market) → WellFormed m → (p q : ℕ → Bool) (i : ℕ) → Contains (students_of m) i → p i ≡ true → ((j : ℕ) → (j ≡ i → ⊥) → p j ≡ q j) → how_many m p ≡ cond (q i) 0 1 + how_many m q
how_many-but_one m well p q i among passes agree =
    elim (cases_Bool (q i)) [
      | inl also ↦ omega (arith, cond-true {A = ℕ} (q i) 0 1 also, how_many-agree m p q (λ j. elim (cases_eq j i) [ inl same ↦ ap p same ∙ passes ∙ sym also ∙ ap q (sym same) | inr apart ↦ agree j apart ]))
      | inr fails ↦ omega (
        arith,
        cond-false {A = ℕ} (q i) 0 1 fails,
        how_many-split m well p i among passes,
        how_many-agree m (λ j. p j && not (j == i)) q (λ j. elim (cases_eq j i) [
          | inl same ↦ and_right (p j) (not (j == i)) (ap not (eq-eqb j i same)) ∙ sym fails ∙ ap q (sym same)
          | inr apart ↦ keeps (p j) (not (j == i)) (ap not (ne_eqb j i apart)) ∙ agree j apart
        ]),
      )
    ]
  where
    keeps : (a b : Bool) → b ≡ true → (a && b) ≡ a
    keeps true b holds = holds
    keeps false b holds = refl

-- the place at which a school is found in a list that has it
place-found : (xs : List ℕ) (s : ℕ) → Contains xs s → (rank : ℕ) × (position (λ t. t == s) xs ≡ Some rank) × (slice_get xs rank ≡ Some s)
place-found xs s listed =
    let found = position-found xs s (any-among xs s listed) in
    (position_or_len (nat_eq s) xs, ap (λ p. position p xs) (λ i t. nat_eq_equiv.symm t s i) ∙ found, position-there xs s (position_or_len (nat_eq s) xs) found)

-- the choice to which an entry moves its student on
module _ (n m : Market) (few : ℕ → Bool) (well_n : WellFormed n) (part : Restricts n m few) where
  choices-kept : (i : ℕ) → few i ≡ true → choices_of n i ≡ choices_of m i
  choices-kept i kept = part.choices i ∙ cond-true (few i) (choices_of m i) [] kept

  pub goes-on : (log : List Rejection) (e : Rejection) → IsValidLog n log → IsValidEntry n log e → next_choice n (log ++ e ∷ []) e.student ≡ choice_after m e
  unfolding choice_after
  goes-on log e valid entry =
      let own : choices_of n e.student ≡ choices_of m e.student = choices-kept e.student (next-passes part log e.student e.school entry.next) in
      let (rank, found, here) = place-found (choices_of m e.student) e.school (subst (λ xs. Contains xs e.school) own (next-listed n log e.student e.school entry.next)) in
      next-moves n well_n log e rank valid entry (ap (λ xs. slice_get xs rank) own ∙ here)
      ∙ ap (λ xs. slice_get xs (rank + 1)) own
      ∙ ap (option_and_then (λ r. slice_get (choices_of m e.student) (r + 1))) (sym found)

-- the last of a list with one more in front
ends-more : (m : Market) (e f : Rejection) (rest : List Rejection) → ends_placed m (e ∷ f ∷ rest) ≡ ends_placed m (f ∷ rest)
unfolding ends_placed
ends-more m e f rest =
    let later : suc (suc (length rest)) - 1 ≡ suc (suc (length rest) - 1) = omega arith in
    ap (λ k. option_map_or (λ x. is_some (choice_after m x)) (slice_get (e ∷ f ∷ rest) k) true) later

ends-one : (m : Market) (e : Rejection) → ends_placed m (e ∷ []) ≡ is_some (choice_after m e)
unfolding ends_placed
ends-one m e = refl

ends-none : (m : Market) → ends_placed m [] ≡ true
unfolding ends_placed
ends-none m = refl

-- where none is of the others, each passes
entries-inside : (test : ℕ → Bool) (e : Rejection) (rest : List Rejection) → entries_of (outside test) (e ∷ rest) ≡ [] → (test e.student ≡ true) × (entries_of (outside test) rest ≡ [])
entries-inside test e rest none = go (test e.student) refl none
  where
    go : (b : Bool) → test e.student ≡ b → cond (not b) (e ∷ entries_of (outside test) rest) (entries_of (outside test) rest) ≡ [] → (test e.student ≡ true) × (entries_of (outside test) rest ≡ [])
    go true is none = (is, none)
    go false is none = absurd (omega (arith, ap length none))

-- an entry takes its student's place away, or moves it on
entry-places : (n m : Market) (few test : ℕ → Bool) → WellFormed n → WellFormed m → Restricts n m few → (log : List Rejection) (e : Rejection) → IsValidLog n log → IsValidEntry n log e → test e.student ≡ true → placed_of m test (matching_of n log) ≡ cond (is_some (choice_after m e)) 0 1 + placed_of m test (matching_of n (log ++ e ∷ []))
entry-places n m few test well_n well_m part log e valid entry inside =
    let before : ℕ → Bool = λ j. test j && is_some (next_choice n log j) in
    let after : ℕ → Bool = λ j. test j && is_some (next_choice n (log ++ e ∷ []) j) in
    let kept : few e.student ≡ true = next-passes part log e.student e.school entry.next in
    let among : Contains (students_of m) e.student = next-among m log e.student e.school (sym (next-kept part log e.student kept) ∙ entry.next) in
    let now : after e.student ≡ is_some (choice_after m e) = ap (λ b. b && is_some (next_choice n (log ++ e ∷ []) e.student)) inside ∙ ap is_some (goes-on n m few well_n part log e valid entry) in
    how_many-but_one m well_m before after e.student among (and_from (test e.student) (is_some (next_choice n log e.student)) inside (ap is_some entry.next))
    (λ j apart. ap (λ next. test j && is_some next) (sym (next-same n log e j (λ same. apart (sym same)))))
    ∙ ap (λ b. cond b 0 1 + placed_of m test (matching_of n (log ++ e ∷ []))) now

-- an entry after which another one is valid moves its student on
entry-moves : (n m : Market) (few : ℕ → Bool) → WellFormed n → Restricts n m few → (log : List Rejection) (e f : Rejection) → InChain n (log ++ e ∷ []) e.student → IsValidLog n log → IsValidEntry n log e → IsValidEntry n (log ++ e ∷ []) f → is_some (choice_after m e) ≡ true
entry-moves n m few well part log e f chain valid entry later =
    ap is_some (sym (goes-on n m few well part log e valid entry) ∙ (valid-puts_out n well (log ++ e ∷ []) e.student f chain later).proposes)

-- the entries of a turn take no place away, but the last one where its student has no choice left
entries-places : (n m : Market) (few test : ℕ → Bool) → WellFormed n → WellFormed m → Restricts n m few → (log : List Rejection) (hand : ℕ) (e : Rejection) (rest : List Rejection) → InChain n log hand → IsValidAfter n log (e ∷ rest) → entries_of (outside test) (e ∷ rest) ≡ [] → placed_of m test (matching_of n log) ≡ cond (ends_placed m (e ∷ rest)) 0 1 + placed_of m test (matching_of n (log ++ e ∷ rest))
entries-places n m few test well_n well_m part log hand e [] chain valid none =
    entry-places n m few test well_n well_m part log e chain.valid valid.0 (entries-inside test e [] none).0
    ∙ ap (λ b. cond b 0 1 + placed_of m test (matching_of n (log ++ e ∷ []))) (sym (ends-one m e))
entries-places n m few test well_n well_m part log hand e (f ∷ rest) chain valid none =
    let parts = entries-inside test e (f ∷ rest) none in
    let next : InChain n (log ++ e ∷ []) e.student = chain-puts-out n well_n log hand e chain (valid-puts_out n well_n log hand e chain valid.0) in
    entry-places n m few test well_n well_m part log e chain.valid valid.0 parts.0
    ∙ ap (λ b. cond b 0 1 + placed_of m test (matching_of n (log ++ e ∷ []))) (entry-moves n m few well_n part log e f next chain.valid valid.0 valid.1.0)
    ∙ omega (arith, entries-places n m few test well_n well_m part (log ++ e ∷ []) e.student f rest next valid.1 parts.1)
    ∙ ap (λ b. cond b 0 1 + placed_of m test (matching_of n ((log ++ e ∷ []) ++ f ∷ rest))) (sym (ends-more m e f rest))
    ∙ ap (λ l. cond (ends_placed m (e ∷ f ∷ rest)) 0 1 + placed_of m test (matching_of n l)) (append_assoc log (e ∷ []) (f ∷ rest))

-- so it is of a turn's rejections, if there are any
turn-places : (n m : Market) (few test : ℕ → Bool) → WellFormed n → WellFormed m → Restricts n m few → (log : List Rejection) (hand : ℕ) (segment : List Rejection) → InChain n log hand → IsValidAfter n log segment → entries_of (outside test) segment ≡ [] → placed_of m test (matching_of n log) ≡ cond (ends_placed m segment) 0 1 + placed_of m test (matching_of n (log ++ segment))
turn-places n m few test well_n well_m part log hand [] chain valid none =
    ap (λ l. placed_of m test (matching_of n l)) (sym (append-nil log))
    ∙ omega arith
    ∙ ap (λ b. cond b 0 1 + placed_of m test (matching_of n (log ++ []))) (sym (ends-none m))
turn-places n m few test well_n well_m part log hand (e ∷ rest) chain valid none = entries-places n m few test well_n well_m part log hand e rest chain valid none

-- a student of the papers has choices
pub choices-some : (m : Market) → WellFormed m → (i : ℕ) → is_student m i ≡ true → 0 < length (choices_of m i)
unfolding choices_of
choices-some m well i known = go (student_of m i) (All-lookup (IsProper m) (nat_eq i) m.students well.students_proper) known
  where
    go : (found : Option Student) → IfSome found (IsProper m) → is_some found ≡ true → 0 < length (option_map_or (λ student. student.choices) found [])
    go None proper known = absurd (false≢true known)
    go (Some student) proper known = proper.choices_some

-- whom no entry has rejected has the first of them
none-tried : (m : Market) (log : List Rejection) (i : ℕ) → ((s : ℕ) → is_rejected log i s ≡ false) → 0 < length (choices_of m i) → is_some (next_choice m log i) ≡ true
unfolding next_choice
none-tried m log i untried some = go (choices_of m i) some
  where
    go : (xs : List ℕ) → 0 < length xs → is_some (find (λ s. not (is_rejected log i s)) xs) ≡ true
    go [] some = absurd (omega (arith, some))
    go (x ∷ xs) some = ap is_some (cond-true (not (is_rejected log i x)) (Some x) (find (λ s. not (is_rejected log i s)) xs) (ap not (untried x)))

-- a turn: the student at k enters after the log of those before
module _ (m : Market) (well : WellFormed m) (k i : ℕ) (here : slice_get (students_of m) k ≡ Some i) where
  small : Restricts (cut m k) m (is_among_first m k)
  small = subst (λ n. Restricts n m (is_among_first m k)) (sym (cut-restricted m k well)) (restricted-restricts m (is_among_first m k))

  large : Restricts (cut m (k + 1)) m (and_one (is_among_first m k) i)
  large = subst (λ n. Restricts n m (and_one (is_among_first m k) i)) (sym (cut-more m k i well here)) (restricted-restricts m (and_one (is_among_first m k) i))

  -- nothing changes for the others
  pub next-others : (log : List Rejection) (j : ℕ) → (j ≡ i → ⊥) → next_choice (cut m (k + 1)) log j ≡ next_choice (cut m k) log j
  next-others log j apart =
      elim (cases_Bool (is_among_first m k j)) [
        | inl among ↦ next-kept large log j (or_left (is_among_first m k j) (j == i) among) ∙ sym (next-kept small log j among)
        | inr new ↦ next-dropped large log j (ap (λ b. b || (j == i)) new ∙ ne_eqb j i apart) ∙ sym (next-dropped small log j new)
      ]

  among-students : Contains (students_of m) i
  among-students = (k, slice_get_within (students_of m) k i here, get_or_from_slice_get (students_of m) k i i here)

  -- the student stood nowhere, and stands at a choice now
  stood-nowhere : (log : List Rejection) → next_choice (cut m k) log i ≡ None
  stood-nowhere log = next-dropped small log i (new-student m k i well here)

  stands-somewhere : (log : List Rejection) → IsValidLog (cut m k) log → is_some (next_choice (cut m (k + 1)) log i) ≡ true
  stands-somewhere log valid =
      ap is_some (next-kept large log i (or_right (is_among_first m k i) (i == i) (eq-eqb i i refl)))
      ∙ none-tried m log i
      (λ s. false_from_ne_true (is_rejected log i s) (λ rejected. false≢true (sym (new-student m k i well here) ∙ rejected-kept small log valid i s rejected)))
      (choices-some m well i (among-student m i among-students))

  -- so they take one place more
  enters-places : (test : ℕ → Bool) (log : List Rejection) → IsValidLog (cut m k) log → test i ≡ true → placed_of m test (matching_of (cut m (k + 1)) log) ≡ 1 + placed_of m test (matching_of (cut m k) log)
  enters-places test log valid inside =
      let before : ℕ → Bool = λ j. test j && is_some (next_choice (cut m k) log j) in
      let after : ℕ → Bool = λ j. test j && is_some (next_choice (cut m (k + 1)) log j) in
      how_many-but_one m well after before i among-students (and_from (test i) (is_some (next_choice (cut m (k + 1)) log i)) inside (stands-somewhere log valid))
      (λ j apart. ap (λ next. test j && is_some next) (next-others log j apart))
      ∙ ap (λ b. cond b 0 1 + placed_of m test (matching_of (cut m k) log)) (ap (λ b. b && is_some (next_choice (cut m k) log i)) inside ∙ ap is_some (stood-nowhere log))

  in-chain : (log : List Rejection) → IsSettled (cut m k) log → InChain (cut m (k + 1)) log i
  in-chain log settled =
      subst (λ n. InChain n log i) (sym (cut-more m k i well here))
      (chain-begins m (is_among_first m k) i log (subst (λ n. IsSettled n log) (cut-restricted m k well) settled))

  -- all together: the rejections and the places that came of a turn of one who passes
  pub one-places : (test : ℕ → Bool) (log segment : List Rejection) → IsSettled (cut m k) log → IsValidAfter (cut m (k + 1)) log segment → test i ≡ true → entries_of (outside test) segment ≡ [] → made_in m segment + placed_of m test (matching_of (cut m k) log) ≡ length segment + placed_of m test (matching_of (cut m (k + 1)) (log ++ segment))
  one-places test log segment settled valid inside none =
      let enters = enters-places test log settled.valid inside in
      let goes = turn-places (cut m (k + 1)) m (and_one (is_among_first m k) i) test (well-cut m (k + 1) well) well large log i segment (in-chain log settled) valid none in
      elim (cases_Bool (ends_placed m segment)) [
        | inl placed ↦ omega (arith, enters, goes, cond-true {A = ℕ} (ends_placed m segment) 1 0 placed, cond-true {A = ℕ} (ends_placed m segment) 0 1 placed)
        | inr unplaced ↦ omega (arith, enters, goes, cond-false {A = ℕ} (ends_placed m segment) 1 0 unplaced, cond-false {A = ℕ} (ends_placed m segment) 0 1 unplaced)
      ]

  -- of one who does not pass
  pub no-places : (test : ℕ → Bool) (log segment : List Rejection) → test i ≡ false → entries_of test segment ≡ [] → placed_of m test (matching_of (cut m (k + 1)) (log ++ segment)) ≡ placed_of m test (matching_of (cut m k) log)
  no-places test log segment fails none =
      how_many-agree m (λ j. test j && is_some (next_choice (cut m (k + 1)) (log ++ segment) j)) (λ j. test j && is_some (next_choice (cut m k) log j)) same
    where
      entries-same : entries_of test (log ++ segment) ≡ entries_of test log
      entries-same = filter-append (λ e. test e.student) log segment ∙ ap (λ l. entries_of test log ++ l) none ∙ append-nil (entries_of test log)

      own : Restricts (restricted (cut m (k + 1)) test) (cut m (k + 1)) test
      own = restricted-restricts (cut m (k + 1)) test

      same : (j : ℕ) → (test j && is_some (next_choice (cut m (k + 1)) (log ++ segment) j)) ≡ (test j && is_some (next_choice (cut m k) log j))
      same j = elim (cases_Bool (test j)) [
        | inl inside ↦ ap (λ next. test j && is_some next)
            (sym (next-part own (log ++ segment) j inside)
            ∙ ap (λ l. next_choice (restricted (cut m (k + 1)) test) l j) entries-same
            ∙ next-part own log j inside
            ∙ next-others log j (λ is. false≢true (sym fails ∙ ap test (sym is) ∙ inside)))
        | inr out ↦ and_left (test j) (is_some (next_choice (cut m (k + 1)) (log ++ segment) j)) out ∙ sym (and_left (test j) (is_some (next_choice (cut m k) log j)) out)
      ]
