-- A settled log's matching is student-optimal, whoever made the log.
--
-- The induction is Gale and Shapley's: no stable matching gives a student a school that a valid
-- entry rejects. At an entry (i, s) as many students as s has seats, ahead of i, have s as their
-- next choice. If a stable matching gave s to i, one of these would have something else there,
-- and nothing better, since all that it prefers has rejected it. It would block with s.
use Rattle.std.proofs.Common.{◌≡◌, inl, inr, refl, ap, sym, subst, ◌∙◌, ℕ, ◌≤◌, true, false, not, ◌&&◌, List, [], ◌∷◌, ◌++◌, Option, Some, None, Contains, arith}
use Rattle.std.proofs.lemmas.Bool.{cases_Bool, and_parts, and_from, and_right, false≢true, not-false}
use Rattle.std.proofs.lemmas.Option.{same_Some}
use Rattle.sc_papers.specs.Market.{Market, choices_of, seats_of}
use Rattle.sc_papers.specs.Key.{is_ahead}
use Rattle.sc_papers.specs.WellFormed.{WellFormed}
use Rattle.sc_papers.specs.Matching.{Matching, has, Prefers, Blocks, IsStable, IsStudentOptimal}
use Rattle.sc_papers.specs.Log.{is_rejected, next_choice, matching_of, rivals, IsValidEntry, IsValidLog, IsSettled}
use Rattle.sc_papers.specs.declared.rejection.Rejection.{Rejection}
use Rattle.sc_papers.proofs.Choices.{none-found, place-of, fails-before, stands-after}
use Rattle.sc_papers.proofs.Priority.{ahead-irrefl, ahead-trans, ahead-asymm}
use Rattle.sc_papers.proofs.Rejections.{rejected-push_cases, next-same, has-true, has-some, has-agree}
use Rattle.sc_papers.proofs.Validity.{along, next-listed}
use Rattle.sc_papers.proofs.Students.{how_many-le, how_many-lt, one-without, lister-among, choices-differ}

-- what a student prefers to the next choice has rejected the student
pub preferred-rejected : (m : Market) → WellFormed m → (log : List Rejection) (i s : ℕ) → Prefers m i s (next_choice m log i) → is_rejected log i s ≡ true
unfolding next_choice
preferred-rejected m well log i s preferred = go (next_choice m log i) refl preferred
  where
    go : (next : Option ℕ) → next_choice m log i ≡ next → Prefers m i s next → is_rejected log i s ≡ true
    go None is listed =
        let place = place-of (choices_of m i) s listed in
        not-false (is_rejected log i s) (none-found (λ t. not (is_rejected log i t)) (choices_of m i) is place.0 s place.1)
    go (Some t) is before =
        not-false (is_rejected log i s) (fails-before (λ u. not (is_rejected log i u)) (choices_of m i) s t (choices-differ m well i) is before)

-- whoever lists only what has not rejected prefers the next choice to it
pub next-preferred : (m : Market) (log : List Rejection) (i s : ℕ) (given : Option ℕ) → next_choice m log i ≡ Some s → ((t : ℕ) → given ≡ Some t → Contains (choices_of m i) t × (is_rejected log i t ≡ false) × (t ≡ s → ⊥)) → Prefers m i s given
unfolding next_choice
next-preferred m log i s None next untried = next-listed m log i s next
next-preferred m log i s (Some t) next untried =
    let (listed, not_rejected, apart) = untried t refl in
    stands-after (λ u. not (is_rejected log i u)) (choices_of m i) s t next listed (ap not not_rejected) apart

-- the matching gives no student a school that has rejected the student
pub record GivesNoneRejected (a : Matching) (log : List Rejection) : Type 0 where
  pub apart : (i s : ℕ) → is_rejected log i s ≡ true → a i ≡ Some s → ⊥

-- a stable matching doesn't give what a valid entry rejects
pub stable-refuses_entry : (m : Market) (a : Matching) → IsStable m a → (log : List Rejection) (e : Rejection) → IsValidEntry m log e → GivesNoneRejected a log → a e.student ≡ Some e.school → ⊥
stable-refuses_entry m a stable log e valid none given =
    let i : ℕ = e.student in
    let s : ℕ = e.school in
    let listed : Contains (choices_of m i) s = next-listed m log i s valid.next in
    let ahead_of = λ (j : ℕ). has (matching_of m log) s j && is_ahead m s j i in
    let found : (j : ℕ) × (ahead_of j ≡ true) × (has a s j ≡ false) =
    one-without m ahead_of (has a s) (omega (arith, valid.full, stable.within_seats s)) i (lister-among m i s listed) (and_right (has (matching_of m log) s i) (is_ahead m s i i) (ahead-irrefl m s i)) (has-some a s i given) in
    let j : ℕ = found.0 in
    let next : next_choice m log j ≡ Some s = has-true (matching_of m log) s j (and_parts (has (matching_of m log) s j) (is_ahead m s j i) found.1).0 in
    let ahead : is_ahead m s j i ≡ true = (and_parts (has (matching_of m log) s j) (is_ahead m s j i) found.1).1 in
    let untried : (t : ℕ) → a j ≡ Some t → Contains (choices_of m j) t × (is_rejected log j t ≡ false) × (t ≡ s → ⊥) = λ t has_t. (
      stable.matching j t has_t,
      elim (cases_Bool (is_rejected log j t)) [ inl rejected ↦ absurd (none.apart j t rejected has_t) | inr untried ↦ untried ],
      λ same. false≢true (sym found.2 ∙ has-some a s j (has_t ∙ ap Some same)),
    ) in
    stable.unblocked j s (record { preferred = next-preferred m log j s (a j) next untried; better = inr (i, given, ahead) })

pub stable-refuses_push : (m : Market) (a : Matching) → IsStable m a → (log : List Rejection) (e : Rejection) → IsValidEntry m log e → GivesNoneRejected a log → GivesNoneRejected a (log ++ e ∷ [])
stable-refuses_push m a stable log e valid none = record {
  apart = λ i s rejected given. elim (rejected-push_cases log e i s rejected) [
    | inl before ↦ none.apart i s before given
    | inr (same_student, same_school) ↦ stable-refuses_entry m a stable log e valid none (ap a same_student ∙ given ∙ ap Some (sym same_school))
  ];
}

-- no stable matching gives a student a school that a valid log rejects
pub stable-refuses : (m : Market) (a : Matching) → IsStable m a → (log : List Rejection) → IsValidLog m log → GivesNoneRejected a log
stable-refuses m a stable log valid =
    along m (GivesNoneRejected a) (stable-refuses_push m a stable) [] log (record { apart = λ i s rejected given. false≢true rejected }) valid

-- whoever was rejected has as many rivals ahead as the school has seats
pub record StaysFull (m : Market) (log : List Rejection) : Type 0 where
  pub full : (i s : ℕ) → is_rejected log i s ≡ true → seats_of m s ≤ rivals m log i s

-- a rival keeps the next choice through the entry of another student
rival-kept : (m : Market) (log : List Rejection) (e : Rejection) (i s j : ℕ) → (e.student ≡ j → ⊥) → (has (matching_of m log) s j && is_ahead m s j i) ≡ true → (has (matching_of m (log ++ e ∷ [])) s j && is_ahead m s j i) ≡ true
rival-kept m log e i s j apart rival =
    ap (λ b. b && is_ahead m s j i) (has-agree (matching_of m (log ++ e ∷ [])) (matching_of m log) s j (next-same m log e j apart)) ∙ rival

-- at the entry's school: the rivals of the entry's student are rivals still
full-entry : (m : Market) (log : List Rejection) (e : Rejection) → IsValidEntry m log e → seats_of m e.school ≤ rivals m (log ++ e ∷ []) e.student e.school
full-entry m log e valid =
    let kept : (j : ℕ) → (has (matching_of m log) e.school j && is_ahead m e.school j e.student) ≡ true → (has (matching_of m (log ++ e ∷ [])) e.school j && is_ahead m e.school j e.student) ≡ true = λ j rival.
    rival-kept m log e e.student e.school j
    (λ same. false≢true (sym (ahead-irrefl m e.school e.student) ∙ ap (λ k. is_ahead m e.school k e.student) same ∙ (and_parts (has (matching_of m log) e.school j) (is_ahead m e.school j e.student) rival).1)) rival in
    omega (arith, valid.full, how_many-le m (λ j. has (matching_of m log) e.school j && is_ahead m e.school j e.student) (λ j. has (matching_of m (log ++ e ∷ [])) e.school j && is_ahead m e.school j e.student) kept)

-- where the entry's student is ahead of i, so are its rivals
full-behind : (m : Market) (log : List Rejection) (e : Rejection) (i : ℕ) → IsValidEntry m log e → is_ahead m e.school e.student i ≡ true → seats_of m e.school ≤ rivals m (log ++ e ∷ []) i e.school
full-behind m log e i valid ahead =
    let after = matching_of m (log ++ e ∷ []) in
    let s : ℕ = e.school in
    let passed : (j : ℕ) → (has after s j && is_ahead m s j e.student) ≡ true → (has after s j && is_ahead m s j i) ≡ true = λ j rival.
    let parts = and_parts (has after s j) (is_ahead m s j e.student) rival in
    and_from (has after s j) (is_ahead m s j i) parts.0 (ahead-trans m s j e.student i parts.1 ahead) in
    omega (arith, full-entry m log e valid, how_many-le m (λ j. has after s j && is_ahead m s j e.student) (λ j. has after s j && is_ahead m s j i) passed)

-- where the entry's student is no rival of i at s, the rivals are rivals still
full-apart : (m : Market) (log : List Rejection) (e : Rejection) (i s : ℕ) → seats_of m s ≤ rivals m log i s → (has (matching_of m log) s e.student && is_ahead m s e.student i) ≡ false → seats_of m s ≤ rivals m (log ++ e ∷ []) i s
full-apart m log e i s full no_rival =
    let kept : (j : ℕ) → (has (matching_of m log) s j && is_ahead m s j i) ≡ true → (has (matching_of m (log ++ e ∷ [])) s j && is_ahead m s j i) ≡ true = λ j rival.
    rival-kept m log e i s j (λ same. false≢true (sym no_rival ∙ ap (λ k. has (matching_of m log) s k && is_ahead m s k i) same ∙ rival)) rival in
    omega (arith, full, how_many-le m (λ j. has (matching_of m log) s j && is_ahead m s j i) (λ j. has (matching_of m (log ++ e ∷ [])) s j && is_ahead m s j i) kept)

full-kept : (m : Market) (log : List Rejection) (e : Rejection) (i s : ℕ) → IsValidEntry m log e → seats_of m s ≤ rivals m log i s → seats_of m s ≤ rivals m (log ++ e ∷ []) i s
full-kept m log e i s valid full =
    elim (cases_Bool (has (matching_of m log) s e.student && is_ahead m s e.student i)) [
      | inl rival ↦
          let parts = and_parts (has (matching_of m log) s e.student) (is_ahead m s e.student i) rival in
          let same : e.school ≡ s = same_Some e.school s (sym valid.next ∙ has-true (matching_of m log) s e.student parts.0) in
          subst (λ t. seats_of m t ≤ rivals m (log ++ e ∷ []) i t) same (full-behind m log e i valid (ap (λ t. is_ahead m t e.student i) same ∙ parts.1))
      | inr no_rival ↦ full-apart m log e i s full no_rival
    ]

pub full-push : (m : Market) (log : List Rejection) (e : Rejection) → IsValidEntry m log e → StaysFull m log → StaysFull m (log ++ e ∷ [])
full-push m log e valid stays = record {
  full = λ i s rejected. elim (rejected-push_cases log e i s rejected) [
    | inl before ↦ full-kept m log e i s valid (stays.full i s before)
    | inr (same_student, same_school) ↦
        subst (λ j. seats_of m s ≤ rivals m (log ++ e ∷ []) j s) same_student
        (subst (λ t. seats_of m t ≤ rivals m (log ++ e ∷ []) e.student t) same_school (full-entry m log e valid))
  ];
}

pub stays-full : (m : Market) (log : List Rejection) → IsValidLog m log → StaysFull m log
stays-full m log valid =
    along m (StaysFull m) (full-push m) [] log (record { full = λ i s rejected. absurd (false≢true rejected) }) valid

-- no student and school block a settled log's matching
pub settled-unblocked : (m : Market) → WellFormed m → (log : List Rejection) → IsSettled m log → (i s : ℕ) → Blocks m (matching_of m log) i s → ⊥
settled-unblocked m well log settled i s blocks =
    let a : Matching = matching_of m log in
    let full : seats_of m s ≤ rivals m log i s = (stays-full m log settled.valid).full i s (preferred-rejected m well log i s blocks.preferred) in
    let holds : (j : ℕ) → (has a s j && is_ahead m s j i) ≡ true → has a s j ≡ true = λ j rival. (and_parts (has a s j) (is_ahead m s j i) rival).0 in
    elim blocks.better [
      | inl free ↦ omega (arith, free, full, how_many-le m (λ j. has a s j && is_ahead m s j i) (has a s) holds)
      | inr (j, given, ahead) ↦
          omega (
            arith,
            full,
            settled.within_seats s,
            how_many-lt m (λ k. has a s k && is_ahead m s k i) (has a s) holds j (lister-among m j s (next-listed m log j s given))
                (and_right (has a s j) (is_ahead m s j i) (ahead-asymm m s i j ahead)) (has-some a s j given),
          )
    ]

pub settled-stable : (m : Market) → WellFormed m → (log : List Rejection) → IsSettled m log → IsStable m (matching_of m log)
settled-stable m well log settled = record {
  matching = λ i s. next-listed m log i s;
  within_seats = settled.within_seats;
  unblocked = settled-unblocked m well log settled;
}

pub settled-optimal : (m : Market) → WellFormed m → (log : List Rejection) → IsSettled m log → IsStudentOptimal m (matching_of m log)
settled-optimal m well log settled = record {
  stable = settled-stable m well log settled;
  best = λ other stable i s given preferred.
      (stable-refuses m other stable log settled.valid).apart i s (preferred-rejected m well log i s preferred) given;
}
