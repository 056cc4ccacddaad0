-- A segment that the new run makes too stays where two logs agree beside the marked schools.
use Rattle.std.proofs.Common.{◌≡◌, ◌⊎◌, inl, inr, ap, sym, subst, ◌∙◌, ℕ, ◌≤◌, Bool, true, false, not, ◌&&◌, ◌||◌, List, [], ◌∷◌, ◌++◌, Some, All, find, append_assoc, append-nil, arith}
use Rattle.std.proofs.lemmas.Bool.{cases_Bool, and_parts, and_from, false_from_ne_true, false≢true}
use Rattle.std.proofs.lemmas.List.Elements.{All-head, All-tail}
use Rattle.sc_papers.specs.Market.{Market, choices_of, seats_of}
use Rattle.sc_papers.specs.Key.{is_ahead}
use Rattle.sc_papers.specs.Matching.{how_many, has, held}
use Rattle.sc_papers.specs.Log.{is_rejected, next_choice, matching_of, IsSettled, IsValidAfter, IsValidEntry}
use Rattle.sc_papers.specs.declared.rejection.Rejection.{Rejection}
use Rattle.sc_papers.proofs.Rejections.{find-agree, is_of, next-same, rejected-push, has-true, has-some}
use Rattle.sc_papers.proofs.Restriction.{Restricts}
use Rattle.sc_papers.proofs.Standings.{valid-join, valid-rest}
use Rattle.sc_papers.proofs.Students.{how_many-le}
use Rattle.sc_papers.proofs.Subsets.{next-passes, valid-grows}
use Rattle.sc_papers.proofs.Validity.{next-listed}
use Rattle.sc_ledgers.specs.Ledger.{AgreeBeside, AlikeBeside, AreMadeToo}

-- whoever is not aside has the same next choice
pub next-beside : {m n : Market} {log other : List Rejection} {marked aside : ℕ → Bool} → AlikeBeside m n marked aside → AgreeBeside m n log other marked aside → (j : ℕ) → aside j ≡ false → next_choice n other j ≡ next_choice m log j
unfolding next_choice
next-beside {m} {n} {log} {other} papers logs j beside =
    ap (find (λ s. not (is_rejected other j s))) (papers.choices j beside)
    ∙ find-agree (λ s. not (is_rejected other j s)) (λ s. not (is_rejected log j s)) (λ s. ap not (logs.alike j s beside)) (choices_of m j)

-- whoever stands at a school that is not marked is not aside
pub stands-beside : {m n : Market} {log other : List Rejection} {marked aside : ℕ → Bool} → AgreeBeside m n log other marked aside → (j s : ℕ) → marked s ≡ false → next_choice m log j ≡ Some s → aside j ≡ false
stands-beside {aside = aside} logs j s unmarked next = elim (cases_Bool (aside j)) [
  | inl is ↦ absurd (false≢true (sym unmarked ∙ logs.old j s is next))
  | inr beside ↦ beside
]

-- as many students of the other papers, if none of them is aside
count-beside : {m n : Market} {marked aside : ℕ → Bool} → AlikeBeside m n marked aside → (p q : ℕ → Bool) → ((j : ℕ) → p j ≡ true → aside j ≡ false) → ((j : ℕ) → p j ≡ true → q j ≡ true) → how_many m p ≤ how_many n q
count-beside {m} {n} papers p q beside passes = omega (arith, papers.counts p beside, how_many-le n p q passes)

-- an entry at a school that is not marked
pub entry-beside : {m n : Market} {log other : List Rejection} {marked aside : ℕ → Bool} → AlikeBeside m n marked aside → AgreeBeside m n log other marked aside → (e : Rejection) → marked e.school ≡ false → IsValidEntry m log e → IsValidEntry n other e
entry-beside {m} {n} {log} {other} {marked} {aside} papers logs e unmarked valid =
    let s : ℕ = e.school in
    let own : aside e.student ≡ false = stands-beside logs e.student s unmarked valid.next in
    let none_aside : (j : ℕ) → (has (matching_of m log) s j && is_ahead m s j e.student) ≡ true → aside j ≡ false = λ j passes.
    stands-beside logs j s unmarked (has-true (matching_of m log) s j (and_parts (has (matching_of m log) s j) (is_ahead m s j e.student) passes).0) in
    let rival : (j : ℕ) → (has (matching_of m log) s j && is_ahead m s j e.student) ≡ true → (has (matching_of n other) s j && is_ahead n s j e.student) ≡ true = λ j passes.
    let parts = and_parts (has (matching_of m log) s j) (is_ahead m s j e.student) passes in
    let next : next_choice m log j ≡ Some s = has-true (matching_of m log) s j parts.0 in
    let beside : aside j ≡ false = stands-beside logs j s unmarked next in
    and_from (has (matching_of n other) s j) (is_ahead n s j e.student) (has-some (matching_of n other) s j (next-beside papers logs j beside ∙ next)) (papers.ahead s j e.student (next-listed m log j s next) (next-listed m log e.student s valid.next) beside own ∙ parts.1) in
    record {
      next = next-beside papers logs e.student own ∙ valid.next;
      full = omega (arith, papers.seats s unmarked, valid.full, count-beside papers (λ j. has (matching_of m log) s j && is_ahead m s j e.student) (λ j. has (matching_of n other) s j && is_ahead n s j e.student) none_aside rival);
    }

-- an entry that the new run makes too is of one who is not aside
pub made-own : {m n : Market} {log other : List Rejection} {marked aside : ℕ → Bool} → AgreeBeside m n log other marked aside → (e : Rejection) → (marked e.school ≡ false) ⊎ ((aside e.student ≡ false) × IsValidEntry n other e) → IsValidEntry m log e → aside e.student ≡ false
made-own logs e (inl unmarked) valid = stands-beside logs e.student e.school unmarked valid.next
made-own logs e (inr made) valid = made.0

-- and valid there
made-valid : {m n : Market} {log other : List Rejection} {marked aside : ℕ → Bool} → AlikeBeside m n marked aside → AgreeBeside m n log other marked aside → (e : Rejection) → (marked e.school ≡ false) ⊎ ((aside e.student ≡ false) × IsValidEntry n other e) → IsValidEntry m log e → IsValidEntry n other e
made-valid papers logs e (inl unmarked) valid = entry-beside papers logs e unmarked valid
made-valid papers logs e (inr made) valid = made.1

-- the logs agree after an entry of one who is not aside
pub agree-after : {m n : Market} {log other : List Rejection} {marked aside : ℕ → Bool} → AgreeBeside m n log other marked aside → (e : Rejection) → aside e.student ≡ false → AgreeBeside m n (log ++ e ∷ []) (other ++ e ∷ []) marked aside
agree-after {m} {n} {log} {other} {marked} {aside} logs e own =
    let apart : (j : ℕ) → aside j ≡ true → e.student ≡ j → ⊥ = λ j is same. false≢true (sym (ap aside (sym same) ∙ own) ∙ is) in
    record {
      alike = λ j s beside. rejected-push other e j s ∙ ap (λ b. b || is_of e j s) (logs.alike j s beside) ∙ sym (rejected-push log e j s);
      old = λ j s is next. logs.old j s is (sym (next-same m log e j (apart j is)) ∙ next);
      new = λ j s is next. logs.new j s is (sym (next-same n other e j (apart j is)) ∙ next);
    }

-- whoever is aside stands where they stood
still-after : (n : Market) (other : List Rejection) (aside : ℕ → Bool) (e : Rejection) → aside e.student ≡ false → (j : ℕ) → aside j ≡ true → next_choice n (other ++ e ∷ []) j ≡ next_choice n other j
still-after n other aside e own j is = next-same n other e j (λ same. false≢true (sym (ap aside (sym same) ∙ own) ∙ is))

pub still-aside : {m n : Market} {log other : List Rejection} {marked aside : ℕ → Bool} → AgreeBeside m n log other marked aside → (rest : List Rejection) → AreMadeToo n marked aside other rest → IsValidAfter m log rest → (j : ℕ) → aside j ≡ true → next_choice n (other ++ rest) j ≡ next_choice n other j
still-aside {n = n} {other = other} logs [] made valid j is = ap (λ l. next_choice n l j) (append-nil other)
still-aside {n = n} {other = other} {aside = aside} logs (e ∷ rest) made valid j is =
    let own : aside e.student ≡ false = made-own logs e made.0 valid.0 in
    ap (λ l. next_choice n l j) (sym (append_assoc other (e ∷ []) rest))
    ∙ still-aside (agree-after logs e own) rest made.1 valid.1 j is
    ∙ still-after n other aside e own j is

-- entries that the new run makes too
pub segment-beside : {m n : Market} {log other : List Rejection} {marked aside : ℕ → Bool} → AlikeBeside m n marked aside → AgreeBeside m n log other marked aside → (rest : List Rejection) → AreMadeToo n marked aside other rest → IsValidAfter m log rest → IsValidAfter n other rest × AgreeBeside m n (log ++ rest) (other ++ rest) marked aside
segment-beside {m} {n} {log} {other} {marked} {aside} papers logs [] made valid = (tt, subst (λ l. AgreeBeside m n (log ++ []) l marked aside) (sym (append-nil other)) (subst (λ l. AgreeBeside m n l other marked aside) (sym (append-nil log)) logs))
segment-beside {m} {n} {log} {other} {marked} {aside} papers logs (e ∷ rest) made valid =
    let more = segment-beside papers (agree-after logs e (made-own logs e made.0 valid.0)) rest made.1 valid.1 in (
      (made-valid papers logs e made.0 valid.0, more.0),
      subst (λ l. AgreeBeside m n l (other ++ e ∷ rest) marked aside) (append_assoc log (e ∷ []) rest)
          (subst (λ l. AgreeBeside m n ((log ++ e ∷ []) ++ rest) l marked aside) (append_assoc other (e ∷ []) rest) more.1),
    )

-- entries that name no marked school are made too
pub unmarked-made : (n : Market) (marked aside : ℕ → Bool) (log rest : List Rejection) → All (λ e. marked e.school ≡ false) rest → AreMadeToo n marked aside log rest
unmarked-made n marked aside log [] unmarked = tt
unmarked-made n marked aside log (e ∷ rest) unmarked =
    (inl (All-head (λ x. marked x.school ≡ false) e rest unmarked), unmarked-made n marked aside (log ++ e ∷ []) rest (All-tail (λ x. marked x.school ≡ false) e rest unmarked))

-- and so are more entries after those that are
pub made-join : (n : Market) (marked aside : ℕ → Bool) (log front later : List Rejection) → AreMadeToo n marked aside log front → AreMadeToo n marked aside (log ++ front) later → AreMadeToo n marked aside log (front ++ later)
made-join n marked aside log [] later made after = subst (λ l. AreMadeToo n marked aside l later) (append-nil log) after
made-join n marked aside log (e ∷ front) later made after =
    (made.0, made-join n marked aside (log ++ e ∷ []) front later made.1 (subst (λ l. AreMadeToo n marked aside l later) (sym (append_assoc log (e ∷ []) front)) after))

-- and no more
count-back : {m n : Market} {marked aside : ℕ → Bool} → AlikeBeside m n marked aside → (p q : ℕ → Bool) → ((j : ℕ) → p j ≡ true → aside j ≡ false) → ((j : ℕ) → p j ≡ true → q j ≡ true) → how_many n p ≤ how_many m q
count-back {m} {n} papers p q beside passes = omega (arith, papers.counts p beside, how_many-le m p q passes)

-- what is known where a student enters: before it, and with them
pub record Enters (m n before : Market) (log other rest : List Rejection) (marked aside : ℕ → Bool) : Type 0 where
  pub papers : AlikeBeside m n marked aside
  pub logs : AgreeBeside m n log other marked aside
  pub old : IsSettled m (log ++ rest)
  pub made_too : AreMadeToo n marked aside other rest
  -- who stands at a marked school after the segment stood there before
  pub stood : (j s : ℕ) → marked s ≡ true → aside j ≡ false → next_choice m (log ++ rest) j ≡ Some s → next_choice before other j ≡ Some s
  -- whoever is aside had entered
  pub apart : (j s : ℕ) → aside j ≡ true → next_choice n other j ≡ Some s → next_choice before other j ≡ Some s

-- a school that is not marked
within-unmarked : {m n before : Market} {log other rest : List Rejection} {marked aside : ℕ → Bool} → Enters m n before log other rest marked aside → (s : ℕ) → marked s ≡ false → held n (matching_of n (other ++ rest)) s ≤ seats_of n s
within-unmarked {m} {n} {before} {log} {other} {rest} {marked} {aside} given s unmarked =
    let valid = valid-rest m [] log rest given.old.valid in
    let after = (segment-beside given.papers given.logs rest given.made_too valid).1 in
    let none_aside : (j : ℕ) → has (matching_of n (other ++ rest)) s j ≡ true → aside j ≡ false = λ j holds.
    false_from_ne_true (aside j) (λ is. false≢true (sym unmarked ∙ after.new j s is (has-true (matching_of n (other ++ rest)) s j holds))) in
    let stands : (j : ℕ) → has (matching_of n (other ++ rest)) s j ≡ true → has (matching_of m (log ++ rest)) s j ≡ true = λ j holds.
    has-some (matching_of m (log ++ rest)) s j (sym (next-beside given.papers after j (none_aside j holds)) ∙ has-true (matching_of n (other ++ rest)) s j holds) in
    omega (arith, given.papers.seats s unmarked, given.old.within_seats s, count-back given.papers (has (matching_of n (other ++ rest)) s) (has (matching_of m (log ++ rest)) s) none_aside stands)

-- who stands at a marked school after the segment
stood-before : {m n before : Market} {log other rest : List Rejection} {marked aside : ℕ → Bool} → Enters m n before log other rest marked aside → (s : ℕ) → marked s ≡ true → (j : ℕ) → next_choice n (other ++ rest) j ≡ Some s → next_choice before other j ≡ Some s
stood-before {m} {n} {before} {log} {other} {rest} {marked} {aside} given s is_marked j next =
    let valid = valid-rest m [] log rest given.old.valid in
    elim (cases_Bool (aside j)) [
      | inl is ↦ given.apart j s is (sym (still-aside given.logs rest given.made_too valid j is) ∙ next)
      | inr beside ↦ given.stood j s is_marked beside (sym (next-beside given.papers (segment-beside given.papers given.logs rest given.made_too valid).1 j beside) ∙ next)
    ]

-- the segment of a student who enters stays, where the new run makes it too and nobody comes to stand at a marked school
pub segment-stays : {m n before full : Market} {few more : ℕ → Bool} {log other rest : List Rejection} {marked aside : ℕ → Bool} → Restricts before full few → Restricts n full more → ((i : ℕ) → few i ≡ true → more i ≡ true) → IsSettled before other → Enters m n before log other rest marked aside → IsSettled n (other ++ rest)
segment-stays {m} {n} {before} {full} {few} {more} {log} {other} {rest} {marked} {aside} small large wider settled given =
    let valid = valid-rest m [] log rest given.old.valid in
    record {
      valid = valid-join n [] other rest (valid-grows small large wider [] other settled.valid) (segment-beside given.papers given.logs rest given.made_too valid).0;
      within_seats = λ s. elim (cases_Bool (marked s)) [
        | inr unmarked ↦ within-unmarked given s unmarked
        | inl is_marked ↦
            let stands : (j : ℕ) → (more j && has (matching_of n (other ++ rest)) s j) ≡ true → (few j && has (matching_of before other) s j) ≡ true = λ j holds.
            let next : next_choice before other j ≡ Some s = stood-before given s is_marked j (has-true (matching_of n (other ++ rest)) s j (and_parts (more j) (has (matching_of n (other ++ rest)) s j) holds).1) in
            and_from (few j) (has (matching_of before other) s j) (next-passes small other j s next) (has-some (matching_of before other) s j next) in
            omega (
              arith,
              settled.within_seats s,
              small.seats s,
              large.seats s,
              small.counts (has (matching_of before other) s),
              large.counts (has (matching_of n (other ++ rest)) s),
              how_many-le full (λ j. more j && has (matching_of n (other ++ rest)) s j) (λ j. few j && has (matching_of before other) s j) stands,
            )
      ];
    }
