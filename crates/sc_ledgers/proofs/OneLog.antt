-- Papers have one segmented log: whoever makes it, its chains are the same.
use Rattle.std.proofs.Common.{◌≡◌, inl, inr, refl, ap, sym, subst, ◌∙◌, ℕ, zero, suc, ◌+◌, ◌≤◌, ◌<◌, List, [], ◌∷◌, ◌++◌, append-nil, length, take, get_or, slice_get, Option, Some, arith}
use Rattle.std.proofs.lemmas.Bool.{cases_eq, false≢true}
use Rattle.std.proofs.lemmas.List.{append_assoc, take_all, take_more}
use Rattle.std.proofs.lemmas.Option.{same_Some, slice_get-get_or}
use Rattle.sc_papers.{
  specs.{
    Chain.{InChain},
    Key.{is_ahead},
    Log.{matching_of, IsSettled, IsValidAfter, IsValidEntry},
    Market.{Market, students_of},
    Matching.{WithinSeats},
    Restriction.{cut, is_among_first, joined, IsSegmented},
    WellFormed.{WellFormed},
    declared.rejection.Rejection.{Rejection},
  },
  proofs.{Chain.{chain-begins, chain-ends, chain-puts-out}, Cutting.{cut-more, cut-restricted, joined-push}, Priority.{ahead-asymm}, Standings.{valid-rest}, Subsets.{well-cut}},
}
use Rattle.sc_ledgers.proofs.ValidSteps.{held-split, rivals-others, valid-puts_out}

-- in the course of a chain there is one valid entry at most
only-one : (m : Market) → WellFormed m → (log : List Rejection) (hand : ℕ) (e f : Rejection) → InChain m log hand → IsValidEntry m log e → IsValidEntry m log f → e ≡ f
only-one m well log hand e f chain first second =
    let put = valid-puts_out m well log hand e chain first in
    let other = valid-puts_out m well log hand f chain second in
    let school : e.school ≡ f.school = same_Some e.school f.school (sym put.proposes ∙ other.proposes) in
    let student : e.student ≡ f.student = elim (cases_eq e.student f.student) [
      | inl same ↦ same
      | inr apart ↦
          let behind = put.last f.student (second.next ∙ ap Some (sym school)) (λ same. apart (sym same)) in
          let ahead = other.last e.student (first.next ∙ ap Some school) apart in
          absurd (false≢true (sym (ahead-asymm m e.school f.student e.student behind) ∙ ap (λ s. is_ahead m s e.student f.student) school ∙ ahead))
    ] in
    λ t. record { student = student t; school = school t }

-- and none where all schools are within their seats
none-valid : (m : Market) → WellFormed m → (log : List Rejection) (e : Rejection) → WithinSeats m (matching_of m (log ++ [])) → IsValidEntry m log e → ⊥
none-valid m well log e within valid =
    omega (
      arith,
      subst (λ l. WithinSeats m (matching_of m l)) (append-nil log) within e.school,
      held-split m well log e.student e.school valid.next,
      rivals-others m well log e.student e.school,
      valid.full,
    )

-- so the rest of a chain is one
one-chain : (m : Market) → WellFormed m → (log : List Rejection) (hand : ℕ) (first second : List Rejection) → InChain m log hand → IsValidAfter m log first → IsValidAfter m log second
    → WithinSeats m (matching_of m (log ++ first)) → WithinSeats m (matching_of m (log ++ second)) → first ≡ second
one-chain m well log hand [] [] chain valid also within ends = refl
one-chain m well log hand [] (f ∷ second) chain valid also within ends = absurd (none-valid m well log f within also.0)
one-chain m well log hand (e ∷ first) [] chain valid also within ends = absurd (none-valid m well log e ends valid.0)
one-chain m well log hand (e ∷ first) (f ∷ second) chain valid also within ends =
    let same : e ≡ f = only-one m well log hand e f chain valid.0 also.0 in
    let rest : first ≡ second =
    one-chain m well (log ++ e ∷ []) e.student first second (chain-puts-out m well log hand e chain (valid-puts_out m well log hand e chain valid.0)) valid.1
    (subst (λ d. IsValidAfter m (log ++ d ∷ []) second) (sym same) also.1)
    (subst (λ l. WithinSeats m (matching_of m l)) (sym (append_assoc log (e ∷ []) first)) within)
    (subst (λ l. WithinSeats m (matching_of m l)) (sym (append_assoc log (e ∷ []) second)) (subst (λ d. WithinSeats m (matching_of m (log ++ d ∷ second))) (sym same) ends)) in
    λ t. same t ∷ rest t

module _ (m : Market) (well : WellFormed m) (first second : List (List Rejection)) (one : IsSegmented m first) (two : IsSegmented m second) where
  -- one segment more
  same-next : (k : ℕ) → k < length first → take k first ≡ take k second → take (k + 1) first ≡ take (k + 1) second
  same-next k below before =
      let also : k < length second = omega (arith, below, one.one_each, two.one_each) in
      let i : ℕ = get_or (students_of m) k 0 in
      let here : slice_get (students_of m) k ≡ Some i = slice_get-get_or (students_of m) k 0 (omega (arith, below, one.one_each)) in
      let chain : List Rejection = get_or first k [] in
      let other : List Rejection = get_or second k [] in
      let mine : take (k + 1) first ≡ take k first ++ chain ∷ [] = take_more first k [] below in
      let theirs : take (k + 1) second ≡ take k second ++ other ∷ [] = take_more second k [] also in
      let log : List Rejection = joined (take k first) in
      let n : Market = cut m (k + 1) in
      let settled : IsSettled n (log ++ chain) = subst (IsSettled n) (ap joined mine ∙ joined-push (take k first) chain) (one.settled (k + 1) (omega (arith, below))) in
      let settled_too : IsSettled n (log ++ other) =
      subst (IsSettled n) (ap joined theirs ∙ joined-push (take k second) other ∙ ap (λ segments. joined segments ++ other) (sym before)) (two.settled (k + 1) (omega (arith, also))) in
      let begun : InChain n log i =
      subst (λ p. InChain p log i) (sym (cut-more m k i well here))
      (chain-begins m (is_among_first m k) i log (subst (λ p. IsSettled p log) (cut-restricted m k well) (one.settled k (omega (arith, below))))) in
      let same : chain ≡ other =
      one-chain n (well-cut m (k + 1) well) log i chain other begun (valid-rest n [] log chain settled.valid) (valid-rest n [] log other settled_too.valid) settled.within_seats settled_too.within_seats in
      mine ∙ (λ t. before t ++ same t ∷ []) ∙ sym theirs

  same-first : (k : ℕ) → k ≤ length first → take k first ≡ take k second
  same-first zero low = refl
  same-first (suc k) low =
      let next : k + 1 ≡ suc k = omega arith in
      subst (λ j. take j first ≡ take j second) next (same-next k (omega (arith, low)) (same-first k (omega (arith, low))))

  pub one-log : first ≡ second
  one-log = sym (take_all (length first) first (omega arith)) ∙ same-first (length first) (omega arith) ∙ take_all (length first) second (omega (arith, one.one_each, two.one_each))
