-- Where the chain of a turn ended: whoever came to a school in it came to one that its segment names, or to that one.
use Rattle.std.proofs.Common.{◌≡◌, inl, inr, refl, ap, sym, subst, ◌∙◌, ℕ, suc, ◌+◌, ◌-◌, Bool, true, List, [], ◌∷◌, ◌++◌, length, get_or, slice_get, Option, Some, All, append_assoc, append-nil, arith}
use Rattle.std.specs.Option.{option_map_or}
use Rattle.std.proofs.lemmas.Bool.{cases_eq}
use Rattle.std.proofs.lemmas.List.Elements.{All-head, All-tail}
use Rattle.std.proofs.lemmas.Option.{same_Some, slice_get-get_or, slice_get_within}
use Rattle.sc_papers.specs.Market.{Market, choices_of, students_of}
use Rattle.sc_papers.specs.WellFormed.{WellFormed}
use Rattle.sc_papers.specs.Log.{next_choice, IsSettled, IsValidAfter}
use Rattle.sc_papers.specs.Chain.{InChain}
use Rattle.sc_papers.specs.declared.rejection.Rejection.{Rejection}
use Rattle.sc_papers.proofs.Chain.{chain-begins, chain-puts-out}
use Rattle.sc_papers.proofs.Rejections.{next-same}
use Rattle.sc_papers.proofs.Restriction.{Restricts}
use Rattle.sc_papers.proofs.Standings.{valid-rest}
use Rattle.sc_ledgers.specs.Cohort.{Cohort, cut, has_entered, IsRunTo}
use Rattle.sc_ledgers.specs.Ledger.{log_at, HasAskedBy, StandsAt}
use Rattle.sc_ledgers.specs.Proposals.{choice_after, end_of}
use Rattle.sc_ledgers.proofs.Cohorts.{cut-entered, cut-one, first-students, next-without, well-cut}
use Rattle.sc_ledgers.proofs.Coursing.{valid-first}
use Rattle.sc_ledgers.proofs.Entry.{next-first, next-unnamed}
use Rattle.sc_ledgers.proofs.Staying.{log-after, valid-turn}
use Rattle.sc_ledgers.proofs.TurnPlaces.{goes-on}
use Rattle.sc_ledgers.proofs.ValidSteps.{valid-puts_out}

-- the choice to which the last of these entries moved its student, or this one
abbrev ends : Market → Option ℕ → List Rejection → Option ℕ
ends m first [] = first
ends m first (e ∷ rest) = ends m (choice_after m e) rest

ends-last : (m : Market) (first : Option ℕ) (segment : List Rejection) → ends m first segment ≡ option_map_or (choice_after m) (slice_get segment (length segment - 1)) first
ends-last m first [] = refl
ends-last m first (e ∷ []) = refl
ends-last m first (e ∷ f ∷ rest) =
    let later : suc (suc (length rest)) - 1 ≡ suc (suc (length rest) - 1) = omega arith in
    let there : slice_get (f ∷ rest) (suc (length rest) - 1) ≡ Some (get_or (f ∷ rest) (suc (length rest) - 1) f) = slice_get-get_or (f ∷ rest) (suc (length rest) - 1) f (omega arith) in
    ends-last m (choice_after m e) (f ∷ rest)
    ∙ ap (λ found. option_map_or (choice_after m) found (choice_after m e)) there
    ∙ sym (ap (λ found. option_map_or (choice_after m) found first) there)
    ∙ ap (λ k. option_map_or (choice_after m) (slice_get (e ∷ f ∷ rest) k) first) (sym later)

-- in the course of a chain: whoever stands at a school that the rest does not name, and stood elsewhere before it or is in hand, is where the chain ends
came-last : (n m : Market) (few : ℕ → Bool) → WellFormed n → Restricts n m few → (log : List Rejection) (hand j s : ℕ) (rest : List Rejection) → InChain n log hand → IsValidAfter n log rest → All (λ e. e.school ≡ s → ⊥) rest → (next_choice n log j ≡ Some s → j ≡ hand) → next_choice n (log ++ rest) j ≡ Some s → ends m (next_choice n log hand) rest ≡ Some s
came-last n m few well part log hand j s [] chain valid none came stands =
    let now : next_choice n log j ≡ Some s = ap (λ l. next_choice n l j) (sym (append-nil log)) ∙ stands in
    ap (next_choice n log) (sym (came now)) ∙ now
came-last n m few well part log hand j s (e ∷ rest) chain valid none came stands =
    let puts = valid-puts_out n well log hand e chain valid.0 in
    let other : e.school ≡ s → ⊥ = All-head (λ x. x.school ≡ s → ⊥) e rest none in
    ap (λ first. ends m first rest) (sym (goes-on n m few well part log e chain.valid valid.0))
    ∙ came-last n m few well part (log ++ e ∷ []) e.student j s rest (chain-puts-out n well log hand e chain puts) valid.1 (All-tail (λ x. x.school ≡ s → ⊥) e rest none)
    (λ now. elim (cases_eq j e.student) [
      | inl same ↦ same
      | inr apart ↦
          let before : next_choice n log j ≡ Some s = sym (next-same n log e j (λ is. apart (sym is))) ∙ now in
          absurd (other (same_Some e.school s (sym puts.proposes ∙ ap (next_choice n log) (sym (came before)) ∙ before)))
    ])
    (ap (λ l. next_choice n l j) (append_assoc log (e ∷ []) rest) ∙ stands)

-- where the first entries are of the one in hand, they are in hand still
own-chain : (n : Market) → WellFormed n → (log : List Rejection) (hand : ℕ) (front : List Rejection) → InChain n log hand → IsValidAfter n log front → All (λ e. e.student ≡ hand) front → InChain n (log ++ front) hand
own-chain n well log hand [] chain valid own = subst (λ l. InChain n l hand) (sym (append-nil log)) chain
own-chain n well log hand (e ∷ front) chain valid own =
    subst (λ l. InChain n l hand) (append_assoc log (e ∷ []) front)
    (own-chain n well (log ++ e ∷ []) hand front
    (subst (InChain n (log ++ e ∷ [])) (All-head (λ x. x.student ≡ hand) e front own) (chain-puts-out n well log hand e chain (valid-puts_out n well log hand e chain valid.0)))
    valid.1 (All-tail (λ x. x.student ≡ hand) e front own))

own-ends : (n m : Market) (few : ℕ → Bool) → WellFormed n → Restricts n m few → (log : List Rejection) (hand : ℕ) (front later : List Rejection) → InChain n log hand → IsValidAfter n log front → All (λ e. e.student ≡ hand) front → ends m (next_choice n log hand) (front ++ later) ≡ ends m (next_choice n (log ++ front) hand) later
own-ends n m few well part log hand [] later chain valid own = ap (λ l. ends m (next_choice n l hand) later) (sym (append-nil log))
own-ends n m few well part log hand (e ∷ front) later chain valid own =
    let same : e.student ≡ hand = All-head (λ x. x.student ≡ hand) e front own in
    let next : InChain n (log ++ e ∷ []) hand = subst (InChain n (log ++ e ∷ [])) same (chain-puts-out n well log hand e chain (valid-puts_out n well log hand e chain valid.0)) in
    ap (λ first. ends m first (front ++ later)) (sym (goes-on n m few well part log e chain.valid valid.0) ∙ ap (next_choice n (log ++ e ∷ [])) same)
    ∙ own-ends n m few well part (log ++ e ∷ []) hand front later next valid.1 (All-tail (λ x. x.student ≡ hand) e front own)
    ∙ ap (λ l. ends m (next_choice n l hand) later) (append_assoc log (e ∷ []) front)

-- whoever came to stand at a school in a turn, of whose entries the first are of who entered and the others do not name the school, is where its chain ended
pub came-at-end : (m : Cohort) (to : ℕ) (old : List (List Rejection)) (k i j s : ℕ) (rest front later : List Rejection) → WellFormed m.papers → slice_get (students_of m.papers) k ≡ Some i → m.enters i ≡ true → IsRunTo m to old → slice_get old k ≡ Some rest → front ++ later ≡ rest → All (λ e. e.student ≡ i) front → All (λ e. e.school ≡ s → ⊥) later → StandsAt m old (k + 1) j s → (HasAskedBy m old k j s → ⊥) → end_of m.papers i rest ≡ Some s
unfolding end_of
came-at-end m to old k i j s rest front later well here enters older segment parts own none stands unasked =
    sym (ends-last m.papers (slice_get (choices_of m.papers i) 0) rest)
    ∙ ap (λ first. ends m.papers first rest) (sym (next-first m k i well here enters log before.valid))
    ∙ ap (ends m.papers (next_choice n log i)) (sym parts)
    ∙ own-ends n m.papers (has_entered m (k + 1)) (well-cut m (k + 1) well) (first-students m (k + 1) well) log i front later chain (valid-first n log front later valid) own
    ∙ came-last n m.papers (has_entered m (k + 1)) (well-cut m (k + 1) well) (first-students m (k + 1) well) (log ++ front) i j s later (own-chain n (well-cut m (k + 1) well) log i front chain (valid-first n log front later valid) own) (valid-rest n log front later valid) none
    (λ now. elim (cases_eq j i) [
      | inl it ↦ it
      | inr apart ↦ absurd (unasked (inl (next-without m k i well here log j s apart (sym (next-unnamed n log front j (λ p d low same. apart (sym same ∙ own p d low))) ∙ now))))
    ])
    (ap (λ l. next_choice n l j) (append_assoc log front later ∙ ap (λ l. log ++ l) parts ∙ sym (log-after old k rest segment)) ∙ stands)
  where
    n : Market
    n = cut m (k + 1)

    log : List Rejection
    log = log_at old k

    before : IsSettled (cut m k) log
    before = older.settled k (omega (arith, older.one_each, slice_get_within old k rest segment))

    chain : InChain n log i
    chain = subst (λ p. InChain p log i) (sym (cut-one m k i here enters)) (chain-begins m.papers (has_entered m k) i log (subst (λ p. IsSettled p log) (cut-entered m k) before))

    valid : IsValidAfter n log (front ++ later)
    valid = subst (IsValidAfter n log) (sym parts) (valid-turn m old k rest older segment)
