-- On whom two logs agree after a turn in which their chains differ.
use Rattle.std.proofs.Common.{◌≡◌, inl, inr, refl, ap, sym, subst, ◌∙◌, ℕ, ◌==◌, Bool, true, false, ◌||◌, List, [], ◌∷◌, ◌++◌, Option, None, Some, All, Contains, append_assoc, append-nil}
use Rattle.std.proofs.lemmas.Bool.{cases_Bool, and_left, ne_eqb, false≢true, false_from_ne_true}
use Rattle.std.proofs.lemmas.List.Elements.{All-head, All-tail}
use Rattle.sc_papers.specs.Market.{Market, choices_of}
use Rattle.sc_papers.specs.WellFormed.{WellFormed}
use Rattle.sc_papers.specs.Matching.{Prefers, StandsBefore}
use Rattle.sc_papers.specs.Log.{is_rejected, next_choice, IsValidLog}
use Rattle.sc_papers.specs.declared.rejection.Rejection.{Rejection}
use Rattle.sc_papers.proofs.Optimality.{preferred-rejected}
use Rattle.sc_papers.proofs.Rejections.{rejected-push}
use Rattle.sc_papers.proofs.Progress.{rejected-preferred}

-- entries of others change nothing
pub unnamed : (log rest : List Rejection) (j s : ℕ) → All (λ e. e.student ≡ j → ⊥) rest → is_rejected (log ++ rest) j s ≡ is_rejected log j s
unnamed log [] j s apart = ap (λ l. is_rejected l j s) (append-nil log)
unnamed log (e ∷ rest) j s apart =
    ap (λ l. is_rejected l j s) (sym (append_assoc log (e ∷ []) rest))
    ∙ unnamed (log ++ e ∷ []) rest j s (All-tail (λ x. x.student ≡ j → ⊥) e rest apart)
    ∙ rejected-push log e j s
    ∙ ap (λ b. is_rejected log j s || b) (and_left (e.student == j) (e.school == s) (ne_eqb e.student j (All-head (λ x. x.student ≡ j → ⊥) e rest apart)))
    ∙ or-false (is_rejected log j s)
  where
    or-false : (b : Bool) → (b || false) ≡ b
    or-false true = refl
    or-false false = refl

-- what a student prefers in some papers, they prefer in others in which they have the same choices
prefers-alike : (m n : Market) (j s : ℕ) (given : Option ℕ) → choices_of n j ≡ choices_of m j → Prefers m j s given → Prefers n j s given
prefers-alike m n j s None same listed = subst (λ xs. Contains xs s) (sym same) listed
prefers-alike m n j s (Some t) same before = subst (λ xs. StandsBefore xs s t) (sym same) before

one-way : (m n : Market) → WellFormed m → WellFormed n → (log other : List Rejection) (j s : ℕ) → IsValidLog m log → choices_of n j ≡ choices_of m j → next_choice n other j ≡ next_choice m log j → is_rejected log j s ≡ true → is_rejected other j s ≡ true
one-way m n well_m well_n log other j s valid choices next rejected =
    preferred-rejected n well_n other j s (subst (Prefers n j s) (sym next) (prefers-alike m n j s (next_choice m log j) choices (rejected-preferred m well_m log valid j s rejected)))

-- whoever has the same choices and the same next choice has been rejected alike
pub alike-by_next : (m n : Market) → WellFormed m → WellFormed n → (log other : List Rejection) (j s : ℕ) → IsValidLog m log → IsValidLog n other → choices_of n j ≡ choices_of m j → next_choice n other j ≡ next_choice m log j → is_rejected other j s ≡ is_rejected log j s
alike-by_next m n well_m well_n log other j s valid_m valid_n choices next = elim (cases_Bool (is_rejected log j s)) [
  | inl rejected ↦ one-way m n well_m well_n log other j s valid_m choices next rejected ∙ sym rejected
  | inr untried ↦
      false_from_ne_true (is_rejected other j s) (λ rejected. false≢true (sym untried ∙ one-way n m well_n well_m other log j s valid_n (sym choices) (sym next) rejected)) ∙ sym untried
]
