-- Two runs that share papers, and what a student has asked by their logs.
use Rattle.std.proofs.Common.{◌≡◌, inl, inr, ap, sym, subst, ◌∙◌, ℕ, true, List}
use Rattle.sc_papers.specs.Market.{Market}
use Rattle.sc_papers.specs.WellFormed.{WellFormed}
use Rattle.sc_papers.specs.Key.{key_of}
use Rattle.sc_papers.specs.Log.{IsValidLog}
use Rattle.sc_papers.specs.declared.rejection.Rejection.{Rejection}
use Rattle.sc_papers.proofs.Subsets.{next-passes}
use Rattle.sc_ledgers.specs.Cohort.{Cohort, cut, has_entered}
use Rattle.sc_ledgers.specs.Ledger.{HasAsked}
use Rattle.sc_ledgers.proofs.Beginning.{key-within}
use Rattle.sc_ledgers.proofs.Cohorts.{cut-entered, first-students}
use Rattle.sc_ledgers.proofs.Others.{rejected-kept}

-- by one log of the same papers a student has asked the same schools
pub asked-shared : {m n : Market} {log other : List Rejection} → n ≡ m → other ≡ log → (j s : ℕ) → HasAsked m log j s → HasAsked n other j s
asked-shared {m} {n} {log} {other} papers logs j s asked = subst (λ p. HasAsked p other j s) (sym papers) (subst (λ l. HasAsked m l j s) (sym logs) asked)

-- whoever has asked a school has entered
pub asked-entered : (n : Cohort) (t j s : ℕ) (log : List Rejection) → WellFormed n.papers → IsValidLog (cut n t) log → HasAsked (cut n t) log j s → has_entered n t j ≡ true
asked-entered n t j s log well valid asked = elim asked [
  | inl next ↦ next-passes (first-students n t well) log j s next
  | inr rejected ↦ rejected-kept (first-students n t well) log valid j s rejected
]

-- and has the same keys among those who have entered as in all papers
pub key-asked : (n : Cohort) (t j s : ℕ) (log : List Rejection) → WellFormed n.papers → IsValidLog (cut n t) log → HasAsked (cut n t) log j s → key_of (cut n t) j s ≡ key_of n.papers j s
key-asked n t j s log well valid asked =
    ap (λ p. key_of p j s) (cut-entered n t) ∙ key-within n.papers (has_entered n t) j s (asked-entered n t j s log well valid asked)

-- so whoever has asked a school in two runs that share papers has one key there
pub key-shared : (c d : Cohort) (t u j s : ℕ) (log : List Rejection) → WellFormed c.papers → WellFormed d.papers → cut d u ≡ cut c t → IsValidLog (cut c t) log → HasAsked (cut c t) log j s → key_of d.papers j s ≡ key_of c.papers j s
key-shared c d t u j s log well_c well_d same valid asked =
    sym (key-asked d u j s log well_d (subst (λ p. IsValidLog p log) (sym same) valid) (subst (λ p. HasAsked p log j s) (sym same) asked))
    ∙ ap (λ p. key_of p j s) same
    ∙ key-asked c t j s log well_c valid asked
