-- A newcomer has entered after all others.
use Rattle.std.specs.Prelude.{◌≡◌, ℕ, true, Option, List, [], ◌∷◌, ◌++◌}
use Rattle.sc_papers.specs.Market.{Market}
use Rattle.sc_papers.specs.Restriction.{joined}
use Rattle.sc_papers.specs.declared.rejection.Rejection.{Rejection}
use Rattle.sc_ledgers.specs.Cohort.{cohort}
use Rattle.sc_ledgers.specs.Elsewhere.{is_aside, AreStances}
use Rattle.sc_ledgers.specs.Ends.{AreEnds}
use Rattle.sc_ledgers.specs.Opening.{everybody}
use Rattle.sc_ledgers.specs.Whole.{AreWhole}
use Rattle.sc_ledgers.specs.declared.elsewhere.Stance.{Stance}
use Rattle.sc_ledgers.specs.declared.ledger.Label.{Label}

-- the last student of the papers has entered, after a run of all others: their chain is the last segment of the whole run, with where each turn ended, the stances are
-- those before the chain and after it, and the student has one
pub record HasEntered (m : Market) (i : ℕ) (segments : List (List Rejection)) (chain : List Rejection) (labels : ℕ → List Label) (ends : List (Option ℕ)) (list : List Stance) : Type 0 where
  pub whole : AreWhole (cohort m everybody) (segments ++ chain ∷ []) labels
  pub ended : AreEnds m (segments ++ chain ∷ []) ends
  pub stances : AreStances m m (joined segments) (joined segments ++ chain) list
  pub held : is_aside list i ≡ true
