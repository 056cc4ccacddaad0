-- A round that forgets its log goes on from where its students stand.
use Rattle.std.proofs.Common.{refl, ap, sym, subst, ◌∙◌, ℕ, Bool, List, ◌++◌, arith}
use Rattle.std.proofs.lemmas.List.{append-nil}
use Rattle.sc_papers.specs.Log.{next_choice, IsValidLog}
use Rattle.sc_papers.specs.Market.{Market}
use Rattle.sc_papers.specs.declared.rejection.Rejection.{Rejection}
use Rattle.sc_engine.specs.RoundView.{RoundView, FitsBut, Midway, entered_papers, except, next_of, without_log}
use Rattle.sc_engine.proofs.Rolls.{fits-again}

pub fits_but-without_log : (m : Market) (r : RoundView) (away : ℕ → Bool) → FitsBut m r away → FitsBut m (without_log r) away
fits_but-without_log m r away fits = fits-again (without_log r) (except away (next_of m r.ranks)) fits fits.ranks refl fits.each (omega arith)

pub midway-without_log : (m : Market) (r : RoundView) (earlier : List Rejection) → Midway m earlier r → Midway m (earlier ++ r.log) (without_log r)
midway-without_log m r earlier midway = record {
  valid = subst (λ (log : List Rejection). IsValidLog (entered_papers m r.ranks) log) (sym (append-nil (earlier ++ r.log))) midway.valid;
  next = λ i. ap (λ (log : List Rejection). next_choice (entered_papers m r.ranks) log i) (append-nil (earlier ++ r.log)) ∙ midway.next i;
}
