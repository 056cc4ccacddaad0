-- The stamps after an accepted amendment, told by equations of the papers and of the stamps.
use Rattle.std.proofs.Common.{◌≡◌, sym, subst, None}
use Rattle.sc_papers.specs.Market.{Market}
use Rattle.sc_papers.specs.Verdict.{after, verdict}
use Rattle.sc_papers.specs.WellFormed.{WellFormed}
use Rattle.sc_papers.specs.declared.amendment.Amendment.{Amendment}
use Rattle.sc_stamps.specs.Stamps.{IsInStep, Stamps, stamps_after}
use Rattle.sc_stamps.specs.Verdict.{GivesStamp}
use Rattle.sc_stamps.proofs.Stamping.{stamp-after}
use Rattle.sc_stamps.proofs.Step.{in-step-after}

-- they stay in step
pub stays-in-step : (m now : Market) (before stamps : Stamps) (a : Amendment) → now ≡ after m a → stamps ≡ stamps_after m a before → IsInStep m before → IsInStep now stamps
stays-in-step m now before stamps a papers marked step =
    subst (λ n. IsInStep n stamps) (sym papers) (subst (λ s. IsInStep (after m a) s) (sym marked) (in-step-after m before a step))

-- the amendment's record has the next one, and all others have theirs
pub gives-stamp : (m now : Market) (before stamps : Stamps) (a : Amendment) → now ≡ after m a → stamps ≡ stamps_after m a before
    → WellFormed m → verdict m a ≡ None → IsInStep m before → GivesStamp (record { papers = m; stamps = before }) a (record { papers = now; stamps = stamps })
gives-stamp m now before stamps a papers marked well allowed step =
    subst (λ n. GivesStamp (record { papers = m; stamps = before }) a (record { papers = n; stamps = stamps })) (sym papers)
    (subst (λ s. GivesStamp (record { papers = m; stamps = before }) a (record { papers = after m a; stamps = s })) (sym marked)
    (λ r. stamp-after m before a r well allowed step))
