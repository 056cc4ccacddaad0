-- The verdict of a log, told or not.
use Rattle.std.proofs.Common.{◌≡◌, ℕ, List, Option, Result, Ok, Err, ap, subst}
use Rattle.std.specs.Io.KnownBytes.{Appends}
use Rattle.sc_papers.specs.Market.{Market}
use Rattle.sc_papers.specs.declared.rejection.Rejection.{Rejection}
use Rattle.sc_audit.specs.Verdict.{IsVerdict}
use Rattle.sc_audit.specs.declared.verdict.Verdict.{Verdict}
use Rattle.sc_intake.specs.declared.fault.IntakeFault.{IntakeFault}
use Rattle.sc_steps.specs.declared.fault.RunFault.{RunFault}
use Rattle.sc_steps.specs.declared.fault.RunFault.TheVariants.{WriteOut, OutOfMemory}
use Rattle.sc_runs.specs.Auditing.{claimed_in, verdict_text, WritesVerdict}
use Rattle.sc_runs.specs.Steps.{WritesVerdictLine}

-- a verdict was told of papers and the log that was read
pub WritesVerdict-written : (m : Market) (logged : Result (List Rejection) IntakeFault) (seen log : List Rejection) (verdict : Verdict) (old new : Option (List ℕ))
    → logged ≡ Ok log → seen ≡ log → IsVerdict m seen verdict → Appends old new (verdict_text verdict) → WritesVerdict (claimed_in (Ok m) logged) old new (Ok verdict)
WritesVerdict-written m logged seen log verdict old new read same is wrote =
    (record { papers = m; log = log }, ap (claimed_in (Ok m)) read, subst (λ l. IsVerdict m l verdict) same is, wrote)

-- a verdict was found, but not told whole
pub WritesVerdict-failed : (m : Market) (logged : Result (List Rejection) IntakeFault) (seen log : List Rejection) (verdict : Verdict) (old new : Option (List ℕ)) (fault : RunFault)
    → logged ≡ Ok log → seen ≡ log → IsVerdict m seen verdict → WritesVerdictLine verdict old new (Err fault) → WritesVerdict (claimed_in (Ok m) logged) old new (Err fault)
WritesVerdict-failed m logged seen log verdict old new WriteOut read same is wrote =
    (record { papers = m; log = log }, ap (claimed_in (Ok m)) read, (verdict, subst (λ l. IsVerdict m l verdict) same is, wrote))
WritesVerdict-failed m logged seen log verdict old new OutOfMemory read same is wrote = wrote
WritesVerdict-failed m logged seen log verdict old new _ read same is wrote = absurd wrote
