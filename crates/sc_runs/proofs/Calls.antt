-- Calls that read their inputs, by what reading them and then using them did.
use Rattle.std.proofs.Common.{◌≡◌, ℕ, inr, ap, List, [], ◌∷◌, ◌++◌, Option, Result, Ok, Err, ◌∙◌, subst}
use Rattle.std.specs.Result.{MatchResult}
use Rattle.sc_papers.specs.Market.{Market}
use Rattle.sc_intake.specs.declared.fault.IntakeFault.{IntakeFault}
use Rattle.sc_steps.specs.Steps.{IsOpeningFault}
use Rattle.sc_steps.specs.Inputs.{in_order, Texts, Turn, AreRead}
use Rattle.sc_steps.specs.Opening.{opening_in, papers_in}
use Rattle.sc_steps.specs.TwoWriters.{Contents}
use Rattle.sc_steps.specs.declared.fault.RunFault.{RunFault}
use Rattle.sc_runs.specs.Steps.{IsReadingOf}
use Rattle.sc_intake.specs.Log.{log_in}
use Rattle.sc_intake.specs.Script.{script_in}
use Rattle.sc_runs.specs.declared.auditing.Audited.{Audited}
use Rattle.sc_runs.specs.declared.replaying.Replayed.{Replayed}
use Rattle.sc_runs.specs.Auditing.{claimed_in, AuditsFiles, WritesAudit}
use Rattle.sc_runs.specs.Replaying.{ReplaysFiles, WritesReplay}
use Rattle.sc_runs.specs.Run.{opened_in, RunsFiles, WritesRun}

-- files that are the texts that were read
pub record AreTexts (texts : Texts) (schools roster lists : List ℕ) : Type 0 where
  pub schools_same : schools ≡ texts.schools
  pub roster_same : roster ≡ texts.roster
  pub lists_same : lists ≡ texts.lists

pub papers_in-texts : (seed : List ℕ) (texts : Texts) (schools roster lists : List ℕ) → AreTexts texts schools roster lists → papers_in seed schools roster lists ≡ opening_in seed texts
papers_in-texts seed texts schools roster lists same =
    ap (λ s. papers_in seed s roster lists) same.schools_same
    ∙ ap (λ r. papers_in seed texts.schools r lists) same.roster_same
    ∙ ap (λ l. papers_in seed texts.schools texts.roster l) same.lists_same

-- the files and the log were read, and the log was audited
pub AuditsFiles-read : (seed : List ℕ) (turns : List Turn) (texts : Texts) (log given : List ℕ) (old new : Option (List ℕ)) (result : Result Audited RunFault)
    → AreRead turns (in_order texts ++ log ∷ []) → given ≡ log
    → WritesAudit (claimed_in (opening_in seed texts) (log_in given)) old new result → AuditsFiles seed turns old new result
AuditsFiles-read seed turns texts log given old new result read is wrote = inr (
  texts,
  log,
  read,
  subst (λ text. WritesAudit (claimed_in (opening_in seed texts) (log_in text)) old new result) is wrote,
)

-- the files and the journal were read, and the journal was replayed
pub ReplaysFiles-read : (seed : List ℕ) (turns : List Turn) (texts : Texts) (journal given : List ℕ) (old new : Option (List ℕ)) (result : Result Replayed RunFault)
    → AreRead turns (in_order texts ++ journal ∷ []) → given ≡ journal
    → WritesReplay (opening_in seed texts) given old new result → ReplaysFiles seed turns old new result
ReplaysFiles-read seed turns texts journal given old new result read is wrote = inr (
  texts,
  journal,
  read,
  subst (λ text. WritesReplay (opening_in seed texts) text old new result) is wrote,
)

-- the files and the script were read, and run
pub RunsFiles-read : (seed : List ℕ) (turns : List Turn) (texts : Texts) (script given : List ℕ) (old new : Contents) (result : Result (Unit {0}) RunFault)
    → AreRead turns (in_order texts ++ script ∷ []) → given ≡ script
    → WritesRun (opened_in (opening_in seed texts) (script_in given)) old new result → RunsFiles seed turns old new result
RunsFiles-read seed turns texts script given old new result read is wrote = inr (
  texts,
  script,
  read,
  subst (λ text. WritesRun (opened_in (opening_in seed texts) (script_in text)) old new result) is wrote,
)

-- what reading papers came to
pub is-reading : (reading : Result Market IntakeFault) (read : Result Market RunFault) → MatchResult read (λ papers. reading ≡ Ok papers) (IsOpeningFault reading) → IsReadingOf reading read
is-reading reading (Ok papers) came = came
is-reading reading (Err fault) came = came
