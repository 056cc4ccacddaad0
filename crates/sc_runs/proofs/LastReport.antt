-- The papers after a script are well-formed, and well-formed papers have a report.
use Rattle.std.proofs.Common.{◌≡◌, ℕ, List, [], ◌∷◌, Option, None, Some, Result, Ok, Err, refl}
use Rattle.sc_papers.specs.Market.{Market}
use Rattle.sc_papers.specs.WellFormed.{WellFormed}
use Rattle.sc_papers.specs.declared.amendment.Refusal.{Refusal}
use Rattle.sc_papers.specs.declared.amendment.Stamped.{Stamped}
use Rattle.sc_stamps.specs.Verdict.{StampedPapers, after_stamped_verdict, stamped_verdict}
use Rattle.sc_papers.proofs.Amending.{WellFormed-after}
use Rattle.sc_papers.proofs.Existence.{optimal-exists}
use Rattle.sc_report.specs.Text.{report_text}
use Rattle.sc_steps.specs.Opening.{IsReport}
use Rattle.sc_steps.specs.Script.{after_record, after_script}
use Rattle.sc_runs.proofs.Allowing.{allowed-papers}

-- an amendment of any verdict leaves the papers well-formed
WellFormed-after_verdict : (p : StampedPapers) (stamped : Stamped) (found : Option Refusal) → WellFormed p.papers → stamped_verdict p stamped ≡ found
    → WellFormed (after_stamped_verdict p stamped.amendment found).papers
WellFormed-after_verdict p stamped None well accepted = WellFormed-after p.papers stamped.amendment well (allowed-papers p stamped accepted)
WellFormed-after_verdict p stamped (Some refusal) well refused = well

-- and so does a record of a script
WellFormed-after_record : (p : StampedPapers) (entry : Result Stamped Refusal) → WellFormed p.papers → WellFormed (after_record p entry).papers
WellFormed-after_record p (Ok stamped) well = WellFormed-after_verdict p stamped (stamped_verdict p stamped) well refl
WellFormed-after_record p (Err refusal) well = well

-- and so does a script
pub WellFormed-after_script : (p : StampedPapers) (script : List (Result Stamped Refusal)) → WellFormed p.papers → WellFormed (after_script p script).papers
WellFormed-after_script p [] well = well
WellFormed-after_script p (entry ∷ rest) well = WellFormed-after_script (after_record p entry) rest (WellFormed-after_record p entry well)

-- well-formed papers have a report
pub IsReport-some : (m : Market) → WellFormed m → (report : List ℕ) × IsReport m report
IsReport-some m well =
    let (a, optimal) = optimal-exists m well in
    (report_text m a, (a, optimal, refl))
