-- The report of papers in another order of entry.
use Rattle.std.proofs.Common.{refl, ◌∙◌, List, ℕ, Option, Result, Ok, Err}
use Rattle.sc_papers.specs.Market.{Market}
use Rattle.sc_papers.specs.Reordering.{IsReordering}
use Rattle.sc_papers.specs.WellFormed.{WellFormed}
use Rattle.sc_papers.proofs.Reordering.{optimal-reordered}
use Rattle.sc_report.proofs.Orders.{report-moved}
use Rattle.sc_steps.specs.Opening.{IsReport, WritesText}
use Rattle.sc_steps.specs.declared.fault.RunFault.{RunFault}
use Rattle.sc_steps.specs.declared.fault.RunFault.TheVariants.{WriteOut, OutOfMemory}

-- it is the same
pub report-reordered : (m n : Market) → WellFormed m → IsReordering m n → (text : List ℕ) → IsReport m text → IsReport n text
report-reordered m n well moved text (a, optimal, is) = (a, (optimal-reordered m n a well moved).0 optimal, is ∙ report-moved m n well moved a a (λ i. refl))

-- and so is what becomes of a writer that it is written to
pub writes-reordered : (m n : Market) → WellFormed m → IsReordering m n → (old new : Option (List ℕ)) (result : Result (Unit {0}) RunFault) → WritesText (IsReport m) old new result → WritesText (IsReport n) old new result
writes-reordered m n well moved old new (Ok done) (text, is, written) = (text, report-reordered m n well moved text is, written)
writes-reordered m n well moved old new (Err WriteOut) (text, is, written) = (text, report-reordered m n well moved text is, written)
writes-reordered m n well moved old new (Err OutOfMemory) kept = kept
writes-reordered m n well moved old new (Err _) none = absurd none
