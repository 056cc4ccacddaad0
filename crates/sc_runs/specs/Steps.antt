-- What the steps of the calls do, between reading the inputs and the answer. Public contracts do not cite it.
use Rattle.std.specs.Prelude.{◌++◌, ◌+◌, ◌∷◌, ◌≡◌, [], Err, List, None, Ok, Option, Result, Some, ℕ}
use Rattle.std.specs.List.{All}
use Rattle.std.specs.Io.KnownBytes.{Appends, Keeps}
use Rattle.sc_audit.specs.declared.verdict.Verdict.{Verdict}
use Rattle.sc_intake.specs.declared.fault.IntakeFault.{IntakeFault}
use Rattle.sc_journal.specs.declared.journal.Tail.{Tail}
use Rattle.sc_notices.specs.ChangesText.{changes_text}
use Rattle.sc_notices.specs.SummaryText.{summary_text}
use Rattle.sc_papers.specs.Market.{Market}
use Rattle.sc_papers.specs.Matching.{IsStudentOptimal, Matching}
use Rattle.sc_papers.specs.Reordering.{IsReordering}
use Rattle.sc_papers.specs.declared.amendment.Refusal.{Refusal}
use Rattle.sc_papers.specs.declared.amendment.Stamped.{Stamped}
use Rattle.sc_reasons.specs.Entrants.{AreRising, Holds}
use Rattle.sc_report.specs.Table.{table_text}
use Rattle.sc_report.specs.Whole.{AppendsPrefix}
use Rattle.sc_reasons.specs.declared.entrants.Entrant.{Entrant}
use Rattle.sc_stamps.specs.Verdict.{StampedPapers}
use Rattle.sc_steps.specs.Inputs.{Texts}
use Rattle.sc_steps.specs.Opening.{IsReport, WritesText}
use Rattle.sc_steps.specs.Script.{after_script, answers, Writes}
use Rattle.sc_steps.specs.Steps.{IsOpeningFault}
use Rattle.sc_steps.specs.TwoWriters.{to_output, Contents}
use Rattle.sc_steps.specs.declared.fault.RunFault.TheVariants.{OutOfMemory, WriteOut}
use Rattle.sc_steps.specs.declared.fault.RunFault.{RunFault}
use Rattle.sc_steps.specs.declared.inputs.OpeningSlices.{OpeningSlices}
use Rattle.sc_runs.specs.Auditing.{verdict_text}
use Rattle.sc_runs.specs.Markers.{Parts}
use Rattle.sc_runs.specs.Standing.{Stands}
use Rattle.sc_runs.specs.declared.ending.Ending.TheVariants.{Done, Fault}
use Rattle.sc_runs.specs.declared.ending.Ending.{Ending}
use Rattle.sc_runs.specs.declared.markers.Cut.{Cut}
use Rattle.sc_runs.specs.declared.publishing.Finding.TheVariants.{Certified, ReportDiffers}
use Rattle.sc_runs.specs.declared.publishing.Finding.{Finding}
use Rattle.sc_runs.specs.declared.replaying.Replayed.{Replayed}
use Rattle.sc_runs.specs.declared.telling.StandingText.TheVariants.{OneTable, Summary}
use Rattle.sc_runs.specs.declared.telling.StandingText.{StandingText}

-- the texts that are lent
abbrev pub texts_lent : OpeningSlices → Texts
texts_lent lent = record { schools = lent.schools.now; roster = lent.roster.now; lists = lent.lists.now }

-- this came of reading the papers that the texts hold: those papers, or their first fault
abbrev pub IsReadingOf : Result Market IntakeFault → Result Market RunFault → Type 0
IsReadingOf reading (Ok m) = reading ≡ Ok m
IsReadingOf reading (Err fault) = IsOpeningFault reading fault

-- what is told of the papers under a matching
abbrev pub standing_text : StandingText → Market → Matching → List ℕ
standing_text Summary m a = summary_text m a
standing_text (OneTable table) m a = table_text m a table

-- a text is what is told of the papers under their student-optimal stable matching
abbrev pub IsStandingText : StandingText → Market → List ℕ → Type 0
IsStandingText which m text = (a : Matching) × IsStudentOptimal m a × (text ≡ standing_text which m a)

-- the report of amended papers was written, and they are answered up to the order of entry, with how the journal ends; a
-- prefix of it where the writer failed, and nothing for want of memory
abbrev pub WritesReplayed : Market → Tail → Option (List ℕ) → Option (List ℕ) → Result Replayed RunFault → Type 0
WritesReplayed m tail old new (Ok done) = IsReordering done.papers m × (done.tail ≡ tail) × WritesText (IsReport m) old new (Ok tt)
WritesReplayed m tail old new (Err fault) = WritesText (IsReport m) old new (Err fault)

-- these are the students of the papers that stand after a journal, by rising number, each with what they have under
-- the student-optimal stable matching
pub record ArePlacesAfter (reading : Result Market IntakeFault) (journal : List ℕ) (places : List Entrant) : Type 0 where
  pub papers : Market
  pub ending : Tail
  pub matching : Matching
  pub stands : Stands reading journal papers ending
  pub optimal : IsStudentOptimal papers matching
  pub students : AreRising papers places
  pub held : All (Holds matching) places

-- a text tells whose place differs between papers under a matching and the papers now, under their student-optimal
-- stable matching
abbrev pub IsChangeFrom : Market → Matching → Market → List ℕ → Type 0
IsChangeFrom m a now text = (b : Matching) × IsStudentOptimal now b × (text ≡ changes_text m a now b)

-- a verdict's line was written; a prefix of it where the writer failed, and nothing at want of memory
abbrev pub WritesVerdictLine : Verdict → Option (List ℕ) → Option (List ℕ) → Result (Unit {0}) RunFault → Type 0
WritesVerdictLine verdict old new (Ok done) = Appends old new (verdict_text verdict)
WritesVerdictLine verdict old new (Err WriteOut) = AppendsPrefix old new (verdict_text verdict)
WritesVerdictLine verdict old new (Err OutOfMemory) = Keeps old new
WritesVerdictLine verdict old new (Err _) = ⊥

-- what comparing a report comes to, under a log that is settled
abbrev pub finding_of : Option ℕ → Finding
finding_of None = Certified
finding_of (Some line) = ReportDiffers line

-- the report of papers was written, or a prefix of it
abbrev pub WritesLastReport : Market → Contents → Contents → Result (Unit {0}) RunFault → Type 0
WritesLastReport m old new result = (report : List ℕ) × IsReport m report × Writes (to_output report ∷ []) old new result

-- the answers to a script's records were written, and then the report of the papers after them, or a prefix of
-- these writes
abbrev pub WritesSession : StampedPapers → List (Result Stamped Refusal) → Contents → Contents → Result (Unit {0}) RunFault → Type 0
WritesSession p script old new result =
    (report : List ℕ) × IsReport (after_script p script).papers report × Writes (answers 1 p script ++ to_output report ∷ []) old new result

-- how running the sections of a bundle ends
abbrev pub ending_of : Result (Unit {0}) RunFault → Ending
ending_of (Ok done) = Done
ending_of (Err fault) = Fault fault

-- the two parts that a `Cut` points to
abbrev pub parts_of : Cut → Parts
parts_of cut = record { before = cut.before.now; after = cut.after.now }
