-- How a call ends, and the exit status of an ending.
use Rattle.std.specs.Prelude.{ℕ}
use Rattle.sc_audit.specs.declared.verdict.Verdict.{Verdict}
use Rattle.sc_audit.specs.declared.verdict.Verdict.TheVariants as verdict
use Rattle.sc_journal.specs.declared.journal.Tail.{Tail}
use Rattle.sc_journal.specs.declared.journal.Tail.TheVariants as journal
use Rattle.sc_steps.specs.declared.fault.RunFault.{RunFault}
use Rattle.sc_steps.specs.declared.fault.RunFault.TheVariants.{Read, Intake, Journal, WriteOut, WriteJournal, OutOfMemory}
use Rattle.sc_runs.specs.declared.admitting.Listed.{Listed}
use Rattle.sc_runs.specs.declared.admitting.Listed.TheVariants as listed
use Rattle.sc_runs.specs.declared.changing.Changed.{Changed}
use Rattle.sc_runs.specs.declared.changing.Changed.TheVariants as changed
use Rattle.sc_runs.specs.declared.checking.Checked.{Checked}
use Rattle.sc_runs.specs.declared.checking.Checked.TheVariants as files
use Rattle.sc_runs.specs.declared.ending.Ending.{Ending}
use Rattle.sc_runs.specs.declared.ending.Ending.TheVariants.{Done, NotCertified, Faulty, Torn, BadSeed, BadBundle, BadStudent, BadTable, TableBesideLog, UnknownStudent, BadSchool, UnknownSchool, BadSince, NoLine, AlreadyThere, Unwritten, Fault}
use Rattle.sc_runs.specs.declared.explaining.Explained.{Explained}
use Rattle.sc_runs.specs.declared.explaining.Explained.TheVariants as explained
use Rattle.sc_runs.specs.declared.publishing.Finding.{Finding}
use Rattle.sc_runs.specs.declared.publishing.Finding.TheVariants as finding

-- of a call that read a journal, by how the journal ends
abbrev pub ending_after : Tail → Ending
ending_after journal.Whole = Done
ending_after journal.Torn = Torn

-- of an audit: done for a log that is certified, and for no other
abbrev pub ending_by_verdict : Verdict → Ending
ending_by_verdict verdict.Certified = Done
ending_by_verdict (verdict.BadEntry line) = NotCertified
ending_by_verdict (verdict.Over school) = NotCertified

-- of an audit of a log and a report: done where both are certified, and nowhere else
abbrev pub ending_of_finding : Finding → Ending
ending_of_finding finding.Certified = Done
ending_of_finding (finding.BadEntry line) = NotCertified
ending_of_finding (finding.Over school) = NotCertified
ending_of_finding (finding.ReportDiffers line) = NotCertified

-- of a check
abbrev pub ending_of_check : Checked → Ending
ending_of_check files.Clean = Done
ending_of_check files.Faulty = Faulty

-- of an explanation: as its journal ends, or for want of the student
abbrev pub ending_of_explanation : Explained → Ending
ending_of_explanation (explained.Written tail) = ending_after tail
ending_of_explanation (explained.UnknownStudent student) = UnknownStudent student

-- of a listing of the schools: as its journal ends, or for want of the school
abbrev pub ending_of_listing : Listed → Ending
ending_of_listing (listed.Written tail) = ending_after tail
ending_of_listing (listed.UnknownSchool school) = UnknownSchool school

-- of telling whose place changed: as its journal ends, or for want of the line
abbrev pub ending_of_change : Changed → Ending
ending_of_change (changed.Written tail) = ending_after tail
ending_of_change (changed.NoLine line) = NoLine line

-- the status of a run that ended early: 3 for a fault of what was read, 4 for a stream, 5 for want of memory
abbrev pub status_of_fault : RunFault → ℕ
status_of_fault (Read source) = 4
status_of_fault (Intake fault) = 3
status_of_fault (Journal fault) = 3
status_of_fault WriteOut = 4
status_of_fault WriteJournal = 4
status_of_fault OutOfMemory = 5

-- of an ending: 0 for done and for a torn journal, 1 for not certified, 2 for a bad seed, student, school, number of lines or table and for a table
-- beside a log, 3 for a bad bundle, for files that were found faulty, for a student or a school that is not in the papers and for a line that the
-- journal has not, 4 for a file of papers that was not written
abbrev pub status_of : Ending → ℕ
status_of Done = 0
status_of NotCertified = 1
status_of Faulty = 3
status_of Torn = 0
status_of (BadSeed error) = 2
status_of BadBundle = 3
status_of BadStudent = 2
status_of BadTable = 2
status_of TableBesideLog = 2
status_of (UnknownStudent student) = 3
status_of BadSchool = 2
status_of (UnknownSchool school) = 3
status_of BadSince = 2
status_of (NoLine line) = 3
status_of (AlreadyThere file) = 4
status_of (Unwritten file) = 4
status_of (Fault fault) = status_of_fault fault
