-- What a call does that tells of one student or school, or of all, where bytes are known.
use Rattle.std.specs.Prelude.{◌≡◌, ◌⊎◌, ℕ, Bool, true, false, List, Option, None, Some, Result, Ok, Err, IsErrAnd}
use Rattle.std.specs.Io.KnownBytes.{Appends, Keeps}
use Rattle.sc_papers.specs.Market.{Market}
use Rattle.sc_papers.specs.Matching.{Matching, IsStudentOptimal}
use Rattle.sc_intake.specs.declared.fault.IntakeFault.{IntakeFault}
use Rattle.sc_journal.specs.declared.journal.Tail.{Tail}
use Rattle.sc_report.specs.Whole.{AppendsPrefix}
use Rattle.sc_steps.specs.declared.fault.RunFault.{RunFault}
use Rattle.sc_steps.specs.declared.fault.RunFault.TheVariants.{WriteOut, OutOfMemory}
use Rattle.sc_runs.specs.Standing.{IsStandingFault, Stands}
use Rattle.sc_runs.specs.declared.notices.Told.{Told}
use Rattle.sc_runs.specs.declared.notices.Told.TheVariants.{Written, Unknown}

-- a notice: who is in papers, and what is told of all, and of one
pub record Notice (S : Type 0) : Type 0 where
  pub has : Market → S → Bool
  pub of_all : Market → Matching → List ℕ
  pub of_one : Market → Matching → S → List ℕ

-- whether the one who is asked for is in the papers; nobody alone is asked for where there is none
abbrev pub is_known : {S : Type 0} → Notice S → Option S → Market → Bool
is_known notice None m = true
is_known notice (Some subject) m = notice.has m subject

-- what is told of the one who is asked for, or of all
abbrev pub notice_text : {S : Type 0} → Notice S → Option S → Market → Matching → List ℕ
notice_text notice None m a = notice.of_all m a
notice_text notice (Some subject) m a = notice.of_one m a subject

-- a notice is written of papers under a matching, where their journal ends so, or a prefix of it where the writer failed;
-- where the one who is asked for is not in the papers, that is answered and nothing is written; and at want of memory nothing
-- is, or a prefix
abbrev pub WritesNotice : {S : Type 0} → Notice S → Option S → Market → Matching → Tail → Option (List ℕ) → Option (List ℕ) → Result (Told S) RunFault → Type 0
WritesNotice notice asked m a tail old new (Ok (Written ending)) = (ending ≡ tail) × (is_known notice asked m ≡ true) × Appends old new (notice_text notice asked m a)
WritesNotice notice asked m a tail old new (Ok (Unknown subject)) = (asked ≡ Some subject) × (notice.has m subject ≡ false) × Keeps old new
WritesNotice notice asked m a tail old new (Err WriteOut) = (is_known notice asked m ≡ true) × AppendsPrefix old new (notice_text notice asked m a)
WritesNotice notice asked m a tail old new (Err OutOfMemory) = Keeps old new ⊎ ((is_known notice asked m ≡ true) × AppendsPrefix old new (notice_text notice asked m a))
WritesNotice notice asked m a tail old new (Err _) = ⊥

-- nothing stands after the journal over the papers that were read, and nothing is written; or a notice is written of the
-- papers that stand, under their student-optimal stable matching
abbrev pub TellsStanding : {S : Type 0} → Notice S → Option S → Result Market IntakeFault → List ℕ → Option (List ℕ) → Option (List ℕ) → Result (Told S) RunFault → Type 0
TellsStanding notice asked reading journal old new result = (IsErrAnd result (IsStandingFault reading journal) × Keeps old new)
    ⊎ ((now : Market) × (tail : Tail) × (a : Matching) × Stands reading journal now tail × IsStudentOptimal now a × WritesNotice notice asked now a tail old new result)
