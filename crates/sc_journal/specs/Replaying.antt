-- How a journal is replayed, a line at a time. Public contracts do not cite it.
use Rattle.std.specs.Prelude.{◌≡◌, ◌⊎◌, ℕ, ◌+◌, ◌<◌, ◌≤◌, List, ◌∷◌, ◌++◌, drop, length, slice_range, Option, None, Some}
use Rattle.sc_papers.specs.Market.{Market}
use Rattle.sc_papers.specs.Verdict.{verdict}
use Rattle.sc_papers.specs.declared.amendment.Amendment.{Amendment}
use Rattle.sc_stamps.specs.Verdict.{StampedPapers, stamped_after}
use Rattle.sc_repair.specs.{Stamped.{StampedStanding, stamped_papers}, Standing.{CountsRegion, IsCertified}}
use Rattle.sc_journal.specs.Journal.{IsCause, IsReplayed, IsUnbroken}
use Rattle.sc_lines.specs.Spelling.{IsLineOf}
use Rattle.sc_journal.specs.declared.fault.JournalCause.{JournalCause}
use Rattle.sc_journal.specs.declared.fault.JournalCause.TheVariants.{Shape, Number, JournalFull, Refused, OutOfMemory}
use Rattle.sc_journal.specs.declared.journal.LastLine.{LastLine}

-- the line that begins at an index ends at the next newline
pub record IsLineEnd (bytes : List ℕ) (start end : ℕ) : Type 0 where
  pub least : start ≤ end
  pub inside : end < length bytes
  pub unbroken : IsUnbroken (slice_range bytes start end)
  pub cut : drop start bytes ≡ slice_range bytes start end ++ 10 ∷ drop (end + 1) bytes

-- the line of this number is taken
pub record IsTaken (before now : StampedPapers) (number : ℕ) (text : List ℕ) : Type 0 where
  pub amendment : Amendment
  pub spelled : IsLineOf text number amendment
  pub accepted : verdict before.papers amendment ≡ None
  pub papers : now ≡ stamped_after before amendment

-- a line's cause, or in its place want of memory
abbrev pub IsCauseOrMemory : Market → ℕ → List ℕ → JournalCause → Type 0
IsCauseOrMemory m number text cause = (cause ≡ OutOfMemory) ⊎ IsCause m number text cause

-- why a line's amendment is not read under this number, in whatever papers
abbrev pub IsReadCause : ℕ → List ℕ → JournalCause → Type 0
IsReadCause number text cause = (m : Market) → IsCauseOrMemory m number text cause

-- the line that is named with a cause: want of memory is of no line
abbrev pub line_of : ℕ → JournalCause → ℕ
line_of line Shape = line
line_of line Number = line
line_of line JournalFull = line
line_of line (Refused refusal) = line
line_of line OutOfMemory = 0

-- the whole lines before an index are taken, and no whole line follows it
pub record IsEnd (before now : StampedPapers) (bytes : List ℕ) (end : ℕ) : Type 0 where
  pub inside : end ≤ length bytes
  pub replayed : IsReplayed before now bytes (drop end bytes)
  pub unbroken : IsUnbroken (drop end bytes)

-- where a replay stands: the whole lines before an index are taken, so many of them, and as many amendments are counted
pub record IsGoing (before now : StampedPapers) (bytes : List ℕ) (start number : ℕ) : Type 0 where
  pub inside : start ≤ length bytes
  pub replayed : IsReplayed before now bytes (drop start bytes)
  pub count : number ≡ length replayed.amendments
  pub accepted : now.stamps.accepted ≡ number

-- the lines before the last whole one are taken
pub record AreTakenBefore (before now : StampedPapers) (bytes : List ℕ) (last : LastLine) : Type 0 where
  pub taken : ℕ
  pub number : last.number ≡ taken + 1
  pub going : IsGoing before now bytes last.start taken
  pub line : IsLineEnd bytes last.start last.end
  pub unbroken : IsUnbroken (drop (last.end + 1) bytes)

-- the whole lines but the last are taken, if there is one
abbrev pub IsBeforeLast : StampedPapers → StampedPapers → List ℕ → Option LastLine → Type 0
IsBeforeLast before now bytes None = (now ≡ before) × IsUnbroken bytes
IsBeforeLast before now bytes (Some last) = AreTakenBefore before now bytes last

-- the line of this number is taken by a clearing of the papers, whose last settling is that of the line's amendment
pub record IsSettledLine (before : StampedPapers) (clearing : StampedStanding) (number : ℕ) (text : List ℕ) : Type 0 where
  pub taken : IsTaken before (stamped_papers clearing) number text
  pub certified : IsCertified clearing.standing
  pub proposals : CountsRegion before.papers taken.amendment clearing.standing
