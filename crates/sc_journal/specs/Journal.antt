-- The journal's text, and what replaying it comes to. A line has no stamp, so no line is ever stale.
use Rattle.std.specs.Prelude.{◌≡◌, ◌≢◌, ◌⊎◌, ⊤, ℕ, ◌+◌, ◌<◌, ◌≤◌, List, [], ◌∷◌, ◌++◌, length, codes, None, Some}
use Rattle.std.specs.List.{All}
use Rattle.sc_papers.specs.Market.{Market}
use Rattle.sc_papers.specs.Verdict.{verdict}
use Rattle.sc_papers.specs.declared.amendment.Amendment.{Amendment}
use Rattle.sc_stamps.specs.Verdict.{StampedPapers, stamped_after}
use Rattle.sc_repair.specs.{Stamped.{StampedStanding, stamped_papers}, Standing.{Standing, CountsRegion, proposals_from_scratch}}
use Rattle.sc_lines.specs.Line.{line_text}
use Rattle.sc_lines.specs.Spelling.{IsInRanges, IsLineOf}
use Rattle.sc_journal.specs.declared.fault.JournalCause.{JournalCause}
use Rattle.sc_journal.specs.declared.fault.JournalCause.TheVariants.{Shape, Number, JournalFull, Refused, OutOfMemory}
use Rattle.sc_journal.specs.declared.fault.JournalFault.{JournalFault}
use Rattle.sc_journal.specs.declared.journal.Tail.{Tail}
use Rattle.sc_lines.specs.declared.line_no.TheConstants.LineNo.{GREATEST as greatest_line}
use Rattle.sc_journal.specs.declared.journal.Tail.TheVariants.{Whole, Torn}

-- the lines of amendments, each with its newline, the first of which has this number
abbrev pub journal_text : ℕ → List Amendment → List ℕ
journal_text first [] = []
journal_text first (amendment ∷ rest) = line_text first amendment ++ codes "\n" ++ journal_text (first + 1) rest

-- the papers and the stamps after amendments in turn
abbrev pub after_all : StampedPapers → List Amendment → StampedPapers
after_all p [] = p
after_all p (amendment ∷ rest) = after_all (stamped_after p amendment) rest

-- each amendment is accepted by the papers after those before it
abbrev pub AreAccepted : StampedPapers → List Amendment → Type 0
AreAccepted p [] = ⊤
AreAccepted p (amendment ∷ rest) = (verdict p.papers amendment ≡ None) × AreAccepted (stamped_after p amendment) rest

-- no newline stands in a text
abbrev pub IsUnbroken : List ℕ → Type 0
IsUnbroken text = All (λ byte. byte ≢ 10) text

-- the bytes begin with the journal of amendments that papers accept in turn, which makes them these other
-- papers with these stamps, and `rest` follows it
pub record IsReplayed (before now : StampedPapers) (bytes rest : List ℕ) : Type 0 where
  pub amendments : List Amendment
  pub ranges : All IsInRanges amendments
  pub count : length amendments ≤ greatest_line
  pub text : bytes ≡ journal_text 1 amendments ++ rest
  pub accepted : AreAccepted before amendments
  pub papers : now ≡ after_all before amendments

-- how a journal ends, by what follows its last newline
abbrev pub tail_of : List ℕ → Tail
tail_of [] = Whole
tail_of (byte ∷ rest) = Torn

-- the whole lines of the bytes are the journal of amendments that papers accept in turn, which makes them
-- these other papers with these stamps, and the tail says whether bytes follow the last newline
pub record IsReplay (before now : StampedPapers) (bytes : List ℕ) (tail : Tail) : Type 0 where
  pub rest : List ℕ
  pub replayed : IsReplayed before now bytes rest
  pub unbroken : IsUnbroken rest
  pub ending : tail ≡ tail_of rest

-- the last settling's proposals are those of the last of these amendments, or of the opening where there is none
abbrev pub CountsLast : StampedPapers → List Amendment → Standing → Type 0
CountsLast before [] standing = standing.proposals ≡ proposals_from_scratch standing
CountsLast before (amendment ∷ []) standing = CountsRegion before.papers amendment standing
CountsLast before (amendment ∷ next ∷ rest) standing = CountsLast (stamped_after before amendment) (next ∷ rest) standing

-- a clearing is as opening it and amending it by each whole line of the bytes leaves it
pub record LeavesClearing (before : StampedPapers) (clearing : StampedStanding) (bytes : List ℕ) (tail : Tail) : Type 0 where
  pub replay : IsReplay before (stamped_papers clearing) bytes tail
  pub proposals : CountsLast before replay.replayed.amendments clearing.standing

-- why the line of this number cannot be taken, in the papers before it. `Shape` is tested before the
-- number, and this before the amendment
abbrev pub IsCause : Market → ℕ → List ℕ → JournalCause → Type 0
IsCause m number text Shape = (n : ℕ) (amendment : Amendment) → IsLineOf text n amendment → ⊥
IsCause m number text Number = (number ≤ greatest_line) × ((n : ℕ) × (amendment : Amendment) × IsLineOf text n amendment × (n ≢ number))
IsCause m number text JournalFull = (greatest_line < number) × ((n : ℕ) × (amendment : Amendment) × IsLineOf text n amendment)
IsCause m number text (Refused refusal) = (amendment : Amendment) × IsLineOf text number amendment × (verdict m amendment ≡ Some refusal)
IsCause m number text OutOfMemory = ⊥

-- the lines before the faulty one are taken, and this one is not, for this cause
pub record IsFirstFault (before : StampedPapers) (bytes : List ℕ) (fault : JournalFault) : Type 0 where
  pub now : StampedPapers
  pub line : List ℕ
  pub rest : List ℕ
  pub replayed : IsReplayed before now bytes (line ++ codes "\n" ++ rest)
  pub unbroken : IsUnbroken line
  pub number : fault.line ≡ length replayed.amendments + 1
  pub cause : IsCause now.papers fault.line line fault.cause

-- want of memory, which is of no line
abbrev pub no_memory : JournalFault
no_memory = record { line = 0; cause = OutOfMemory }

-- a replay's fault: the first, or in its place want of memory
abbrev pub IsReplayFault : StampedPapers → List ℕ → JournalFault → Type 0
IsReplayFault before bytes fault = (fault ≡ no_memory) ⊎ IsFirstFault before bytes fault
