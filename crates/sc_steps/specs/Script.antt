-- What a script comes to: the papers and the stamps after it, and the writes that answer its records.
use Rattle.std.specs.Prelude.{ℕ, ◌+◌, List, [], ◌∷◌, ◌++◌, codes, Option, None, Some, Result, Ok, Err}
use Rattle.sc_papers.specs.declared.amendment.Amendment.{Amendment}
use Rattle.sc_papers.specs.declared.amendment.Refusal.{Refusal}
use Rattle.sc_papers.specs.declared.amendment.Stamped.{Stamped}
use Rattle.sc_stamps.specs.Verdict.{StampedPapers, after_stamped_verdict, stamped_verdict}
use Rattle.sc_lines.specs.Line.{line_text}
use Rattle.sc_report.specs.Reply.{reply_text}
use Rattle.sc_steps.specs.TwoWriters.{Contents, Piece, to_journal, to_output, GrowsByAll, GrowsByPrefix}
use Rattle.sc_steps.specs.declared.fault.RunFault.{RunFault}
use Rattle.sc_steps.specs.declared.fault.RunFault.TheVariants.{Read, Intake, Journal, WriteOut, WriteJournal, OutOfMemory}

-- the papers and the stamps after a record of a script: one that is no amendment changes nothing
abbrev pub after_record : StampedPapers → Result Stamped Refusal → StampedPapers
after_record p (Ok stamped) = after_stamped_verdict p stamped.amendment (stamped_verdict p stamped)
after_record p (Err refusal) = p

-- the papers and the stamps after a script's records in turn
abbrev pub after_script : StampedPapers → List (Result Stamped Refusal) → StampedPapers
after_script p [] = p
after_script p (entry ∷ rest) = after_script (after_record p entry) rest

-- the line of an amendment that is accepted next: it has the number that is then its record's stamp
abbrev pub next_line : StampedPapers → Amendment → List ℕ
next_line p amendment = line_text (p.stamps.accepted + 1) amendment ++ codes "\n"

-- the writes that answer an amendment of this verdict, whose line is this text: where it is accepted the
-- line, and then the reply
abbrev pub answer_by_verdict : List ℕ → ℕ → Option Refusal → List Piece
answer_by_verdict line number None = to_journal line ∷ to_output (reply_text number (Ok tt)) ∷ []
answer_by_verdict line number (Some refusal) = to_output (reply_text number (Err refusal)) ∷ []

-- the writes that answer a record of this number
abbrev pub answer_to : ℕ → StampedPapers → Result Stamped Refusal → List Piece
answer_to number p (Ok stamped) = answer_by_verdict (next_line p stamped.amendment) number (stamped_verdict p stamped)
answer_to number p (Err refusal) = to_output (reply_text number (Err refusal)) ∷ []

-- the writes that answer a script's records in turn, the first of which has this number
abbrev pub answers : ℕ → StampedPapers → List (Result Stamped Refusal) → List Piece
answers number p [] = []
answers number p (entry ∷ rest) = answer_to number p entry ++ answers (number + 1) (after_record p entry) rest

-- these writes were made, all at `Ok`, and a prefix of them where making them ended early
abbrev pub Writes : {A : Type 0} → List Piece → Contents → Contents → Result A RunFault → Type 0
Writes pieces old new (Ok done) = GrowsByAll pieces old new
Writes pieces old new (Err WriteOut) = GrowsByPrefix pieces old new
Writes pieces old new (Err WriteJournal) = GrowsByPrefix pieces old new
Writes pieces old new (Err OutOfMemory) = GrowsByPrefix pieces old new
Writes pieces old new (Err (Read source)) = ⊥
Writes pieces old new (Err (Intake fault)) = ⊥
Writes pieces old new (Err (Journal fault)) = ⊥
