-- What the lines, the reply lines and the report come to together.
use Rattle.std.proofs.Common.{append-nil, ◌≡◌, ℕ, ◌+◌, List, [], ◌∷◌, ◌++◌, Option, None, Some, Result, Ok, Err, refl, ◌∙◌, subst, ap, inr}
use Rattle.std.specs.Io.KnownBytes.{Appends}
use Rattle.sc_papers.specs.Market.{Market}
use Rattle.sc_papers.specs.Verdict.{unless_refused}
use Rattle.sc_papers.specs.WellFormed.{WellFormed}
use Rattle.sc_papers.specs.declared.amendment.Amendment.{Amendment}
use Rattle.sc_papers.specs.declared.amendment.Refusal.{Refusal}
use Rattle.sc_papers.specs.declared.amendment.Stamped.{Stamped}
use Rattle.sc_stamps.specs.Verdict.{StampedPapers, after_stamped_verdict, stamped_after, stamped_verdict, unamended}
use Rattle.sc_intake.specs.declared.fault.IntakeFault.{IntakeFault}
use Rattle.sc_journal.specs.Journal.{journal_text}
use Rattle.sc_journal.proofs.Stamping.{accepted-after}
use Rattle.sc_report.specs.Reply.{reply_text}
use Rattle.sc_steps.specs.Opening.{IsReport}
use Rattle.sc_steps.specs.TwoWriters.{Contents, Piece, journal_of, output_of, to_output, GrowsByAll}
use Rattle.sc_steps.specs.Script.{after_record, after_script, answer_to, answers, answer_by_verdict, next_line, Writes}
use Rattle.sc_steps.specs.declared.fault.RunFault.{RunFault}
use Rattle.sc_steps.specs.declared.fault.RunFault.TheVariants.{Read, Intake, Journal, WriteOut, WriteJournal, OutOfMemory}
use Rattle.sc_steps.proofs.TwoWriters.{GrowsByAll-trans, GrowsByPrefix-after, GrowsByPrefix-longer, journal_of-append, output_of-append}
use Rattle.sc_runs.specs.Steps.{WritesLastReport, WritesSession}
use Rattle.sc_runs.specs.Run.{accepted, accepted_in, opened_in, replies, reply_to, unless_verdict, WritesRun}
use Rattle.sc_runs.proofs.LastReport.{IsReport-some, WellFormed-after_script}

-- what the answer to a record gives to the output is its reply line
output_of-verdict : (line : List ℕ) (number : ℕ) (found : Option Refusal) → output_of (answer_by_verdict line number found) ≡ reply_text number (unless_refused found)
output_of-verdict line number None = append-nil (reply_text number (Ok tt))
output_of-verdict line number (Some refusal) = append-nil (reply_text number (Err refusal))

output_of-answer : (number : ℕ) (p : StampedPapers) (entry : Result Stamped Refusal) → output_of (answer_to number p entry) ≡ reply_text number (reply_to p entry)
output_of-answer number p (Ok stamped) = output_of-verdict (next_line p stamped.amendment) number (stamped_verdict p stamped)
output_of-answer number p (Err refusal) = append-nil (reply_text number (Err refusal))

-- what the answers give to the output is the reply lines
pub output_of-answers : (number : ℕ) (p : StampedPapers) (script : List (Result Stamped Refusal)) → output_of (answers number p script) ≡ replies number p script
output_of-answers number p [] = refl
output_of-answers number p (entry ∷ rest) =
    output_of-append (answer_to number p entry) (answers (number + 1) (after_record p entry) rest)
    ∙ ap (λ text. text ++ output_of (answers (number + 1) (after_record p entry) rest)) (output_of-answer number p entry)
    ∙ ap (λ text. reply_text number (reply_to p entry) ++ text) (output_of-answers (number + 1) (after_record p entry) rest)

-- what the answer to an amendment gives to the journal, before other lines, is its line where it is accepted
journal_of-verdict : (number : ℕ) (p : StampedPapers) (amendment : Amendment) (found : Option Refusal) (rest : List Amendment)
    → journal_of (answer_by_verdict (next_line p amendment) number found) ++ journal_text ((after_stamped_verdict p amendment found).stamps.accepted + 1) rest
    ≡ journal_text (p.stamps.accepted + 1) (unless_verdict amendment found ++ rest)
journal_of-verdict number p amendment None rest =
    ap (λ text. text ++ journal_text ((stamped_after p amendment).stamps.accepted + 1) rest) (append-nil (next_line p amendment))
    ∙ ap (λ n. next_line p amendment ++ journal_text (n + 1) rest) (accepted-after p amendment)
journal_of-verdict number p amendment (Some refusal) rest = refl

journal_of-answer : (number : ℕ) (p : StampedPapers) (entry : Result Stamped Refusal) (rest : List Amendment)
    → journal_of (answer_to number p entry) ++ journal_text ((after_record p entry).stamps.accepted + 1) rest ≡ journal_text (p.stamps.accepted + 1) (accepted_in p entry ++ rest)
journal_of-answer number p (Ok stamped) rest = journal_of-verdict number p stamped.amendment (stamped_verdict p stamped) rest
journal_of-answer number p (Err refusal) rest = refl

-- what the answers give to the journal is the lines of the accepted amendments
pub journal_of-answers : (number : ℕ) (p : StampedPapers) (script : List (Result Stamped Refusal)) → journal_of (answers number p script) ≡ journal_text (p.stamps.accepted + 1) (accepted p script)
journal_of-answers number p [] = refl
journal_of-answers number p (entry ∷ rest) =
    journal_of-append (answer_to number p entry) (answers (number + 1) (after_record p entry) rest)
    ∙ ap (λ text. journal_of (answer_to number p entry) ++ text) (journal_of-answers (number + 1) (after_record p entry) rest)
    ∙ journal_of-answer number p entry (accepted (after_record p entry) rest)

-- all of some writes, and then others, whole or in part
pub Writes-then : (xs ys : List Piece) (a b c : Contents) (result : Result (Unit {0}) RunFault) → GrowsByAll xs a b → Writes ys b c result → Writes (xs ++ ys) a c result
Writes-then xs ys a b c (Ok done) first wrote = GrowsByAll-trans xs ys a b c first wrote
Writes-then xs ys a b c (Err WriteOut) first wrote = GrowsByPrefix-after xs ys a b c first wrote
Writes-then xs ys a b c (Err WriteJournal) first wrote = GrowsByPrefix-after xs ys a b c first wrote
Writes-then xs ys a b c (Err OutOfMemory) first wrote = GrowsByPrefix-after xs ys a b c first wrote
Writes-then xs ys a b c (Err (Journal fault)) first wrote = absurd wrote
Writes-then xs ys a b c (Err (Read source)) first wrote = absurd wrote
Writes-then xs ys a b c (Err (Intake fault)) first wrote = absurd wrote

-- some writes that ended early, which others were to follow
Writes-cut : (xs ys : List Piece) (a b : Contents) (fault : RunFault) → Writes {A = Unit {0}} xs a b (Err fault) → Writes {A = Unit {0}} (xs ++ ys) a b (Err fault)
Writes-cut xs ys a b WriteOut wrote = GrowsByPrefix-longer xs ys a b wrote
Writes-cut xs ys a b WriteJournal wrote = GrowsByPrefix-longer xs ys a b wrote
Writes-cut xs ys a b OutOfMemory wrote = GrowsByPrefix-longer xs ys a b wrote
Writes-cut xs ys a b (Journal fault) wrote = absurd wrote
Writes-cut xs ys a b (Read source) wrote = absurd wrote
Writes-cut xs ys a b (Intake fault) wrote = absurd wrote

-- all answers were written, and then the report of the papers as they stand, whole or in part
pub WritesSession-answered : (p later : StampedPapers) (script : List (Result Stamped Refusal)) (old mid new : Contents) (result : Result (Unit {0}) RunFault)
    → later ≡ after_script p script → GrowsByAll (answers 1 p script) old mid → WritesLastReport later.papers mid new result → WritesSession p script old new result
WritesSession-answered p later script old mid new result is answered (report, of, wrote) = (
  report,
  subst (λ q. IsReport q.papers report) is of,
  Writes-then (answers 1 p script) (to_output report ∷ []) old mid new result answered wrote,
)

-- the answers were written in part
pub WritesSession-ended : (p : StampedPapers) (script : List (Result Stamped Refusal)) (old new : Contents) (fault : RunFault)
    → WellFormed p.papers → Writes {A = Unit {0}} (answers 1 p script) old new (Err fault) → WritesSession p script old new (Err fault)
WritesSession-ended p script old new fault well wrote =
    let (report, is) = IsReport-some (after_script p script).papers (WellFormed-after_script p script well) in
    (report, is, Writes-cut (answers 1 p script) (to_output report ∷ []) old new fault wrote)

-- the answers and the report were written to the texts of a run, whole or in part
WritesRun-written : (scripted : Result (List (Result Stamped Refusal)) IntakeFault) (m : Market) (script : List (Result Stamped Refusal)) (old new : Contents) (result : Result (Unit {0}) RunFault)
    → scripted ≡ Ok script → WritesSession (unamended m) script old new result → WritesRun (opened_in (Ok m) scripted) old new result
WritesRun-written scripted m script old new (Ok done) read (report, is, wrote) = (
  record { papers = m; script = script },
  ap (opened_in (Ok m)) read,
  (
    report,
    is,
    (
      subst (Appends old.journal new.journal)
          (journal_of-append (answers 1 (unamended m) script) (to_output report ∷ []) ∙ append-nil (journal_of (answers 1 (unamended m) script)) ∙ journal_of-answers 1 (unamended m) script)
          wrote.0,
      subst (Appends old.output new.output)
          (output_of-append (answers 1 (unamended m) script) (to_output report ∷ [])
          ∙ ap (λ text. output_of (answers 1 (unamended m) script) ++ text) (append-nil report)
          ∙ ap (λ text. text ++ report) (output_of-answers 1 (unamended m) script))
          wrote.1,
    ),
  ),
)
WritesRun-written scripted m script old new (Err WriteOut) read wrote = (record { papers = m; script = script }, ap (opened_in (Ok m)) read, wrote)
WritesRun-written scripted m script old new (Err WriteJournal) read wrote = (record { papers = m; script = script }, ap (opened_in (Ok m)) read, wrote)
WritesRun-written scripted m script old new (Err OutOfMemory) read wrote = inr (record { papers = m; script = script }, ap (opened_in (Ok m)) read, wrote)
WritesRun-written scripted m script old new (Err _) read (report, is, wrote) = absurd wrote

-- the same by papers that are those of an opening
pub WritesRun-session : (scripted : Result (List (Result Stamped Refusal)) IntakeFault) (m : Market) (p : StampedPapers) (script : List (Result Stamped Refusal)) (old new : Contents) (result : Result (Unit {0}) RunFault)
    → scripted ≡ Ok script → p ≡ unamended m → WritesSession p script old new result → WritesRun (opened_in (Ok m) scripted) old new result
WritesRun-session scripted m p script old new result read is wrote =
    WritesRun-written scripted m script old new result read (subst (λ q. WritesSession q script old new result) is wrote)
