-- Journals cut after their first lines, and what telling whose place changed did.
use Rattle.std.proofs.Common.{◌≡◌, sym, ◌∙◌, ap, subst, inl, inr, ℕ, ◌+◌, ◌<◌, ◌==◌, List, [], ◌∷◌, ◌++◌, append_assoc, length, get_or, take, drop, Option, Some, Result, Ok, Err, slice_get, arith, codes, All}
use Rattle.std.proofs.lemmas.List.{take-append-drop}
use Rattle.std.proofs.lemmas.Option.{slice_get-get_or}
use Rattle.sc_papers.specs.Market.{Market}
use Rattle.sc_papers.specs.Matching.{Matching}
use Rattle.sc_stamps.specs.Verdict.{StampedPapers}
use Rattle.sc_intake.specs.declared.fault.IntakeFault.{IntakeFault}
use Rattle.sc_journal.specs.Journal.{journal_text, IsFirstFault}
use Rattle.sc_journal.specs.declared.fault.JournalFault.{JournalFault}
use Rattle.sc_journal.specs.declared.journal.Tail.{Tail}
use Rattle.sc_tallies.proofs.Tallying.{take-one}
use Rattle.sc_reasons.specs.Entrants.{AreRising, Holds}
use Rattle.sc_reasons.specs.declared.entrants.Entrant.{Entrant}
use Rattle.sc_notices.proofs.RankLemmas.{counted-more}
use Rattle.sc_steps.specs.Inputs.{in_order, Texts, Turn, AreRead}
use Rattle.sc_steps.specs.Opening.{papers_in}
use Rattle.sc_steps.specs.declared.fault.RunFault.{RunFault}
use Rattle.sc_steps.specs.declared.fault.RunFault.TheVariants.{Read, Intake, Journal, WriteOut, WriteJournal, OutOfMemory}
use Rattle.sc_steps.proofs.Openings.{Keeps-refl}
use Rattle.sc_runs.specs.Changing.{whole_lines, AreFirstLines, ChangesFiles, IsChange, TellsChange}
use Rattle.sc_runs.specs.Pieces.{WritesInPieces}
use Rattle.sc_runs.specs.Standing.{IsStandingFault, Stands, WritesPiecesOfStanding}
use Rattle.sc_runs.specs.Steps.{ArePlacesAfter, IsChangeFrom}
use Rattle.sc_runs.specs.declared.changing.Changed.{Changed}
use Rattle.sc_runs.proofs.Calls.{papers_in-texts, AreTexts}

-- a text up to a newline begins with so many lines
pub first-lines : (text lines : List ℕ) (k count : ℕ) → k < length text → get_or text k 0 ≡ 10 → lines ≡ take (k + 1) text → 1 + whole_lines (take k text) ≡ count → AreFirstLines count text lines
first-lines text lines k count low newline lines_is counted =
    let here : slice_get text k ≡ Some 10 = slice_get-get_or text k 0 low ∙ ap Some newline in
    record {
      rest = drop (k + 1) text;
      cut = sym (take-append-drop (k + 1) text) ∙ ap (λ l. l ++ drop (k + 1) text) (sym lines_is);
      counted = ap whole_lines lines_is ∙ counted-more (λ byte. byte == 10) text k 10 here ∙ omega (arith, counted);
      whole = inr (take k text, lines_is ∙ take-one text k 10 here);
    }

-- the first fault of a journal's first lines is that of the journal
first_fault-more : (before : StampedPapers) (journal lines rest : List ℕ) (fault : JournalFault) → journal ≡ lines ++ rest → IsFirstFault before lines fault → IsFirstFault before journal fault
first_fault-more before journal lines rest fault cut first =
    let replayed = first.replayed in
    record {
      now = first.now;
      line = first.line;
      rest = first.rest ++ rest;
      replayed = record {
        amendments = replayed.amendments;
        ranges = replayed.ranges;
        count = replayed.count;
        text = cut ∙ ap (λ l. l ++ rest) replayed.text ∙ append_assoc (journal_text 1 replayed.amendments) (first.line ++ codes "\n" ++ first.rest) rest
            ∙ ap (λ l. journal_text 1 replayed.amendments ++ l) (append_assoc (first.line ++ codes "\n") first.rest rest);
        accepted = replayed.accepted;
        papers = replayed.papers;
      };
      unbroken = first.unbroken;
      number = first.number;
      cause = first.cause;
    }

-- where nothing stands after the first lines, nothing stands after all
pub fault-more : (reading : Result Market IntakeFault) (journal lines rest : List ℕ) (fault : RunFault) → journal ≡ lines ++ rest → IsStandingFault reading lines fault → IsStandingFault reading journal fault
fault-more reading journal lines rest (Intake fault) cut is = is
fault-more reading journal lines rest (Journal fault) cut (m, read, first) = (m, read, first_fault-more _ journal lines rest fault cut first)
fault-more reading journal lines rest OutOfMemory cut is = tt
fault-more reading journal lines rest _ cut is = absurd is

-- where nothing stands, nothing is written
pub told-fault : (Is : Market → List ℕ → Type 0) (reading : Result Market IntakeFault) (journal : List ℕ) (bytes : Option (List ℕ)) (fault : RunFault) → IsStandingFault reading journal fault
    → WritesPiecesOfStanding Is reading journal bytes bytes (Err fault)
told-fault Is reading journal bytes (Intake fault) is = (is, Keeps-refl bytes)
told-fault Is reading journal bytes (Journal fault) is = (is, Keeps-refl bytes)
told-fault Is reading journal bytes OutOfMemory is = inl (Keeps-refl bytes)
told-fault Is reading journal bytes _ is = absurd is

-- what was written of one kind was written of another that it is
written-so : (Is Was : Market → List ℕ → Type 0) (reading : Result Market IntakeFault) (journal : List ℕ) (old new : Option (List ℕ)) → ((now : Market) (text : List ℕ) → Is now text → Was now text)
    → (result : Result Tail RunFault) → WritesPiecesOfStanding Is reading journal old new result → WritesPiecesOfStanding Was reading journal old new result
written-so Is Was reading journal old new so (Ok tail) (now, stands, (text, is, appends)) = (now, stands, (text, so now text is, appends))
written-so Is Was reading journal old new so (Err WriteOut) (now, tail, stands, (text, is, appends)) = (now, tail, stands, (text, so now text is, appends))
written-so Is Was reading journal old new so (Err OutOfMemory) (inl kept) = inl kept
written-so Is Was reading journal old new so (Err OutOfMemory) (inr (now, tail, stands, (text, is, appends))) = inr (now, tail, stands, (text, so now text is, appends))
written-so Is Was reading journal old new so (Err (Intake fault)) wrote = wrote
written-so Is Was reading journal old new so (Err (Journal fault)) wrote = wrote
written-so Is Was reading journal old new so (Err _) wrote = absurd wrote

-- how the journal ends, where all was written
abbrev pub with_tail : Tail → Result (Unit {0}) RunFault → Result Tail RunFault
with_tail tail (Ok done) = Ok tail
with_tail tail (Err fault) = Err fault

-- papers stand, and a text of them was written in pieces
pub told-standing : (Is : Market → List ℕ → Type 0) (reading : Result Market IntakeFault) (journal : List ℕ) (now : Market) (tail : Tail) (text : List ℕ) (old new : Option (List ℕ)) → Stands reading journal now tail → Is now text
    → (result : Result (Unit {0}) RunFault) → WritesInPieces text old new result → WritesPiecesOfStanding Is reading journal old new (with_tail tail result)
told-standing Is reading journal now tail text old new stands is (Ok done) wrote = (now, stands, (text, is, wrote))
told-standing Is reading journal now tail text old new stands is (Err WriteOut) wrote = (now, tail, stands, (text, is, wrote))
told-standing Is reading journal now tail text old new stands is (Err OutOfMemory) wrote = inr (now, tail, stands, (text, is, wrote))
told-standing Is reading journal now tail text old new stands is (Err _) wrote = absurd wrote

-- what changed from the places after the first lines is what changed since
pub told-change : (since : ℕ) (reading : Result Market IntakeFault) (journal lines : List ℕ) (places : List Entrant) (old new : Option (List ℕ)) → AreFirstLines since journal lines → ArePlacesAfter reading lines places
    → (result : Result Tail RunFault) → ((m : Market) (a : Matching) → AreRising m places → All (Holds a) places → WritesPiecesOfStanding (IsChangeFrom m a) reading journal old new result)
    → WritesPiecesOfStanding (IsChange since reading journal) reading journal old new result
told-change since reading journal lines places old new first are result wrote = written-so (IsChangeFrom are.papers are.matching) (IsChange since reading journal) reading journal old new
    (λ now text (later, optimal, told). record {
      lines = lines;
      first = first;
      before = are.papers;
      ending = are.ending;
      stands = are.stands;
      earlier = are.matching;
      later = later;
      earlier_optimal = are.optimal;
      later_optimal = optimal;
      told = told;
    }) result (wrote are.papers are.matching are.students are.held)

-- the files and the journal were read, and whose place changed was told
pub ChangesFiles-read : (since : ℕ) (seed : List ℕ) (turns : List Turn) (texts : Texts) (journal schools roster lists given : List ℕ) (old new : Option (List ℕ)) (result : Result Changed RunFault)
    → AreRead turns (in_order texts ++ journal ∷ []) → AreTexts texts schools roster lists → given ≡ journal
    → TellsChange since (papers_in seed schools roster lists) given old new result → ChangesFiles since seed turns old new result
ChangesFiles-read since seed turns texts journal schools roster lists given old new result read same is told = inr (
  texts,
  journal,
  read,
  subst (λ reading. TellsChange since reading journal old new result) (papers_in-texts seed texts schools roster lists same)
      (subst (λ text. TellsChange since (papers_in seed schools roster lists) text old new result) is told),
)
