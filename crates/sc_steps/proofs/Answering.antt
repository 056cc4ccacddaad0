-- The answers to the records of a script, one after another, are the answers to all.
use Rattle.std.proofs.Common.{append_assoc, ◌≡◌, Bool, true, false, ◌||◌, ℕ, ◌+◌, List, [], ◌∷◌, ◌++◌, Option, None, Some, Result, Ok, Err, refl, sym, ◌∙◌, subst, ap}
use Rattle.std.proofs.lemmas.Bool.{true≢false}
use Rattle.std.specs.Prelude.{MatchOption}
use Rattle.std.specs.Result.{is_err, result_err}
use Rattle.sc_papers.specs.Verdict.{unless_refused}
use Rattle.sc_papers.specs.declared.amendment.Refusal.{Refusal}
use Rattle.sc_papers.specs.declared.amendment.Stamped.{Stamped}
use Rattle.sc_stamps.specs.Verdict.{StampedPapers, after_stamped_verdict, stamped_verdict}
use Rattle.sc_report.specs.Reply.{reply_text}
use Rattle.sc_report.specs.Watched.{device_of}
use Rattle.sc_report.specs.declared.watched.Watched.{Watched}
use Rattle.sc_steps.specs.Opening.{WritesText}
use Rattle.sc_steps.specs.Steps.{OutputGets, WritersGet}
use Rattle.sc_steps.specs.TwoWriters.{Contents, Piece, to_output, GrowsByAll, GrowsByPrefix}
use Rattle.sc_steps.specs.Script.{after_record, answer_to, answers, answer_by_verdict, next_line, Writes}
use Rattle.sc_steps.specs.declared.fault.RunFault.{RunFault}
use Rattle.sc_steps.specs.declared.fault.RunFault.TheVariants.{WriteOut, WriteJournal, OutOfMemory}
use Rattle.sc_steps.proofs.TwoWriters.{GrowsByAll-none, GrowsByAll-trans, GrowsByPrefix-after, GrowsByPrefix-longer, GrowsByPrefix-nothing, is_journal_fault-text, Writes-output, Writes-same}

-- what ended without a fault of a writer did not make it fail
pub or-nothing : (failed more : Bool) → more ≡ false → failed ≡ (failed || more)
or-nothing false more none = sym none
or-nothing true more none = refl

-- a reply that was written to the output is the answer to a record that has these writes, and the journal was not touched
pub WritersGet-reply : {J W : Type 0} (journal : J → Option (List ℕ)) (fails : J → Bool) (kept : J) (output : W → Option (List ℕ)) (old new : Watched W)
    (reply : List ℕ) (pieces : List Piece) (result : Result (Unit {0}) RunFault) → to_output reply ∷ [] ≡ pieces
    → OutputGets (WritesText (λ text. text ≡ reply)) output old new result → WritersGet (Writes pieces) journal fails kept kept output old new result
WritersGet-reply journal fails kept output old new reply pieces result same gets = record {
  bytes = Writes-same (to_output reply ∷ []) pieces (record { journal = journal kept; output = output (device_of old) })
      (record { journal = journal kept; output = output (device_of new) }) result same (Writes-output reply (journal kept) _ _ result gets.bytes);
  failed = gets.failed;
  journal_failed = or-nothing _ _ (is_journal_fault-text (λ text. text ≡ reply) _ _ result gets.bytes);
}

-- a refusal that is answered is the verdict
verdict-refused : (found : Option Refusal) (refusal : Refusal) → Err refusal ≡ unless_refused found → found ≡ Some refusal
verdict-refused None refusal is = absurd (true≢false (ap is_err is))
verdict-refused (Some first) refusal is = sym (ap result_err is)

-- its writes are its reply alone, and it changes nothing
pub answer_to-refused : (number : ℕ) (p : StampedPapers) (stamped : Stamped) (refusal : Refusal) → Err refusal ≡ unless_refused (stamped_verdict p stamped)
    → to_output (reply_text number (Err refusal)) ∷ [] ≡ answer_to number p (Ok stamped)
answer_to-refused number p stamped refusal is =
    sym (ap (answer_by_verdict (next_line p stamped.amendment) number) (verdict-refused (stamped_verdict p stamped) refusal is))

pub after_record-refused : (p : StampedPapers) (stamped : Stamped) (refusal : Refusal) → Err refusal ≡ unless_refused (stamped_verdict p stamped) → p ≡ after_record p (Ok stamped)
after_record-refused p stamped refusal is = sym (ap (after_stamped_verdict p stamped.amendment) (verdict-refused (stamped_verdict p stamped) refusal is))

-- what was written so far, and the answers to the records that are left, are the answers to all
pub record Answered (old now : Contents) (opening : StampedPapers) (all : List (Result Stamped Refusal)) (number : ℕ) (p : StampedPapers) (left : List (Result Stamped Refusal)) : Type 0 where
  pub written : List Piece
  pub wrote : GrowsByAll written old now
  pub rest : written ++ answers (number + 1) p left ≡ answers 1 opening all

pub answered-first : (old : Contents) (p : StampedPapers) (all : List (Result Stamped Refusal)) (number : ℕ) → number ≡ 0 → Answered old old p all number p all
answered-first old p all number first = record {
  written = [];
  wrote = GrowsByAll-none old;
  rest = ap (λ n. answers (n + 1) p all) first;
}

pub answered-next : (old now next : Contents) (opening : StampedPapers) (all : List (Result Stamped Refusal)) (number following : ℕ) (p later : StampedPapers) (entry : Result Stamped Refusal) (before left : List (Result Stamped Refusal))
    → Answered old now opening all number p before → before ≡ entry ∷ left → following ≡ number + 1 → later ≡ after_record p entry
    → GrowsByAll (answer_to (number + 1) p entry) now next
    → Answered old next opening all following later left
answered-next old now next opening all number following p later entry before left answered begins is_next is wrote = record {
  written = answered.written ++ answer_to (number + 1) p entry;
  wrote = GrowsByAll-trans answered.written (answer_to (number + 1) p entry) old now next answered.wrote wrote;
  rest = ap (λ n. (answered.written ++ answer_to (number + 1) p entry) ++ answers (n + 1) later left) is_next
      ∙ append_assoc answered.written (answer_to (number + 1) p entry) (answers (number + 1 + 1) later left)
      ∙ ap (λ q. answered.written ++ (answer_to (number + 1) p entry ++ answers (number + 1 + 1) q left)) is
      ∙ ap (λ records. answered.written ++ answers (number + 1) p records) (sym begins)
      ∙ answered.rest;
}

-- a prefix of the answers to the next record is one of the answers to all
answered-prefix : (old now next : Contents) (opening : StampedPapers) (all : List (Result Stamped Refusal)) (number : ℕ) (p : StampedPapers) (entry : Result Stamped Refusal) (left : List (Result Stamped Refusal))
    → Answered old now opening all number p (entry ∷ left) → GrowsByPrefix (answer_to (number + 1) p entry) now next → GrowsByPrefix (answers 1 opening all) old next
answered-prefix old now next opening all number p entry left answered prefix =
    subst (λ pieces. GrowsByPrefix pieces old next)
    (append_assoc answered.written (answer_to (number + 1) p entry) (answers (number + 1 + 1) (after_record p entry) left) ∙ answered.rest)
    (GrowsByPrefix-longer (answered.written ++ answer_to (number + 1) p entry) (answers (number + 1 + 1) (after_record p entry) left) old next
    (GrowsByPrefix-after answered.written (answer_to (number + 1) p entry) old now next answered.wrote prefix))

answered-ended : (old now next : Contents) (opening : StampedPapers) (all : List (Result Stamped Refusal)) (number : ℕ) (p : StampedPapers) (entry : Result Stamped Refusal) (left : List (Result Stamped Refusal)) (fault : RunFault)
    → Answered old now opening all number p (entry ∷ left) → Writes {A = Unit {0}} (answer_to (number + 1) p entry) now next (Err fault) → Writes {A = Unit {0}} (answers 1 opening all) old next (Err fault)
answered-ended old now next opening all number p entry left WriteJournal answered wrote = answered-prefix old now next opening all number p entry left answered wrote
answered-ended old now next opening all number p entry left WriteOut answered wrote = answered-prefix old now next opening all number p entry left answered wrote
answered-ended old now next opening all number p entry left OutOfMemory answered wrote = answered-prefix old now next opening all number p entry left answered wrote
answered-ended old now next opening all number p entry left _ answered wrote = absurd wrote

pub answered-failed : (old now next : Contents) (opening : StampedPapers) (all whole : List (Result Stamped Refusal)) (number : ℕ) (p : StampedPapers) (entry : Result Stamped Refusal) (before left : List (Result Stamped Refusal)) (fault : RunFault)
    → Answered old now opening all number p before → before ≡ entry ∷ left → all ≡ whole → Writes {A = Unit {0}} (answer_to (number + 1) p entry) now next (Err fault)
    → Writes {A = Unit {0}} (answers 1 opening whole) old next (Err fault)
answered-failed old now next opening all whole number p entry before left fault answered is same wrote =
    subst (λ records. Writes {A = Unit {0}} (answers 1 opening records) old next (Err fault)) same
    (answered-ended old now next opening all number p entry left fault (subst (Answered old now opening all number p) is answered) wrote)

-- a record that was taken is the first of those that were left
pub answered-taken : (found : Option (Result Stamped Refusal)) (entry : Result Stamped Refusal) (before left : List (Result Stamped Refusal))
    → found ≡ Some entry → MatchOption found (before ≡ []) (λ (e : Result Stamped Refusal). before ≡ e ∷ left) → before ≡ entry ∷ left
answered-taken None entry before left is taken = cc is
answered-taken (Some e) entry before left is taken = let same : e ≡ entry = cc in taken ∙ ap (λ (x : Result Stamped Refusal). x ∷ left) same

-- no more was written: what was is a prefix of the answers to all
pub answered-unread : (old now : Contents) (opening : StampedPapers) (all : List (Result Stamped Refusal)) (number : ℕ) (p : StampedPapers) (left : List (Result Stamped Refusal))
    → Answered old now opening all number p left → GrowsByPrefix (answers 1 opening all) old now
answered-unread old now opening all number p left answered =
    subst (λ pieces. GrowsByPrefix pieces old now) answered.rest
    (GrowsByPrefix-after answered.written (answers (number + 1) p left) old now now answered.wrote (GrowsByPrefix-nothing (answers (number + 1) p left) now))
