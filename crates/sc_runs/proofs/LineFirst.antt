-- No reply to a record stands whole in the output before its line does in the journal.
use Rattle.std.proofs.Common.{append_assoc, append-nil, arith, ◌≡◌, ◌⊎◌, ℕ, zero, suc, ◌+◌, ◌≤◌, inl, inr, List, [], ◌∷◌, ◌++◌, Option, None, Some, Result, Ok, Err, length, take, drop, refl, sym, ◌∙◌, subst, ap}
use Rattle.std.proofs.Math.Seq.{take-append_seam}
use Rattle.std.proofs.lemmas.List.{append_cancel_left, length-append, nil_from_length, take-append-drop}
use Rattle.std.specs.Fmt.{decimal}
use Rattle.std.specs.Io.{StartsWith}
use Rattle.std.specs.Prelude.{codes}
use Rattle.sc_papers.specs.Market.{Market}
use Rattle.sc_papers.specs.declared.amendment.Amendment.{Amendment}
use Rattle.sc_papers.specs.declared.amendment.Refusal.{Refusal}
use Rattle.sc_papers.specs.declared.amendment.Stamped.{Stamped}
use Rattle.sc_papers.specs.Verdict.{unless_refused}
use Rattle.sc_stamps.specs.Verdict.{StampedPapers, after_stamped_verdict, stamped_verdict, unamended}
use Rattle.sc_intake.specs.declared.fault.IntakeFault.{IntakeFault}
use Rattle.sc_journal.specs.Journal.{journal_text}
use Rattle.sc_report.specs.Reply.{refusal_text, reply_text}
use Rattle.sc_steps.specs.Script.{after_record, answers, answer_by_verdict, next_line}
use Rattle.sc_steps.specs.TwoWriters.{Piece, journal_of, output_of, to_journal, to_output, IsPrefix}
use Rattle.sc_steps.specs.declared.fault.RunFault.{RunFault}
use Rattle.sc_steps.specs.declared.fault.RunFault.TheVariants.{Read, Intake, Journal, WriteOut, WriteJournal, OutOfMemory}
use Rattle.sc_steps.proofs.TwoWriters.{journal_of-append, output_of-append, IsPrefix-all}
use Rattle.sc_runs.specs.Run.{accepted, replies, reply_to, Opened, WritesAll, WritesPrefix, WritesRun}
use Rattle.sc_runs.proofs.Replies.{journal_of-answers, output_of-answers}

-- of two texts that come to nothing, each is nothing
none-first : (xs ys : List ℕ) → xs ++ ys ≡ [] → xs ≡ []
none-first [] ys none = refl
none-first (x ∷ xs) ys none = cc

some-last : (xs ys : List ℕ) → 1 ≤ length ys → 1 ≤ length (xs ++ ys)
some-last xs ys some = let both = length-append xs ys in omega arith

-- a reply line is not empty
length-reply : (number : ℕ) (reply : Result (Unit {0}) Refusal) → 1 ≤ length (reply_text number reply)
length-reply number (Ok done) = some-last (decimal number) (codes ",ok\n") (omega arith)
length-reply number (Err r) = some-last (decimal number ++ codes ",refused," ++ refusal_text r) (codes "\n") (omega arith)

length-none : (xs : List ℕ) → xs ≡ [] → length xs ≡ 0
length-none xs none = ap (λ (ys : List ℕ). length ys) none

none-and-some : (n : ℕ) → 1 ≤ n → n ≡ 0 → ⊥
none-and-some n some none = omega arith

-- where no reply stands there is no record
replies-none : (number : ℕ) (p : StampedPapers) (script : List (Result Stamped Refusal)) → replies number p script ≡ [] → script ≡ []
replies-none number p [] none = refl
replies-none number p (entry ∷ rest) none =
    let some = length-reply number (reply_to p entry) in
    let nothing = length-none (reply_text number (reply_to p entry)) (none-first (reply_text number (reply_to p entry)) (replies (number + 1) (after_record p entry) rest) none) in
    absurd (none-and-some (length (reply_text number (reply_to p entry))) some nothing)

-- a part of a text is no longer than it
take-shorter : (count : ℕ) (xs : List ℕ) → length (take count xs) ≤ length xs
take-shorter zero xs = omega arith
take-shorter (suc count) [] = omega arith
take-shorter (suc count) (x ∷ xs) = let shorter = take-shorter count xs in omega arith

take-none : (count : ℕ) (text : List ℕ) → text ≡ take count [] → length text ≡ 0
take-none zero text is = length-none text is
take-none (suc count) text is = length-none text is

-- a text of which a part holds more than it: there is no more
take-more : (count : ℕ) (xs more : List ℕ) → take count xs ≡ xs ++ more → more ≡ []
take-more count xs more is =
    let shorter = take-shorter count xs in
    let same : length (take count xs) ≡ length (xs ++ more) = ap (λ (ys : List ℕ). length ys) is in
    let both = length-append xs more in
    nil_from_length more (omega arith)

-- what a prefix of a reply and of later writes gives, which begins with the reply and with these other texts: the first write alone,
-- and then there are no others, or the reply and a prefix of the later writes
after-reply : (reply replied more j o : List ℕ) (later : List Piece) → IsPrefix (to_output reply ∷ later) j o → o ≡ (reply ++ replied) ++ more
    → (replied ≡ []) ⊎ ((o' : List ℕ) × (o' ≡ replied ++ more) × IsPrefix later j o')
after-reply reply replied more j o later (inl (count, given, journal, output)) begins =
    inl (none-first replied more (take-more given reply (replied ++ more) (sym output ∙ begins ∙ append_assoc reply replied more)))
after-reply reply replied more j o later (inr (j', o', journal, output, rest)) begins =
    inr (
      o',
      append_cancel_left reply o' (replied ++ more) (sym output ∙ begins ∙ append_assoc reply replied more),
      subst (λ text. IsPrefix later text o') (sym journal) rest,
    )

-- the lines of no record
lines-of-none : (number : ℕ) (p : StampedPapers) (script : List (Result Stamped Refusal)) (j : List ℕ) → script ≡ [] → j ≡ journal_of (answers number p script) ++ j
lines-of-none number p script j none = sym (ap (λ records. journal_of (answers number p records) ++ j) none)

-- the lines of these first records stand whole, in all writes of which so much was made that their replies do
abbrev AreLinesFirst : ℕ → StampedPapers → List (Result Stamped Refusal) → List (Result Stamped Refusal) → Type 0
AreLinesFirst number p first rest = (tail : List Piece) (j o more : List ℕ) → IsPrefix (answers number p (first ++ rest) ++ tail) j o
    → o ≡ replies number p first ++ more → (later : List ℕ) × (j ≡ journal_of (answers number p first) ++ later)

-- no reply was to follow, or more was written
lines-left : (number : ℕ) (p : StampedPapers) (first rest : List (Result Stamped Refusal)) → AreLinesFirst number p first rest
    → (tail : List Piece) (j more : List ℕ)
    → (replies number p first ≡ []) ⊎ ((o : List ℕ) × (o ≡ replies number p first ++ more) × IsPrefix (answers number p (first ++ rest) ++ tail) j o)
    → (later : List ℕ) × (j ≡ journal_of (answers number p first) ++ later)
lines-left number p first rest follow tail j more (inl none) = (j, lines-of-none number p first j (replies-none number p first none))
lines-left number p first rest follow tail j more (inr (o, begins, left)) = follow tail j o more left begins

-- a reply alone, and then what follows
lines-refused : (number : ℕ) (p : StampedPapers) (reply : List ℕ) (first rest : List (Result Stamped Refusal)) → AreLinesFirst number p first rest
    → (tail : List Piece) (j o more : List ℕ) → IsPrefix (to_output reply ∷ (answers number p (first ++ rest) ++ tail)) j o
    → o ≡ (reply ++ replies number p first) ++ more → (later : List ℕ) × (j ≡ journal_of (answers number p first) ++ later)
lines-refused number p reply first rest follow tail j o more prefix begins =
    lines-left number p first rest follow tail j more (after-reply reply (replies number p first) more j o (answers number p (first ++ rest) ++ tail) prefix begins)

-- a line, its reply, and then what follows
lines-accepted : (number : ℕ) (p : StampedPapers) (line reply : List ℕ) (first rest : List (Result Stamped Refusal)) → 1 ≤ length reply → AreLinesFirst number p first rest
    → (tail : List Piece) (j o more : List ℕ) → IsPrefix (to_journal line ∷ to_output reply ∷ (answers number p (first ++ rest) ++ tail)) j o
    → o ≡ (reply ++ replies number p first) ++ more → (later : List ℕ) × (j ≡ (line ++ journal_of (answers number p first)) ++ later)
lines-accepted number p line reply first rest some follow tail j o more (inl (count, given, journal, output)) begins =
    let nothing = take-none given o output in
    let same : length o ≡ length ((reply ++ replies number p first) ++ more) = ap (λ (ys : List ℕ). length ys) begins in
    let outer = length-append (reply ++ replies number p first) more in
    let inner = length-append reply (replies number p first) in
    absurd (none-and-some (length reply) some (omega arith))
lines-accepted number p line reply first rest some follow tail j o more (inr (j', o', journal, output, prefix)) begins =
    let (later, is) = lines-refused number p reply first rest follow tail j' o' more prefix (sym output ∙ begins) in
    (later, journal ∙ ap (λ text. line ++ text) is ∙ sym (append_assoc line (journal_of (answers number p first)) later))

lines-by-verdict : (number : ℕ) (p : StampedPapers) (amendment : Amendment) (found : Option Refusal) (first rest : List (Result Stamped Refusal))
    → AreLinesFirst (number + 1) (after_stamped_verdict p amendment found) first rest
    → (tail : List Piece) (j o more : List ℕ)
    → IsPrefix ((answer_by_verdict (next_line p amendment) number found ++ answers (number + 1) (after_stamped_verdict p amendment found) (first ++ rest)) ++ tail) j o
    → o ≡ (reply_text number (unless_refused found) ++ replies (number + 1) (after_stamped_verdict p amendment found) first) ++ more
    → (later : List ℕ) × (j ≡ journal_of (answer_by_verdict (next_line p amendment) number found ++ answers (number + 1) (after_stamped_verdict p amendment found) first) ++ later)
lines-by-verdict number p amendment None first rest follow tail j o more prefix begins =
    lines-accepted (number + 1) (after_stamped_verdict p amendment None) (next_line p amendment) (reply_text number (Ok tt)) first rest (length-reply number (Ok tt)) follow tail j o more prefix begins
lines-by-verdict number p amendment (Some refusal) first rest follow tail j o more prefix begins =
    lines-refused (number + 1) p (reply_text number (Err refusal)) first rest follow tail j o more prefix begins

-- however much of the writes was made: where the replies to the first records stand whole, so do their lines
lines-first : (number : ℕ) (p : StampedPapers) (first rest : List (Result Stamped Refusal)) → AreLinesFirst number p first rest
lines-first number p [] rest tail j o more prefix begins = (j, refl)
lines-first number p (Ok stamped ∷ first) rest tail j o more prefix begins =
    lines-by-verdict number p stamped.amendment (stamped_verdict p stamped) first rest (lines-first (number + 1) (after_record p (Ok stamped)) first rest) tail j o more prefix begins
lines-first number p (Err refusal ∷ first) rest tail j o more prefix begins =
    lines-refused (number + 1) p (reply_text number (Err refusal)) first rest (lines-first (number + 1) p first rest) tail j o more prefix begins

StartsWith-more : (text first more : List ℕ) → text ≡ first ++ more → StartsWith text first
StartsWith-more text first more is = ap (take (length first)) is ∙ take-append_seam first more

more-StartsWith : (text first : List ℕ) → StartsWith text first → text ≡ first ++ drop (length first) text
more-StartsWith text first starts = sym (take-append-drop (length first) text) ∙ ap (λ front. front ++ drop (length first) text) starts

-- the same of the journal's text
StartsWith-lines : (m : Market) (first rest : List (Result Stamped Refusal)) (tail : List Piece) (j o : List ℕ) → IsPrefix (answers 1 (unamended m) (first ++ rest) ++ tail) j o
    → StartsWith o (replies 1 (unamended m) first) → StartsWith j (journal_text 1 (accepted (unamended m) first))
StartsWith-lines m first rest tail j o prefix starts =
    let (later, is) = lines-first 1 (unamended m) first rest tail j o (drop (length (replies 1 (unamended m) first)) o) prefix (more-StartsWith o (replies 1 (unamended m) first) starts) in
    StartsWith-more j (journal_text 1 (accepted (unamended m) first)) later (is ∙ ap (λ text. text ++ later) (journal_of-answers 1 (unamended m) first))

-- nothing was written
StartsWith-nothing : (m : Market) (first : List (Result Stamped Refusal)) (j o : List ℕ) → o ≡ [] → StartsWith o (replies 1 (unamended m) first) → StartsWith j (journal_text 1 (accepted (unamended m) first))
StartsWith-nothing m first j o none starts =
    let nothing = none-first (replies 1 (unamended m) first) (drop (length (replies 1 (unamended m) first)) o) (sym (more-StartsWith o (replies 1 (unamended m) first) starts) ∙ none) in
    subst (λ records. StartsWith j (journal_text 1 (accepted (unamended m) records))) (sym (replies-none 1 (unamended m) first nothing)) refl

StartsWith-prefix : (found opened : Opened) (first rest : List (Result Stamped Refusal)) (j o : List ℕ) → found ≡ opened → opened.script ≡ first ++ rest
    → WritesPrefix found (record { journal = Some []; output = Some [] }) (record { journal = Some j; output = Some o })
    → StartsWith o (replies 1 (unamended opened.papers) first) → StartsWith j (journal_text 1 (accepted (unamended opened.papers) first))
StartsWith-prefix found opened first rest j o same cut (report, is, (j', o', prefix, (journal, output))) starts =
    let of_opened : IsPrefix (answers 1 (unamended opened.papers) opened.script ++ to_output report ∷ []) j' o' =
    subst (λ f. IsPrefix (answers 1 (unamended f.papers) f.script ++ to_output report ∷ []) j' o') same prefix in
    let of_cut : IsPrefix (answers 1 (unamended opened.papers) (first ++ rest) ++ to_output report ∷ []) j' o' =
    subst (λ script. IsPrefix (answers 1 (unamended opened.papers) script ++ to_output report ∷ []) j' o') cut of_opened in
    subst (λ text. StartsWith text (journal_text 1 (accepted (unamended opened.papers) first))) (sym journal)
    (StartsWith-lines opened.papers first rest (to_output report ∷ []) j' o' of_cut
    (subst (λ text. StartsWith text (replies 1 (unamended opened.papers) first)) output starts))

-- what a run writes whole is its own prefix
WritesPrefix-all : (opened : Opened) (j o : List ℕ) → WritesAll opened (record { journal = Some []; output = Some [] }) (record { journal = Some j; output = Some o })
    → WritesPrefix opened (record { journal = Some []; output = Some [] }) (record { journal = Some j; output = Some o })
WritesPrefix-all opened j o (report, is, (journal, output)) =
    let pieces = answers 1 (unamended opened.papers) opened.script ++ to_output report ∷ [] in
    let lines : journal_of pieces ≡ journal_text 1 (accepted (unamended opened.papers) opened.script) =
    journal_of-append (answers 1 (unamended opened.papers) opened.script) (to_output report ∷ []) ∙ append-nil (journal_of (answers 1 (unamended opened.papers) opened.script)) ∙ journal_of-answers 1 (unamended opened.papers) opened.script in
    let texts : output_of pieces ≡ replies 1 (unamended opened.papers) opened.script ++ report =
    output_of-append (answers 1 (unamended opened.papers) opened.script) (to_output report ∷ [])
    ∙ ap (λ text. output_of (answers 1 (unamended opened.papers) opened.script) ++ text) (append-nil report)
    ∙ ap (λ text. text ++ report) (output_of-answers 1 (unamended opened.papers) opened.script) in
    (report, is, (journal_of pieces, output_of pieces, IsPrefix-all pieces, (journal ∙ sym lines, output ∙ sym texts)))

-- what was read
abbrev opened_as : Opened → Result Opened IntakeFault
opened_as opened = Ok opened

same_opened : (opened found : Opened) → opened_as opened ≡ Ok found → found ≡ opened
same_opened opened found is = cc

-- whatever ended a run
pub lines-of-run : (opened : Opened) (first rest : List (Result Stamped Refusal)) (j o : List ℕ) (result : Result (Unit {0}) RunFault) → opened.script ≡ first ++ rest
    → WritesRun (Ok opened) (record { journal = Some []; output = Some [] }) (record { journal = Some j; output = Some o }) result
    → StartsWith o (replies 1 (unamended opened.papers) first) → StartsWith j (journal_text 1 (accepted (unamended opened.papers) first))
lines-of-run opened first rest j o (Ok done) cut (found, read, wrote) starts =
    StartsWith-prefix found opened first rest j o (same_opened opened found read) cut (WritesPrefix-all found j o wrote) starts
lines-of-run opened first rest j o (Err WriteOut) cut (found, read, wrote) starts = StartsWith-prefix found opened first rest j o (same_opened opened found read) cut wrote starts
lines-of-run opened first rest j o (Err WriteJournal) cut (found, read, wrote) starts = StartsWith-prefix found opened first rest j o (same_opened opened found read) cut wrote starts
lines-of-run opened first rest j o (Err OutOfMemory) cut (inl (journal, output)) starts = StartsWith-nothing opened.papers first j o output starts
lines-of-run opened first rest j o (Err OutOfMemory) cut (inr (found, read, wrote)) starts = StartsWith-prefix found opened first rest j o (same_opened opened found read) cut wrote starts
lines-of-run opened first rest j o (Err (Intake fault)) cut (impossible, kept) starts = cc
lines-of-run opened first rest j o (Err (Journal fault)) cut wrote starts = absurd wrote
lines-of-run opened first rest j o (Err (Read source)) cut wrote starts = absurd wrote
