-- A replay has one answer.
use Rattle.std.proofs.Common.{◌≡◌, ◌≢◌, ℕ, ◌+◌, ◌≤◌, false, List, [], ◌∷◌, ◌++◌, length, get_or, refl, sym, ◌∙◌, ap, arith, append_assoc}
use Rattle.std.specs.Prelude.{◌==◌, codes, None, Some}
use Rattle.std.specs.List.{All}
use Rattle.std.proofs.lemmas.Bool.Decides.{nat_tests}
use Rattle.std.proofs.lemmas.List.Elements.{All-head, All-tail}
use Rattle.sc_papers.specs.Market.{Market}
use Rattle.sc_papers.specs.Verdict.{verdict}
use Rattle.sc_papers.specs.declared.amendment.Amendment.{Amendment}
use Rattle.sc_stamps.specs.Verdict.{StampedPapers, stamped_after}
use Rattle.sc_journal.specs.Journal.{after_all, AreAccepted, IsCause, IsFirstFault, IsReplay, IsReplayed, IsUnbroken, journal_text, tail_of}
use Rattle.sc_lines.specs.Line.{line_text}
use Rattle.sc_lines.specs.Spelling.{IsInRanges, IsLineOf}
use Rattle.sc_journal.specs.declared.fault.JournalCause.{JournalCause}
use Rattle.sc_journal.specs.declared.fault.JournalCause.TheVariants.{Shape, Number, JournalFull, Refused, OutOfMemory}
use Rattle.sc_journal.specs.declared.fault.JournalFault.{JournalFault}
use Rattle.sc_journal.specs.declared.journal.Tail.{Tail}
use Rattle.sc_lines.proofs.Records.{is-line, line-free, one-line}
use Rattle.sc_lines.proofs.Words.{IsFree}

-- what stands before a first newline and after it
record AreCut (xs ys rest more : List ℕ) : Type 0 where
  pub before : xs ≡ ys
  pub after : rest ≡ more

cut-one : (xs ys rest more : List ℕ) → IsUnbroken xs → IsUnbroken ys → xs ++ 10 ∷ rest ≡ ys ++ 10 ∷ more → AreCut xs ys rest more
cut-one [] [] rest more free other e = record { before = refl; after = cc e }
cut-one [] (y ∷ ys) rest more free other e =
    let first : 10 ≡ y = cc e in absurd (All-head (λ b. b ≢ 10) y ys other (sym first))
cut-one (x ∷ xs) [] rest more free other e =
    let first : x ≡ 10 = cc e in absurd (All-head (λ b. b ≢ 10) x xs free first)
cut-one (x ∷ xs) (y ∷ ys) rest more free other e =
    let first : x ≡ y = cc e in
    let left : xs ++ 10 ∷ rest ≡ ys ++ 10 ∷ more = cc e in
    let cut = cut-one xs ys rest more (All-tail (λ b. b ≢ 10) x xs free) (All-tail (λ b. b ≢ 10) y ys other) left in
    record { before = rw (first, cut.before) refl; after = cut.after }

-- an unbroken text is no whole line
no-cut : (xs ys more : List ℕ) → IsUnbroken xs → xs ≡ ys ++ 10 ∷ more → ⊥
no-cut [] [] more free e = cc e
no-cut [] (y ∷ ys) more free e = cc e
no-cut (x ∷ xs) [] more free e = let first : x ≡ 10 = cc e in All-head (λ b. b ≢ 10) x xs free first
no-cut (x ∷ xs) (y ∷ ys) more free e = let left : xs ≡ ys ++ 10 ∷ more = cc e in no-cut xs ys more (All-tail (λ b. b ≢ 10) x xs free) left

line-unbroken : (text : List ℕ) (n : ℕ) (a : Amendment) → IsLineOf text n a → IsUnbroken text
line-unbroken text n a is =
    let range = is.number_in_range in
    let free : IsFree 10 text = rw is.spelled (line-free n a range.1 is.amendment_in_ranges) in
    λ k d inside. (let other : (get_or text k d == 10) ≡ false = free k d inside in grind (arith, nat_tests))

-- no whole line at the start of what is left is taken under this number
abbrev Stops : Market → ℕ → List ℕ → Type 0
Stops m number left = (text : List ℕ) (a : Amendment) (rest : List ℕ) → IsLineOf text number a → verdict m a ≡ None → left ≡ text ++ 10 ∷ rest → ⊥

stops-end : (m : Market) (number : ℕ) (rest : List ℕ) → IsUnbroken rest → Stops m number rest
stops-end m number rest free text a more is accepted e = no-cut rest text more free e

-- a cause is of no line that is taken
not-taken : (m : Market) (number : ℕ) (text : List ℕ) (cause : JournalCause) (a : Amendment) → IsCause m number text cause → IsLineOf text number a → verdict m a ≡ None → ⊥
not-taken m number text Shape a why is accepted = why number a is
not-taken m number text Number a why is accepted = why.1.3 (one-line text why.1.0 number why.1.1 a why.1.2 is).number
not-taken m number text JournalFull a why is accepted = let range = is.number_in_range in let high = range.1 in let past = why.0 in absurd (omega arith)
not-taken m number text (Refused refusal) a why is accepted =
    let same = one-line text number number why.0 a why.1 is in
    let refused : verdict m a ≡ Some refusal = ap (verdict m) (sym same.amendment) ∙ why.2 in cc
not-taken m number text OutOfMemory a why is accepted = absurd why

stops-fault : (m : Market) (number : ℕ) (line rest : List ℕ) (cause : JournalCause) → IsUnbroken line → IsCause m number line cause → Stops m number (line ++ codes "\n" ++ rest)
stops-fault m number line rest cause free why text a more is accepted e =
    let cut = cut-one line text rest more free (line-unbroken text number a is) (sym (append_assoc line (codes "\n") rest) ∙ e) in
    not-taken m number line cause a why (rw cut.before is) accepted

-- the same amendments, and the same bytes after them
record AreReplays (xs ys : List Amendment) (rest more : List ℕ) : Type 0 where
  pub amendments : xs ≡ ys
  pub left : rest ≡ more

same-replay : (before : StampedPapers) (first p q : ℕ) (xs ys : List Amendment) (rest more : List ℕ) → 1 ≤ first
    → p ≡ first + length xs → q ≡ first + length ys → p ≤ 1000000000 → q ≤ 1000000000
    → All IsInRanges xs → All IsInRanges ys → AreAccepted before xs → AreAccepted before ys
    → journal_text first xs ++ rest ≡ journal_text first ys ++ more
    → Stops (after_all before xs).papers p rest → Stops (after_all before ys).papers q more → AreReplays xs ys rest more
same-replay before first p q [] [] rest more least ep eq sp sq rx ry ax ay e stops halts = record { amendments = refl; left = e }
same-replay before first p q [] (y ∷ ys) rest more least ep eq sp sq rx ry ax ay e stops halts =
    let number : p ≡ first = omega arith in
    let line = is-line first y least (omega arith) (All-head IsInRanges y ys ry) in
    let cut : rest ≡ line_text first y ++ 10 ∷ (journal_text (first + 1) ys ++ more) =
    e ∙ append_assoc (line_text first y ++ codes "\n") (journal_text (first + 1) ys) more ∙ append_assoc (line_text first y) (codes "\n") (journal_text (first + 1) ys ++ more) in
    absurd (stops (line_text first y) y (journal_text (first + 1) ys ++ more) (rw number line) ay.0 cut)
same-replay before first p q (x ∷ xs) [] rest more least ep eq sp sq rx ry ax ay e stops halts =
    let number : q ≡ first = omega arith in
    let line = is-line first x least (omega arith) (All-head IsInRanges x xs rx) in
    let cut : more ≡ line_text first x ++ 10 ∷ (journal_text (first + 1) xs ++ rest) =
    sym e ∙ append_assoc (line_text first x ++ codes "\n") (journal_text (first + 1) xs) rest ∙ append_assoc (line_text first x) (codes "\n") (journal_text (first + 1) xs ++ rest) in
    absurd (halts (line_text first x) x (journal_text (first + 1) xs ++ rest) (rw number line) ax.0 cut)
same-replay before first p q (x ∷ xs) (y ∷ ys) rest more least ep eq sp sq rx ry ax ay e stops halts =
    let line-x = is-line first x least (omega arith) (All-head IsInRanges x xs rx) in
    let line-y = is-line first y least (omega arith) (All-head IsInRanges y ys ry) in
    let cut-x = append_assoc (line_text first x ++ codes "\n") (journal_text (first + 1) xs) rest ∙ append_assoc (line_text first x) (codes "\n") (journal_text (first + 1) xs ++ rest) in
    let cut-y = append_assoc (line_text first y ++ codes "\n") (journal_text (first + 1) ys) more ∙ append_assoc (line_text first y) (codes "\n") (journal_text (first + 1) ys ++ more) in
    let cut = cut-one (line_text first x) (line_text first y) (journal_text (first + 1) xs ++ rest) (journal_text (first + 1) ys ++ more)
    (line-unbroken (line_text first x) first x line-x) (line-unbroken (line_text first y) first y line-y) (sym cut-x ∙ e ∙ cut-y) in
    let other : IsLineOf (line_text first x) first y = rw cut.before line-y in
    let same : x ≡ y = (one-line (line_text first x) first first x y line-x other).amendment in
    let later = same-replay (stamped_after before x) (first + 1) p q xs ys rest more (omega arith) (omega arith) (omega arith) sp sq
    (All-tail IsInRanges x xs rx) (All-tail IsInRanges y ys ry) ax.1 (rw same ay.1) cut.after stops (rw same halts) in
    record { amendments = rw (same, later.amendments) refl; left = later.left }

-- two replays of the same bytes
both : (before now other : StampedPapers) (bytes rest more : List ℕ) (a : IsReplayed before now bytes rest) (b : IsReplayed before other bytes more)
    → Stops now.papers (1 + length a.amendments) rest → Stops other.papers (1 + length b.amendments) more → AreReplays a.amendments b.amendments rest more
both before now other bytes rest more a b stops halts =
    let few = a.count in
    let some = b.count in
    same-replay before 1 (1 + length a.amendments) (1 + length b.amendments) a.amendments b.amendments rest more (omega arith) refl refl (omega arith) (omega arith)
    a.ranges b.ranges a.accepted b.accepted (sym a.text ∙ b.text) (rw (← a.papers) stops) (rw (← b.papers) halts)

replay-stops : (before now : StampedPapers) (bytes : List ℕ) (tail : Tail) (number : ℕ) (a : IsReplay before now bytes tail) → Stops now.papers number a.rest
replay-stops before now bytes tail number a = stops-end now.papers number a.rest a.unbroken

fault-stops : (before : StampedPapers) (bytes : List ℕ) (fault : JournalFault) (a : IsFirstFault before bytes fault) → Stops a.now.papers (1 + length a.replayed.amendments) (a.line ++ codes "\n" ++ a.rest)
fault-stops before bytes fault a =
    let number : 1 + length a.replayed.amendments ≡ fault.line = omega (arith, a.number) in
    rw number (stops-fault a.now.papers fault.line a.line a.rest fault.cause a.unbroken a.cause)

pub one-papers : (before now other : StampedPapers) (bytes : List ℕ) (tail last : Tail) → IsReplay before now bytes tail → IsReplay before other bytes last → now ≡ other
one-papers before now other bytes tail last a b =
    let same = both before now other bytes a.rest b.rest a.replayed b.replayed (replay-stops before now bytes tail _ a) (replay-stops before other bytes last _ b) in
    a.replayed.papers ∙ ap (after_all before) same.amendments ∙ sym b.replayed.papers

pub one-tail : (before now other : StampedPapers) (bytes : List ℕ) (tail last : Tail) → IsReplay before now bytes tail → IsReplay before other bytes last → tail ≡ last
one-tail before now other bytes tail last a b =
    let same = both before now other bytes a.rest b.rest a.replayed b.replayed (replay-stops before now bytes tail _ a) (replay-stops before other bytes last _ b) in
    a.ending ∙ ap tail_of same.left ∙ sym b.ending

pub no-fault : (before now : StampedPapers) (bytes : List ℕ) (tail : Tail) (fault : JournalFault) → IsReplay before now bytes tail → IsFirstFault before bytes fault → ⊥
no-fault before now bytes tail fault a b =
    let same = both before now b.now bytes a.rest (b.line ++ codes "\n" ++ b.rest) a.replayed b.replayed (replay-stops before now bytes tail _ a) (fault-stops before bytes fault b) in
    no-cut a.rest b.line b.rest a.unbroken (same.left ∙ append_assoc b.line (codes "\n") b.rest)

-- a line has one cause
one-cause : (m : Market) (number : ℕ) (text : List ℕ) (c d : JournalCause) → IsCause m number text c → IsCause m number text d → c ≡ d
one-cause m number text Shape Shape why other = refl
one-cause m number text Shape Number why other = absurd (why other.1.0 other.1.1 other.1.2)
one-cause m number text Shape JournalFull why other = absurd (why other.1.0 other.1.1 other.1.2)
one-cause m number text Shape (Refused t) why other = absurd (why number other.0 other.1)
one-cause m number text Shape OutOfMemory why other = absurd other
one-cause m number text Number Shape why other = absurd (other why.1.0 why.1.1 why.1.2)
one-cause m number text Number Number why other = refl
one-cause m number text Number JournalFull why other = absurd (let low = why.0 in let high = other.0 in omega arith)
one-cause m number text Number (Refused t) why other = absurd (why.1.3 (one-line text why.1.0 number why.1.1 other.0 why.1.2 other.1).number)
one-cause m number text Number OutOfMemory why other = absurd other
one-cause m number text JournalFull Shape why other = absurd (other why.1.0 why.1.1 why.1.2)
one-cause m number text JournalFull Number why other = absurd (let low = other.0 in let high = why.0 in omega arith)
one-cause m number text JournalFull JournalFull why other = refl
one-cause m number text JournalFull (Refused t) why other = absurd (let range = other.1.number_in_range in let high = range.1 in let past = why.0 in omega arith)
one-cause m number text JournalFull OutOfMemory why other = absurd other
one-cause m number text (Refused r) Shape why other = absurd (other number why.0 why.1)
one-cause m number text (Refused r) Number why other = absurd (other.1.3 (one-line text other.1.0 number other.1.1 why.0 other.1.2 why.1).number)
one-cause m number text (Refused r) JournalFull why other = absurd (let range = why.1.number_in_range in let high = range.1 in let past = other.0 in omega arith)
one-cause m number text (Refused r) (Refused t) why other =
    let same = one-line text number number why.0 other.0 why.1 other.1 in
    let refused : Some r ≡ Some t = sym why.2 ∙ ap (verdict m) same.amendment ∙ other.2 in cc
one-cause m number text (Refused r) OutOfMemory why other = absurd other
one-cause m number text OutOfMemory _ why other = absurd why

same-fault : (f g : JournalFault) → f.line ≡ g.line → f.cause ≡ g.cause → f ≡ g
same-fault f g line cause = ap (λ n. record { line = n; cause = f.cause }) line ∙ ap (λ c. record { line = g.line; cause = c }) cause

pub one-fault : (before : StampedPapers) (bytes : List ℕ) (f g : JournalFault) → IsFirstFault before bytes f → IsFirstFault before bytes g → f ≡ g
one-fault before bytes f g a b =
    let same = both before a.now b.now bytes (a.line ++ codes "\n" ++ a.rest) (b.line ++ codes "\n" ++ b.rest) a.replayed b.replayed (fault-stops before bytes f a) (fault-stops before bytes g b) in
    let cut = cut-one a.line b.line a.rest b.rest a.unbroken b.unbroken (sym (append_assoc a.line (codes "\n") a.rest) ∙ same.left ∙ append_assoc b.line (codes "\n") b.rest) in
    let number : f.line ≡ g.line = a.number ∙ ap (λ (xs : List Amendment). length xs + 1) same.amendments ∙ sym b.number in
    let papers : a.now ≡ b.now = a.replayed.papers ∙ ap (after_all before) same.amendments ∙ sym b.replayed.papers in
    let why : IsCause a.now.papers f.line a.line g.cause = rw (papers, number, cut.before) b.cause in
    let cause = one-cause a.now.papers f.line a.line f.cause g.cause a.cause why in
    same-fault f g number cause
