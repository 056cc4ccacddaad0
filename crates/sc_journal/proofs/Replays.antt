-- A journal replayed, one line more.
use Rattle.std.proofs.Common.{◌≡◌, ℕ, ◌+◌, ◌<◌, ◌≤◌, List, [], ◌∷◌, ◌++◌, length, drop, refl, sym, ◌∙◌, ap, arith, append_assoc, inl, inr, subst}
use Rattle.std.specs.Prelude.{codes, is_some, slice_range, Err, Ok, MatchOption, None, Option, Some, false, true}
use Rattle.std.proofs.lemmas.List.{at_drop_all, at_drop_more, length-append}
use Rattle.std.proofs.lemmas.List.Elements.{All-nil, All-push}
use Rattle.sc_papers.specs.{Verdict.{unless_refused, verdict}, declared.amendment.Amendment.{Amendment}, declared.amendment.Refusal.{Refusal}}
use Rattle.sc_repair.specs.{Stamped.{StampedStanding, stamped_papers}, Standing.{Standing, CountsRegion, proposals_from_scratch}}
use Rattle.sc_stamps.specs.Verdict.{StampedPapers, stamped_after}
use Rattle.sc_journal.proofs.Stamping.{accepted-after}
use Rattle.sc_journal.specs.Journal.{after_all, CountsLast, IsCause, IsFirstFault, IsReplayed, IsReplayFault, IsUnbroken, LeavesClearing, journal_text, tail_of}
use Rattle.sc_lines.specs.Line.{line_text}
use Rattle.sc_journal.specs.Replaying.{AreTakenBefore, IsBeforeLast, IsCauseOrMemory, IsEnd, IsGoing, IsLineEnd, IsSettledLine, IsTaken, line_of}
use Rattle.sc_lines.specs.Spelling.{IsInRanges}
use Rattle.sc_journal.proofs.Growing.{accepted-more, after-more, journal-more}
use Rattle.sc_journal.specs.declared.fault.JournalCause.{JournalCause}
use Rattle.sc_journal.specs.declared.fault.JournalCause.TheVariants.{OutOfMemory}
use Rattle.sc_journal.specs.declared.fault.JournalFault.{JournalFault}
use Rattle.sc_journal.specs.declared.journal.LastLine.{LastLine}
use Rattle.sc_journal.specs.declared.journal.Tail.TheVariants.{Torn, Whole}

-- bytes that are left are a torn line
pub tail-torn : (bytes : List ℕ) (i : ℕ) → i < length bytes → Torn ≡ tail_of (drop i bytes)
tail-torn bytes i inside = sym (ap tail_of (at_drop_more (λ (bs : List ℕ). bs) bytes i 0 inside))

pub tail-whole : (bytes : List ℕ) (i : ℕ) → length bytes ≤ i → Whole ≡ tail_of (drop i bytes)
tail-whole bytes i past = sym (ap tail_of (at_drop_all (λ (bs : List ℕ). bs) bytes i past))

pub going-start : (p : StampedPapers) (bytes : List ℕ) → p.stamps.accepted ≡ 0 → IsGoing p p bytes 0 0
going-start p bytes none = record {
  inside = omega arith;
  replayed = record { amendments = []; ranges = All-nil IsInRanges; count = omega arith; text = refl; accepted = tt; papers = refl };
  count = refl;
  accepted = none;
}

pub going-more : (before now next : StampedPapers) (bytes : List ℕ) (start number end : ℕ) → IsGoing before now bytes start number
    → IsLineEnd bytes start end → IsTaken now next (number + 1) (slice_range bytes start end) → IsGoing before next bytes (end + 1) (number + 1)
going-more before now next bytes start number end at line taken =
    let r = at.replayed in
    let a = taken.amendment in
    let xs = r.amendments in
    let rest = drop (end + 1) bytes in
    let size : length (xs ++ a ∷ []) ≡ number + 1 = omega (arith, at.count, length-append xs (a ∷ [])) in
    let counted : 1 + length xs ≡ number + 1 = omega (arith, at.count) in
    let number-range = taken.spelled.number_in_range in
    let high : number + 1 ≤ 999999999 = number-range.1 in
    let line-is : slice_range bytes start end ≡ line_text (1 + length xs) a = taken.spelled.spelled ∙ ap (λ n. line_text n a) (sym counted) in
    let left : drop start bytes ≡ line_text (1 + length xs) a ++ codes "\n" ++ rest =
    line.cut ∙ ap (λ (bs : List ℕ). bs ++ 10 ∷ rest) line-is ∙ sym (append_assoc (line_text (1 + length xs) a) (codes "\n") rest) in
    let text : bytes ≡ journal_text 1 (xs ++ a ∷ []) ++ rest =
    r.text ∙ ap (λ (bs : List ℕ). journal_text 1 xs ++ bs) left
    ∙ sym (append_assoc (journal_text 1 xs) (line_text (1 + length xs) a ++ codes "\n") rest)
    ∙ ap (λ (bs : List ℕ). bs ++ rest) (sym (journal-more 1 xs a)) in
    let inside = line.inside in
    record {
      inside = omega arith;
      replayed = record {
        amendments = xs ++ a ∷ [];
        ranges = All-push IsInRanges xs a r.ranges taken.spelled.amendment_in_ranges;
        count = omega (arith, size, high);
        text = text;
        accepted = accepted-more before xs a r.accepted (ap (λ p. verdict p.papers a) (sym r.papers) ∙ taken.accepted);
        papers = taken.papers ∙ ap (λ p. stamped_after p a) r.papers ∙ sym (after-more before xs a);
      };
      count = sym size;
      accepted = ap (λ p. p.stamps.accepted) taken.papers ∙ accepted-after now a ∙ ap (λ n. n + 1) at.accepted;
    }

-- the line that follows an index, which is not taken for this cause, is the first
pub is-first : (before now : StampedPapers) (bytes : List ℕ) (start number end : ℕ) (fault : JournalFault) → IsGoing before now bytes start number
    → IsLineEnd bytes start end → fault.line ≡ number + 1 → IsCause now.papers (number + 1) (slice_range bytes start end) fault.cause → IsFirstFault before bytes fault
is-first before now bytes start number end fault at line is why =
    let r = at.replayed in
    let text = slice_range bytes start end in
    let rest = drop (end + 1) bytes in record {
      now = now;
      line = text;
      rest = rest;
      replayed = record {
        amendments = r.amendments;
        ranges = r.ranges;
        count = r.count;
        text = r.text ∙ ap (λ (bs : List ℕ). journal_text 1 r.amendments ++ bs) (line.cut ∙ sym (append_assoc text (codes "\n") rest));
        accepted = r.accepted;
        papers = r.papers;
      };
      unbroken = line.unbroken;
      number = is ∙ ap (λ n. n + 1) at.count;
      cause = rw is why;
    }

pub first-fault : (before now : StampedPapers) (bytes : List ℕ) (start number end : ℕ) (cause : JournalCause) → IsGoing before now bytes start number
    → IsLineEnd bytes start end → IsCauseOrMemory now.papers (number + 1) (slice_range bytes start end) cause
    → IsReplayFault before bytes (record { line = line_of (number + 1) cause; cause = cause })
first-fault before now bytes start number end cause at line (inl memory) = inl (rw memory refl)
first-fault before now bytes start number end OutOfMemory at line (inr why) = absurd why
first-fault before now bytes start number end _ at line (inr why) = inr (is-first before now bytes start number end _ at line refl why)

-- where a replay stands that has looked for the line's end: at a line, or, where there is none, at the beginning
abbrev pub IsAtLine : StampedPapers → StampedPapers → List ℕ → ℕ → ℕ → Option ℕ → Type 0
IsAtLine before now bytes start number None = (now ≡ before) × IsUnbroken bytes
IsAtLine before now bytes start number (Some end) = IsGoing before now bytes start number × IsLineEnd bytes start end

pub at-line-start : (p : StampedPapers) (bytes : List ℕ) (line : Option ℕ) → p.stamps.accepted ≡ 0 → MatchOption line (IsUnbroken (drop 0 bytes)) (IsLineEnd bytes 0) → IsAtLine p p bytes 0 0 line
at-line-start p bytes None none line = (refl, line)
at-line-start p bytes (Some end) none line = (going-start p bytes none, line)

pub at-line-more : (before now : StampedPapers) (bytes : List ℕ) (start number : ℕ) (line : Option ℕ) → is_some line ≡ true
    → MatchOption line (IsUnbroken (drop start bytes)) (IsLineEnd bytes start) → IsGoing before now bytes start number → IsAtLine before now bytes start number line
at-line-more before now bytes start number None some line going = absurd (cc some)
at-line-more before now bytes start number (Some end) some line going = (going, line)

-- no whole line follows one behind which none ends
pub none-behind : (bytes : List ℕ) (start : ℕ) (line : Option ℕ) → is_some line ≡ false → MatchOption line (IsUnbroken (drop start bytes)) (IsLineEnd bytes start) → IsUnbroken (drop start bytes)
none-behind bytes start None none line = line
none-behind bytes start (Some end) none line = absurd (cc none)

-- a replay at a line
pub at-line : (before now : StampedPapers) (bytes : List ℕ) (start number end : ℕ) (line : Option ℕ) → IsAtLine before now bytes start number line → line ≡ Some end
    → IsGoing before now bytes start number × IsLineEnd bytes start end
at-line before now bytes start number end line here is = subst (IsAtLine before now bytes start number) is here

-- a count of amendments that a replay made
pub going-count : (before now : StampedPapers) (bytes : List ℕ) (start number : ℕ) → IsGoing before now bytes start number → number ≤ 999999999
going-count before now bytes start number going = omega (arith, going.count, going.replayed.count)

-- and at none
pub at-line-none : (before now : StampedPapers) (bytes : List ℕ) (start number : ℕ) (line : Option ℕ) → IsAtLine before now bytes start number line → ((end : ℕ) → line ≡ Some end → ⊥)
    → (now ≡ before) × IsUnbroken bytes
at-line-none before now bytes start number None here other = here
at-line-none before now bytes start number (Some end) here other = absurd (other end refl)

-- the lines before the last are taken, if there is a last one
pub before-last : (before now : StampedPapers) (bytes : List ℕ) (found : Option LastLine) (last : LastLine) → IsBeforeLast before now bytes found → found ≡ Some last → AreTakenBefore before now bytes last
before-last before now bytes found last all is = subst (IsBeforeLast before now bytes) is all

pub before-none : (before now : StampedPapers) (bytes : List ℕ) (found : Option LastLine) → IsBeforeLast before now bytes found → ((last : LastLine) → found ≡ Some last → ⊥) → (now ≡ before) × IsUnbroken bytes
before-none before now bytes None all other = all
before-none before now bytes (Some last) all other = absurd (other last refl)

-- and the last one is
pub last-going : (before now next : StampedPapers) (bytes : List ℕ) (last : LastLine) (at : AreTakenBefore before now bytes last)
    → IsTaken now next last.number (slice_range bytes last.start last.end) → IsGoing before next bytes (last.end + 1) (at.taken + 1)
last-going before now next bytes last at taken =
    going-more before now next bytes last.start at.taken last.end at.going at.line (subst (λ n. IsTaken now next n (slice_range bytes last.start last.end)) at.number taken)

pub last-end : (before now next : StampedPapers) (bytes : List ℕ) (last : LastLine) → AreTakenBefore before now bytes last
    → IsTaken now next last.number (slice_range bytes last.start last.end) → IsEnd before next bytes (last.end + 1)
last-end before now next bytes last at taken =
    let going = last-going before now next bytes last at taken in record { inside = going.inside; replayed = going.replayed; unbroken = at.unbroken }

-- or is not, for this cause
pub last-fault : (before now : StampedPapers) (bytes : List ℕ) (last : LastLine) (cause : JournalCause) → AreTakenBefore before now bytes last
    → IsCauseOrMemory now.papers last.number (slice_range bytes last.start last.end) cause → IsReplayFault before bytes (record { line = line_of last.number cause; cause = cause })
last-fault before now bytes last cause at why =
    subst (λ n. IsReplayFault before bytes (record { line = line_of n cause; cause = cause })) (sym at.number)
    (first-fault before now bytes last.start at.taken last.end cause at.going at.line (subst (λ n. IsCauseOrMemory now.papers n (slice_range bytes last.start last.end) cause) at.number why))

-- the last amendment's proposals are those of the last
pub counts-more : (p : StampedPapers) (xs : List Amendment) (a : Amendment) (standing : Standing) → CountsRegion (after_all p xs).papers a standing → CountsLast p (xs ++ a ∷ []) standing
counts-more p [] a standing counts = counts
counts-more p (x ∷ []) a standing counts = counts
counts-more p (x ∷ y ∷ xs) a standing counts = counts-more (stamped_after p x) (y ∷ xs) a standing counts

-- a clearing that takes the last line
pub leaves-last : (before now : StampedPapers) (clearing : StampedStanding) (bytes : List ℕ) (last : LastLine) → AreTakenBefore before now bytes last
    → IsSettledLine now clearing last.number (slice_range bytes last.start last.end) → LeavesClearing before clearing bytes (tail_of (drop (last.end + 1) bytes))
unfolding going-more last-going
leaves-last before now clearing bytes last at settled =
    let r = at.going.replayed in
    let going = last-going before now (stamped_papers clearing) bytes last at settled.taken in record {
      replay = record { rest = drop (last.end + 1) bytes; replayed = going.replayed; unbroken = at.unbroken; ending = refl };
      proposals = counts-more before r.amendments settled.taken.amendment clearing.standing
          (subst (λ (p : StampedPapers). CountsRegion p.papers settled.taken.amendment clearing.standing) r.papers settled.proposals);
    }

-- a clearing of the opening, where no line is whole
pub leaves-none : (before : StampedPapers) (clearing : StampedStanding) (bytes : List ℕ) → IsUnbroken bytes → before ≡ stamped_papers clearing
    → clearing.standing.proposals ≡ proposals_from_scratch clearing.standing → LeavesClearing before clearing bytes (tail_of (drop 0 bytes))
leaves-none before clearing bytes unbroken papers counted = record {
  replay = record {
    rest = bytes;
    replayed = record { amendments = []; ranges = All-nil IsInRanges; count = omega arith; text = refl; accepted = tt; papers = sym papers };
    unbroken = unbroken;
    ending = refl;
  };
  proposals = counted;
}

-- the refusal that a check answers
pub refusal-of : (verdict : Option Refusal) (r : Refusal) → Err r ≡ unless_refused verdict → verdict ≡ Some r
refusal-of None r is = absurd (cc is)
refusal-of (Some other) r is = cc is

pub allowed-of : (verdict : Option Refusal) (u : Unit {0}) → Ok u ≡ unless_refused verdict → verdict ≡ None
allowed-of None u is = refl
allowed-of (Some other) u is = absurd (cc is)
