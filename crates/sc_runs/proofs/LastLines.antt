-- After the last whole line of a journal nothing changes.
use Rattle.std.proofs.Common.{◌≡◌, ◌≢◌, refl, sym, ◌∙◌, ap, subst, ℕ, ◌==◌, cond, List, ◌++◌, append_assoc, Result, Ok, codes, arith}
use Rattle.std.proofs.lemmas.List.Elements.{All-append}
use Rattle.std.proofs.lemmas.List.Sums.{sum_by-append, sum_by_more_le}
use Rattle.sc_papers.specs.Market.{Market}
use Rattle.sc_papers.specs.Matching.{IsStudentOptimal}
use Rattle.sc_papers.proofs.Uniqueness.{optimal-unique}
use Rattle.sc_stamps.specs.Verdict.{StampedPapers, unamended}
use Rattle.sc_intake.specs.declared.fault.IntakeFault.{IntakeFault}
use Rattle.sc_journal.specs.Journal.{journal_text, tail_of, IsReplay, IsUnbroken}
use Rattle.sc_journal.specs.declared.journal.Tail.{Tail}
use Rattle.sc_journal.proofs.Answering.{one-papers}
use Rattle.sc_notices.specs.ChangesText.{changes_text}
use Rattle.sc_notices.proofs.ChangeLaws.{unchanged}
use Rattle.sc_runs.specs.Changing.{whole_lines, IsChange}
use Rattle.sc_runs.specs.Standing.{Stands}

-- what has no whole line has no newline
no-newline : (rest : List ℕ) → whole_lines rest ≡ 0 → IsUnbroken rest
no-newline rest none k d low newline =
    absurd (omega (arith, none, sum_by_more_le (λ b. cond (b == 10) 1 0) rest k d low, ap {B = ℕ} (λ b. cond (b == 10) 1 0) newline))

-- lines after which none is left are replayed as all are
replay-more : (before now : StampedPapers) (journal lines rest : List ℕ) (ending : Tail) → journal ≡ lines ++ rest → IsUnbroken rest → (r : IsReplay before now lines ending)
    → IsReplay before now journal (tail_of (r.rest ++ rest))
replay-more before now journal lines rest ending cut unbroken r =
    let replayed = r.replayed in
    record {
      rest = r.rest ++ rest;
      replayed = record {
        amendments = replayed.amendments;
        ranges = replayed.ranges;
        count = replayed.count;
        text = cut ∙ ap (λ l. l ++ rest) replayed.text ∙ append_assoc (journal_text 1 replayed.amendments) r.rest rest;
        accepted = replayed.accepted;
        papers = replayed.papers;
      };
      unbroken = All-append (λ byte. byte ≢ 10) r.rest rest r.unbroken unbroken;
      ending = refl;
    }

same-papers : (m n : Market) (reading : Result Market IntakeFault) → reading ≡ Ok m → reading ≡ Ok n → m ≡ n
same-papers m n reading first second = cc

pub unchanged-at_end : (reading : Result Market IntakeFault) (journal : List ℕ) (now : Market) (tail : Tail) (text : List ℕ) → Stands reading journal now tail
    → IsChange (whole_lines journal) reading journal now text → text ≡ codes "student,before,after\n"
unchanged-at_end reading journal now tail text (m, read, (later, replay, now_is)) change =
    let (n, read_before, (earlier, replay_before, before_is)) = change.stands in
    let rest = change.first.rest in
    let none : whole_lines rest ≡ 0 =
    omega (arith, ap whole_lines change.first.cut, sum_by-append (λ (b : ℕ). cond (b == 10) 1 0) change.lines rest, change.first.counted) in
    let again = replay-more (unamended n) earlier journal change.lines rest change.ending change.first.cut (no-newline rest none) replay_before in
    let one : earlier ≡ later =
    one-papers (unamended n) earlier later journal _ tail again (subst (λ k. IsReplay (unamended k) later journal tail) (same-papers m n reading read read_before) replay) in
    let papers : change.before ≡ now = before_is ∙ ap (λ (p : StampedPapers). p.papers) one ∙ sym now_is in
    let optimal = subst (λ p. IsStudentOptimal p change.earlier) papers change.earlier_optimal in
    change.told ∙ ap (λ p. changes_text p change.earlier now change.later) papers
    ∙ unchanged now change.earlier change.later (optimal-unique now change.earlier change.later optimal change.later_optimal)
