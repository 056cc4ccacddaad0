use Rattle.std.proofs.Common.{◌≡◌, sym, subst, ℕ, Bool, List, ◌+◌, ◌<◌, [], ◌∷◌, ◌++◌, Some, IfSome, true, false, All, drop, take, get_or, length, slice_get, arith}
use Rattle.std.proofs.lemmas.List.{length-map}
use Rattle.std.proofs.lemmas.Option.{slice_get-get_or}
use Rattle.sc_papers.specs.Market.{Market, schools_of, student_at, students_of}
use Rattle.sc_papers.specs.Restriction.{joined}
use Rattle.sc_papers.specs.declared.rejection.Rejection.{Rejection}
use Rattle.sc_ledgers.specs.Cohort.{cut, Cohort}
use Rattle.sc_ledgers.specs.Course.{labels_of}
use Rattle.sc_ledgers.specs.Elsewhere.{cohort_of, is_aside}
use Rattle.sc_ledgers.specs.Ends.{NamesNone}
use Rattle.sc_ledgers.specs.Proposals.{end_of}
use Rattle.sc_ledgers.specs.Sweep.{is_amended, IsNext, IsTaken}
use Rattle.sc_ledgers.specs.Ledger.{log_at, AreMadeToo, IsRefusedToo}
use Rattle.sc_ledgers.specs.Marks.{marked_in, IsNamed, MarksFollow}
use Rattle.sc_ledgers.proofs.Sweeping.{due-of, stays-of, swept-anew, swept-stays, unamended}
use Rattle.sc_ledgers.proofs.Turning.{at-marked, named-inner, named-known, nobody-marked, rest-made, segment-inside, throughout-follow, turn-within, unended}
use Rattle.sc_ledgers.proofs.sweep.take_turn.Goals as goal
use Rattle.sc_ledgers.proofs.sweep.take_turn.Goals.{After-is_still}

student-here : (n : Market) (k : ℕ) → k < length (students_of n) → slice_get (students_of n) k ≡ Some (student_at n k)
student-here n k low = slice_get-get_or (students_of n) k 0 low

pub is_still-requires : goal.is_still-requires
is_still-requires c =
    let (m, olds, news, reseated, next) = c.requires.next in
    omega (arith, turn-within next, length-map c.args.rows.now.papers.now.students (λ e. e.0))

-- what is known of a turn that stays
module _ (c : After-is_still) (still : c.is_still.result ≡ true) {m : Cohort} {olds news : List (List Rejection)} {reseated : ℕ → Bool} (next : IsNext m (cohort_of c.args.rows.now) c.args.rows.now.amended c.args.rows.now.before.now reseated olds news c.args.turn c.args.old.now (labels_of c.args.rows.now.papers.now c.args.ledgers.now.items) c.args.stances.now c.args.marks.now) where
  abbrev n : Market
  n = c.args.rows.now.papers.now

  abbrev i : ℕ
  i = student_at n c.args.turn

  here : slice_get (students_of n) c.args.turn ≡ Some i
  here = student-here n c.args.turn (turn-within next)

  beside : is_amended c.args.rows.now.amended i ≡ false
  beside = c.is_still.ensures.beside still

  parts : (p : ℕ) × All (IsRefusedToo n (marked_in n c.args.marks.now.flags) (labels_of n c.args.ledgers.now.items) c.args.turn i) (take p c.args.old.now) × All (λ e. marked_in n c.args.marks.now.flags e.school ≡ false) (drop p c.args.old.now)
  parts = subst (λ ledgers. (p : ℕ) × All (IsRefusedToo n (marked_in n c.args.marks.now.flags) (labels_of n ledgers) c.args.turn i) (take p c.args.old.now) × All (λ e. marked_in n c.args.marks.now.flags e.school ≡ false) (drop p c.args.old.now)) c.deref.ensures.value (c.is_still.ensures.made_too still)

  made : AreMadeToo (cut (cohort_of c.args.rows.now) (c.args.turn + 1)) (marked_in n c.args.marks.now.flags) (is_aside c.args.stances.now) (joined news) c.args.old.now
  made = rest-made next.both next.swept i c.args.old.now parts.0 here beside next.here parts.1 parts.2

  pub names-none : NamesNone c.args.rows.now.amended i c.args.old.now
  names-none = (beside, unamended next.both next.swept i c.args.old.now here beside next.here made)

  pub taken : IsTaken m (cohort_of c.args.rows.now) c.args.rows.now.amended reseated olds news c.args.turn c.args.old.now (labels_of n c.args.ledgers.now.items) c.args.stances.now c.args.marks.now
  taken = record {
    swept = swept-stays (stays-of next.both next.swept i c.args.old.now here beside next.here made
        (nobody-marked next.both next.swept i c.args.old.now parts.0 here beside next.here parts.1 parts.2 made
        (unended n c.args.marks.now.flags (end_of n i c.args.old.now) c.args.end (c.requires.ended names-none) (c.is_still.ensures.unended still)))) next.swept;
    throughout = next.throughout;
  }

pub returns-then-is_still-clause-taken : goal.returns-then-is_still-clause-taken
returns-then-is_still-clause-taken c m olds news reseated next = taken (goal.at.returns-then-is_still-clause-taken c).After-is_still c.if-is_still.true next

pub returns-then-is_still-clause-beside : goal.returns-then-is_still-clause-beside
returns-then-is_still-clause-beside c none =
    let (m, olds, news, reseated, next) = c.requires.next in
    names-none (goal.at.returns-then-is_still-clause-beside c).After-is_still c.if-is_still.true next

pub retake-requires-clause-due : goal.retake-requires-clause-due
retake-requires-clause-due c =
    let n = c.args.rows.now.papers.now in
    let (m, olds, news, reseated, next) = c.requires.next in
    (m, olds, news, student_at n c.args.turn, next.here, due-of next.both next.swept (student_at n c.args.turn) (student-here n c.args.turn (turn-within next)))

pub follow-requires-clause-known : goal.follow-requires-clause-known
follow-requires-clause-known c =
    let n = c.args.rows.now.papers.now in
    let k : ℕ = c.args.turn in
    let (m, olds, news, reseated, next) = c.requires.next in
    let i : ℕ = student_at n c.args.turn in
    let due = due-of next.both next.swept i (student-here n k (turn-within next)) in
    let done = c.in_ok-retake.ensures.retaken m olds news i next.here due in
    λ s named. named-known next.both (k + 1) (log_at olds (k + 1)) (joined (news ++ c.retake.new.chain.items ∷ [])) c.retake.new.stances done.stances s (subst (λ list. IsNamed list s) c.as_slice.ensures.value named)

pub returns-clause-taken : goal.returns-clause-taken
returns-clause-taken c m olds news reseated next =
    let n = c.args.rows.now.papers.now in
    let k : ℕ = c.args.turn in
    let i : ℕ = student_at n c.args.turn in
    let due = due-of next.both next.swept i (student-here n k (turn-within next)) in
    let done = c.in_ok-retake.ensures.retaken m olds news i next.here due in
    let follows = subst (λ list. MarksFollow n list c.args.marks.now c.follow.new.self) c.as_slice.ensures.value c.in_ok-follow.ensures.follows in
    let through = throughout-follow n c.retake.new.stances c.args.marks.now c.follow.new.self reseated follows next.throughout in
    record {
      swept = swept-anew next.swept due done (marked_in n c.follow.new.self.flags) (at-marked n c.retake.new.stances c.args.marks.now c.follow.new.self follows) through.always;
      throughout = through.still;
    }

pub returns-clause-inside : goal.returns-clause-inside
returns-clause-inside c m olds news reseated test inner next region passes inside =
    let n = c.args.rows.now.papers.now in
    let k : ℕ = c.args.turn in
    let i : ℕ = student_at n c.args.turn in
    let here = student-here n k (turn-within next) in
    let due = due-of next.both next.swept i here in
    let done = c.in_ok-retake.ensures.retaken m olds news i next.here due in
    let follows = subst (λ list. MarksFollow n list c.args.marks.now c.follow.new.self) c.as_slice.ensures.value c.in_ok-follow.ensures.follows in
    let among = c.in_ok-retake.ensures.among m olds news i test inner next.here due region.new passes (segment-inside test inner next.both region.old k i c.args.old.now due.here_m next.here passes) inside.among in
    record {
      among = among;
      marked = follows.passes (λ p. inner (get_or (schools_of n) p 0)) inside.one (named-inner next.both region (k + 1) (log_at olds (k + 1)) (joined (news ++ c.retake.new.chain.items ∷ [])) c.retake.new.stances done.stances among);
      one = subst (λ found. IfSome found (λ p. inner (get_or (schools_of n) p 0) ≡ true)) (sym follows.always) inside.one;
    }
