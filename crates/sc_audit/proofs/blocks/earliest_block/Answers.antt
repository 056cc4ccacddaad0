use Rattle.std.proofs.Common.{ℕ, ◌≡◌, ◌≤◌, ◌==◌, ◌∙◌, ap, sym, Bool, false, length, slice_get, Option, Some, arith}
use Rattle.std.specs.Option.{option_map_or}
use Rattle.sc_papers.specs.Assignment.{assigned}
use Rattle.sc_papers.specs.Market.{choices_of, student_at, students_of, Market}
use Rattle.sc_papers.specs.Matching.{Matching}
use Rattle.sc_papers.specs.declared.limits.TheConstants.{LONGEST_LIST}
use Rattle.sc_papers.proofs.Choices.{contains-at, places-end}
use Rattle.sc_papers.proofs.Hands.{hand-is}
use Rattle.sc_papers.proofs.Students.{choice-known, choices-short}
use Rattle.sc_audit.proofs.Blocking.{passed-none, passed-more, taken-block, given-none, all-none}
use Rattle.sc_audit.proofs.blocks.earliest_block.Goals as goal

-- whether the student at a position is given a school, as was found by their number
given-at : (m : Market) (a : Matching) (at s : ℕ) {i : ℕ} {given : Option ℕ} {found : Bool} → slice_get (students_of m) at ≡ Some i → given ≡ a i → found ≡ option_map_or (λ t. t == s) given false
    → option_map_or (λ t. t == s) (a (student_at m at)) false ≡ found
given-at m a at s {i} here is tested = ap (λ o. option_map_or (λ t. t == s) o false) (ap a (hand-is m at i here) ∙ sym is) ∙ sym tested

pub loop-rank-init : goal.loop-rank-init
loop-rank-init c = passed-none c.args.papers.now (assigned c.args.assignment.now) (student_at c.args.papers.now c.args.position)

pub returns-in_default-choice_at-clause-none : goal.returns-in_default-choice_at-clause-none
returns-in_default-choice_at-clause-none c =
    let m = c.args.papers.now in
    let i : ℕ = student_at m c.args.position in
    all-none m (assigned c.args.assignment.now) c.students_len.ensures.well_formed c.requires.matching i c.loop-rank.rank c.loop-rank.invariant (places-end (choices_of m i) c.loop-rank.rank (sym c.choice_at.ensures ∙ c.in_default-choice_at.is))

pub would_take-requires-clause-school : goal.would_take-requires-clause-school
would_take-requires-clause-school c =
    let m = c.args.papers.now in
    let i : ℕ = student_at m c.args.position in
    choice-known m c.students_len.ensures.well_formed i c.in-Some-choice_at.school (contains-at (choices_of m i) c.loop-rank.rank c.in-Some-choice_at.school (sym c.choice_at.ensures ∙ c.in-Some-choice_at.is))

pub returns-then-is_given-clause-none : goal.returns-then-is_given-clause-none
returns-then-is_given-clause-none c =
    let m = c.args.papers.now in
    let a = assigned c.args.assignment.now in
    let i : ℕ = student_at m c.args.position in
    let s = c.in-Some-choice_at.school in
    given-none m a c.students_len.ensures.well_formed c.requires.matching i c.loop-rank.rank c.loop-rank.invariant s (sym c.choice_at.ensures ∙ c.in-Some-choice_at.is) (given-at m a c.args.position s (sym c.in-Some.ensures) c.get-given.ensures c.is_given.ensures ∙ c.if-is_given.true)

pub returns-then-would_take-clause-block : goal.returns-then-would_take-clause-block
returns-then-would_take-clause-block c =
    let m = c.args.papers.now in
    let a = assigned c.args.assignment.now in
    let i : ℕ = student_at m c.args.position in
    let s = c.in-Some-choice_at.school in
    taken-block m a c.students_len.ensures.well_formed c.requires.matching i c.loop-rank.rank c.loop-rank.invariant s (sym c.choice_at.ensures ∙ c.in-Some-choice_at.is) (given-at m a c.args.position s (sym c.in-Some.ensures) c.get-given.ensures c.is_given.ensures ∙ c.if-is_given.false)
    (sym (c.would_take.ensures a c.requires.tallies) ∙ c.if-would_take.true)

pub loop-rank-preserved : goal.loop-rank-preserved
loop-rank-preserved c =
    let m = c.args.papers.now in
    let a = assigned c.args.assignment.now in
    let i : ℕ = student_at m c.args.position in
    let s = c.in-Some-choice_at.school in
    passed-more m a i c.loop-rank.rank s (sym c.choice_at.ensures ∙ c.in-Some-choice_at.is) (given-at m a c.args.position s (sym c.in-Some.ensures) c.get-given.ensures c.is_given.ensures ∙ c.if-is_given.false)
    (sym (c.would_take.ensures a c.requires.tallies) ∙ c.if-would_take.false) c.loop-rank.invariant

pub returns-clause-none : goal.returns-clause-none
returns-clause-none c =
    let m = c.args.papers.now in
    let i : ℕ = student_at m c.args.position in
    let short : length (choices_of m i) ≤ LONGEST_LIST = choices-short m c.students_len.ensures.within_limits i in
    all-none m (assigned c.args.assignment.now) c.students_len.ensures.well_formed c.requires.matching i c.loop-rank.rank c.loop-rank.invariant (omega arith)
