use Rattle.std.proofs.Common.{◌≡◌, refl, sym, inl, inr, true, Contains, ap, subst, ◌∙◌, take, if◌then◌else◌, arith}
use Rattle.std.proofs.lemmas.Bool.{cond-false, cond-true}
use Rattle.std.proofs.lemmas.List.{length-map}
use Rattle.std.proofs.lemmas.List.Elements.{Contains-push_cases}
use Rattle.sc_papers.specs.Market.{student_at}
use Rattle.sc_checkpoint.specs.Chains.{logs_in, students_in, with_chain}
use Rattle.sc_ledgers.specs.Course.{labels_of}
use Rattle.sc_ledgers.specs.Elsewhere.{cohort_of}
use Rattle.sc_ledgers.specs.Ends.{place_of, NamesNone}
use Rattle.sc_ledgers.specs.Proposals.{end_of}
use Rattle.sc_ledgers.specs.Renewed.{anew}
use Rattle.sc_ledgers.specs.Sweep.{IsNext, IsTaken}
use Rattle.sc_ledgers.proofs.Along.{sweeping-anew, sweeping-end, sweeping-many, sweeping-next, sweeping-still}
use Rattle.sc_ledgers.proofs.Owners.{owners-push}
use Rattle.sc_ledgers.proofs.passage.take_next.Goals as goal

pub returns-in_ok-push-clause-swept : goal.returns-in_ok-push-clause-swept
returns-in_ok-push-clause-swept c m reseated test inner sweeping passes =
    let rows = c.args.rows.now in
    let old = logs_in c.args.segments.now in
    let news = take c.args.position (anew old c.args.renewal.now) in
    let rest = c.segment-old.result.now in
    let next : IsNext m (cohort_of rows) rows.amended rows.before.now reseated old news c.turn_at-turn.result rest (labels_of rows.papers.now c.args.ledgers.now.schools.items) c.args.stances.now c.args.marks.now =
    subst (λ k. IsNext m (cohort_of rows) rows.amended rows.before.now reseated old news k rest (labels_of rows.papers.now c.args.ledgers.now.schools.items) c.args.stances.now c.args.marks.now) (sym c.turn_at-turn.ensures) (sweeping-next rest c.segment-old.ensures sweeping) in
    let told = c.in_ok-take_turn.ensures.taken m old news reseated next in
    let taken = subst (λ segment. IsTaken m (cohort_of rows) rows.amended reseated old news c.args.position segment (labels_of rows.papers.now c.take_turn.new.ledgers.items) c.take_turn.new.stances c.take_turn.new.marks)
    (cond-true c.in_ok-take_turn.field-0 c.take_turn.new.chain.items rest c.if-branch.true) (subst (λ k. IsTaken m (cohort_of rows) rows.amended reseated old news k (if c.in_ok-take_turn.field-0 then c.take_turn.new.chain.items else rest) (labels_of rows.papers.now c.take_turn.new.ledgers.items) c.take_turn.new.stances c.take_turn.new.marks) c.turn_at-turn.ensures told) in
    let inside = c.in_ok-take_turn.ensures.inside m old news reseated test inner next sweeping.region (subst (λ k. test (student_at rows.papers.now k) ≡ true) (sym c.turn_at-turn.ensures) passes) sweeping.inside in
    sweeping-anew c.take_turn.new.chain.items c.student.result c.push.new.self c.end_place-end.result (omega (arith, c.requires.within, length-map c.args.segments.now (λ x. x.rejections))) sweeping taken inside c.in_ok-push.ensures.positions
    (c.in_ok-push.ensures.chains ∙ ap (with_chain c.args.renewal.now.chains c.student.result) c.as_slice-then-branch.ensures.value)
    (subst (λ chain. c.end_place-end.result ≡ place_of rows.papers.now (end_of rows.papers.now (student_at rows.papers.now c.args.position) chain)) c.as_slice.ensures.value c.end_place-end.ensures.place) c.set.ensures

pub returns-else-branch-clause-swept : goal.returns-else-branch-clause-swept
returns-else-branch-clause-swept c m reseated test inner sweeping passes =
    let rows = c.args.rows.now in
    let old = logs_in c.args.segments.now in
    let news = take c.args.position (anew old c.args.renewal.now) in
    let rest = c.segment-old.result.now in
    let next : IsNext m (cohort_of rows) rows.amended rows.before.now reseated old news c.turn_at-turn.result rest (labels_of rows.papers.now c.args.ledgers.now.schools.items) c.args.stances.now c.args.marks.now =
    subst (λ k. IsNext m (cohort_of rows) rows.amended rows.before.now reseated old news k rest (labels_of rows.papers.now c.args.ledgers.now.schools.items) c.args.stances.now c.args.marks.now) (sym c.turn_at-turn.ensures) (sweeping-next rest c.segment-old.ensures sweeping) in
    let told = c.in_ok-take_turn.ensures.taken m old news reseated next in
    let taken = subst (λ segment. IsTaken m (cohort_of rows) rows.amended reseated old news c.args.position segment (labels_of rows.papers.now c.take_turn.new.ledgers.items) c.take_turn.new.stances c.take_turn.new.marks)
    (cond-false c.in_ok-take_turn.field-0 c.take_turn.new.chain.items rest c.if-branch.false) (subst (λ k. IsTaken m (cohort_of rows) rows.amended reseated old news k (if c.in_ok-take_turn.field-0 then c.take_turn.new.chain.items else rest) (labels_of rows.papers.now c.take_turn.new.ledgers.items) c.take_turn.new.stances c.take_turn.new.marks) c.turn_at-turn.ensures told) in
    let inside = c.in_ok-take_turn.ensures.inside m old news reseated test inner next sweeping.region (subst (λ k. test (student_at rows.papers.now k) ≡ true) (sym c.turn_at-turn.ensures) passes) sweeping.inside in
    sweeping-still rest c.segment-old.ensures sweeping taken inside (subst (λ k. NamesNone rows.amended (student_at rows.papers.now k) rest) c.turn_at-turn.ensures (c.in_ok-take_turn.ensures.beside c.if-branch.false)) refl

pub returns-in_ok-push-clause-here : goal.returns-in_ok-push-clause-here
returns-in_ok-push-clause-here c p here =
    elim (Contains-push_cases c.args.renewal.now.positions c.args.position p (subst (λ xs. Contains xs p) c.in_ok-push.ensures.positions here)) [
      | inl before ↦ inl before
      | inr now ↦ inr (sym now)
    ]

pub returns-in_ok-push-clause-owners : goal.returns-in_ok-push-clause-owners
returns-in_ok-push-clause-owners c theirs =
    owners-push (students_in c.args.segments.now) c.args.renewal.now c.push.new.self c.args.position c.student.result c.as_slice-then-branch.result.now c.student.ensures c.in_ok-push.ensures.positions c.in_ok-push.ensures.chains theirs

pub get-end-requires : goal.get-end-requires
get-end-requires c =
    let (m, reseated, test, inner, sweeping) = c.requires.sweeping in
    omega (arith, c.requires.within, sweeping-many sweeping, length-map c.args.segments.now (λ x. x.rejections))

pub take_turn-requires-clause-ended : goal.take_turn-requires-clause-ended
take_turn-requires-clause-ended c names =
    let n = c.args.rows.now.papers.now in
    let rest = c.segment-old.result.now in
    let (m, reseated, test, inner, sweeping) = c.requires.sweeping in
    subst (λ k. c.get-end.result ≡ place_of n (end_of n (student_at n k) rest)) (sym c.turn_at-turn.ensures)
    (c.get-end.ensures ∙ sweeping-end rest c.segment-old.ensures sweeping (subst (λ k. NamesNone c.args.rows.now.amended (student_at n k) rest) c.turn_at-turn.ensures names))

pub set-requires-clause-within : goal.set-requires-clause-within
set-requires-clause-within c =
    let (m, reseated, test, inner, sweeping) = c.requires.sweeping in
    omega (arith, c.requires.within, sweeping-many sweeping, length-map c.args.segments.now (λ x. x.rejections))
