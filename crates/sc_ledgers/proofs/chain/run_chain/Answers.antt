use Rattle.std.proofs.Common.{◌≡◌, sym, ap, subst, ◌∙◌, [], ◌∷◌, ◌++◌, Option, All, IfSome, true, Contains, length, arith}
use Rattle.std.proofs.lemmas.Option.{slice_get-get_or}
use Rattle.std.proofs.lemmas.List.{length-map, length_push}
use Rattle.std.proofs.lemmas.List.Elements.{All-nil, All-push}
use Rattle.sc_papers.specs.Market.{choices_of, student_at, students_of}
use Rattle.sc_papers.specs.Restriction.{joined}
use Rattle.sc_papers.specs.declared.rejection.Rejection.{Rejection}
use Rattle.sc_papers.proofs.Hands.{position-low, student-there}
use Rattle.sc_ledgers.specs.Cohort.{cohort}
use Rattle.sc_ledgers.specs.Course.{labels_of, Came, Course}
use Rattle.sc_ledgers.proofs.Coursing.{came-listed, chain-bounded, course-begins, course-goes}
use Rattle.sc_ledgers.proofs.chain.run_chain.Goals as goal

pub loop-entry-init : goal.loop-entry-init
loop-entry-init c =
    let m = c.args.papers.now in
    let (enters, given, starts) = c.requires.begins in (
      starts.within,
      c.requires.one_each,
      λ enters new test inner begins together first. (first, subst (All (λ e. test e.student ≡ true)) (sym c.requires.none) (All-nil (λ (e : Rejection). test e.student ≡ true))),
      λ enters new begins.
          subst (λ chain. Course (cohort m enters) new c.args.turn (joined new ++ chain) (student_at m c.args.turn) 0 (labels_of m c.args.ledgers.now.items) (labels_of m c.args.ledgers.now.items)) (sym c.requires.none)
          (course-begins (cohort m enters) new c.args.turn (student_at m c.args.turn) (labels_of m c.args.ledgers.now.items) begins
          (slice_get-get_or (students_of m) c.args.turn 0 (omega (arith, begins.within, length-map m.students (λ e. e.0))))),
    )

pub hand_after-hand-requires : goal.hand_after-hand-requires
hand_after-hand-requires c =
    let m = c.args.papers.now in
    let (enters, given, starts) = c.requires.begins in
    let labels = labels_of m c.args.ledgers.now.items in
    let now = labels_of m c.propose.new.ledgers.items in
    let came = subst (λ (out : Option Rejection). Came (cohort m enters) given c.args.turn c.loop-entry.chain.items labels now out) c.in-Some.is (c.in_ok-entry.ensures.came enters given c.loop-entry.chain.items labels starts (c.loop-entry.invariant.3 enters given starts)) in
    record { listed = came-listed (cohort m enters) given c.args.turn c.loop-entry.chain.items c.in-Some.entry labels now starts came }

pub loop-entry-smaller : goal.loop-entry-smaller
loop-entry-smaller c =
    let m = c.args.papers.now in
    let (enters, given, starts) = c.requires.begins in
    let labels = labels_of m c.args.ledgers.now.items in
    let now = labels_of m c.propose.new.ledgers.items in
    let came = subst (λ (out : Option Rejection). Came (cohort m enters) given c.args.turn c.loop-entry.chain.items labels now out) c.in-Some.is (c.in_ok-entry.ensures.came enters given c.loop-entry.chain.items labels starts (c.loop-entry.invariant.3 enters given starts)) in
    omega (arith, chain-bounded (cohort m enters) given c.args.turn c.loop-entry.chain.items c.in-Some.entry labels now starts came, ap length c.in_ok-push.ensures.items, length_push c.loop-entry.chain.items c.in-Some.entry)

pub loop-entry-preserved : goal.loop-entry-preserved
loop-entry-preserved c =
    let m = c.args.papers.now in
    let labels = labels_of m c.args.ledgers.now.items in
    let now = labels_of m c.propose.new.ledgers.items in
    let e : Rejection = c.in-Some.entry in
    let (rank, at, next) = c.hand_after-hand.ensures.rank in (
      position-low m e.student c.hand_after-hand.result.position c.hand_after-hand.ensures.student,
      c.propose.ensures.one_each,
      λ enters new test inner begins together first.
          let (mine, all) = c.loop-entry.invariant.2 enters new test inner begins together first in
          let came = subst (λ (out : Option Rejection). Came (cohort m enters) new c.args.turn c.loop-entry.chain.items labels now out) c.in-Some.is (c.in_ok-entry.ensures.came enters new c.loop-entry.chain.items labels begins (c.loop-entry.invariant.3 enters new begins)) in
          let asked = subst (λ (out : Option Rejection). IfSome out (λ x. Contains (choices_of m (student_at m c.loop-entry.hand.position)) x.school)) c.in-Some.is c.in_ok-entry.ensures.asked in
          let passes : test e.student ≡ true = sym (together e.student e.school (came-listed (cohort m enters) new c.args.turn c.loop-entry.chain.items e labels now begins came)) ∙ together (student_at m c.loop-entry.hand.position) e.school asked ∙ mine in (
            ap test (student-there m e.student c.hand_after-hand.result.position c.hand_after-hand.ensures.student) ∙ passes,
            subst (All (λ x. test x.student ≡ true)) (sym c.in_ok-push.ensures.items) (All-push (λ (x : Rejection). test x.student ≡ true) c.loop-entry.chain.items e all passes),
          ),
      λ enters new begins.
          let came = subst (λ (out : Option Rejection). Came (cohort m enters) new c.args.turn c.loop-entry.chain.items labels now out) c.in-Some.is (c.in_ok-entry.ensures.came enters new c.loop-entry.chain.items labels begins (c.loop-entry.invariant.3 enters new begins)) in
          subst (λ chain. Course (cohort m enters) new c.args.turn (joined new ++ chain) (student_at m c.hand_after-hand.result.position) c.hand_after-hand.result.rank labels now) (sym c.in_ok-push.ensures.items)
          (subst (λ r. Course (cohort m enters) new c.args.turn (joined new ++ (c.loop-entry.chain.items ++ e ∷ [])) (student_at m c.hand_after-hand.result.position) r labels now) (sym next)
          (course-goes (cohort m enters) new c.args.turn c.loop-entry.chain.items e (student_at m c.hand_after-hand.result.position) rank labels now begins came
          (student-there m e.student c.hand_after-hand.result.position c.hand_after-hand.ensures.student) at)),
    )

pub returns-clause-among : goal.returns-clause-among
returns-clause-among c enters new test inner begins together first = (c.loop-entry.invariant.2 enters new test inner begins together first).1
