use Rattle.std.proofs.Common.{◌≡◌, refl, sym, subst, ◌∙◌, ℕ, ◌+◌, [], ◌++◌, All, true, false, not, Bool, arith}
use Rattle.std.proofs.lemmas.Bool.{false≢true}
use Rattle.std.proofs.lemmas.List.{length-map}
use Rattle.std.proofs.lemmas.Option.{slice_get-get_or}
use Rattle.sc_papers.specs.Market.{student_at, students_of}
use Rattle.sc_papers.specs.Log.{IsValidAfter}
use Rattle.sc_papers.specs.Restriction.{joined}
use Rattle.sc_papers.proofs.Standings.{valid-rest}
use Rattle.sc_ledgers.specs.Cohort.{cut}
use Rattle.sc_ledgers.specs.Elsewhere.{cohort_of, still_enters, AreStances}
use Rattle.sc_ledgers.proofs.Cohorts.{well-cut}
use Rattle.sc_ledgers.proofs.Coursing.{valid-first}
use Rattle.sc_ledgers.proofs.Retaking.{has-rows}
use Rattle.sc_ledgers.proofs.sweep.run_turn.Goals as goal

stays : (b : Bool) → not b ≡ false → b ≡ true
stays true is = refl
stays false is = absurd (false≢true (sym is))

gone : (b : Bool) → not b ≡ true → b ≡ true → ⊥
gone true is other = false≢true is
gone false is other = false≢true other

pub returns-then-has_left-clause-ran : goal.returns-then-has_left-clause-ran
returns-then-has_left-clause-ran c news enters begins = absurd (gone (still_enters c.args.rows.now (student_at c.args.rows.now.papers.now c.args.turn)) (sym c.has_left.ensures ∙ c.if-has_left.true) enters)

pub returns-clause-left : goal.returns-clause-left
returns-clause-left c left = absurd (false≢true (sym left ∙ stays (still_enters c.args.rows.now (student_at c.args.rows.now.papers.now c.args.turn)) (sym c.has_left.ensures ∙ c.if-has_left.false)))

pub returns-clause-ran : goal.returns-clause-ran
returns-clause-ran c news enters begins =
    let n = c.args.rows.now.papers.now in
    let p = cohort_of c.args.rows.now in
    let k : ℕ = c.args.turn in
    let chain = c.run_chain.new.chain.items in
    let ended = c.in_ok-run_chain.ensures.ended (still_enters c.args.rows.now) news begins in
    record {
      ended = ended;
      among = λ test inner together first among. c.in_ok-follow.ensures.among test
          (subst (All (λ e. test e.student ≡ true)) (sym c.as_slice.ensures.value)
          (c.in_ok-run_chain.ensures.among (still_enters c.args.rows.now) news test inner begins together
          (first (student_at n c.args.turn) (slice_get-get_or (students_of n) c.args.turn 0 (omega (arith, c.requires.within, length-map n.students (λ e. e.0))))))) among;
      stances = λ m log well stances.
          subst (λ l. AreStances m (cut p (k + 1)) log (joined news ++ l) c.follow.new.stances) c.as_slice.ensures.value
          (c.in_ok-follow.ensures.followed (cut p (k + 1)) m (joined news) log (well-cut p (k + 1) well)
          (has-rows p (k + 1) _ well (λ j. refl)) (valid-first (cut p (k + 1)) [] (joined news) chain ended.settled.valid) (subst (IsValidAfter (cut p (k + 1)) (joined news)) (sym c.as_slice.ensures.value) (valid-rest (cut p (k + 1)) [] (joined news) chain ended.settled.valid)) stances);
    }
