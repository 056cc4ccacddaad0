use Rattle.std.proofs.Common.{◌≡◌, inl, inr, refl, sym, ap, subst, ◌∙◌, ℕ, ◌+◌, [], ◌∷◌, ◌++◌, Some, false, true, slice_get, append-nil, arith}
use Rattle.std.proofs.lemmas.Bool.{cases_Bool}
use Rattle.sc_papers.specs.Market.{choices_of, student_at}
use Rattle.std.proofs.lemmas.Option.{same_Some, slice_get_within}
use Rattle.sc_papers.specs.Log.{IsValidLog}
use Rattle.sc_papers.specs.Restriction.{joined}
use Rattle.sc_papers.proofs.Cutting.{joined-push}
use Rattle.sc_papers.proofs.Hands.{hand-is}
use Rattle.sc_ledgers.specs.Cohort.{Cohort, cut}
use Rattle.sc_ledgers.specs.Course.{labels_of, Ended, HasNone}
use Rattle.sc_ledgers.specs.Elsewhere.{cohort_of, first_of, still_enters, AreAmong, AreStances, HasPut}
use Rattle.sc_ledgers.specs.Ledger.{log_at}
use Rattle.sc_ledgers.specs.Sweep.{is_amended}
use Rattle.sc_ledgers.proofs.Cohorts.{well-cut}
use Rattle.sc_ledgers.proofs.Coursing.{valid-first}
use Rattle.sc_ledgers.proofs.Retaking.{begins, ends-left, entered, first-now, has-rows, left-apart, left-held, relabels-struck, strikes-of}
use Rattle.sc_ledgers.proofs.Siding.{dropped-among, put-among, stances-dropped}
use Rattle.sc_ledgers.proofs.Staying.{log-after, valid-turn}
use Rattle.sc_ledgers.proofs.sweep.retake.Goals as goal

pub run_turn-requires-clause-begins : goal.run_turn-requires-clause-begins
run_turn-requires-clause-begins c =
    let n = c.args.rows.now.papers.now in
    let (m, olds, news, i, at, due) = c.requires.due in
    let is : student_at n c.args.turn ≡ i = hand-is n c.args.turn i due.here_n in
    let struck = labels_of n c.strike_turn.new.ledgers.items in (
      news,
      λ enters. begins due c.args.old.now struck (ap (still_enters c.args.rows.now) (sym is) ∙ enters) (strikes-of due c.args.old.now struck at c.strike_turn.ensures.struck
          (subst (λ j. (s : ℕ) → slice_get (choices_of n j) 0 ≡ Some s → HasNone n c.args.turn j s struck) is c.strike_turn.ensures.first) c.strike_turn.ensures.later),
    )

pub returns-clause-retaken : goal.returns-clause-retaken
returns-clause-retaken c m olds news i at due =
    let n = c.args.rows.now.papers.now in
    let p : Cohort = cohort_of c.args.rows.now in
    let k : ℕ = c.args.turn in
    let amended = c.args.rows.now.amended in
    let rest = c.args.old.now in
    let chain = c.run_turn.new.chain.items in
    let is : student_at n c.args.turn ≡ i = hand-is n c.args.turn i due.here_n in
    let labels = labels_of n c.args.ledgers.now.items in
    let struck = labels_of n c.strike_turn.new.ledgers.items in
    let now = labels_of n c.run_turn.new.ledgers.items in
    let strikes = strikes-of due rest struck at c.strike_turn.ensures.struck
    (subst (λ j. (s : ℕ) → slice_get (choices_of n j) 0 ≡ Some s → HasNone n k j s struck) is c.strike_turn.ensures.first) c.strike_turn.ensures.later in
    let first = entered due c.enter.new.stances (first_of c.args.rows.now i) (first-now due c.args.rows.now.leaves refl)
    (subst (λ j. is_amended amended j ≡ false → c.enter.new.stances ≡ c.args.stances.now) is c.in_ok-enter.ensures.others)
    (subst (λ j. is_amended amended j ≡ true → HasPut c.args.stances.now c.enter.new.stances (record { student = j; old = slice_get c.args.rows.now.before.now 0; new = first_of c.args.rows.now j })) is c.in_ok-enter.ensures.theirs) in
    let second : AreStances (cut m (k + 1)) (cut p (k + 1)) (log_at olds k ++ rest) (joined news) c.follow.new.stances =
    c.in_ok-follow.ensures.followed (cut m (k + 1)) (cut p (k + 1)) (log_at olds k) (joined news) (well-cut m (k + 1) due.well_m)
    (has-rows m (k + 1) _ due.well_m due.rows) (valid-first (cut m (k + 1)) [] (log_at olds k) rest (subst (IsValidLog (cut m (k + 1))) (log-after olds k rest at) (due.older.settled (k + 1) (omega (arith, due.older.one_each, slice_get_within olds k rest at))).valid)) (valid-turn m olds k rest due.older at) first.0 in
    let ran : Ended p news k chain struck now × AreStances (cut m (k + 1)) (cut p (k + 1)) (log_at olds k ++ rest) (joined news ++ chain) c.run_turn.new.stances =
    elim (cases_Bool (still_enters c.args.rows.now i)) [
      | inl enters ↦
          let run = c.in_ok-run_turn.ensures.ran news (ap (still_enters c.args.rows.now) is ∙ enters) (begins due rest struck enters strikes) in
          (run.ended, run.stances (cut m (k + 1)) (log_at olds k ++ rest) due.well_n second)
      | inr left ↦
          let (empty, same, still) = c.in_ok-run_turn.ensures.left (ap (still_enters c.args.rows.now) is ∙ left) in (
            subst (λ ledgers. Ended p news k chain struck (labels_of n ledgers)) (sym same) (subst (λ l. Ended p news k l struck struck) (sym empty) (ends-left due rest struck left strikes)),
            subst (λ l. AreStances (cut m (k + 1)) (cut p (k + 1)) (log_at olds k ++ rest) (joined news ++ l) c.run_turn.new.stances) (sym empty)
                (subst (λ l. AreStances (cut m (k + 1)) (cut p (k + 1)) (log_at olds k ++ rest) l c.run_turn.new.stances) (sym (append-nil (joined news)))
                (subst (AreStances (cut m (k + 1)) (cut p (k + 1)) (log_at olds k ++ rest) (joined news)) (sym still) second)),
          )
    ] in
    record {
      ended = record { settled = ran.0.settled; relabels = relabels-struck p news chain k labels struck now c.strike_turn.ensures.struck ran.0.relabels; own = ran.0.own };
      stances = subst (λ l. AreStances (cut m (k + 1)) (cut p (k + 1)) l (joined (news ++ chain ∷ [])) c.drop_alike.new.self) (sym (log-after olds k rest at))
          (subst (λ l. AreStances (cut m (k + 1)) (cut p (k + 1)) (log_at olds k ++ rest) l c.drop_alike.new.self) (sym (joined-push news chain))
          (stances-dropped (cut m (k + 1)) (cut p (k + 1)) (log_at olds k ++ rest) (joined news ++ chain) c.run_turn.new.stances c.drop_alike.new.self amended ran.1 c.drop_alike.ensures));
      held = left-held c.run_turn.new.stances c.drop_alike.new.self amended c.drop_alike.ensures (λ j it. c.in_ok-run_turn.ensures.kept j (c.in_ok-follow.ensures.kept j (first.1 j it)));
      apart = left-apart c.run_turn.new.stances c.drop_alike.new.self amended c.drop_alike.ensures;
    }

pub returns-clause-among : goal.returns-clause-among
returns-clause-among c m olds news i test inner at due together passes all among =
    let n = c.args.rows.now.papers.now in
    let k : ℕ = c.args.turn in
    let amended = c.args.rows.now.amended in
    let is : student_at n c.args.turn ≡ i = hand-is n c.args.turn i due.here_n in
    let struck = labels_of n c.strike_turn.new.ledgers.items in
    let strikes = strikes-of due c.args.old.now struck at c.strike_turn.ensures.struck
    (subst (λ j. (s : ℕ) → slice_get (choices_of n j) 0 ≡ Some s → HasNone n k j s struck) is c.strike_turn.ensures.first) c.strike_turn.ensures.later in
    let first : AreAmong test c.enter.new.stances = elim (cases_Bool (is_amended amended i)) [
      | inr beside ↦ subst (AreAmong test) (sym (c.in_ok-enter.ensures.others (ap (is_amended amended) is ∙ beside))) among
      | inl theirs ↦ put-among test c.args.stances.now c.enter.new.stances (record { student = student_at n c.args.turn; old = slice_get c.args.rows.now.before.now 0; new = first_of c.args.rows.now (student_at n c.args.turn) }) (c.in_ok-enter.ensures.theirs (ap (is_amended amended) is ∙ theirs)) (ap test is ∙ passes) among
    ] in
    let second = c.in_ok-follow.ensures.among test all first in
    dropped-among test c.run_turn.new.stances c.drop_alike.new.self amended c.drop_alike.ensures (elim (cases_Bool (still_enters c.args.rows.now i)) [
      | inl enters ↦
          (c.in_ok-run_turn.ensures.ran news (ap (still_enters c.args.rows.now) is ∙ enters) (begins due c.args.old.now struck enters strikes)).among test inner together
          (λ j here. ap test (same_Some j i (sym here ∙ due.here_n)) ∙ passes) second
      | inr left ↦ subst (AreAmong test) (sym (c.in_ok-run_turn.ensures.left (ap (still_enters c.args.rows.now) is ∙ left)).2) second
    ])
