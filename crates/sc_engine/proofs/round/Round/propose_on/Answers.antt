use Rattle.std.proofs.Common.{◌≡◌, ap, subst, sym, ◌∙◌, ◌≤◌, ℕ, List, [], ◌∷◌, ◌++◌, Option, None, Some, append_assoc, append-nil, arith}
use Rattle.std.specs.Option.{option_map, option_to_list}
use Rattle.std.proofs.lemmas.List.{map-append}
use Rattle.sc_papers.specs.Market.{student_at}
use Rattle.sc_papers.specs.declared.proposal.Proposal.{Proposal}
use Rattle.sc_papers.specs.declared.rejection.Rejection.{Rejection}
use Rattle.sc_engine.specs.Round.{view_of}
use Rattle.sc_engine.specs.RoundView.{RoundView, choices_left}
use Rattle.sc_engine.specs.Together.{all_of, among, entries_of, PassesUnnoted, Waits}
use Rattle.sc_engine.specs.declared.round.chains.PutOut.{PutOut}
use Rattle.sc_engine.proofs.Steps.{proposes-ended}
use Rattle.sc_engine.proofs.Together.{waits_away, waits_forgotten, waits_passed, waits_proposed}
use Rattle.sc_engine.proofs.round.Round.propose_on.Given as given
use Rattle.sc_engine.proofs.round.Round.propose_on.Goals as goal
use Rattle.sc_engine.proofs.round.Round.propose_on.Goals.{After-pass_on, In_ok-out}

-- the student passes on, and still waits
passed : (g : given.Over) (c : After-pass_on g) (hands : List ℕ) (outs : List Rejection) → Waits c.args.papers.now (view_of g.R.Roll.keys g.R.Roll.seats c.args.self.now) (student_at c.args.papers.now c.args.proposer ∷ hands) outs
    → PassesUnnoted c.args.papers.now (view_of g.R.Roll.keys g.R.Roll.seats c.forget_log.new.self) (among (all_of (student_at c.args.papers.now c.args.proposer ∷ hands) outs)) (view_of g.R.Roll.keys g.R.Roll.seats c.pass_on.new.self) (student_at c.args.papers.now c.args.proposer)
    × Waits c.args.papers.now (view_of g.R.Roll.keys g.R.Roll.seats c.pass_on.new.self) (student_at c.args.papers.now c.args.proposer ∷ hands) outs
passed g c hands outs waits =
    let papers = c.args.papers.now in
    let old : RoundView = view_of g.R.Roll.keys g.R.Roll.seats c.args.self.now in
    let i : ℕ = student_at papers c.args.proposer in
    let forgotten = subst (λ (r : RoundView). Waits papers r (i ∷ hands) outs) (sym c.forget_log.ensures.forgotten) (waits_forgotten papers old (i ∷ hands) outs waits) in
    let on = c.pass_on.ensures.passed (among (all_of (i ∷ hands) outs)) (waits_away papers (view_of g.R.Roll.keys g.R.Roll.seats c.forget_log.new.self) i hands outs forgotten) in (
      on,
      waits_passed papers old (view_of g.R.Roll.keys g.R.Roll.seats c.pass_on.new.self) i hands outs waits (subst (λ (r : RoundView). PassesUnnoted papers r (among (all_of (i ∷ hands) outs)) (view_of g.R.Roll.keys g.R.Roll.seats c.pass_on.new.self) i) c.forget_log.ensures.forgotten on),
    )

-- those who wait after the offer, with whoever is put out
proposed : (g : given.Over) (c : In_ok-out g) (hands : List ℕ) (outs : List Rejection) → Waits c.args.papers.now (view_of g.R.Roll.keys g.R.Roll.seats c.args.self.now) (student_at c.args.papers.now c.args.proposer ∷ hands) (outs ++ entries_of c.args.waiting.now.items)
    → (one : Option PutOut) → c.in_ok-out.field-0 ≡ one → Waits c.args.papers.now (view_of g.R.Roll.keys g.R.Roll.seats c.offer_seat.new.self) hands (outs ++ entries_of (c.args.waiting.now.items ++ option_to_list one))
proposed g c hands outs waits one is =
    let papers = c.args.papers.now in
    let mid : RoundView = view_of g.R.Roll.keys g.R.Roll.seats c.pass_on.new.self in
    let new : RoundView = view_of g.R.Roll.keys g.R.Roll.seats c.offer_seat.new.self in
    let i : ℕ = student_at papers c.args.proposer in
    let waiting : List PutOut = c.args.waiting.now.items in
    let before : List Rejection = outs ++ entries_of waiting in
    let on = (passed g (goal.at.In_ok-out g c).After-pass_on hands before waits).1 in
    subst (λ (o : Option PutOut). Waits papers new hands (outs ++ entries_of (waiting ++ option_to_list o))) is
    (subst (Waits papers new hands) (more outs waiting c.in_ok-out.field-0)
    (waits_proposed papers mid new i hands before (option_map (λ (o : PutOut). o.entry) c.in_ok-out.field-0) on (c.in_ok-out.ensures (among (all_of (i ∷ hands) before)) (waits_away papers mid i hands before on))))
  where
    more : (outs : List Rejection) (waiting : List PutOut) (one : Option PutOut) → (outs ++ entries_of waiting) ++ option_to_list (option_map (λ (o : PutOut). o.entry) one) ≡ outs ++ entries_of (waiting ++ option_to_list one)
    more outs waiting None = append-nil (outs ++ entries_of waiting) ∙ ap (λ l. outs ++ entries_of l) (sym (append-nil waiting))
    more outs waiting (Some p) = append_assoc outs (entries_of waiting) (p.entry ∷ []) ∙ ap (λ l. outs ++ l) (sym (map-append (λ (o : PutOut). o.entry) waiting (p ∷ [])))

-- nobody goes back
less : (g : given.Over) (c : In_ok-out g) → choices_left c.args.papers.now c.offer_seat.new.self.ranks ≤ choices_left c.args.papers.now c.args.self.now.ranks
less g c =
    let papers = c.args.papers.now in
    let i : ℕ = student_at papers c.args.proposer in
    let (hands, outs, waits) = c.requires.wait in
    let (on, still) = passed g (goal.at.In_ok-out g c).After-pass_on hands outs waits in
    omega (
      arith,
      (c.in_ok-out.ensures (among (all_of (i ∷ hands) outs)) (waits_away papers (view_of g.R.Roll.keys g.R.Roll.seats c.pass_on.new.self) i hands outs still)).moves.left,
      on.passes.moves.left,
      ap (λ (r : RoundView). choices_left papers r.ranks) on.unnoted,
      ap (λ (r : RoundView). choices_left papers r.ranks) c.forget_log.ensures.forgotten,
    )

pub returns-in_default-clause-wait : goal.returns-in_default-clause-wait
returns-in_default-clause-wait g c hands outs waits =
    let papers = c.args.papers.now in
    let mid : RoundView = view_of g.R.Roll.keys g.R.Roll.seats c.pass_on.new.self in
    let i : ℕ = student_at papers c.args.proposer in
    let before : List Rejection = outs ++ entries_of c.args.waiting.now.items in
    let on = (passed g (goal.at.returns-in_default-clause-wait g c).After-pass_on hands before waits).1 in
    subst (Waits papers mid hands) (append-nil before)
    (waits_proposed papers mid mid i hands before None on
    (proposes-ended papers mid (among (all_of (i ∷ hands) before)) i (waits_away papers mid i hands before on) (sym c.pass_on.ensures.next.school ∙ ap (option_map (λ (p : Proposal). p.school)) c.in_default.is)))

pub offer_seat-requires-clause-away : goal.offer_seat-requires-clause-away
offer_seat-requires-clause-away g c =
    let (hands, outs, waits) = c.requires.wait in
    (_, waits_away c.args.papers.now (view_of g.R.Roll.keys g.R.Roll.seats c.pass_on.new.self) (student_at c.args.papers.now c.args.proposer) hands outs (passed g (goal.at.offer_seat-requires-clause-away g c).After-pass_on hands outs waits).1)

pub returns-in_ok-push_back-clause-wait : goal.returns-in_ok-push_back-clause-wait
returns-in_ok-push_back-clause-wait g c hands outs waits =
    subst (λ (l : List PutOut). Waits c.args.papers.now (view_of g.R.Roll.keys g.R.Roll.seats c.offer_seat.new.self) hands (outs ++ entries_of l)) (sym c.in_ok-push_back.ensures.items)
    (proposed g (goal.at.returns-in_ok-push_back-clause-wait g c).In_ok-out hands outs waits (Some c.in-Some-2.out) c.in-Some-2.is)

pub returns-in_ok-push_back-clause-left : goal.returns-in_ok-push_back-clause-left
returns-in_ok-push_back-clause-left g c = less g (goal.at.returns-in_ok-push_back-clause-left g c).In_ok-out

pub returns-in_default-2-clause-wait : goal.returns-in_default-2-clause-wait
returns-in_default-2-clause-wait g c hands outs waits =
    subst (λ (l : List PutOut). Waits c.args.papers.now (view_of g.R.Roll.keys g.R.Roll.seats c.offer_seat.new.self) hands (outs ++ entries_of l)) (append-nil c.args.waiting.now.items)
    (proposed g (goal.at.returns-in_default-2-clause-wait g c).In_ok-out hands outs waits None c.in_default-2.is)

pub returns-in_default-2-clause-left : goal.returns-in_default-2-clause-left
returns-in_default-2-clause-left g c = less g (goal.at.returns-in_default-2-clause-left g c).In_ok-out
