use Rattle.std.proofs.Common.{◌≡◌, Ok, ap, sym, subst, ◌∙◌, ◌-◌, ◌∷◌, [], length, IfSome, arith}
use Rattle.std.specs.declared.alloc.AllocError.{AllocError}
use Rattle.sc_papers.specs.Market.{students_of}
use Rattle.sc_papers.specs.Restriction.{IsSegmented}
use Rattle.sc_papers.specs.Verdict.{after, verdict}
use Rattle.sc_checkpoint.specs.Chains.{logs_in, students_in}
use Rattle.sc_ledgers.specs.Proposals.{made_at}
use Rattle.sc_region.specs.Districts.{AreDistricts}
use Rattle.sc_ledgers.specs.Ends.{AreEnds}
use Rattle.sc_repair.specs.Anew.{AreLedgersOf}
use Rattle.sc_repair.specs.Changed.{standing_of}
use Rattle.sc_repair.specs.Standing.{Standing, IsAmended, IsCertified}
use Rattle.sc_repair.proofs.Newcomer.{admitted, admitted-last, admitted-ledgers, admitted-placed, admitted-run, admitted-theirs, same-standing, unamended, Admits, HasCome}
use Rattle.sc_repair.proofs.settlement.Settlement.admit.Goals as goal
use Rattle.sc_repair.proofs.settlement.Settlement.admit.Goals.{After-deref-3, After-proposals_at-self-inside, In-Ok-entered}

-- the papers have the newcomer
admits : (c : After-deref-3) → Admits c.self.inside.papers c.deref-3.result.now c.args.amendment c.args.student c.self.inside.segments c.self.inside.places c.self.inside.proposals
admits c = record {
  entry = c.requires.newcomer;
  allowed = ap (λ (s : Standing). verdict s.papers c.args.amendment) c.self.view_is ∙ c.requires.allowed;
  grown = c.deref-3.ensures ∙ c.in-Ok.ensures.accepted;
  sound = c.self.invariant.certified;
  own = c.self.invariant.theirs;
}

-- and they have entered
come : (c : In-Ok-entered) → HasCome c.deref-3.result.now c.args.student c.self.inside.segments c.enter_newcomer-entered.new.segments c.enter_newcomer-entered.new.places c.enter_newcomer-entered.new.ledgers
come c =
    let entered = c.in-Ok-entered.ensures in
    record { chain = entered.pushed.0; pushed = entered.pushed.1; kept = entered.ledgers; placed = entered.placed }

-- the proposals of their chain are counted
amended : (c : After-proposals_at-self-inside) → Admits c.self.inside.papers c.deref-3.result.now c.args.amendment c.args.student c.self.inside.segments c.self.inside.places c.self.inside.proposals
    → HasCome c.deref-3.result.now c.args.student c.self.inside.segments c.enter_newcomer-entered.new.segments c.enter_newcomer-entered.new.places c.enter_newcomer-entered.new.ledgers
    → IsAmended {E = AllocError} (Ok tt) (standing_of c.self.inside.papers c.self.inside.places c.self.inside.segments c.self.inside.proposals) c.args.amendment
    (standing_of c.apply_reversibly.new.self c.enter_newcomer-entered.new.places c.enter_newcomer-entered.new.segments c.proposals_at-self-inside.result)
amended c before entered =
    let new = c.enter_newcomer-entered.new.segments in
    let at : c.len-position.result - 0 ≡ length c.self.inside.segments = omega (arith, c.len-position.ensures) in
    let counted : c.proposals_at-self-inside.result ≡ made_at c.deref-3.result.now (logs_in new) (length c.self.inside.segments ∷ []) =
    c.proposals_at-self-inside.ensures ∙ (λ t. made_at ((c.deref-in-Ok-entered.ensures ∙ sym c.deref-3.ensures) t) (logs_in new) (at t ∷ [])) in
    subst (λ n. IsAmended {E = AllocError} (Ok tt) (standing_of c.self.inside.papers c.self.inside.places c.self.inside.segments c.self.inside.proposals) c.args.amendment
    (standing_of n c.enter_newcomer-entered.new.places new c.proposals_at-self-inside.result)) c.deref-3.ensures (admitted before entered c.proposals_at-self-inside.result counted)

pub enter_newcomer-entered-requires-clause-placed : goal.enter_newcomer-entered-requires-clause-placed
enter_newcomer-entered-requires-clause-placed c = admitted-placed (admits (goal.at.enter_newcomer-entered-requires-clause-placed c).After-deref-3)

pub enter_newcomer-entered-requires-clause-last : goal.enter_newcomer-entered-requires-clause-last
enter_newcomer-entered-requires-clause-last c = admitted-last (admits (goal.at.enter_newcomer-entered-requires-clause-last c).After-deref-3)

pub enter_newcomer-entered-requires-clause-ledgers : goal.enter_newcomer-entered-requires-clause-ledgers
enter_newcomer-entered-requires-clause-ledgers c =
    admitted-ledgers (admits (goal.at.enter_newcomer-entered-requires-clause-ledgers c).After-deref-3) c.in_ok-ledgers.ledgers
    (subst (λ m. AreLedgersOf m (logs_in c.self.inside.segments) c.in_ok-ledgers.ledgers) c.deref.ensures c.in_ok-ledgers.ensures.taken)

pub proposals_at-self-inside-requires-clause-run : goal.proposals_at-self-inside-requires-clause-run
proposals_at-self-inside-requires-clause-run c =
    let at = goal.at.proposals_at-self-inside-requires-clause-run c in
    subst (λ n. IsSegmented n (logs_in c.enter_newcomer-entered.new.segments)) (c.deref-3.ensures ∙ sym c.deref-in-Ok-entered.ensures)
    (admitted-run (admits at.After-deref-3) (come at.In-Ok-entered))

pub proposals_at-self-inside-requires-clause-ends : goal.proposals_at-self-inside-requires-clause-ends
proposals_at-self-inside-requires-clause-ends c =
    let at = goal.at.proposals_at-self-inside-requires-clause-ends c in
    subst (λ n. AreEnds n (logs_in c.enter_newcomer-entered.new.segments) c.enter_newcomer-entered.new.ledgers.ends) (c.deref-3.ensures ∙ sym c.deref-in-Ok-entered.ensures)
    (come at.In-Ok-entered).kept.ended

pub invariant_of-self-in-Ok-entered : goal.invariant_of-self-in-Ok-entered
invariant_of-self-in-Ok-entered c =
    let at = goal.at.invariant_of-self-in-Ok-entered c in
    let before = admits at.After-deref-3 in
    let entered = come at.In-Ok-entered in
    record {
      certified = (amended at.After-proposals_at-self-inside before entered).certified;
      theirs = admitted-theirs before entered ∙ ap students_of c.deref-3.ensures;
      ledgers = subst (λ n. AreLedgersOf n (logs_in c.enter_newcomer-entered.new.segments) c.enter_newcomer-entered.new.ledgers) c.deref-3.ensures entered.kept;
      districts = subst (λ m. IfSome c.follow.new.districts (AreDistricts m)) (ap (λ m. after m c.args.amendment) c.deref-2.ensures ∙ sym c.in-Ok.ensures.accepted) c.follow.ensures;
    }

pub invariant_of-self-in-Err-entered : goal.invariant_of-self-in-Err-entered
invariant_of-self-in-Err-entered c =
    let back = c.take_back.ensures c.self.inside.papers c.in-Ok.ensures.back in
    let kept = c.in-Err-entered.ensures.unchanged in
    record {
      certified = subst IsCertified (sym (same-standing back kept.0 kept.1 c.self.inside.proposals)) c.self.invariant.certified;
      theirs = ap students_in kept.1 ∙ c.self.invariant.theirs ∙ ap students_of (sym back);
      ledgers = subst (λ o. IfSome o (λ ledgers. AreLedgersOf c.take_back.new.self (logs_in c.enter_newcomer-entered.new.segments) ledgers)) (sym c.in_ok-ledgers.ensures.none) tt;
      districts = tt;
    }

pub returns-in-Ok-entered : goal.returns-in-Ok-entered
returns-in-Ok-entered c =
    let at = goal.at.returns-in-Ok-entered c in
    subst (λ (s : Standing). IsAmended {E = AllocError} (Ok tt) s c.args.amendment (standing_of c.apply_reversibly.new.self c.enter_newcomer-entered.new.places c.enter_newcomer-entered.new.segments c.proposals_at-self-inside.result)) c.self.view_is
    (amended at.After-proposals_at-self-inside (admits at.After-deref-3) (come at.In-Ok-entered))

pub returns-in-Err-entered : goal.returns-in-Err-entered
returns-in-Err-entered c =
    let kept = c.in-Err-entered.ensures.unchanged in
    let same = same-standing (c.take_back.ensures c.self.inside.papers c.in-Ok.ensures.back) kept.0 kept.1 c.self.inside.proposals in
    unamended c.in-Err-entered.refused (same ∙ c.self.view_is) (subst IsCertified (sym same) c.self.invariant.certified)
