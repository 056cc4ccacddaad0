use Rattle.std.proofs.Common.{◌≡◌, ℕ, ◌-◌, ◌≤◌, List, Some, Ok, IfSome, length, map, ap, sym, subst, ◌∙◌, arith}
use Rattle.std.proofs.lemmas.List.{length-map}
use Rattle.std.specs.declared.alloc.AllocError.{AllocError}
use Rattle.sc_papers.specs.Market.{Market}
use Rattle.sc_papers.specs.Restriction.{IsSegmented}
use Rattle.sc_papers.specs.Verdict.{after, verdict}
use Rattle.sc_papers.specs.declared.amendment.Amendment.TheVariants.{Withdraw}
use Rattle.sc_checkpoint.specs.Chains.{logs_in, Chain}
use Rattle.sc_region.specs.Districts.{AreDistricts}
use Rattle.sc_region.specs.Telling.{MarkRegion}
use Rattle.sc_ledgers.specs.Course.{labels_of}
use Rattle.sc_ledgers.specs.Proposals.{made_at}
use Rattle.sc_ledgers.specs.Ends.{AreEnds}
use Rattle.sc_repair.specs.Anew.{AreLedgersOf, IsSettledAnew, IsStruck}
use Rattle.sc_repair.specs.Locality.{is_among, marked_in}
use Rattle.sc_repair.specs.Rewinding.{rewind_point}
use Rattle.sc_repair.specs.Standing.{IsAmended, Standing}
use Rattle.sc_repair.specs.Changed.{standing_of}
use Rattle.sc_repair.proofs.Resumption.{length-students}
use Rattle.sc_repair.proofs.EndingWithout.{left-amended, left-certified, left-few, left-ledgers, left-segmented, left-theirs, left-within, HasLeft}
use Rattle.sc_repair.proofs.StartingWithout.{starts-without, leaver-low, rows_without, MayLeave}
use Rattle.sc_repair.proofs.settlement.Settlement.withdraw_by_ledgers.Goals as goal
use Rattle.sc_repair.proofs.settlement.Settlement.withdraw_by_ledgers.Goals.{After-leave-in-Ok, After-strike, In-Ok}

-- the student may leave
may : (c : After-strike) → MayLeave c.self.inside.papers c.args.student c.point_in-point.result c.in_ok-region.region c.self.inside.segments c.in_ok-ledgers.ledgers c.strike.new.ledgers.items
may c = record {
  leaves = record {
    well_formed = c.self.invariant.certified.well_formed;
    allowed = ap (λ (s : Standing). verdict s.papers (Withdraw c.args.student)) c.self.view_is ∙ c.requires;
    at = c.point_in-point.ensures ∙ ap (λ p. rewind_point p (Withdraw c.args.student)) c.deref-3.ensures;
    region = subst (λ p. MarkRegion p (Withdraw c.args.student) c.in_ok-region.region) c.deref-2.ensures c.in_ok-region.ensures.region;
    theirs = c.self.invariant.theirs;
  };
  labelled = subst (λ p. AreLedgersOf p (logs_in c.self.inside.segments) c.in_ok-ledgers.ledgers) c.deref.ensures c.in_ok-ledgers.ensures.taken;
  struck = subst (λ p. IsStruck p (Some c.args.student) c.in_ok-ledgers.ledgers.schools.items c.strike.new.ledgers.items) c.deref-5.ensures c.strike.ensures.struck;
}

pub choices_at-requires : goal.choices_at-requires
choices_at-requires c = omega (arith, leaver-low (may (goal.at.choices_at-requires c).After-strike).leaves, length-students c.self.inside.papers)

pub resettle-settled-requires-clause-start : goal.resettle-settled-requires-clause-start
resettle-settled-requires-clause-start c =
    let m = c.self.inside.papers in
    let leaver = may (goal.at.resettle-settled-requires-clause-start c).After-strike in (
      m,
      is_among (marked_in c.in_ok-region.region c.self.inside.segments),
      _,
      c.point_in-point.result,
      labels_of m c.in_ok-ledgers.ledgers.schools.items,
      starts-without leaver c.deref-6.result c.choices_at.result c.positions_from.result.now c.deref-6.ensures c.choices_at.ensures.choices c.positions_from.ensures,
    )

-- the turns were taken anew
settled : (c : In-Ok) → MayLeave c.self.inside.papers c.args.student c.point_in-point.result c.in_ok-region.region c.self.inside.segments c.in_ok-ledgers.ledgers c.strike.new.ledgers.items
    → IsSettledAnew (rows_without c.deref-6.result c.choices_at.result c.args.student) (is_among (marked_in c.in_ok-region.region c.self.inside.segments)) c.point_in-point.result c.self.inside.segments c.resettle-settled.new.segments c.self.inside.places
    c.resettle-settled.new.places (labels_of c.deref-6.result.now c.resettle-settled.new.ledgers.schools.items) c.resettle-settled.new.ledgers.ends
settled c leaver =
    let m = c.self.inside.papers in
    c.in-Ok.ensures.anew m (is_among (marked_in c.in_ok-region.region c.self.inside.segments)) _ c.point_in-point.result (labels_of m c.in_ok-ledgers.ledgers.schools.items)
    (starts-without leaver c.deref-6.result c.choices_at.result c.positions_from.result.now c.deref-6.ensures c.choices_at.ensures.choices c.positions_from.ensures)
    c.self.invariant.certified.matching

-- and the student has left
has-left : (c : After-leave-in-Ok) → IsSettledAnew (rows_without c.deref-6.result c.choices_at.result c.args.student) (is_among (marked_in c.in_ok-region.region c.self.inside.segments)) c.point_in-point.result c.self.inside.segments
    c.resettle-settled.new.segments c.self.inside.places c.resettle-settled.new.places (labels_of c.deref-6.result.now c.resettle-settled.new.ledgers.schools.items) c.resettle-settled.new.ledgers.ends
    → HasLeft c.self.inside.papers c.withdraw.new.self c.args.student c.point_in-point.result (is_among (marked_in c.in_ok-region.region c.self.inside.segments))
    c.deref-6.result c.choices_at.result c.self.inside.segments c.resettle-settled.new.segments c.remove.new.self
    c.self.inside.places c.resettle-settled.new.places c.leave.new.self c.resettle-settled.new.ledgers c.leave-in-Ok.new.ledgers
has-left c anew = record {
  same = c.deref-6.ensures;
  settled = anew;
  gone = c.withdraw.ensures;
  removed = c.remove.ensures;
  given = c.leave.ensures;
  one_each = c.leave-in-Ok.ensures.one_each ∙ c.in-Ok.ensures.one_each;
  without = c.leave-in-Ok.ensures.without c.self.inside.papers;
  ends = c.leave-in-Ok.ensures.ends;
}

pub remove-requires : goal.remove-requires
remove-requires c =
    let before = goal.at.remove-requires c in
    let leaver = may before.After-strike in
    let new = c.resettle-settled.new.segments in
    omega (arith, leaver-low leaver.leaves, ap (λ (xs : List ℕ). length xs) ((settled before.In-Ok leaver).theirs ∙ c.self.invariant.theirs), length-map new (λ (chain : Chain). chain.student))

pub overflow_add-point : goal.overflow_add-point
overflow_add-point c =
    let leaver = may (goal.at.overflow_add-point c).After-strike in
    omega (arith, leaver-low leaver.leaves, length-students c.self.inside.papers, c.students_len.ensures.count, ap (λ (p : Market). length p.students) c.deref-4.ensures, c.if-prove.false)

pub proposals_at-self-inside-requires-clause-within : goal.proposals_at-self-inside-requires-clause-within
proposals_at-self-inside-requires-clause-within c =
    let before = goal.at.proposals_at-self-inside-requires-clause-within c in
    let leaver = may before.After-strike in
    left-within leaver (has-left before.After-leave-in-Ok (settled before.In-Ok leaver)) c.positions_from-behind.result.now c.positions_from-behind.ensures

pub proposals_at-self-inside-requires-clause-few : goal.proposals_at-self-inside-requires-clause-few
proposals_at-self-inside-requires-clause-few c =
    let before = goal.at.proposals_at-self-inside-requires-clause-few c in
    let leaver = may before.After-strike in
    let has = has-left before.After-leave-in-Ok (settled before.In-Ok leaver) in
    subst (λ p. length c.positions_from-behind.result.now ≤ length p.students) (sym c.deref-in-Ok.ensures) (left-few leaver has c.positions_from-behind.result.now c.positions_from-behind.ensures)

pub proposals_at-self-inside-requires-clause-run : goal.proposals_at-self-inside-requires-clause-run
proposals_at-self-inside-requires-clause-run c =
    let before = goal.at.proposals_at-self-inside-requires-clause-run c in
    let leaver = may before.After-strike in
    subst (λ p. IsSegmented p (logs_in c.remove.new.self)) (sym c.deref-in-Ok.ensures) (left-segmented leaver (has-left before.After-leave-in-Ok (settled before.In-Ok leaver)))

pub proposals_at-self-inside-requires-clause-ends : goal.proposals_at-self-inside-requires-clause-ends
proposals_at-self-inside-requires-clause-ends c =
    let before = goal.at.proposals_at-self-inside-requires-clause-ends c in
    let leaver = may before.After-strike in
    subst (λ p. AreEnds p (logs_in c.remove.new.self) c.leave-in-Ok.new.ledgers.ends) (sym c.deref-in-Ok.ensures) (left-ledgers leaver (has-left before.After-leave-in-Ok (settled before.In-Ok leaver))).ended

pub leave-requires-in-Ok-clause-within : goal.leave-requires-in-Ok-clause-within
leave-requires-in-Ok-clause-within c =
    let before = goal.at.leave-requires-in-Ok-clause-within c in
    let leaver = may before.After-strike in
    let anew = settled before.In-Ok leaver in
    let new = c.resettle-settled.new.segments in
    omega (arith, leaver-low leaver.leaves, anew.ended.one_each, length-map new (λ (chain : Chain). chain.rejections), ap (λ (xs : List ℕ). length xs) (anew.theirs ∙ c.self.invariant.theirs), length-map new (λ (chain : Chain). chain.student))

pub leave-requires-in-Ok-clause-few : goal.leave-requires-in-Ok-clause-few
leave-requires-in-Ok-clause-few c =
    let leaver = may (goal.at.leave-requires-in-Ok-clause-few c).After-strike in
    omega (arith, leaver-low leaver.leaves, length-students c.self.inside.papers, c.students_len.ensures.count, ap (λ (p : Market). length p.students) c.deref-4.ensures, c.if-prove.false)

pub invariant_of-self-in-Ok : goal.invariant_of-self-in-Ok
invariant_of-self-in-Ok c =
    let before = goal.at.invariant_of-self-in-Ok c in
    let leaver = may before.After-strike in
    let has = has-left before.After-leave-in-Ok (settled before.In-Ok leaver) in
    record {
      certified = left-certified leaver has c.proposals_at-self-inside.result;
      theirs = left-theirs leaver has;
      ledgers = left-ledgers leaver has;
      districts = subst (λ p. IfSome c.region_of.new.districts (AreDistricts p)) (ap (λ p. after p (Withdraw c.args.student)) c.deref-2.ensures ∙ sym c.withdraw.ensures) c.in_ok-region.ensures.in_step;
    }

pub returns-in-Ok : goal.returns-in-Ok
returns-in-Ok c =
    let before = goal.at.returns-in-Ok c in
    let leaver = may before.After-strike in
    let has = has-left before.After-leave-in-Ok (settled before.In-Ok leaver) in
    let behind = c.positions_from-behind.result.now in
    let made : c.proposals_at-self-inside.result ≡ made_at c.withdraw.new.self (logs_in c.remove.new.self) (map (λ p. p - 1) behind) =
    c.proposals_at-self-inside.ensures ∙ ap (λ p. made_at p (logs_in c.remove.new.self) (map (λ p. p - 1) behind)) c.deref-in-Ok.ensures in
    subst (λ (s : Standing). IsAmended {E = AllocError} (Ok tt) s (Withdraw c.args.student) (standing_of c.withdraw.new.self c.leave.new.self c.remove.new.self c.proposals_at-self-inside.result)) c.self.view_is
    (left-amended leaver has behind c.self.inside.proposals c.proposals_at-self-inside.result c.positions_from-behind.ensures made)
