use Rattle.std.proofs.Common.{◌≡◌, ◌∙◌, ℕ, ◌-◌, List, Ok, ap, sym, subst, length, map, arith}
use Rattle.std.proofs.lemmas.List.{length-map}
use Rattle.std.specs.declared.alloc.AllocError.{AllocError}
use Rattle.sc_papers.specs.{Market.{Market, students_of}, Verdict.{verdict, without_student}, declared.amendment.Amendment.TheVariants.{Withdraw}}
use Rattle.sc_checkpoint.specs.Chains.{logs_in, Chain}
use Rattle.sc_region.specs.Telling.{MarkRegion}
use Rattle.sc_ledgers.specs.{Proposals.{made_at}}
use Rattle.sc_repair.{specs.{Changed.{standing_of}, Locality.{marked_in}, Rewinding.{rewind_point}, Standing.{IsAmended, IsCertified, Standing}}, proofs.{Afresh.{settled-afresh}, EndingWithout.{turns-behind, turns-below, turns-few}, Resumption.{length-students}, StartingWithout.{leaver-low, leaver-tells, Leaves}}}
use Rattle.sc_repair.proofs.settlement.Settlement.withdraw_afresh.Goals as goal
use Rattle.sc_repair.proofs.settlement.Settlement.withdraw_afresh.Goals.{After-point_in-point, After-withdraw}

-- the student leaves
leaves : (c : After-point_in-point) → Leaves c.self.inside.papers c.args.student c.point_in-point.result c.in_ok-region.region c.self.inside.segments
leaves c = record {
  well_formed = c.self.invariant.certified.well_formed;
  allowed = ap (λ (s : Standing). verdict s.papers (Withdraw c.args.student)) c.self.view_is ∙ c.requires;
  at = c.point_in-point.ensures ∙ ap (λ p. rewind_point p (Withdraw c.args.student)) c.deref-2.ensures;
  region = subst (λ p. MarkRegion p (Withdraw c.args.student) c.in_ok-region.region) c.deref.ensures c.in_ok-region.ensures.region;
  theirs = c.self.invariant.theirs;
}

pub overflow_add-point : goal.overflow_add-point
overflow_add-point c =
    let leaver = leaves (goal.at.overflow_add-point c).After-point_in-point in
    omega (arith, leaver-low leaver, length-students c.self.inside.papers, c.students_len.ensures.count, ap (λ (p : Market). length p.students) c.deref-3.ensures, c.if-prove.false)

-- the papers without them are those that were settled
settled : (c : After-withdraw) → without_student c.deref-4.result.now c.args.student ≡ c.withdraw.new.self
settled c = ap (λ p. without_student p c.args.student) c.deref-4.ensures ∙ sym c.withdraw.ensures

chains-many : (c : After-withdraw) → length c.in-Ok.made.segments ≡ length (students_of c.withdraw.new.self)
chains-many c = omega (arith, length-map c.in-Ok.made.segments (λ (chain : Chain). chain.student), ap (λ (xs : List ℕ). length xs) (c.in-Ok.ensures.theirs ∙ ap students_of (settled c)))

pub proposals_of-self-inside-requires-clause-within : goal.proposals_of-self-inside-requires-clause-within
proposals_of-self-inside-requires-clause-within c =
    let before = goal.at.proposals_of-self-inside-requires-clause-within c in
    let behind = c.positions_from-behind.result.now in
    turns-below c.withdraw.new.self _ c.point_in-point.result (length c.in-Ok.made.segments) (map (λ p. p - 1) behind)
    (turns-behind (leaves before.After-point_in-point) c.withdraw.new.self c.withdraw.ensures (length c.in-Ok.made.segments) (chains-many before.After-withdraw) behind c.positions_from-behind.ensures)

pub proposals_of-self-inside-requires-clause-few : goal.proposals_of-self-inside-requires-clause-few
proposals_of-self-inside-requires-clause-few c =
    let before = goal.at.proposals_of-self-inside-requires-clause-few c in
    let behind = c.positions_from-behind.result.now in
    omega (
      arith,
      turns-few c.withdraw.new.self _ c.point_in-point.result (length c.in-Ok.made.segments) (map (λ p. p - 1) behind)
          (turns-behind (leaves before.After-point_in-point) c.withdraw.new.self c.withdraw.ensures (length c.in-Ok.made.segments) (chains-many before.After-withdraw) behind c.positions_from-behind.ensures),
      length-map behind (λ p. p - 1),
      chains-many before.After-withdraw,
      length-students c.withdraw.new.self,
      ap (λ (p : Market). length p.students) c.deref-in-Ok.ensures,
    )

pub returns-in-Ok : goal.returns-in-Ok
returns-in-Ok c =
    let before = goal.at.returns-in-Ok c in
    let leaver = leaves before.After-point_in-point in
    let m = c.self.inside.papers in
    let n = c.withdraw.new.self in
    let chains = c.in-Ok.made.segments in
    let behind = c.positions_from-behind.result.now in
    let end : length (logs_in chains) ≡ length (students_of n) = omega (arith, chains-many before.After-withdraw, length-map chains (λ (chain : Chain). chain.rejections)) in
    let now : IsCertified (standing_of n c.leave.new.self chains c.in-Ok.made.proposals) =
    subst (λ p. IsCertified (standing_of p c.leave.new.self chains c.in-Ok.made.proposals)) (settled before.After-withdraw)
    (subst (λ places. IsCertified (standing_of (without_student c.deref-4.result.now c.args.student) places chains c.in-Ok.made.proposals)) (sym c.leave.ensures) c.in-Ok.ensures.certified) in
    let counted : c.proposals_of-self-inside.result ≡ made_at n (logs_in chains) (map (λ p. p - 1) behind) =
    c.proposals_of-self-inside.ensures ∙ ap (λ p. made_at p (logs_in chains) (map (λ p. p - 1) behind)) c.deref-in-Ok.ensures in
    subst (λ (s : Standing). IsAmended {E = AllocError} (Ok tt) s (Withdraw c.args.student) (standing_of n c.leave.new.self chains c.proposals_of-self-inside.result)) c.self.view_is
    (settled-afresh m n (Withdraw c.args.student) c.self.inside.places c.leave.new.self c.self.inside.segments chains c.self.inside.proposals c.in-Ok.made.proposals leaver.allowed c.withdraw.ensures c.self.invariant.certified now
    (marked_in c.in_ok-region.region c.self.inside.segments) c.point_in-point.result c.proposals_of-self-inside.result (map (λ p. p - 1) behind) (leaver-tells leaver) leaver.at
    (turns-behind leaver n c.withdraw.ensures (length (logs_in chains)) end behind c.positions_from-behind.ensures) counted)
