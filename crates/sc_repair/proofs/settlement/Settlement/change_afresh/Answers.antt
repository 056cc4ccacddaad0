use Rattle.std.proofs.Common.{◌≡◌, ℕ, List, Ok, refl, ap, sym, subst, ◌∙◌, length, arith}
use Rattle.std.proofs.lemmas.List.{length-map}
use Rattle.std.specs.declared.alloc.AllocError.{AllocError}
use Rattle.sc_papers.specs.{Market.{Market, students_of}, Verdict.{verdict}}
use Rattle.sc_checkpoint.specs.Chains.{logs_in, Chain}
use Rattle.sc_region.specs.Telling.{MarkRegion}
use Rattle.sc_ledgers.specs.{Proposals.{made_at}, Renewed.{AreTurnsOf}}
use Rattle.sc_repair.{
  specs.{Changed.{standing_of}, Locality.{marked_from, marked_in}, Rewinding.{rewind_point}, Standing.{IsAmended, IsCertified, Standing}},
  proofs.{
    Afresh.{settled-afresh},
    Newcomer.{same-standing, unamended},
    SettledInPlace.{from-below, from-few, less-below, less-none},
    StartingInPlace.{as-many, region_of, students-many, stay, tells, turns, IsInPlace},
  },
}
use Rattle.sc_repair.proofs.settlement.Settlement.change_afresh.Goals as goal
use Rattle.sc_repair.proofs.settlement.Settlement.change_afresh.Goals.{In-Ok-settle_all}

-- the amendment is made in place, and the region is marked
in-place : (c : In-Ok-settle_all) → IsInPlace c.self.inside.papers c.args.amendment c.self.inside.segments c.in_ok-region.region
in-place c = record {
  well = c.self.invariant.certified.well_formed;
  changes = record {
    allowed = ap (λ (s : Standing). verdict s.papers c.args.amendment) c.self.view_is ∙ c.requires.allowed;
    no_entry = c.requires.no_entry;
    no_withdrawal = c.requires.no_withdrawal;
  };
  theirs = c.self.invariant.theirs;
  marked = subst (λ p. MarkRegion p c.args.amendment c.in_ok-region.region) c.deref.ensures c.in_ok-region.ensures.region;
}

-- there are as many students and segments as before
many : (c : In-Ok-settle_all) → length c.apply_reversibly.new.self.students ≡ length c.self.inside.papers.students
many c = ap (λ (p : Market). length p.students) c.in-Ok.ensures.accepted ∙ students-many (in-place c)

chains-many : (c : In-Ok-settle_all) → length c.in-Ok-settle_all.made.segments ≡ length c.self.inside.papers.students
chains-many c =
    omega (
      arith,
      length-map c.in-Ok-settle_all.made.segments (λ (chain : Chain). chain.student),
      ap (λ (xs : List ℕ). length xs) (c.in-Ok-settle_all.ensures.theirs ∙ ap students_of (c.deref-3.ensures ∙ c.in-Ok.ensures.accepted) ∙ stay (in-place c) ∙ sym c.self.invariant.theirs),
      length-map c.self.inside.segments (λ (chain : Chain). chain.student),
      length-map c.self.inside.segments (λ (chain : Chain). chain.rejections),
      as-many (in-place c),
    )

pub proposals_of-self-inside-requires-clause-within : goal.proposals_of-self-inside-requires-clause-within
proposals_of-self-inside-requires-clause-within c =
    let made = (goal.at.proposals_of-self-inside-requires-clause-within c).In-Ok-settle_all in
    less-below _ (length c.in-Ok-settle_all.made.segments) c.positions_from-positions.result.now (λ k low.
    omega (arith, from-below c.in_ok-region.region c.point_in-point.result c.positions_from-positions.result.now c.positions_from-positions.ensures k low, (in-place made).marked.one_each, chains-many made))

pub proposals_of-self-inside-requires-clause-few : goal.proposals_of-self-inside-requires-clause-few
proposals_of-self-inside-requires-clause-few c =
    let made = (goal.at.proposals_of-self-inside-requires-clause-few c).In-Ok-settle_all in
    omega (
      arith,
      ap (λ (p : Market). length p.students) c.deref-in-Ok-settle_all.ensures,
      many made,
      (in-place made).marked.one_each,
      from-few c.in_ok-region.region c.point_in-point.result c.positions_from-positions.result.now c.positions_from-positions.ensures,
    )

pub returns-in-Ok-settle_all : goal.returns-in-Ok-settle_all
returns-in-Ok-settle_all c =
    let made = (goal.at.returns-in-Ok-settle_all c).In-Ok-settle_all in
    let given = in-place made in
    let m = c.self.inside.papers in
    let n = c.apply_reversibly.new.self in
    let chains = c.in-Ok-settle_all.made.segments in
    let positions = c.positions_from-positions.result.now in
    let at : c.point_in-point.result ≡ rewind_point m c.args.amendment = c.point_in-point.ensures ∙ ap (λ p. rewind_point p c.args.amendment) c.deref-2.ensures in
    let now : IsCertified (standing_of n c.in-Ok-settle_all.made.places chains c.in-Ok-settle_all.made.proposals) =
    subst (λ p. IsCertified (standing_of p c.in-Ok-settle_all.made.places chains c.in-Ok-settle_all.made.proposals)) c.deref-3.ensures c.in-Ok-settle_all.ensures.certified in
    let count : length (logs_in c.self.inside.segments) ≡ length (logs_in chains) =
    omega (arith, as-many given, chains-many made, length-map chains (λ (chain : Chain). chain.rejections)) in
    let from : marked_from c.in_ok-region.region (rewind_point m c.args.amendment) ≡ positions = ap (marked_from c.in_ok-region.region) (sym at) ∙ sym c.positions_from-positions.ensures in
    let here : AreTurnsOf n (region_of c.in_ok-region.region c.self.inside.segments) c.point_in-point.result (length (logs_in chains)) positions =
    subst (λ S. S) (λ t. AreTurnsOf (sym c.in-Ok.ensures.accepted t) (region_of c.in_ok-region.region c.self.inside.segments) (sym at t) (count t) (from t)) (turns given) in
    let counted : c.proposals_of-self-inside.result ≡ made_at n (logs_in chains) positions =
    c.proposals_of-self-inside.ensures ∙ (λ t. made_at (c.deref-in-Ok-settle_all.ensures t) (logs_in chains) (less-none 0 positions refl t)) in
    subst (λ (s : Standing). IsAmended {E = AllocError} (Ok tt) s c.args.amendment (standing_of n c.in-Ok-settle_all.made.places chains c.proposals_of-self-inside.result)) c.self.view_is
    (settled-afresh m n c.args.amendment c.self.inside.places c.in-Ok-settle_all.made.places c.self.inside.segments chains c.self.inside.proposals c.in-Ok-settle_all.made.proposals given.changes.allowed c.in-Ok.ensures.accepted c.self.invariant.certified now
    (marked_in c.in_ok-region.region c.self.inside.segments) c.point_in-point.result c.proposals_of-self-inside.result positions (tells given) at here counted)

pub invariant_of-self-in-Err : goal.invariant_of-self-in-Err
invariant_of-self-in-Err c =
    let papers = c.take_back.ensures c.self.inside.papers c.in-Ok.ensures.back in
    record {
      certified = subst IsCertified (sym (same-standing papers refl refl c.self.inside.proposals)) c.self.invariant.certified;
      theirs = c.self.invariant.theirs ∙ ap students_of (sym papers);
      ledgers = tt;
      districts = tt;
    }

pub returns : goal.returns
returns c =
    let same = same-standing (c.take_back.ensures c.self.inside.papers c.in-Ok.ensures.back) refl refl c.self.inside.proposals in
    unamended c.in-Err.refused (same ∙ c.self.view_is) (subst IsCertified (sym same) c.self.invariant.certified)
