use Rattle.std.proofs.Common.{◌≡◌, ℕ, Result, Ok, Err, length, false, ap, sym, subst, ◌∙◌, ◌<◌, refl, IfSome, arith}
use Rattle.std.proofs.lemmas.Bool.{false≢true}
use Rattle.std.proofs.lemmas.List.{length-map}
use Rattle.std.proofs.lemmas.Option.{IfSome_then}
use Rattle.std.specs.Result.{IsErr}
use Rattle.std.specs.declared.alloc.AllocError.{AllocError}
use Rattle.sc_papers.specs.Market.{Market, students_of}
use Rattle.sc_papers.specs.TakingBack.{TakesBack}
use Rattle.sc_papers.specs.declared.records.School.{School}
use Rattle.sc_papers.specs.Verdict.{after, verdict}
use Rattle.sc_papers.specs.declared.amendment.Amendment.{Amendment}
use Rattle.sc_checkpoint.specs.Chains.{logs_in, students_in}
use Rattle.sc_papers.specs.Restriction.{AreApart, IsSegmented}
use Rattle.sc_region.specs.Districts.{AreDistricts}
use Rattle.sc_region.specs.Telling.{MarkRegion}
use Rattle.sc_ledgers.specs.Anew.{StartsAnew}
use Rattle.sc_ledgers.specs.Course.{labels_of}
use Rattle.sc_ledgers.specs.declared.following.Rows.{Rows}
use Rattle.sc_stamps.specs.Record.{record_of}
use Rattle.sc_ledgers.specs.Ends.{AreEnds}
use Rattle.sc_repair.specs.Anew.{choices_before, place_in, student_in, AreLedgersOf, IsStruck}
use Rattle.sc_repair.specs.Changed.{standing_of}
use Rattle.sc_repair.specs.Locality.{marked_in}
use Rattle.sc_repair.specs.Rewinding.{rewind_point}
use Rattle.sc_repair.specs.Standing.{Standing, IsAmended, IsCertified}
use Rattle.sc_repair.proofs.InPlace.{place-of_school, schools-many}
use Rattle.sc_repair.proofs.Newcomer.{same-standing, unamended}
use Rattle.sc_repair.proofs.Regional.{settled-anew}
use Rattle.sc_repair.proofs.SettledInPlace.{from-below, from-few, less-below, settled-counted, settled-many, settled-run, settled-whole}
use Rattle.sc_repair.proofs.StartingInPlace.{apart-after, region_of, schools_in, starts-in-place, students-many, tells, IsInPlace}
use Rattle.sc_repair.proofs.settlement.Settlement.change_by_ledgers.Goals as goal
use Rattle.sc_repair.proofs.settlement.Settlement.change_by_ledgers.Goals.{After-place_in}

-- the amendment is made in place, and the region is marked
in-place : (c : After-place_in) → IsInPlace c.self.inside.papers c.args.amendment c.self.inside.segments c.in_ok-region.region
in-place c = record {
  well = c.self.invariant.certified.well_formed;
  changes = record {
    allowed = ap (λ (s : Standing). verdict s.papers c.args.amendment) c.self.view_is ∙ c.requires.allowed;
    no_entry = c.requires.no_entry;
    no_withdrawal = c.requires.no_withdrawal;
  };
  theirs = c.self.invariant.theirs;
  marked = subst (λ p. MarkRegion p c.args.amendment c.in_ok-region.region) c.deref-2.ensures c.in_ok-region.ensures.region;
}

-- the papers are the amended ones
made : (c : After-place_in) → c.deref-5.result.now ≡ after c.self.inside.papers c.args.amendment
made c = c.deref-5.ensures ∙ c.in-Ok.ensures.accepted

-- the region lies apart in them
lies-apart : (c : After-place_in) → AreApart c.apply_reversibly.new.self (region_of c.in_ok-region.region c.self.inside.segments)
lies-apart c = subst (λ p. AreApart p (region_of c.in_ok-region.region c.self.inside.segments)) (sym c.in-Ok.ensures.accepted) (apart-after (in-place c))

-- so the turns of the region can be taken anew
starts : (c : After-place_in) → StartsAnew c.self.inside.papers (record { papers = c.deref-5.result; amended = c.student_in-2.result; before = c.choices_before.result; leaves = false }) (region_of c.in_ok-region.region c.self.inside.segments) (schools_in c.self.inside.papers c.args.amendment c.in_ok-region.region c.self.inside.segments) (logs_in c.self.inside.segments) c.point_in-point.result
    (labels_of c.self.inside.papers c.in_ok-ledgers.ledgers.schools.items) (labels_of c.deref-5.result.now c.strike.new.ledgers.items) c.in_ok-ledgers.ledgers.ends c.positions_from-positions.result.now c.place_in.result
starts c =
    let m = c.self.inside.papers in
    let rows : Rows = record { papers = c.deref-5.result; amended = c.student_in-2.result; before = c.choices_before.result; leaves = false } in
    let amends = c.record_of-amended.ensures in
    starts-in-place (in-place c) c.deref-5.result.now c.in-Ok.back rows c.in_ok-ledgers.ledgers c.strike.new.ledgers.items c.point_in-point.result c.positions_from-positions.result.now c.place_in.result (made c)
    (subst (λ p. TakesBack m p c.in-Ok.back) (sym c.deref-5.ensures) c.in-Ok.ensures.back)
    (subst (λ p. AreLedgersOf p (logs_in c.self.inside.segments) c.in_ok-ledgers.ledgers) c.deref.ensures c.in_ok-ledgers.ensures.taken)
    (subst (λ p. IsStruck p (student_in (record_of c.args.amendment)) c.in_ok-ledgers.ledgers.schools.items c.strike.new.ledgers.items) c.deref-4.ensures
    (subst (λ o. IsStruck c.deref-4.result.now o c.in_ok-ledgers.ledgers.schools.items c.strike.new.ledgers.items) (c.student_in.ensures ∙ ap student_in amends) c.strike.ensures.struck))
    refl (c.student_in-2.ensures ∙ ap student_in amends)
    (c.choices_before.ensures ∙ (λ t. choices_before (sym c.deref-5.ensures t) c.in-Ok.back ((c.student_in-3.ensures ∙ ap student_in amends) t)))
    (c.point_in-point.ensures ∙ ap (λ p. rewind_point p c.args.amendment) c.deref-3.ensures)
    c.positions_from-positions.ensures
    (c.place_in.ensures ∙ (λ t. place_in ((c.deref-6.ensures ∙ sym c.deref-5.ensures) t) (amends t)))

pub resettle-settled-requires-clause-one_each : goal.resettle-settled-requires-clause-one_each
resettle-settled-requires-clause-one_each c =
    c.strike.ensures.one_each
    ∙ ap (λ (p : Market). length p.schools) c.deref-4.ensures
    ∙ sym (schools-many c.self.inside.papers c.args.amendment)
    ∙ ap (λ (p : Market). length p.schools) (sym (made (goal.at.resettle-settled-requires-clause-one_each c).After-place_in))

pub resettle-settled-requires-clause-within : goal.resettle-settled-requires-clause-within
resettle-settled-requires-clause-within c =
    subst (λ o. IfSome o (λ p. p < length c.strike.new.ledgers.items)) (sym (c.place_in.ensures ∙ (λ t. place_in (c.deref-6.ensures t) (c.record_of-amended.ensures t))))
    (IfSome_then (place_in c.apply_reversibly.new.self (record_of c.args.amendment)) (place-of_school c.apply_reversibly.new.self (record_of c.args.amendment)) (λ p at.
    omega (arith, at.0, length-map c.apply_reversibly.new.self.schools (λ (e : ℕ × School). e.0), c.strike.ensures.one_each, ap (λ (p : Market). length p.schools) c.deref-4.ensures, schools-many c.self.inside.papers c.args.amendment, ap (λ (p : Market). length p.schools) c.in-Ok.ensures.accepted)))

pub resettle-settled-requires-clause-start : goal.resettle-settled-requires-clause-start
resettle-settled-requires-clause-start c =
    let made = (goal.at.resettle-settled-requires-clause-start c).After-place_in in
    (c.self.inside.papers, region_of c.in_ok-region.region c.self.inside.segments, schools_in c.self.inside.papers c.args.amendment c.in_ok-region.region c.self.inside.segments, c.point_in-point.result, labels_of c.self.inside.papers c.in_ok-ledgers.ledgers.schools.items, starts made)

pub proposals_at-self-inside-requires-clause-within : goal.proposals_at-self-inside-requires-clause-within
proposals_at-self-inside-requires-clause-within c =
    let made = (goal.at.proposals_at-self-inside-requires-clause-within c).After-place_in in
    let anew = c.in-Ok-settled.ensures.anew _ _ _ _ _ (starts made) c.self.invariant.certified.matching in
    less-below _ (length c.resettle-settled.new.segments) c.positions_from-positions.result.now (λ k low.
    omega (arith, from-below c.in_ok-region.region c.point_in-point.result c.positions_from-positions.result.now c.positions_from-positions.ensures k low, (in-place made).marked.one_each, settled-many anew refl c.self.inside.papers c.self.invariant.theirs))

pub proposals_at-self-inside-requires-clause-few : goal.proposals_at-self-inside-requires-clause-few
proposals_at-self-inside-requires-clause-few c =
    let made = (goal.at.proposals_at-self-inside-requires-clause-few c).After-place_in in
    let many : length c.deref-in-Ok-settled.result.now.students ≡ length c.self.inside.papers.students = ap (λ (p : Market). length p.students) (c.deref-in-Ok-settled.ensures ∙ c.in-Ok.ensures.accepted) ∙ students-many (in-place made) in
    omega (arith, many, (in-place made).marked.one_each, from-few c.in_ok-region.region c.point_in-point.result c.positions_from-positions.result.now c.positions_from-positions.ensures)

pub proposals_at-self-inside-requires-clause-run : goal.proposals_at-self-inside-requires-clause-run
proposals_at-self-inside-requires-clause-run c =
    let begun = starts (goal.at.proposals_at-self-inside-requires-clause-run c).After-place_in in
    subst (λ p. IsSegmented p (logs_in c.resettle-settled.new.segments)) (c.deref-5.ensures ∙ sym c.deref-in-Ok-settled.ensures)
    (settled-run (c.in-Ok-settled.ensures.anew _ _ _ _ _ begun c.self.invariant.certified.matching) refl begun.well_new)

pub proposals_at-self-inside-requires-clause-ends : goal.proposals_at-self-inside-requires-clause-ends
proposals_at-self-inside-requires-clause-ends c =
    let begun = starts (goal.at.proposals_at-self-inside-requires-clause-ends c).After-place_in in
    subst (λ p. AreEnds p (logs_in c.resettle-settled.new.segments) c.resettle-settled.new.ledgers.ends) (c.deref-5.ensures ∙ sym c.deref-in-Ok-settled.ensures)
    (c.in-Ok-settled.ensures.anew _ _ _ _ _ begun c.self.invariant.certified.matching).ended

pub invariant_of-self-in-Ok-settled : goal.invariant_of-self-in-Ok-settled
invariant_of-self-in-Ok-settled c =
    let made = (goal.at.invariant_of-self-in-Ok-settled c).After-place_in in
    let anew = c.in-Ok-settled.ensures.anew _ _ _ _ _ (starts made) c.self.invariant.certified.matching in
    let resettled = settled-counted (starts made) anew refl c.self.invariant.theirs c.apply_reversibly.new.self _ _ _ c.deref-5.ensures (lies-apart made) c.deref-in-Ok-settled.ensures refl c.proposals_at-self-inside.ensures in
    record {
      certified = resettled.certified;
      theirs = resettled.theirs;
      ledgers = subst (λ p. AreLedgersOf p (logs_in c.resettle-settled.new.segments) c.resettle-settled.new.ledgers) c.deref-5.ensures (record { one_each = c.in-Ok-settled.ensures.one_each; whole = settled-whole anew refl; ended = anew.ended });
      districts = subst (λ m. IfSome c.region_of.new.districts (AreDistricts m)) (ap (λ p. after p c.args.amendment) c.deref-2.ensures ∙ sym c.in-Ok.ensures.accepted) c.in_ok-region.ensures.in_step;
    }

pub invariant_of-self-in-Err-settled : goal.invariant_of-self-in-Err-settled
invariant_of-self-in-Err-settled c =
    let papers = c.take_back.ensures c.self.inside.papers c.in-Ok.ensures.back in
    record {
      certified = subst IsCertified (sym (same-standing papers c.in-Err.ensures.unchanged.0 c.in-Err.ensures.unchanged.1 c.self.inside.proposals)) c.self.invariant.certified;
      theirs = ap students_in c.in-Err.ensures.unchanged.1 ∙ c.self.invariant.theirs ∙ ap students_of (sym papers);
      ledgers = subst (λ o. IfSome o (λ kept. AreLedgersOf c.take_back.new.self (logs_in c.resettle-settled.new.segments) kept)) (sym c.taken.ensures.none) tt;
      districts = tt;
    }

pub returns-in-Ok-settled : goal.returns-in-Ok-settled
returns-in-Ok-settled c =
    let made = (goal.at.returns-in-Ok-settled c).After-place_in in
    let anew = c.in-Ok-settled.ensures.anew _ _ _ _ _ (starts made) c.self.invariant.certified.matching in
    let resettled = settled-counted (starts made) anew refl c.self.invariant.theirs c.apply_reversibly.new.self _ _ _ c.deref-5.ensures (lies-apart made) c.deref-in-Ok-settled.ensures refl c.proposals_at-self-inside.ensures in
    subst (λ (s : Standing). IsAmended {E = AllocError} (Ok tt) s c.args.amendment (standing_of c.apply_reversibly.new.self c.resettle-settled.new.places c.resettle-settled.new.segments c.proposals_at-self-inside.result)) c.self.view_is
    (settled-anew c.self.inside.papers c.apply_reversibly.new.self c.args.amendment (marked_in c.in_ok-region.region c.self.inside.segments) c.self.inside.places c.resettle-settled.new.places c.self.inside.segments c.resettle-settled.new.segments
    c.point_in-point.result c.self.inside.proposals c.proposals_at-self-inside.result (tells (in-place made)) c.in-Ok.ensures.accepted (c.point_in-point.ensures ∙ ap (λ p. rewind_point p c.args.amendment) c.deref-3.ensures) resettled)

pub returns-in-Err : goal.returns-in-Err
returns-in-Err c =
    let same = same-standing (c.take_back.ensures c.self.inside.papers c.in-Ok.ensures.back) c.in-Err.ensures.unchanged.0 c.in-Err.ensures.unchanged.1 c.self.inside.proposals in
    unamended c.in-Err.refused (same ∙ c.self.view_is) (subst IsCertified (sym same) c.self.invariant.certified)

-- where a growth was refused before anything changed
refused : {E : Type 0} {old new : Standing} {a : Amendment} (result : Result (Unit {0}) E) → IsErr result → new ≡ old → IsCertified new → IsAmended result old a new
refused (Ok done) is same certified = absurd (false≢true is)
refused (Err error) is same certified = unamended error same certified

pub returns-in_err-ledgers : goal.returns-in_err-ledgers
returns-in_err-ledgers c = refused c.from_residual.result c.from_residual.ensures.0 c.self.view_is c.self.invariant.certified

pub returns-in_err-region : goal.returns-in_err-region
returns-in_err-region c = refused c.from_residual-in_err-region.result c.from_residual-in_err-region.ensures.0 c.self.view_is c.self.invariant.certified
