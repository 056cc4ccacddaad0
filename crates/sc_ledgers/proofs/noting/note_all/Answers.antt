use Rattle.std.proofs.Common.{◌≡◌, ◌<◌, ◌+◌, ℕ, List, [], refl, sym, subst, length, arith}
use Rattle.std.proofs.lemmas.List.{length-map, take_all}
use Rattle.std.proofs.lemmas.Option.{slice_get-get_or, slice_get_within}
use Rattle.sc_papers.specs.Market.{Market, student_at, students_of}
use Rattle.sc_papers.specs.Restriction.{IsSegmented}
use Rattle.sc_papers.specs.WellFormed.{WellFormed}
use Rattle.sc_papers.specs.declared.rejection.Rejection.{Rejection}
use Rattle.sc_checkpoint.specs.Chains.{logs_in, Chain}
use Rattle.sc_ledgers.specs.Cohort.{cohort, IsRunTo}
use Rattle.sc_ledgers.specs.Course.{labels_of}
use Rattle.sc_ledgers.specs.Ends.{AreEnds}
use Rattle.sc_ledgers.specs.Ledger.{log_at}
use Rattle.sc_ledgers.specs.Opening.{everybody, AreNoted, AreNotedTo}
use Rattle.sc_ledgers.proofs.Cohorts.{segments-run}
use Rattle.sc_ledgers.proofs.Opening.{entries-listed, opened, opened-none}
use Rattle.sc_ledgers.proofs.Staying.{valid-turn}
use Rattle.sc_ledgers.proofs.TurnEnds.{ends-next, ends-none}
use Rattle.sc_ledgers.proofs.noting.note_all.Goals as goal

whole : (m : Market) (old : List (List Rejection)) → WellFormed m → IsSegmented m old → IsRunTo (cohort m everybody) (length (students_of m)) old
whole m old well run = segments-run (cohort m everybody) old well (λ j. refl) run

pub loop-position-init : goal.loop-position-init
loop-position-init c = (
  c.requires.one_each,
  opened-none (cohort c.args.papers.now everybody) (logs_in c.args.segments.now) (labels_of c.args.papers.now c.args.lists.now.items) c.requires.well c.requires.empty,
  subst (AreEnds c.args.papers.now []) (sym c.requires.none) (ends-none c.args.papers.now),
)

pub note_turn-requires-clause-listed : goal.note_turn-requires-clause-listed
note_turn-requires-clause-listed c =
    let m = c.args.papers.now in
    let old = logs_in c.args.segments.now in
    λ e here. entries-listed (cohort m everybody) (c.loop-position.position + 1) c.requires.well c.segment-segment.result.now (log_at old c.loop-position.position)
    (valid-turn (cohort m everybody) old c.loop-position.position c.segment-segment.result.now (whole m old c.requires.well c.requires.run) c.segment-segment.ensures) e here

pub loop-position-preserved : goal.loop-position-preserved
loop-position-preserved c =
    let m = c.args.papers.now in
    let old = logs_in c.args.segments.now in
    let k : ℕ = c.loop-position.position in
    let rest = c.segment-segment.result.now in
    let labels = labels_of m c.loop-position.lists.items in
    let noted = labels_of m c.note_turn.new.lists.items in
    let run = whole m old c.requires.well c.requires.run in
    let low : k < length (students_of m) = omega (arith, slice_get_within old k rest c.segment-segment.ensures, run.one_each) in
    let next = opened {n = cohort m everybody} {old = old} {k = k} {i = student_at m k} {rest = rest} {labels = labels} {noted = noted} (record {
      well = c.requires.well;
      run = run;
      here = slice_get-get_or (students_of m) k 0 low;
      turn = refl;
      segment = c.segment-segment.ensures;
      earlier = c.loop-position.invariant.1;
      notes = subst (λ t. AreNoted m t (student_at m k) rest rest labels noted) c.turn_at-turn.ensures c.in_ok-note_turn.ensures.noted;
    }) in
    (c.note_turn.ensures.one_each, next, ends-next m old k rest c.loop-position.ends c.push.new.self c.end_place.result c.segment-segment.ensures c.end_place.ensures.place c.in_ok-push.ensures c.loop-position.invariant.2)

pub returns-clause-whole : goal.returns-clause-whole
returns-clause-whole c =
    let n = cohort c.args.papers.now everybody in
    let old = logs_in c.args.segments.now in
    let labels = labels_of c.args.papers.now c.loop-position.lists.items in
    let end : c.loop-position.position ≡ length old = omega (arith, length-map c.args.segments.now (λ (chain : Chain). chain.rejections), c.len-position-end.ensures, c.loop-position.auto.position-end, c.loop-position-test.false) in
    let noted : AreNotedTo n old (length old) labels = subst (λ k. AreNotedTo n old k labels) end c.loop-position.invariant.1 in
    record { run = whole c.args.papers.now old c.requires.well c.requires.run; before = noted.before; turns = noted.turns; own = noted.own }

pub returns-clause-ends : goal.returns-clause-ends
returns-clause-ends c =
    let old = logs_in c.args.segments.now in
    let end : c.loop-position.position ≡ length old = omega (arith, length-map c.args.segments.now (λ (chain : Chain). chain.rejections), c.len-position-end.ensures, c.loop-position.auto.position-end, c.loop-position-test.false) in
    subst (λ l. AreEnds c.args.papers.now l c.loop-position.ends) (take_all c.loop-position.position old (omega (arith, end))) c.loop-position.invariant.2
