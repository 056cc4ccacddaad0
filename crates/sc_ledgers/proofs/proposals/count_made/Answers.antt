use Rattle.std.proofs.Common.{◌≡◌, ◌-◌, ◌+◌, ◌<◌, ℕ, is_some, if◌then◌else◌, List, [], length, map, get_or, refl, sym, ap, ◌∙◌, take, arith}
use Rattle.std.specs.Prelude.{slice_index}
use Rattle.std.proofs.lemmas.List.{get_or-map, length-map, take_all}
use Rattle.std.proofs.lemmas.Option.{get_or_from_slice_get, slice_get_within}
use Rattle.sc_papers.specs.Market.{Market, student_at}
use Rattle.sc_papers.specs.Restriction.{IsSegmented}
use Rattle.sc_papers.specs.declared.rejection.Rejection.{Rejection}
use Rattle.sc_papers.proofs.Hands.{hand-student}
use Rattle.sc_checkpoint.specs.Chains.{logs_in}
use Rattle.sc_checkpoint.specs.Positions.{LieBelow}
use Rattle.sc_ledgers.specs.Ends.{place_of}
use Rattle.sc_ledgers.specs.Proposals.{end_of, ends_placed, made_at, made_in}
use Rattle.sc_ledgers.proofs.TurnEnds.{placed-there}
use Rattle.sc_ledgers.proofs.TurnsCounted.{made-more, made-within}
use Rattle.sc_ledgers.proofs.proposals.count_made.Goals as goal
use Rattle.sc_ledgers.proofs.proposals.count_made.Goals.{After-made_in-count}

-- the positions less the gap, and one of them
abbrev closer : List ℕ → ℕ → List ℕ
closer positions gap = map (λ p. p - gap) positions

closer-at : (positions : List ℕ) (gap k : ℕ) → k < length positions → slice_index (closer positions gap) k ≡ slice_index positions k - gap
closer-at positions gap k low = get_or-map (λ p. p - gap) positions k 0 0 low

-- the turn is one of a student
turn-low : (m : Market) (segments : List (List Rejection)) (t : ℕ) → IsSegmented m segments → t < length segments → t < length m.students
turn-low m segments t run low = omega (arith, run.one_each, low, length-map m.students (λ e. e.0))

-- what the turn made, of which this is the segment
made-here : (c : After-made_in-count) → c.made_in-count.result ≡ made_in c.args.papers.now (get_or (logs_in c.args.segments.now) (get_or (closer c.args.positions.now c.args.gap) c.loop-position.position-index 0) [])
made-here c =
    let m = c.args.papers.now in
    let logs = logs_in c.args.segments.now in
    let t : ℕ = c.saturating_sub-at.result in
    let rest = c.segment-segment.result.now in
    let here : get_or logs t [] ≡ rest = get_or_from_slice_get logs t rest [] c.segment-segment.ensures in
    let low : t < length logs = slice_get_within logs t rest c.segment-segment.ensures in
    let placed : is_some c.end_at.result ≡ ends_placed m rest =
    ap is_some c.end_at.ensures
    ∙ placed-there m c.students_len.ensures.well_formed (student_at m t) rest (hand-student m t (turn-low m logs t c.requires.run low)) in
    c.made_in-count.ensures
    ∙ ap (λ b. length rest + (if b then 1 else 0)) placed
    ∙ ap (made_in m) (sym here)
    ∙ ap (λ at. made_in m (get_or logs at [])) (c.saturating_sub-at.ensures ∙ sym (closer-at c.args.positions.now c.args.gap c.loop-position.position-index c.loop-position-test.true))

pub loop-position-init : goal.loop-position-init
unfolding made_at
loop-position-init c = refl

pub segment-segment-requires : goal.segment-segment-requires
segment-segment-requires c =
    let k = c.loop-position.position-index in
    omega (
      arith,
      c.saturating_sub-at.ensures,
      closer-at c.args.positions.now c.args.gap k c.loop-position-test.true,
      c.requires.within k (omega (arith, c.loop-position-test.true, length-map c.args.positions.now (λ p. p - c.args.gap))),
    )

pub overflow_add-count : goal.overflow_add-count
overflow_add-count c =
    let m = c.args.papers.now in
    let logs = logs_in c.args.segments.now in
    let turns = closer c.args.positions.now c.args.gap in
    let many : length turns ≡ length c.args.positions.now = length-map c.args.positions.now (λ p. p - c.args.gap) in
    let below : LieBelow (length logs) turns = λ k low. omega (arith, c.requires.within k low, length-map c.args.segments.now (λ chain. chain.rejections)) in
    omega (
      arith,
      made-here c,
      c.loop-position.invariant,
      made-within m logs c.students_len.ensures.well_formed c.students_len.ensures.within_limits c.requires.run turns c.loop-position.position-index below (omega (arith, many)) (omega (arith, many, c.loop-position-test.true)),
    )

pub loop-position-preserved : goal.loop-position-preserved
loop-position-preserved c =
    let many : length (closer c.args.positions.now c.args.gap) ≡ length c.args.positions.now = length-map c.args.positions.now (λ p. p - c.args.gap) in
    omega (
      arith,
      made-here c,
      c.loop-position.invariant,
      made-more c.args.papers.now (logs_in c.args.segments.now) (closer c.args.positions.now c.args.gap) c.loop-position.position-index (omega (arith, many, c.loop-position-test.true)),
    )

pub returns : goal.returns
returns c =
    c.loop-position.invariant
    ∙ ap (made_at c.args.papers.now (logs_in c.args.segments.now))
    (ap (λ n. take n (closer c.args.positions.now c.args.gap)) (omega (arith, c.loop-position-test.false, c.loop-position.auto.position-index-end, length-map c.args.positions.now (λ p. p - c.args.gap)))
    ∙ take_all (length (closer c.args.positions.now c.args.gap)) (closer c.args.positions.now c.args.gap) (omega arith))
