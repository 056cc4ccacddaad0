use Rattle.std.proofs.Common.{◌≡◌, sym, inl, inr, Contains, subst, ℕ, ◌+◌, List, length, arith}
use Rattle.std.specs.Prelude.{◌<◌, get_or, slice_index}
use Rattle.std.proofs.lemmas.List.{drop_all, get_or_default, length-map}
use Rattle.std.proofs.lemmas.List.Elements.{Contains-get_or}
use Rattle.sc_checkpoint.specs.Chains.{logs_in}
use Rattle.sc_ledgers.specs.Renewed.{IsUnderWay}
use Rattle.sc_ledgers.proofs.Along.{underway-at}
use Rattle.sc_ledgers.proofs.passage.sweep.Goals as goal

index-is : (xs : List ℕ) (r : ℕ) → r < length xs → slice_index xs r ≡ get_or xs r (slice_index xs r)
index-is xs r low = get_or_default xs r 0 (slice_index xs r) low

index-in : (xs : List ℕ) (r : ℕ) → r < length xs → Contains xs (slice_index xs r)
index-in xs r low = subst (Contains xs) (sym (index-is xs r low)) (Contains-get_or xs r (slice_index xs r) low)

pub take_next-requires-clause-within : goal.take_next-requires-clause-within
take_next-requires-clause-within c =
    let (m, reseated, test, inner, start) = c.requires.start in
    omega (arith, (underway-at c.args.positions.now c.loop-position.position-index (slice_index c.args.positions.now c.loop-position.position-index) c.loop-position-test.true (index-is c.args.positions.now c.loop-position.position-index c.loop-position-test.true) (c.loop-position.invariant.4 m reseated test inner start)).0, length-map c.args.segments.now (λ x. x.rejections))

pub take_next-requires-clause-sweeping : goal.take_next-requires-clause-sweeping
take_next-requires-clause-sweeping c =
    let (m, reseated, test, inner, start) = c.requires.start in
    let at = underway-at c.args.positions.now c.loop-position.position-index (slice_index c.args.positions.now c.loop-position.position-index) c.loop-position-test.true (index-is c.args.positions.now c.loop-position.position-index c.loop-position-test.true) (c.loop-position.invariant.4 m reseated test inner start) in
    (m, reseated, test, inner, at.1)

pub loop-position-preserved : goal.loop-position-preserved
loop-position-preserved c = (
  c.take_next.ensures.one_each,
  c.in_ok-asked.ensures.none,
  c.in_ok-asked.ensures.flagged,
  λ p here. elim (c.in_ok-asked.ensures.here p here) [
    | inl before ↦ c.loop-position.invariant.3 p before
    | inr now ↦ inr (subst (Contains c.args.positions.now) (sym now) (index-in c.args.positions.now c.loop-position.position-index c.loop-position-test.true))
  ],
  λ m reseated test inner start.
      let (low, sweeping, passes, turns) = underway-at c.args.positions.now c.loop-position.position-index (slice_index c.args.positions.now c.loop-position.position-index) c.loop-position-test.true (index-is c.args.positions.now c.loop-position.position-index c.loop-position-test.true) (c.loop-position.invariant.4 m reseated test inner start) in
      ((slice_index c.args.positions.now c.loop-position.position-index) + 1, c.in_ok-asked.ensures.swept m reseated test inner sweeping passes, turns),
  λ theirs. c.in_ok-asked.ensures.owners (c.loop-position.invariant.5 theirs),
)

pub returns-clause-swept : goal.returns-clause-swept
returns-clause-swept c m reseated test inner start =
    subst (IsUnderWay m c.args.rows.now reseated test inner (logs_in c.args.segments.now) c.loop-position.renewal c.loop-position.ledgers c.loop-position.stances c.loop-position.marks)
    (drop_all c.loop-position.position-index c.args.positions.now (omega (arith, c.loop-position-test.false)))
    (c.loop-position.invariant.4 m reseated test inner start)
