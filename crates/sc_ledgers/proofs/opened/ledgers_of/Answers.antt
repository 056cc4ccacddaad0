use Rattle.std.proofs.Common.{◌<◌, ◌+◌, ℕ, refl, ap, sym, subst, List, [], length, All, arith}
use Rattle.std.specs.Prelude.{slice_set}
use Rattle.sc_ledgers.specs.declared.ledger.Label.{Label}
use Rattle.sc_ledgers.specs.declared.ledger.TheConstants.{NEVER}
use Rattle.sc_ledgers.proofs.Kept.{ledgers-all, ledgers-more, list-there, AreLedgersTo}
use Rattle.sc_ledgers.proofs.opened.ledgers_of.Goals as goal
use Rattle.sc_ledgers.proofs.opened.ledgers_of.Goals.{After-index_mut}

pub loop-position-init : goal.loop-position-init
loop-position-init c = record {
  one_each = ap length c.in_ok-ledgers.ensures.items;
  as_many = refl;
  rest = λ p past. refl;
  kept = λ p before. absurd (omega (arith, before));
}

low : (c : After-index_mut) → c.loop-position.position < length c.loop-position.lists.items
low c = omega (arith, c.loop-position-test.true, c.len-position-end.ensures, c.args.lists.ok.0, c.loop-position.invariant.as_many)

pub take_ledger-requires : goal.take_ledger-requires
take_ledger-requires c =
    let k : ℕ = c.loop-position.position in
    let lists : List (List Label) = c.args.lists.items in
    let there = list-there k lists c.loop-position.lists.items c.loop-position.ledgers.items c.index_mut.result.now c.loop-position.invariant (low c) c.index_mut.ensures.value in
    record { turns = subst (All (λ label. label.turn < NEVER)) (sym there) (c.requires.turns k [] (omega (arith, low c, c.loop-position.invariant.as_many))) }

pub loop-position-preserved : goal.loop-position-preserved
loop-position-preserved c =
    let k : ℕ = c.loop-position.position in
    let lists : List (List Label) = c.args.lists.items in
    let left : List (List Label) = c.loop-position.lists.items in
    subst (AreLedgersTo (k + 1) lists (slice_set left k c.take_ledger.new.self)) (sym c.in_ok-push.ensures.items)
    (ledgers-more k lists left c.loop-position.ledgers.items c.index_mut.result.now c.take_ledger.new.self c.in_ok-take_ledger.field-0 c.loop-position.invariant (low (goal.at.loop-position-preserved c).After-index_mut) c.index_mut.ensures.value c.in_ok-take_ledger.ensures)

pub returns : goal.returns
returns c =
    ledgers-all c.loop-position.position c.args.lists.items c.loop-position.lists.items c.loop-position.ledgers.items c.loop-position.invariant
    (omega (arith, c.loop-position.auto.position-end, c.loop-position-test.false, c.len-position-end.ensures, c.args.lists.ok.0, c.loop-position.invariant.as_many))
