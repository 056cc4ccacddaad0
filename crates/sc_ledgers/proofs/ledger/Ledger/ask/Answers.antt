use Rattle.std.proofs.Common.{◌≤◌, ◌<◌, ◌+◌, ◌≡◌, ◌∙◌, inr, get_or, length, refl, sym, subst, take, arith}
use Rattle.sc_ledgers.specs.Known.{known, labels_with, up_to, HoldsLast, IsByKey}
use Rattle.sc_ledgers.proofs.Listing.{by_key-listed, holds-last, known-count}
use Rattle.sc_ledgers.proofs.ledger.Ledger.ask.Goals as goal
use Rattle.sc_ledgers.proofs.ledger.Ledger.ask.Goals.{After-as_slice-turns, After-index}

in-order : (c : After-as_slice-turns) → IsByKey c.args.self.now
in-order c = subst IsByKey c.self.view_is (by_key-listed c.self.inside.keys.items c.self.inside.turns.items c.self.invariant.order)

-- the key that was read is that of the last one held
last : (c : After-index) → HoldsLast c.args.turn c.args.self.now c.args.seats c.index.result.now
last c =
    let keys = c.self.inside.keys.items in
    let turns = c.self.inside.turns.items in
    let at = c.in-Some.at in
    let same = c.as_slice-turns.ensures.value in
    subst (λ labels. HoldsLast c.args.turn labels c.args.seats c.index.result.now) c.self.view_is
    (subst (HoldsLast c.args.turn (labels_with keys turns) c.args.seats) (sym c.index.ensures)
    (holds-last c.args.turn keys turns at c.args.seats c.index.result.now c.self.invariant c.requires
    (subst (λ ts. at < length ts) same c.in-Some.ensures.within) (subst (λ ts. get_or ts at 0 ≤ c.args.turn) same (c.in-Some.ensures.asked 0))
    (subst (λ ts. up_to c.args.turn (take at ts) + 1 ≡ c.args.seats) same c.in-Some.ensures.held)))

pub returns-then-seats-eq0-clause-by_key : goal.returns-then-seats-eq0-clause-by_key
returns-then-seats-eq0-clause-by_key c = in-order (goal.at.returns-then-seats-eq0-clause-by_key c).After-as_slice-turns

pub returns-in_default : goal.returns-in_default
returns-in_default c =
    let keys = c.self.inside.keys.items in
    let turns = c.self.inside.turns.items in
    let room : up_to c.args.turn turns < c.args.seats = subst (λ ts. up_to c.args.turn ts < c.args.seats) c.as_slice-turns.ensures.value (c.in_default.ensures.room refl) in
    record {
      answer = subst (λ labels. length (known c.args.turn labels) < c.args.seats) c.self.view_is
          (omega (arith, room, known-count c.args.turn keys turns c.requires c.self.invariant.one_each));
      by_key = in-order (goal.at.returns-in_default c).After-as_slice-turns;
    }

pub returns-then-is_ahead_of : goal.returns-then-is_ahead_of
returns-then-is_ahead_of c = record {
  answer = (last (goal.at.returns-then-is_ahead_of c).After-index, sym c.is_ahead_of.ensures ∙ c.if-is_ahead_of.true);
  by_key = in-order (goal.at.returns-then-is_ahead_of c).After-as_slice-turns;
}

pub returns-else-is_ahead_of : goal.returns-else-is_ahead_of
returns-else-is_ahead_of c = record {
  answer = inr (c.index.result.now, last (goal.at.returns-else-is_ahead_of c).After-index, sym c.is_ahead_of.ensures ∙ c.if-is_ahead_of.false);
  by_key = in-order (goal.at.returns-else-is_ahead_of c).After-as_slice-turns;
}
