use Rattle.std.proofs.Common.{sym, ◌∙◌, ◌∷◌, Some, None, arith}
use Rattle.std.specs.BinaryHeap.{heap_items}
use Rattle.std.proofs.lemmas.List.Sorted.{length_permutation}
use Rattle.sc_audit.proofs.Offered.{offered-room, offered-replaced, offered-refused}
use Rattle.sc_audit.proofs.best_keys.BestKeys.offer.Goals as goal

pub invariant_of-self-then-len-get : goal.invariant_of-self-then-len-get
invariant_of-self-then-len-get c = record {
  heap = c.in_ok-add.ensures.heap c.self.invariant.heap;
  within = omega (arith, length_permutation (c.args.key ∷ heap_items c.self.inside.keys) (heap_items c.add.new.keys) c.in_ok-add.ensures.added, c.self.inside.keys.data.ok);
  last = record { held = c.last_of-self-inside.ensures.held; behind = c.last_of-self-inside.ensures.behind; none = c.last_of-self-inside.ensures.none };
}

pub invariant_of-self-then-is_ahead_of_last : goal.invariant_of-self-then-is_ahead_of_last
invariant_of-self-then-is_ahead_of_last c =
    let last = c.last_of-self-inside-then-is_ahead_of_last in
    record {
      heap = c.replace_last-out.ensures.heap;
      within = omega (arith, length_permutation (c.args.key ∷ heap_items c.self.inside.keys) (c.replace_last-out.result ∷ heap_items c.replace_last-out.new.keys) c.replace_last-out.ensures.together, c.self.invariant.within);
      last = record { held = last.ensures.held; behind = last.ensures.behind; none = last.ensures.none };
    }

pub returns-in_ok-add-clause-offered : goal.returns-in_ok-add-clause-offered
returns-in_ok-add-clause-offered c =
    rw (← c.self.view_is) (None, offered-room (heap_items c.self.inside.keys) (heap_items c.add.new.keys) c.self.inside.seats c.args.key (omega (arith, c.if-len-get.true, c.get.ensures.value, c.len.ensures, c.self.inside.keys.data.ok)) c.in_ok-add.ensures.added)

pub returns-then-is_ahead_of_last-clause-offered : goal.returns-then-is_ahead_of_last-clause-offered
returns-then-is_ahead_of_last-clause-offered c =
    rw (← c.self.view_is) (
      Some c.replace_last-out.result,
      offered-replaced (heap_items c.self.inside.keys) (heap_items c.replace_last-out.new.keys) c.self.inside.seats c.args.key c.replace_last-out.result c.self.inside.last c.self.invariant.last (sym c.is_ahead_of_last.ensures ∙ c.if-is_ahead_of_last.true) c.self.invariant.within
          (omega (arith, c.if-len-get.false, c.get.ensures.value, c.len.ensures, c.self.inside.keys.data.ok)) c.replace_last-out.ensures.together c.replace_last-out.ensures.last,
    )

pub returns-else-is_ahead_of_last-clause-offered : goal.returns-else-is_ahead_of_last-clause-offered
returns-else-is_ahead_of_last-clause-offered c =
    rw (← c.self.view_is) (
      Some c.args.key,
      offered-refused (heap_items c.self.inside.keys) c.self.inside.seats c.args.key c.self.inside.last c.self.invariant.last (sym c.is_ahead_of_last.ensures ∙ c.if-is_ahead_of_last.false) c.self.invariant.within
          (omega (arith, c.if-len-get.false, c.get.ensures.value, c.len.ensures, c.self.inside.keys.data.ok)),
    )
