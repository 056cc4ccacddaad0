use Rattle.std.proofs.Common.{◌∙◌, ap, sym, true}
use Rattle.std.specs.BinaryHeap.{heap_items}
use Rattle.std.specs.Option.{option_map_or}
use Rattle.sc_papers.specs.Key.{is_before}
use Rattle.sc_papers.specs.declared.key.Key.{Key}
use Rattle.sc_audit.proofs.Offered.{all-ahead}
use Rattle.sc_audit.proofs.best_keys.BestKeys.are_ahead_of.Goals as goal

pub returns-in-Some : goal.returns-in-Some
returns-in-Some c =
    rw (← c.self.view_is)
    (c.is_ahead_of.ensures ∙ ap (λ o. option_map_or (λ (x : Key). is_before x c.args.key.now) o true) (sym c.in-Some.is)
    ∙ all-ahead c.self.inside.last (heap_items c.self.inside.keys) c.args.key.now c.self.invariant.last)
