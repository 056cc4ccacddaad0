use Rattle.std.proofs.Common.{◌≡◌, drop, length, map}
use Rattle.sc_checkpoint.specs.Chains.{replaced}
use Rattle.sc_checkpoint.specs.Spans.{shifted}
use Rattle.sc_checkpoint.proofs.span.replace_at.Given as goal

abbrev pub invariant-loop-turn : goal.invariant-loop-turn
invariant-loop-turn l =
    (replaced l.initial.spans.items l.positions (map (shifted l.by) l.renewed) ≡ replaced l.spans.items (drop l.turn l.positions) (map (shifted l.by) (drop l.turn l.renewed)))
    × (length l.spans.items ≡ length l.initial.spans.items)
