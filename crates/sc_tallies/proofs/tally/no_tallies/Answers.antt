use Rattle.std.proofs.Common.{◌∙◌, ◌++◌, ◌∷◌, [], ap}
use Rattle.std.proofs.lemmas.List.{replicate-append-replicate}
use Rattle.sc_tallies.specs.Tally.{no_tally}
use Rattle.sc_tallies.proofs.tally.no_tallies.Goals as goal

pub loop-added-preserved : goal.loop-added-preserved
loop-added-preserved c =
    c.in_ok-push.ensures.items ∙ ap (λ tallies. tallies ++ no_tally ∷ []) c.loop-added.invariant ∙ replicate-append-replicate c.loop-added._added 1 no_tally
