use Rattle.std.proofs.Common.{◌∙◌, ap}
use Rattle.sc_notices.specs.KeyLists.{keys_in}
use Rattle.sc_notices.proofs.KeyListLemmas.{list-added}
use Rattle.sc_notices.proofs.key_lists.KeyLists.empty.Goals as goal

pub loop-added-preserved : goal.loop-added-preserved
loop-added-preserved c =
    ap keys_in c.in_ok-push.ensures.items ∙ list-added c.loop-added.lists.items c.loop-added._added c.new.result c.new.ensures.items c.loop-added.invariant
