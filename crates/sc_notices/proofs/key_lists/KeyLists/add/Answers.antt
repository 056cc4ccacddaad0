use Rattle.sc_notices.proofs.KeyListLemmas.{key-added}
use Rattle.sc_notices.proofs.key_lists.KeyLists.add.Goals as goal

pub returns : goal.returns
returns c =
    key-added c.self.inside.lists.items c.args.at c.index_mut.result.now c.push.new.self c.args.key c.args.self.now c.self.view_is c.requires
    c.index_mut.ensures.value c.in_ok-push.ensures.items
