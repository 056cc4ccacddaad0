use Rattle.sc_ledgers.proofs.Placing.{searched}
use Rattle.sc_ledgers.proofs.ledger.place_of.Goals as goal

pub returns : goal.returns
returns c =
    let facts = c.binary_search.ensures in
    searched c.args.keys.now c.args.key.now c.requires c.binary_search.result facts.bound facts.position
