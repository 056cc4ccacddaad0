use Rattle.sc_notices.proofs.AdmissionLemmas.{list-more, list-whole}
use Rattle.sc_notices.proofs.admissions.push_list.Goals as goal

pub loop-rank-preserved : goal.loop-rank-preserved
loop-rank-preserved c =
    list-more c.args.status c.args.school c.args.keys.now c.loop-rank.rank c.index-keys-rank.result c.args.text.now.items c.loop-rank.text.items c.push_place.new.text.items
    c.loop-rank-test.true c.index-keys-rank.is c.loop-rank.invariant c.in_ok-push_place.ensures

pub returns : goal.returns
returns c =
    list-whole c.args.status c.args.school c.args.keys.now c.loop-rank.rank c.args.text.now.items c.loop-rank.text.items c.loop-rank-test.false c.loop-rank.invariant
