use Rattle.std.proofs.Common.{◌≡◌, sym, ap, subst, ◌∙◌, slice_set, Contains}
use Rattle.std.proofs.lemmas.Option.{same_Some}
use Rattle.sc_papers.specs.Key.{key_of}
use Rattle.sc_papers.specs.Market.{student_at}
use Rattle.sc_ledgers.specs.Course.{labels_of}
use Rattle.sc_ledgers.proofs.Proposing.{ledger-here, set-here, struck-at}
use Rattle.sc_ledgers.proofs.striking.strike_at.Goals as goal

pub returns-in-Some-clause-struck : goal.returns-in-Some-clause-struck
returns-in-Some-clause-struck c =
    let m = c.args.papers.now in
    struck-at m c.args.ledgers.now.items c.in-Some.proposal.school c.in-Some.proposal.position c.args.turn c.in-Some.proposal.key c.index_mut.result.now c.strike_of.new.self c.in-Some.ensures.position c.requires.one_each
    (ledger-here m c.args.ledgers.now.items c.in-Some.proposal.school c.in-Some.proposal.position c.index_mut.result.now c.in-Some.ensures.position c.requires.one_each c.index_mut.ensures.value)
    c.strike_of.ensures.kept c.strike_of.ensures.only

pub returns-in-Some-clause-none : goal.returns-in-Some-clause-none
returns-in-Some-clause-none c s listed label here turn key =
    let m = c.args.papers.now in
    let same : c.in-Some.proposal.school ≡ s = same_Some c.in-Some.proposal.school s (c.in-Some.ensures.school ∙ listed) in
    (c.strike_of.ensures.only label (subst (λ l. Contains l label) (ap (labels_of m (slice_set c.args.ledgers.now.items c.in-Some.proposal.position c.strike_of.new.self)) (sym same)
    ∙ set-here m c.args.ledgers.now.items c.in-Some.proposal.school c.in-Some.proposal.position c.strike_of.new.self c.in-Some.ensures.position c.requires.one_each) here)).1
    (key ∙ ap (key_of m (student_at m c.args.student)) (sym same) ∙ sym c.in-Some.ensures.key) turn
