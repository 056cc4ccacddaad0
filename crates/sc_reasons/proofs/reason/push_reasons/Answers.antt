use Rattle.std.proofs.Common.{ap, arith, ◌++◌, ◌∙◌, refl}
use Rattle.std.proofs.lemmas.List.{take_all}
use Rattle.sc_papers.specs.Matching.{Matching}
use Rattle.sc_reasons.specs.Reason.{reasons_of}
use Rattle.sc_reasons.proofs.ReasonLemmas.{missed-long, missed-there, missed-within, rows-more}
use Rattle.sc_reasons.proofs.reason.push_reasons.Goals as goal

pub row_of-requires : goal.row_of-requires
row_of-requires c =
    let held : Matching = λ _. c.args.entrant.now.held in
    omega (
      arith,
      c.requires.rows,
      missed-within c.args.papers.now held c.args.entrant.now.student c.loop-choice.choice-index c.missed-choices.result.now c.choice-item.result
          (c.missed-choices.ensures held refl) c.loop-choice-test.true c.choice-item.is,
    )

pub loop-choice-preserved : goal.loop-choice-preserved
loop-choice-preserved c a are holds =
    let m = c.args.papers.now in
    let i = c.args.entrant.now.student in
    let k = c.loop-choice.choice-index in
    let got = missed-there m a i k c.missed-choices.result.now c.choice-item.result (c.missed-choices.ensures a holds) c.loop-choice-test.true c.choice-item.is in
    rows-more (reasons_of m a i) k c.row_of.result c.args.reasons.now.items c.loop-choice.reasons.items c.push.new.self.items (c.loop-choice.invariant a are holds)
    (c.row_of.ensures m a k are got) c.in_ok-push.ensures.items

pub returns : goal.returns
returns c a are holds =
    let rows = reasons_of c.args.papers.now a c.args.entrant.now.student in
    let long = missed-long c.args.papers.now a c.args.entrant.now.student c.missed-choices.result.now (c.missed-choices.ensures a holds) in
    c.loop-choice.invariant a are holds ∙ ap (λ more. c.args.reasons.now.items ++ more) (take_all c.loop-choice.choice-index rows (omega (arith, long, c.loop-choice-test.false)))
