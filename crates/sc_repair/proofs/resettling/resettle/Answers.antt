use Rattle.std.proofs.Common.{sym, subst, List, get_or, arith}
use Rattle.std.proofs.lemmas.List.{length-map}
use Rattle.std.proofs.lemmas.List.Elements.{Contains-get_or}
use Rattle.sc_checkpoint.specs.Chains.{logs_in}
use Rattle.sc_ledgers.specs.Anew.{EndsAnew}
use Rattle.sc_ledgers.specs.Course.{labels_of}
use Rattle.sc_ledgers.specs.declared.elsewhere.Stance.{Stance}
use Rattle.sc_checkpoint.specs.Chains.{Chain}
use Rattle.sc_repair.specs.Anew.{IsSettledAnew}
use Rattle.sc_repair.proofs.Resettled.{resettled}
use Rattle.sc_repair.proofs.resettling.resettle.Goals as goal

pub put_in-requires : goal.put_in-requires
put_in-requires c k low =
    let (m, test, inner, point, labels, start) = c.requires.start in
    let ends = c.in_ok-outcome.ensures.anew m test inner point labels start in
    omega (arith, ends.within (get_or c.in_ok-outcome.outcome.renewal.positions k 0) (Contains-get_or c.in_ok-outcome.outcome.renewal.positions k 0 low), length-map c.args.segments.now (λ chain. chain.rejections))

pub returns-clause-anew : goal.returns-clause-anew
returns-clause-anew c m test inner point labels start stood =
    let renewed = c.in_ok-outcome.outcome.renewal in
    let ends = subst (λ (list : List Stance). EndsAnew m c.args.rows.now test (logs_in c.args.segments.now) point renewed (labels_of c.args.rows.now.papers.now c.take_anew.new.ledgers.schools.items) c.take_anew.new.ledgers.ends list) (sym c.as_slice-stances.ensures.value)
    (c.in_ok-outcome.ensures.anew m test inner point labels start) in
    subst (λ (chains : List Chain). IsSettledAnew c.args.rows.now test point c.args.segments.now chains c.args.places.now c.move_all.new.places (labels_of c.args.rows.now.papers.now c.take_anew.new.ledgers.schools.items) c.take_anew.new.ledgers.ends) (sym (c.in_default.ensures.replaced))
    (resettled c.args.segments.now renewed c.as_slice-stances.result.now c.args.places.now c.place_new.new.places c.move_all.new.places ends c.as_slice-stances.ensures.apart c.in_ok-outcome.ensures.owners c.in_ok-place_new.ensures.given c.move_all.ensures stood)
