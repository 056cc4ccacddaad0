use Rattle.std.proofs.Common.{ap, subst, sym, ◌∙◌, All}
use Rattle.std.proofs.lemmas.List.{take_all}
use Rattle.std.proofs.lemmas.List.Folds.{flat_map-map}
use Rattle.std.specs.Prelude.{flat_map}
use Rattle.sc_reasons.specs.Entrants.{numbers_of, Holds}
use Rattle.sc_reasons.specs.Reason.{reasons_of}
use Rattle.sc_reasons.specs.declared.entrants.Entrant.{Entrant}
use Rattle.sc_reasons.proofs.reason.reason_rows.Goals as goal

pub returns : goal.returns
returns c a places =
    let rows = reasons_of c.args.papers.now a in
    let entrants = c.as_slice-entrants.result.now in
    let made = c.as_slice-rows.ensures.value ∙ c.in_ok-in_order.ensures.rows a places in
    let hold = subst (All (Holds a)) (sym c.as_slice-entrants.ensures.value) (c.in_ok-rising.ensures.hold a places) in
    c.loop-entrant.invariant a made hold
    ∙ ap (flat_map (λ (e : Entrant). rows e.student)) (take_all c.loop-entrant.entrant-index entrants c.loop-entrant-test.false)
    ∙ sym (flat_map-map rows (λ (e : Entrant). e.student) entrants)
    ∙ ap (flat_map rows) (ap numbers_of c.as_slice-entrants.ensures.value ∙ c.in_ok-rising.ensures.rising.numbers)
