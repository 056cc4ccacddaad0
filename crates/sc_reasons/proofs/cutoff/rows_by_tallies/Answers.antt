use Rattle.std.proofs.Common.{◌∙◌, ◌++◌, ◌∷◌, [], ap, map, sym}
use Rattle.std.proofs.lemmas.List.{map-append}
use Rattle.sc_papers.specs.Market.{schools_of}
use Rattle.sc_reasons.specs.declared.cutoff.CutoffRow.{CutoffRow}
use Rattle.sc_tallies.proofs.Tallying.{tally-placed, take-one}
use Rattle.sc_reasons.proofs.CutoffLemmas.{row-tally, rows-more}
use Rattle.sc_reasons.proofs.cutoff.rows_by_tallies.Goals as goal

pub loop-position-preserved : goal.loop-position-preserved
loop-position-preserved c =
    let m = c.args.papers.now in
    let s = c.in-Some.school in
    let here = sym c.in-Some.ensures in
    record {
      rows = λ a are.
          let tallied = tally-placed m a c.args.counted.now s c.loop-position.position c.index-counted-position.result are here c.index-counted-position.is in
          let row = row-tally m a s c.seats_of-seats.result c.get.result c.index-counted-position.result c.cutoff_by-cutoff.result c.seats_of-seats.ensures c.get.ensures.value tallied c.cutoff_by-cutoff.ensures in
          c.in_ok-push.ensures.items ∙ rows-more m a c.loop-position.rows.items c.loop-position.position s _ (c.loop-position.invariant.rows a are) here row;
      schools = ap (map (λ (row : CutoffRow). row.school)) c.in_ok-push.ensures.items ∙ map-append (λ (row : CutoffRow). row.school) c.loop-position.rows.items _
          ∙ ap (λ front. front ++ s ∷ []) c.loop-position.invariant.schools ∙ sym (take-one (schools_of m) c.loop-position.position s here);
    }
