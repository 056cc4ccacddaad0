use Rattle.std.proofs.Common.{◌≡◌, ap, arith, length, map, nat_eq, not, position, refl, Some, subst, sym}
use Rattle.std.proofs.lemmas.List.{length-take-le}
use Rattle.std.proofs.lemmas.List.Sums.{prefix_len-le-length}
use Rattle.sc_papers.specs.Classed.{Classed}
use Rattle.sc_papers.specs.Key.{class_at}
use Rattle.sc_papers.specs.Market.{choices_of, schools_of, student_at}
use Rattle.sc_papers.specs.Matching.{Matching, has}
use Rattle.sc_papers.proofs.Hands.{hand-is}
use Rattle.sc_reasons.proofs.ReasonLemmas.{listed-long, missed-are}
use Rattle.sc_reasons.proofs.reason.missed.Goals as goal

pub slice_bounds-result-end : goal.slice_bounds-result-end
slice_bounds-result-end c =
    let m = c.args.papers.now in
    let entrant = c.args.entrant.now in
    let held : Matching = λ _. entrant.held in
    let listed = c.classed_choices_at-choices.result.now in
    let long = listed-long m listed (choices_of m (student_at m entrant.position)) c.classed_choices_at-choices.ensures.positions in
    let is = ap (λ j. length (choices_of m j)) (hand-is m entrant.position entrant.student c.requires) in
    sym (length-take-le c.held_rank.result listed (omega (arith, c.held_rank.ensures held refl, prefix_len-le-length (λ s. not (has held s entrant.student)) (choices_of m entrant.student), long, is)))

pub returns : goal.returns
returns c a holds =
    let m = c.args.papers.now in
    let i = c.args.entrant.now.student in
    let listed = c.classed_choices_at-choices.result.now in
    let is = hand-is m c.args.entrant.now.position i c.requires in
    missed-are m a i c.held_rank.result listed
    (subst (λ j. map Some (map (λ (d : Classed). d.position) listed) ≡ map (λ s. position (nat_eq s) (schools_of m)) (choices_of m j)) is c.classed_choices_at-choices.ensures.positions)
    (subst (λ j. map (λ (d : Classed). d.class) listed ≡ map (class_at m j) (choices_of m j)) is c.classed_choices_at-choices.ensures.classes)
    (c.held_rank.ensures a holds)
