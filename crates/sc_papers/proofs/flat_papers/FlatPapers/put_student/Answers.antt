use Rattle.std.proofs.lemmas.List.{length-set}
use Rattle.std.proofs.lemmas.Option.{get_or_from_slice_get}
use Rattle.std.proofs.Common.{List, Some, arith, length, map, nat_eq, position, refl, sym, ap, subst, ◌∙◌, slice_set}
use Rattle.sc_papers.specs.Market.{Market, students_of, zone_at}
use Rattle.sc_papers.specs.Representation.{market_of}
use Rattle.sc_papers.specs.Classed.{Classed}
use Rattle.sc_papers.specs.StudentRow.{classed_at, positions_in, row_at, row_of}
use Rattle.sc_papers.specs.Verdict.{changed_student}
use Rattle.sc_papers.specs.WellFormed.{IsProper}
use Rattle.sc_papers.proofs.Changing.{put_student}
use Rattle.sc_papers.proofs.ChangingRepresentation.{holds-put_student, put-known}
use Rattle.sc_papers.proofs.ChoicePositions.{known-places}
use Rattle.sc_papers.proofs.EnteringAt.{row-tabled, IsTable}
use Rattle.sc_papers.proofs.Placed.{places-low}
use Rattle.sc_papers.proofs.Keys.{draw-there, found-by_position}
use Rattle.sc_papers.proofs.Representation.{Holds, kept-fewer}
use Rattle.sc_papers.proofs.flat_papers.FlatPapers.put_student.Goals as goal

changed : (c : goal.After-keep_siblings) → Holds (record c.self.inside { rows = c.replace.new.self; siblings = c.keep_siblings.new.kept }) (put_student (market_of c.self.inside) c.args.number c.args.student.now)
changed c =
    let i = c.args.number in
    let student = c.args.student.now in
    let found = sym (ap (λ (m : Market). position (nat_eq i) (students_of m)) c.self.view_is ∙ c.requires.stands) in
    let drawn = draw-there c.self.inside.lottery (zone_at (market_of c.self.inside)) c.self.inside.positions (market_of c.self.inside).students c.self.inside.rows.items c.args.at i c.at.result.now c.self.invariant.rows found (sym (get_or_from_slice_get c.self.inside.rows.items c.args.at c.at.result.now c.at.result.now c.at.ensures)) in
    let m = market_of c.self.inside in
    let proper = subst (λ (n : Market). IsProper n student) (sym c.self.view_is) c.requires.proper in
    let made = c.new-row.ensures
    ∙ ap (λ (cs : List Classed). row_at cs i c.draw-draw.result student)
    (c.classed_list-choices.ensures ∙ ap (λ (n : Market). map (classed_at n student) c.new-positions.result) (sym c.self.view_is)) in
    let row = row-tabled m c.self.invariant.well_formed c.self.inside.positions c.self.invariant.positions i c.draw-draw.result student c.new-positions.result c.new-row.result
    proper.choices_known (c.new-positions.ensures ∙ ap (positions_in c.self.inside.positions) c.as_slice.ensures) made
    ∙ ap (λ d. row_of (zone_at m) c.self.inside.positions i d student) (c.draw-draw.ensures ∙ drawn) in
    holds-put_student c.self.inside _ i c.args.at student c.self.invariant proper c.requires.short
    refl refl refl refl found (c.replace.ensures.put ∙ ap (slice_set c.self.inside.rows.items c.args.at) row) c.keep_siblings.ensures.others c.keep_siblings.ensures.own
    (omega (arith, c.keep_siblings.ensures.room, c.self.invariant.room, ap length c.replace.ensures.put, length-set c.self.inside.rows.items c.args.at c.new-row.result))

pub invariant_of-self : goal.invariant_of-self
invariant_of-self c = (changed c).0

pub returns : goal.returns
returns c =
    (changed c).1 ∙ put-known (market_of c.self.inside) c.args.number c.args.at c.args.student.now (ap (λ (m : Market). position (nat_eq c.args.number) (students_of m)) c.self.view_is ∙ c.requires.stands)
    ∙ ap (λ (m : Market). changed_student m c.args.number (λ before. c.args.student.now)) c.self.view_is

pub keep_siblings-requires-clause-room : goal.keep_siblings-requires-clause-room
keep_siblings-requires-clause-room c = λ none.
    let found = ap (λ (m : Market). position (nat_eq c.args.number) (students_of m)) c.self.view_is ∙ c.requires.stands in
    let fewer = kept-fewer c.self.inside c.self.invariant c.len.ensures.unique c.args.number (found-by_position (market_of c.self.inside).students c.args.number (Some c.args.at) found) none in
    omega (arith, fewer, c.self.invariant.room)

pub classed_list-choices-requires : goal.classed_list-choices-requires
classed_list-choices-requires c =
    let m = c.args.self.now in
    let table = c.self.inside.positions in
    let tabled = subst (λ (n : Market). IsTable n table) c.self.view_is c.self.invariant.positions in
    places-low m c.args.student.now.choices c.new-positions.result
    (ap (map Some) (c.new-positions.ensures ∙ ap (positions_in table) c.as_slice.ensures) ∙ known-places m table tabled c.args.student.now.choices c.requires.proper.choices_known)
