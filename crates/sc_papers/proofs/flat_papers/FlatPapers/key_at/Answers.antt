use Rattle.std.proofs.Common.{Some, nat_eq, position, sym, ◌∙◌, ap, subst}
use Rattle.sc_papers.specs.Representation.{market_of}
use Rattle.sc_papers.specs.Key.{class_by, has_sibling_at, key_at, same_zone}
use Rattle.sc_papers.specs.Market.{Market, schools_of, student_at}
use Rattle.sc_papers.specs.StudentRow.{IsRowAt}
use Rattle.sc_papers.proofs.ChoicePositions.{row-is}
use Rattle.sc_papers.proofs.Keys.{key-of_row, key-there}
use Rattle.sc_papers.proofs.Positions.{school-place_position}
use Rattle.sc_papers.proofs.flat_papers.FlatPapers.key_at.Goals as goal

pub returns : goal.returns
returns c =
    let m = market_of c.self.inside in
    let row = c.in_ok-row.row.now in
    let school = c.in_ok-name.ensures in
    let name = c.in_ok-name.name.now in
    let zone = c.in_ok-name.entry.now.zone in
    let continues = c.continues_at-continuing.ensures in
    let sibling = c.has_sibling_at-sibling.ensures ∙ sym (ap (λ (n : Market). has_sibling_at n (student_at n c.args.student) name) c.self.view_is) in
    let class_is = c.class_of-class.ensures ∙ (λ t. class_by (continues t) c.has_sibling_at-sibling.result (same_zone (c.zone.ensures t) zone)) in
    (λ t. Some (record { class = c.class_of-class.result; draw = c.draw.ensures t; student = c.number.ensures t }))
    ∙ key-of_row m c.self.inside.positions c.self.inside.rows.items c.args.student row c.self.invariant.well_formed c.self.invariant.rows (sym c.in_ok-row.ensures)
    c.args.school name c.class_of-class.result c.has_sibling_at-sibling.result c.in_ok-name.entry.now (sym school.entry) school.value sibling class_is
    ∙ ap (λ (n : Market). key_at n c.args.student c.args.school) c.self.view_is

pub has_sibling_at-sibling-requires-clause-row : goal.has_sibling_at-sibling-requires-clause-row
has_sibling_at-sibling-requires-clause-row c =
    let m = market_of c.self.inside in
    subst (λ (n : Market). IsRowAt n c.args.student c.in_ok-row.row.now) c.self.view_is
    (row-is m c.self.inside.positions c.self.inside.rows.items c.args.student c.in_ok-row.row.now c.self.invariant.well_formed c.self.invariant.positions c.self.invariant.rows (sym c.in_ok-row.ensures))

pub has_sibling_at-sibling-requires-clause-school : goal.has_sibling_at-sibling-requires-clause-school
has_sibling_at-sibling-requires-clause-school c =
    let m = market_of c.self.inside in
    let school = c.in_ok-name.ensures in
    sym (ap (λ (n : Market). position (nat_eq c.in_ok-name.name.now) (schools_of n)) c.self.view_is)
    ∙ school-place_position m c.self.invariant.well_formed c.args.school c.in_ok-name.name.now (key-there m.schools c.args.school c.in_ok-name.name.now c.in_ok-name.entry.now (sym school.entry))
