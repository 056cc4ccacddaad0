use Rattle.std.proofs.Common.{ap, subst, ◌∙◌}
use Rattle.sc_papers.specs.Market.{Market}
use Rattle.sc_papers.specs.StudentRow.{positions_in}
use Rattle.sc_papers.proofs.EnteringAt.{IsTable, MayEnterAt-filled}
use Rattle.sc_papers.proofs.flat_papers.FlatPapers.entry_positions.Goals as goal

pub returns-clause-may : goal.returns-clause-may
returns-clause-may c =
    let table = c.self.inside.positions in
    let tabled = subst (λ (m : Market). IsTable m table) c.self.view_is c.self.invariant.positions in
    (MayEnterAt-filled c.args.self.now table tabled c.args.number c.args.student.now c.new.result c.requires (c.new.ensures ∙ ap (positions_in table) c.as_slice.ensures)).0

pub returns-clause-choices : goal.returns-clause-choices
returns-clause-choices c =
    let table = c.self.inside.positions in
    let tabled = subst (λ (m : Market). IsTable m table) c.self.view_is c.self.invariant.positions in
    (MayEnterAt-filled c.args.self.now table tabled c.args.number c.args.student.now c.new.result c.requires (c.new.ensures ∙ ap (positions_in table) c.as_slice.ensures)).1
