use Rattle.std.proofs.Common.{ap, slice_get, sym, Some, ◌∙◌}
use Rattle.std.specs.Option.{option_map}
use Rattle.sc_papers.specs.Market.{Market, students_of}
use Rattle.sc_papers.specs.Representation.{market_of}
use Rattle.sc_papers.specs.StudentRow.{Row}
use Rattle.sc_papers.proofs.Keys.{number-there}
use Rattle.sc_papers.proofs.flat_papers.FlatPapers.student_at.Goals as goal

pub returns : goal.returns
returns c =
    ap Some c.number.ensures ∙ sym (ap (option_map (λ (r : Row). r.number)) (sym c.in_ok-row.ensures))
    ∙ number-there (market_of c.self.inside) c.self.inside.positions c.self.inside.rows.items c.args.position c.self.invariant.rows
    ∙ ap (λ (m : Market). slice_get (students_of m) c.args.position) c.self.view_is
