use Rattle.std.proofs.Common.{ap, option_copied, sym, ◌∙◌}
use Rattle.sc_papers.specs.Market.{Market, student_of}
use Rattle.sc_papers.proofs.Recorded.{no-record, record-read}
use Rattle.sc_papers.proofs.papers.Papers.student.Goals as goal

pub returns-in_err-position : goal.returns-in_err-position
returns-in_err-position c =
    ap option_copied c.from_residual.ensures ∙ no-record c.self.inside.flat c.args.student c.in_err-position.ensures
    ∙ ap (λ (m : Market). student_of m c.args.student) c.self.view_is

pub returns : goal.returns
returns c =
    sym (record-read c.self.inside.flat c.self.inside.records.items c.args.student c.in_ok-position.position c.at.result.now c.self.invariant (sym c.in_ok-position.ensures) c.at.ensures)
    ∙ ap (λ (m : Market). student_of m c.args.student) c.self.view_is
