use Rattle.std.proofs.Common.{ap, slice_get, ◌∙◌}
use Rattle.std.specs.Option.{option_and_then}
use Rattle.sc_papers.specs.Market.{Market, student_of, students_of}
use Rattle.sc_papers.proofs.Recorded.{records-read}
use Rattle.sc_papers.proofs.papers.Papers.record_at.Goals as goal

pub returns : goal.returns
returns c =
    c.get.ensures ∙ ap (λ rs. slice_get rs c.args.position) c.self.invariant
    ∙ records-read c.self.inside.flat c.students_len.ensures.well_formed c.args.position
    ∙ ap (λ (m : Market). option_and_then (student_of m) (slice_get (students_of m) c.args.position)) c.self.view_is
