use Rattle.std.proofs.Common.{◌≡◌, true, ◌∙◌, arith, refl}
use Rattle.sc_papers.specs.Verdict.{IsSchoolRefusal, school_verdict}
use Rattle.sc_intake.specs.Papers.{opening}
use Rattle.std.specs.Prelude.{take}
use Rattle.sc_intake.proofs.PaperLemmas.{school-refused}
use Rattle.sc_intake.proofs.papers.open_papers.Goals as goal

pub prove-unreachable-requires : goal.prove-unreachable-requires
prove-unreachable-requires c =
    let refused : IsSchoolRefusal (school_verdict (opening c.args.seed (take c.loop-row.row-index c.args.schools.now)) c.row-item.result.number) c.in-Err.refusal =
    rw c.loop-row.invariant at c.in-Err.ensures.refused in
    let memory = school-refused c.args.seed c.args.schools.now c.loop-row.row-index c.row-item.result c.in-Err.refusal c.requires (omega arith) c.row-item.is refused in
    let same : c.eq.result ≡ true = c.eq.ensures ∙ rw memory refl in
    cc
