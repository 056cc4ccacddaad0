use Rattle.std.proofs.Common.{sym, subst, ◌∙◌, Contains}
use Rattle.std.specs.Prelude.{IfSome}
use Rattle.sc_papers.specs.Market.{schools_of}
use Rattle.sc_papers.proofs.Hands.{school-has_position}
use Rattle.sc_papers.proofs.Positions.{among-school}
use Rattle.sc_ledgers.proofs.marks.Marks.mark_school.Goals as goal

pub unreachable-requires : goal.unreachable-requires
unreachable-requires c =
    let m = c.args.papers.now in
    school-has_position m c.in-Some.number (among-school m c.in-Some.number (subst (λ o. IfSome o (λ s. Contains (schools_of m) s)) c.in-Some.is c.requires.known)) (sym c.in_default-school_position.is ∙ c.school_position.ensures)
