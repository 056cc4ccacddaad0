use Rattle.std.proofs.Common.{◌≡◌, true, nat_eq, Some, slice_get, sym, ap, ◌∙◌, arith}
use Rattle.std.proofs.lemmas.Bool.Decides.{nat_tests}
use Rattle.sc_papers.specs.Market.{students_of}
use Rattle.sc_papers.proofs.Positions.{place-position}
use Rattle.sc_papers.proofs.flat_papers.FlatPapers.student_position_near.Goals as goal

pub returns-in-Some : goal.returns-in-Some
returns-in-Some c =
    let equal : nat_eq c.in-Some.number c.args.student ≡ true = sym c.eq.ensures ∙ c.if-eq.true in
    let same : c.in-Some.number ≡ c.args.student = grind (arith, nat_tests) in
    let here : slice_get (students_of c.args.self.now) c.args.guess ≡ Some c.args.student =
    sym c.student_at.ensures ∙ c.in-Some.is ∙ ap Some same in
    sym (place-position c.args.self.now c.students_len.ensures.well_formed c.args.guess c.args.student here)
