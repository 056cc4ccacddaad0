use Rattle.std.proofs.Common.{◌∙◌, arith, sym}
use Rattle.std.proofs.lemmas.Option.{same_Some}
use Rattle.std.proofs.lemmas.Result.{on_ok_weaker}
use Rattle.sc_papers.specs.Market.{schools_of, student_at}
use Rattle.sc_papers.proofs.Hands.{hand-key}
use Rattle.sc_papers.proofs.Positions.{position-at}
use Rattle.sc_notices.proofs.KeyListLemmas.{adds-one}
use Rattle.sc_notices.proofs.candidates.add_holder.Goals as goal

pub returns : goal.returns
returns c =
    let m = c.args.papers.now in
    let s = c.in-Some.school in
    let p = c.in-Some-school_position.position in
    let placed = sym c.in-Some-school_position.ensures in
    let key = same_Some c.in-Some-key_at.key _ (c.in-Some-key_at.ensures ∙ hand-key m c.args.student s p c.requires.within placed) in
    on_ok_weaker c.add.result (λ adds.
    adds-one m (student_at m c.args.student) s p c.in-Some-key_at.key c.args.held c.args.admitted.now c.add.new.self c.in-Some.is placed key
    (omega (arith, (position-at (schools_of m) s p placed).0, c.requires.one_each)) adds)
    c.add.ensures
