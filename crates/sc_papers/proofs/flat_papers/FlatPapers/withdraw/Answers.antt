use Rattle.std.proofs.Common.{nat_eq, is_some, length, position, refl, ap, ◌∙◌}
use Rattle.indexmap.specs.IndexMap.{index_map_len, spare}
use Rattle.sc_papers.specs.Market.{Market, students_of}
use Rattle.sc_papers.specs.Verdict.{without_student}
use Rattle.sc_papers.proofs.ChangingRepresentation.{holds-withdrawn, room-left, rows-left, without-absent}
use Rattle.sc_papers.specs.Representation.{market_of}
use Rattle.sc_papers.proofs.Representation.{Holds}
use Rattle.sc_papers.proofs.flat_papers.FlatPapers.withdraw.Goals as goal

pub returns-in_err-position-clause-left : goal.returns-in_err-position-clause-left
returns-in_err-position-clause-left c =
    let students = c.self.invariant.numbers ∙ ap (λ (m : Market). students_of m) c.self.view_is in
    without-absent c.args.self.now c.args.student (c.in_err-position.ensures ∙ ap (position (nat_eq c.args.student)) students)

left : (c : goal.After-swap_remove) → Holds (record c.self.inside { numbers = c.remove.new.self; rows = c.remove-2.new.self; siblings = c.swap_remove.new.self }) (without_student (market_of c.self.inside) c.args.student)
left c =
    holds-withdrawn c.self.inside _ c.args.student c.in_ok-position.position c.self.invariant refl refl refl c.in_ok-position.ensures c.remove.ensures
    c.remove-2.ensures c.swap_remove.ensures.updates.2 c.swap_remove.ensures.updates.1
    (room-left (is_some c.swap_remove.result) (length c.self.inside.rows.items) (length c.remove-2.new.self.items) (index_map_len c.self.inside.siblings) (index_map_len c.swap_remove.new.self)
    (spare c.self.inside.siblings) (spare c.swap_remove.new.self) (rows-left c.self.inside c.args.student c.in_ok-position.position c.remove-2.new.self.items c.self.invariant c.in_ok-position.ensures c.remove-2.ensures) c.swap_remove.ensures.len c.swap_remove.ensures.room.0 c.self.invariant.room)

pub invariant_of-self : goal.invariant_of-self
invariant_of-self c = (left c).0

pub returns-clause-left : goal.returns-clause-left
returns-clause-left c = (left c).1 ∙ ap (λ (m : Market). without_student m c.args.student) c.self.view_is
