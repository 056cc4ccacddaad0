use Rattle.std.proofs.Common.{sym, ◌∙◌}
use Rattle.std.proofs.lemmas.Option.{none-some, same_Some}
use Rattle.sc_papers.specs.Key.{key_of}
use Rattle.sc_papers.specs.Market.{student_at}
use Rattle.sc_papers.proofs.Hands.{hand-key, school-has_position}
use Rattle.sc_papers.proofs.flat_papers.FlatPapers.position_and_key.Goals as goal

pub unreachable-requires : goal.unreachable-requires
unreachable-requires c = school-has_position c.args.self.now c.args.school c.requires.school c.in_default.ensures

pub unreachable-requires-in_default-key_at : goal.unreachable-requires-in_default-key_at
unreachable-requires-in_default-key_at c =
    none-some (key_of c.args.self.now (student_at c.args.self.now c.args.student) c.args.school)
    (c.in_default-key_at.ensures ∙ hand-key c.args.self.now c.args.student c.args.school c.in-Some.position c.requires.student (sym c.in-Some.ensures))

pub returns-clause-key : goal.returns-clause-key
returns-clause-key c =
    same_Some c.in-Some-key_at.key (key_of c.args.self.now (student_at c.args.self.now c.args.student) c.args.school)
    (c.in-Some-key_at.ensures ∙ hand-key c.args.self.now c.args.student c.args.school c.in-Some.position c.requires.student (sym c.in-Some.ensures))
