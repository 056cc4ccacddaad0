use Rattle.std.proofs.Common.{ap, ◌∙◌, ◌==◌, sym, ℕ}
use Rattle.std.specs.List.{list_any}
use Rattle.sc_papers.specs.Market.{choices_of}
use Rattle.sc_papers.proofs.Hands.{student-there}
use Rattle.sc_audit.proofs.Listing.{ranked-any, unknown-lists}
use Rattle.sc_audit.proofs.membership.lists.Goals as goal

pub returns-in-Some : goal.returns-in-Some
returns-in-Some c =
    let m = c.args.papers.now in
    c.is_some.ensures
    ∙ ranked-any _ c.args.school c.choice_rank_at.result (sym c.choice_rank_at.ensures)
    ∙ ap (λ (i : ℕ). list_any (λ t. t == c.args.school) (choices_of m i)) (student-there m c.args.student c.in-Some.position (sym c.student_position.ensures ∙ c.in-Some.is))

pub returns-in-None : goal.returns-in-None
returns-in-None c = unknown-lists c.args.papers.now c.args.student c.args.school (sym c.student_position.ensures ∙ c.in-None.is)
