use Rattle.std.proofs.Common.{sym, ◌∙◌, ap, ◌≡◌, ℕ, Some, rules}
use Rattle.std.proofs.lemmas.Cmp.{nat_eq_equiv}
use Rattle.std.proofs.lemmas.Map.Entries.{lookup_from_place}
use Rattle.sc_papers.proofs.assignment.Assignment.get_near.Goals as goal

pub returns : goal.returns
returns c =
    let same : c.in-Some.pair.0 ≡ c.args.student = search rules in
    sym (lookup_from_place nat_eq_equiv c.args.self.now c.args.guess c.args.student c.in-Some.pair.1 c.len.ensures.students_differ
    (sym c.at.ensures ∙ c.in-Some.is ∙ ap (λ (i : ℕ). Some (i, c.in-Some.pair.1)) same))
