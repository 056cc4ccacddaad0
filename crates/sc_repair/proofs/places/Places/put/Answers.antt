use Rattle.std.proofs.Common.{◌≡◌, ℕ, ◌∷◌, [], ◌++◌, List, length, ◌∙◌, ap, arith, subst, sym}
use Rattle.std.proofs.lemmas.List.{length-append}
use Rattle.sc_papers.specs.Assignment.{assigned, holders}
use Rattle.sc_papers.proofs.Assigning.{with_place-new}
use Rattle.sc_repair.specs.Places.{AreCountsBy}
use Rattle.sc_repair.proofs.Counts.{counted-more, holders-le, holders-push}
use Rattle.sc_repair.proofs.places.Places.put.Goals as goal

pub count_one-requires-clause-fits : goal.count_one-requires-clause-fits
count_one-requires-clause-fits c low =
    let pairs = c.self.inside.assignment in
    let new = c.put.new.self in
    let put : new ≡ pairs ++ (c.args.student, c.args.school) ∷ [] =
    c.in_ok-put.ensures.put ∙ with_place-new pairs c.args.student c.args.school (ap (λ (ps : List (ℕ × ℕ)). assigned ps c.args.student) c.self.view_is ∙ c.requires.unplaced)
    in omega (arith, c.self.invariant.each c.args.school low, holders-le pairs c.args.school, ap length put, length-append pairs ((c.args.student, c.args.school) ∷ []), c.len.ensures.count, c.len.type_inv)

pub invariant_of-self-2 : goal.invariant_of-self-2
invariant_of-self-2 c =
    let pairs = c.self.inside.assignment in
    let new = c.put.new.self in
    let put : new ≡ pairs ++ (c.args.student, c.args.school) ∷ [] =
    c.in_ok-put.ensures.put ∙ with_place-new pairs c.args.student c.args.school (ap (λ (ps : List (ℕ × ℕ)). assigned ps c.args.student) c.self.view_is ∙ c.requires.unplaced)
    in subst (AreCountsBy (holders new)) (sym c.count_one.ensures.counted)
    (counted-more (holders pairs) (holders new) c.self.inside.counts.items c.args.school c.self.invariant c.count_one.ensures.within
    (λ s. ap (λ (ps : List (ℕ × ℕ)). holders ps s) put ∙ holders-push pairs c.args.student c.args.school s))
