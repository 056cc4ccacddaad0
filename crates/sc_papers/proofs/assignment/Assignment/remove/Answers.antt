use Rattle.std.proofs.Common.{◌≡◌, ℕ, ◌+◌, List, None, ◌∙◌, ap, refl, subst, sym}
use Rattle.std.proofs.lemmas.Cmp.{nat_eq_equiv}
use Rattle.sc_papers.specs.Assignment.{assigned, holders, holding}
use Rattle.sc_papers.proofs.Holders.{holders-removed}
use Rattle.sc_papers.proofs.Moving.{moved_at, moved-taken}
use Rattle.sc_papers.proofs.assignment.Assignment.remove.Goals as goal

pub returns-clause-moved : goal.returns-clause-moved
returns-clause-moved c j =
    c.swap_remove.ensures.updates.0 j ∙ moved-taken (assigned c.self.inside.places.entries) c.args.student j
    ∙ ap (λ (pairs : List (ℕ × ℕ)). moved_at (assigned pairs) c.args.student None j) c.self.view_is

pub returns-clause-counted : goal.returns-clause-counted
returns-clause-counted c s =
    let i = c.args.student in
    let pairs = c.self.inside.places.entries in
    let entries = c.swap_remove.ensures.entries in
    let none : assigned c.swap_remove.new.self.entries i ≡ None = c.swap_remove.ensures.updates.0 i ∙ rw (nat_eq_equiv.refl i) refl in
    subst (λ (now : List (ℕ × ℕ)). holders c.swap_remove.new.self.entries s + holding (assigned now) s i ≡ holders now s + holding (assigned c.swap_remove.new.self.entries) s i) c.self.view_is
    (subst (λ (new : List (ℕ × ℕ)). holders new s + holding (assigned pairs) s i ≡ holders pairs s + holding (assigned new) s i) (sym entries)
    (holders-removed pairs i s (sym (ap (λ (es : List (ℕ × ℕ)). assigned es i) entries) ∙ none)))
