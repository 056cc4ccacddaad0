use Rattle.std.proofs.Common.{◌≡◌, ℕ, ◌+◌, nat_eq, List, None, Some, ◌∙◌, ap, refl, subst, sym}
use Rattle.std.specs.Map.{set_value}
use Rattle.std.specs.Option.{option_copied_mut}
use Rattle.sc_papers.specs.Assignment.{assigned, holders, holding}
use Rattle.sc_papers.proofs.Holders.{holders-replaced}
use Rattle.sc_papers.proofs.Moving.{moved_at, moved-absent, assigned-replaced}
use Rattle.sc_papers.proofs.assignment.Assignment.replace.Goals as goal
use Rattle.sc_papers.proofs.assignment.Assignment.replace.Goals.{in-Some, in_default}

pub returns-clause-moved : goal.returns-clause-moved
returns-clause-moved c j =
    let pairs = c.self.inside.places.entries in
    let i = c.args.student in
    let s = c.args.school in
    let begun = ap (λ (es : List (ℕ × ℕ)). moved_at (assigned es) i (Some s) j) c.self.view_is in
    elim c.match-get_mut.branch [
      | in-Some w ↦
          rw w.self-inside-is
          (ap (λ (es : List (ℕ × ℕ)). assigned es j) (c.get_mut.follows.holds s).0 ∙ assigned-replaced pairs i s j ∙ begun)
      | in_default w ↦
          let none : assigned pairs i ≡ None = sym c.get_mut.ensures.value ∙ ap option_copied_mut w.in_default.is in
          rw (w.self-inside-is, c.get_mut.follows.holds-at-none) (moved-absent (assigned pairs) i j (Some s) none ∙ begun)
    ]

pub returns-clause-counted : goal.returns-clause-counted
returns-clause-counted c s =
    let i = c.args.student in
    let t = c.args.school in
    let pairs = c.self.inside.places.entries in
    let begun = c.self.view_is in
    elim c.match-get_mut.branch [
      | in-Some w ↦
          rw (w.self-inside-is, (c.get_mut.follows.holds t).0)
          (subst (λ (now : List (ℕ × ℕ)). holders (set_value (nat_eq i) pairs t) s + holding (assigned now) s i ≡ holders now s + holding (assigned (set_value (nat_eq i) pairs t)) s i) begun
          (holders-replaced pairs i t s))
      | in_default w ↦
          rw (w.self-inside-is, c.get_mut.follows.holds-at-none)
          (subst (λ (now : List (ℕ × ℕ)). holders pairs s + holding (assigned now) s i ≡ holders now s + holding (assigned pairs) s i) begun refl)
    ]
