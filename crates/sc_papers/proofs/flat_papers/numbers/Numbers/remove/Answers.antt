use Rattle.std.proofs.Common.{◌≡◌, ◌<◌, length, ap, sym, subst, ◌∙◌, arith}
use Rattle.std.proofs.lemmas.List.Quantifiers.{all_pairs_remove}
use Rattle.sc_papers.specs.Numbers.{Rise, numbers_of}
use Rattle.sc_papers.proofs.flat_papers.numbers.Numbers.remove.Goals as goal
use Rattle.sc_papers.proofs.flat_papers.numbers.Numbers.remove.Goals.{in-Listed, in-Tabled}

pub invariant_of-self : goal.invariant_of-self
invariant_of-self c =
    elim c.match-self.branch [
      | in-Listed w ↦
          let numbers = w.in-Listed.numbers.items in
          let same : numbers ≡ c.args.self.now = sym (ap numbers_of w.in-Listed.is) ∙ c.self.view_is in
          let within : c.args.position < length numbers = omega (arith, ap length same, c.requires) in
          rw w.self-inside-is (λ rises. subst Rise (sym w.remove.ensures.items) (all_pairs_remove (λ x y. x < y) numbers c.args.position within (rw w.in-Listed.is at (c.self.invariant rises))))
      | in-Tabled w ↦ rw w.self-inside-is (λ rises. tt)
    ]
