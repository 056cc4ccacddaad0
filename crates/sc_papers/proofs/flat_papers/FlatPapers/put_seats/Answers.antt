use Rattle.std.proofs.Common.{refl, sym}
use Rattle.sc_papers.proofs.ChangingRepresentation.{holds-put_school, zone-put}
use Rattle.sc_papers.proofs.flat_papers.FlatPapers.put_seats.Goals as goal
use Rattle.sc_papers.proofs.flat_papers.FlatPapers.put_seats.Goals.{in-Some, in_default}

pub invariant_of-self : goal.invariant_of-self
invariant_of-self c =
    elim c.match-get_mut.branch [
      | in-Some w ↦
          let school = record w.in-Some.school.now { seats = c.args.seats } in
          let put = (c.get_mut.follows.holds school).0 in
          rw w.self-inside-is (holds-put_school c.self.inside _ c.args.number school c.self.invariant c.requires
          (λ k. zone-put c.args.number k w.in-Some.school.now school c.self.inside.schools.entries (sym w.in-Some.ensures.value) refl) refl refl put refl refl refl).0
      | in_default w ↦ rw (w.self-inside-is, c.get_mut.follows.holds-at-none) c.self.invariant
    ]
