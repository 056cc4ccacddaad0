-- What a student proposes.
use Rattle.std.specs.Prelude.{◌≡◌, ℕ, nat_eq, Option, Some, IfSome, position}
use Rattle.std.specs.Option.{option_map}
use Rattle.sc_papers.specs.Key.{key_of}
use Rattle.sc_papers.specs.Market.{Market, schools_of}
use Rattle.sc_papers.specs.declared.proposal.Proposal.{Proposal}

-- a student proposes so to this choice: with the school's position, and the student's key there
pub record IsProposal (m : Market) (i : ℕ) (choice : Option ℕ) (proposal : Option Proposal) : Type 0 where
  pub school : option_map (λ p. p.school) proposal ≡ choice
  pub position : IfSome proposal (λ p. position (nat_eq p.school) (schools_of m) ≡ Some p.position)
  pub key : IfSome proposal (λ p. p.key ≡ key_of m i p.school)
