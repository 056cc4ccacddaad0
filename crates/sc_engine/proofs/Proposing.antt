-- What the papers propose at a rank.
use Rattle.std.proofs.Common.{◌≡◌, refl, sym, subst, ℕ, nat_eq, Option, Some, None, IfSome, position}
use Rattle.std.specs.Option.{option_map}
use Rattle.sc_papers.specs.Key.{key_of}
use Rattle.sc_papers.specs.Market.{Market, schools_of, student_at}
use Rattle.sc_papers.specs.declared.proposal.Proposal.{Proposal}
use Rattle.sc_engine.specs.Proposals.{IsProposal}

-- no proposal to no choice
pub proposes_nothing : (m : Market) (i : ℕ) (choice : Option ℕ) (proposal : Option Proposal) → proposal ≡ None → choice ≡ None → IsProposal m i choice proposal
proposes_nothing m i choice proposal none nowhere =
    subst (λ (c : Option ℕ). IsProposal m i c proposal) (sym nowhere) (subst (IsProposal m i None) (sym none) (record { school = refl; position = tt; key = tt }))

-- what is said of the student at a position, said of the student who stands there
pub proposes_there : (m : Market) (i at : ℕ) (choice : Option ℕ) (proposal : Option Proposal) → student_at m at ≡ i → option_map (λ p. p.school) proposal ≡ choice
    → IfSome proposal (λ p. position (nat_eq p.school) (schools_of m) ≡ Some p.position)
    → IfSome proposal (λ p. p.key ≡ key_of m (student_at m at) p.school)
    → IsProposal m i choice proposal
proposes_there m i at choice proposal there school place key = record {
  school = school;
  position = place;
  key = subst (λ (j : ℕ). IfSome proposal (λ p. p.key ≡ key_of m j p.school)) there key;
}
