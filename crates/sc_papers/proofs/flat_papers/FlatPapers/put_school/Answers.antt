use Rattle.std.proofs.Common.{◌≡◌, ℕ, nat_eq, Some, None, cond, length, slice_index_or, refl, ◌∙◌, ap}
use Rattle.sc_papers.specs.Representation.{market_of}
use Rattle.sc_papers.specs.Market.{Market}
use Rattle.sc_papers.specs.Verdict.{school_verdict, with_school}
use Rattle.sc_papers.proofs.Opening.{holds-opened, MayOpen-allowed}
use Rattle.sc_papers.proofs.Representation.{Holds}
use Rattle.sc_papers.proofs.flat_papers.FlatPapers.put_school.Goals as goal

opened : (c : goal.After-put) → Holds (record c.self.inside { schools = c.insert.new.self; positions = c.put.new.self }) (with_school (market_of c.self.inside) c.args.number c.args.school)
opened c =
    let put : (k : ℕ) → slice_index_or c.put.new.self k None ≡ cond (nat_eq k c.args.number) (Some (length c.self.inside.schools.entries)) (slice_index_or c.self.inside.positions k None) =
    λ k. c.put.ensures k ∙ ap (λ (n : ℕ). cond (nat_eq k c.args.number) (Some n) (slice_index_or c.reserve.new.self k None)) c.len-position.ensures.len
    ∙ ap (cond (nat_eq k c.args.number) (Some (length c.self.inside.schools.entries))) (c.reserve.ensures.same k) in
    let allowed : school_verdict (market_of c.self.inside) c.args.number ≡ None = ap (λ (m : Market). school_verdict m c.args.number) c.self.view_is ∙ c.requires.allowed in
    holds-opened c.self.inside _ c.args.number c.args.school c.self.invariant (MayOpen-allowed (market_of c.self.inside) c.args.number allowed) c.requires.seats refl c.in_ok-insert.ensures.entries put refl refl refl

pub invariant_of-self-2 : goal.invariant_of-self-2
invariant_of-self-2 c = (opened c).0

pub returns : goal.returns
returns c = (opened c).1 ∙ ap (λ (m : Market). with_school m c.args.number c.args.school) c.self.view_is
