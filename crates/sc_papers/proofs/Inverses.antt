-- An amendment that was checked and made is taken back by what `apply_reversibly` answers.
use Rattle.std.proofs.Common.{◌≡◌, ℕ, List, Option, None, sym, ap, ◌∙◌}
use Rattle.sc_papers.specs.Market.{Market, choices_of, continuing_of, seats_of, siblings_of, zone_of}
use Rattle.sc_papers.specs.TakingBack.{TakesBack}
use Rattle.sc_papers.specs.Verdict.{after, objections_to_add, objections_to_close, objections_to_correct, objections_to_rerank, verdict}
use Rattle.sc_papers.specs.WellFormed.{WellFormed, WithinLimits}
use Rattle.sc_papers.specs.declared.amendment.Amendment.{Amendment}
use Rattle.sc_papers.specs.declared.amendment.Amendment.TheVariants.{Enter, Withdraw, Rerank, Add, Close, Correct}
use Rattle.sc_papers.specs.declared.amendment.Refusal.TheVariants.{TooFewSeats}
use Rattle.std.specs.Prelude.{nat_lt}
use Rattle.std.proofs.lemmas.Bool.{ltb-false}
use Rattle.sc_papers.proofs.Objections.{first_of-none, refuse_if-none}
use Rattle.sc_papers.proofs.TakingBack.{added-back, closed-back, corrected-back, known-school, known-student, reranked-back, takes-back-enter}

module _ (before now : Market) (a : Amendment) (allowed : verdict before a ≡ None) where
  allowed-for : (b : Amendment) → a ≡ b → verdict before b ≡ None
  allowed-for b is = ap (verdict before) (sym is) ∙ allowed

  pub reversed-enter : (i zone : ℕ) (siblings choices : List ℕ) (continuing : Option ℕ) → a ≡ Enter i zone siblings choices continuing
      → now ≡ after before (Enter i zone siblings choices continuing) → TakesBack before now (Withdraw i)
  reversed-enter i zone siblings choices continuing is made =
      rw made (takes-back-enter before i zone siblings choices continuing (allowed-for (Enter i zone siblings choices continuing) is))

  pub reversed-add : (s count : ℕ) → a ≡ Add s count → now ≡ after before (Add s count) → TakesBack before now (Close s count)
  reversed-add s count is made =
      let known = known-school before s (first_of-none (objections_to_add before s count) (allowed-for (Add s count) is)).0 in
      rw made (added-back before s count known.0 known.1)

  pub reversed-close : (s count : ℕ) → WithinLimits before → a ≡ Close s count → now ≡ after before (Close s count) → TakesBack before now (Add s count)
  reversed-close s count within is made =
      let none = first_of-none (objections_to_close before s count) (allowed-for (Close s count) is) in
      let known = known-school before s none.0 in
      let enough = refuse_if-none (nat_lt (seats_of before s) count) TooFewSeats none.1.0 in
      rw made (closed-back before s count known.0 known.1 (ltb-false (seats_of before s) count enough) within)

  pub reversed-rerank : (i : ℕ) (choices old : List ℕ) → WellFormed before → WithinLimits before → a ≡ Rerank i choices → now ≡ after before (Rerank i choices)
      → old ≡ choices_of before i → TakesBack before now (Rerank i old)
  reversed-rerank i choices old well within is made was =
      let known = known-student before i (first_of-none (objections_to_rerank before i choices) (allowed-for (Rerank i choices) is)).0 in
      rw (made, was) (reranked-back before i choices known.0 known.1 well within)

  pub reversed-correct : (i zone : ℕ) (siblings : List ℕ) (continuing : Option ℕ) (old : ℕ × List ℕ × Option ℕ) → WellFormed before → WithinLimits before
      → a ≡ Correct i zone siblings continuing → now ≡ after before (Correct i zone siblings continuing)
      → old ≡ (zone_of before i, siblings_of before i, continuing_of before i) → TakesBack before now (Correct i old.0 old.1 old.2)
  reversed-correct i zone siblings continuing old well within is made was =
      let known = known-student before i (first_of-none (objections_to_correct before i siblings continuing) (allowed-for (Correct i zone siblings continuing) is)).0 in
      rw (made, was) (corrected-back before i zone siblings continuing known.0 known.1 well within)
