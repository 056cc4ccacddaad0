-- What contracts see of a round.
use Rattle.std.specs.Prelude.{ℕ, Bool, List}
use Rattle.sc_papers.specs.declared.key.Key.{Key}
use Rattle.sc_engine.specs.Rolls.{rolls_of}
use Rattle.sc_engine.specs.RoundView.{RoundView}
use Rattle.sc_engine.specs.declared.round.Round.{Round}

-- a round as contracts see it
abbrev pub view_of : {R : Type 0} → (R → List Key) → (R → ℕ) → Round R → RoundView
view_of keys seats r = record {
  ranks = r.ranks;
  rolls = rolls_of keys seats r.rolls.items;
  log = r.log.items;
  proposals = r.proposals;
}

-- whether the round is spent
abbrev pub is_spent : {R : Type 0} → Round R → Bool
is_spent r = r.spent
