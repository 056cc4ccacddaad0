-- Rounds in which nothing has happened yet: new ones, and those that go on from where students stand.
use Rattle.std.specs.Prelude.{◌≡◌, ℕ, false, List, []}
use Rattle.sc_papers.specs.Market.{Market}
use Rattle.sc_papers.specs.declared.key.Key.{Key}
use Rattle.sc_papers.specs.declared.rejection.Rejection.{Rejection}
use Rattle.sc_checkpoint.specs.NextChoices.{stands, AreNextChoices}
use Rattle.sc_checkpoint.specs.declared.standing.Standing.{Standing}
use Rattle.sc_engine.specs.Round.{view_of, is_spent}
use Rattle.sc_engine.specs.RoundView.{has_entered, Continues, Fits}
use Rattle.sc_engine.specs.declared.round.Round.{Round}

-- nobody has entered the round
pub record IsFresh {R : Type 0} (keys : R → List Key) (seats : R → ℕ) (m : Market) (round : Round R) : Type 0 where
  pub fits : Fits m (view_of keys seats round)
  pub nobody : (i : ℕ) → has_entered m (view_of keys seats round).ranks i ≡ false
  pub settled : Continues m [] (view_of keys seats round)
  pub log : (view_of keys seats round).log ≡ []
  pub proposals : (view_of keys seats round).proposals ≡ 0
  pub ready : is_spent round ≡ false

-- some earlier log is settled for the papers of these students alone, who are different students of the papers, and
-- leaves them these next choices
abbrev pub CanResume : Market → List Standing → Type 0
CanResume m next_choices = (earlier : List Rejection) × AreNextChoices m earlier next_choices

-- nobody has entered the round, which the students of these next choices can go on from
pub record CanTakeAll {R : Type 0} (keys : R → List Key) (seats : R → ℕ) (m : Market) (next_choices : List Standing) (round : Round R) : Type 0 where
  pub fresh : IsFresh keys seats m round
  pub after : CanResume m next_choices

-- the students of these next choices have entered and stand at them, and after each log that leaves them there the round
-- goes on as if it had made that log itself
pub record IsResumed {R : Type 0} (keys : R → List Key) (seats : R → ℕ) (m : Market) (next_choices : List Standing) (round : Round R) : Type 0 where
  pub fits : Fits m (view_of keys seats round)
  pub entered : (i : ℕ) → has_entered m (view_of keys seats round).ranks i ≡ stands next_choices i
  pub continues : (earlier : List Rejection) → AreNextChoices m earlier next_choices → Continues m earlier (view_of keys seats round)
  pub log : (view_of keys seats round).log ≡ []
  pub proposals : (view_of keys seats round).proposals ≡ 0
  pub ready : is_spent round ≡ false
