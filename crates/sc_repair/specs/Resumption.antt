-- An opening: the students enter one after the other, in order of entry.
use Rattle.std.specs.Prelude.{◌≡◌, ℕ, ◌+◌, ◌&&◌, not, Bool, true, false, nat_eq, List, [], Option, None, Some, filter, length, take}
use Rattle.std.specs.List.{list_any}
use Rattle.sc_papers.specs.Market.{Market, is_student, students_of}
use Rattle.sc_papers.specs.Restriction.{cut, joined, restricted, IsSegmented}
use Rattle.sc_papers.specs.Verdict.{without_student}
use Rattle.sc_ledgers.specs.Elsewhere.{is_same}
use Rattle.sc_papers.specs.declared.key.Key.{Key}
use Rattle.sc_papers.specs.declared.rejection.Rejection.{Rejection}
use Rattle.sc_engine.specs.Round.{is_spent, view_of}
use Rattle.sc_engine.specs.RoundView.{RoundView, has_entered, nobody, standing_but, Continues, Enters, Fits}
use Rattle.sc_engine.specs.declared.round.Round.{Round}

-- whether a student stays, where one leaves
abbrev pub stays : Option ℕ → ℕ → Bool
stays leaver i = not (is_same leaver (Some i))

-- the papers without whoever leaves, if somebody does
abbrev pub without_leaver : Market → Option ℕ → Market
without_leaver m None = m
without_leaver m (Some i) = without_student m i

-- in its course those of the first k students who stay, and they alone, have entered, the segments are theirs, and every proposal ended in an
-- entry of the round's log or in a place
pub record GoesOn (m : Market) (leaver : Option ℕ) (r : RoundView) (students : List ℕ) (segments : List (List Rejection)) (k : ℕ) : Type 0 where
  pub fits : Fits m r
  pub entered : (i : ℕ) → has_entered m r.ranks i ≡ (list_any (nat_eq i) (take k (students_of m)) && stays leaver i)
  pub continues : Continues m [] r
  pub theirs : students ≡ filter (stays leaver) (take k (students_of m))
  pub segmented : IsSegmented (restricted (cut m k) (stays leaver)) segments
  pub log : joined segments ≡ r.log
  pub counted : r.proposals ≡ length r.log + standing_but m r.ranks nobody

-- a student of the papers may enter a round of them that can go on, where they have not entered yet
pub record MayComeIn {R : Type 0} (keys : R → List Key) (seats : R → ℕ) (m : Market) (round : Round R) (i : ℕ) : Type 0 where
  pub ready : is_spent round ≡ false
  pub fits : Fits m (view_of keys seats round)
  pub student : is_student m i ≡ true
  pub absent : has_entered m (view_of keys seats round).ranks i ≡ false

-- they have entered, and the round can go on
pub record HasComeIn {R : Type 0} (keys : R → List Key) (seats : R → ℕ) (m : Market) (old new : Round R) (i : ℕ) : Type 0 where
  pub ready : is_spent new ≡ false
  pub enters : Enters m (view_of keys seats old) (view_of keys seats new) i
