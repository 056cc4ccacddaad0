-- Rounds that everybody has entered, while some are yet to propose.
use Rattle.std.specs.Prelude.{◌≡◌, ℕ, Bool, List, ◌∷◌, ◌++◌, Some, nat_eq, map, slice_set}
use Rattle.std.specs.List.{All, list_any, IsDistinct}
use Rattle.sc_papers.specs.Market.{Market, students_of}
use Rattle.sc_papers.specs.declared.rejection.Rejection.{Rejection}
use Rattle.sc_engine.specs.RoundView.{RoundView, FitsBut, IsPutOut, Midway, Passes, has_entered}
use Rattle.sc_engine.specs.declared.round.chains.PutOut.{PutOut}

-- the rejections of those who have been put out
abbrev pub entries_of : List PutOut → List Rejection
entries_of outs = map (λ out. out.entry) outs

-- whether a student is among these
abbrev pub among : List ℕ → ℕ → Bool
among students i = list_any (nat_eq i) students

-- some students, and those of these rejections
abbrev pub all_of : List ℕ → List Rejection → List ℕ
all_of hands outs = hands ++ map (λ out. out.student) outs

-- everybody has entered, and on no roll are, each named once, some students who are yet to propose and those who have been put
-- out by rejections that are yet to be noted
pub record Waits (m : Market) (r : RoundView) (hands : List ℕ) (outs : List Rejection) : Type 0 where
  pub fits : FitsBut m r (among (all_of hands outs))
  pub entered : (i : ℕ) → has_entered m r.ranks i ≡ among (students_of m) i
  pub differ : IsDistinct nat_eq (all_of hands outs)
  pub put_out : All (IsPutOut m r) outs
  pub earlier : List Rejection
  pub midway : Midway m earlier r

-- this student waits, and perhaps others do
abbrev pub SomeWait : Market → RoundView → ℕ → Type 0
SomeWait m r i = (hands : List ℕ) × (outs : List Rejection) × Waits m r (i ∷ hands) outs

-- whoever stands at a position stands at a rank
abbrev pub moved_to : RoundView → ℕ → ℕ → RoundView
moved_to r at rank = record r { ranks = slice_set r.ranks at (Some rank) }

-- a student who is away moves on past choices, and none of the rejections is noted
pub record PassesUnnoted (m : Market) (old : RoundView) (away : ℕ → Bool) (new : RoundView) (i : ℕ) : Type 0 where
  pub noted : RoundView
  pub passes : Passes m old away noted i
  pub unnoted : new ≡ record noted { log = old.log; proposals = old.proposals }
