-- Papers that an amendment changed, and their turns from its rewind point on taken anew.
use Rattle.std.specs.Prelude.{◌≡◌, ℕ, ◌≤◌, ◌<◌, Bool, true, false, List, Option, None, Some, IfSome, Contains, get_or, length, nat_eq, position}
use Rattle.sc_papers.specs.Key.{key_of}
use Rattle.sc_papers.specs.Market.{Market, choices_of, schools_of, seats_of, students_of}
use Rattle.sc_papers.specs.Restriction.{is_among_first, joined, AlikeUpTo}
use Rattle.sc_papers.specs.WellFormed.{WellFormed}
use Rattle.sc_papers.specs.declared.rejection.Rejection.{Rejection}
use Rattle.sc_ledgers.specs.Cohort.{cohort, cut}
use Rattle.sc_ledgers.specs.Elsewhere.{cohort_of, is_aside, is_same, old_row, AreAmong, AreStances}
use Rattle.sc_ledgers.specs.Ends.{AreEnds}
use Rattle.sc_ledgers.specs.Opening.{everybody}
use Rattle.sc_ledgers.specs.Renewed.{anew, AreTurnsOf, Renewed}
use Rattle.sc_ledgers.specs.Sweep.{is_amended, IsRegion}
use Rattle.sc_ledgers.specs.Whole.{AreWhole}
use Rattle.sc_ledgers.specs.declared.elsewhere.Stance.{Stance}
use Rattle.sc_ledgers.specs.declared.following.Rows.{Rows}
use Rattle.sc_ledgers.specs.declared.ledger.Label.{Label}

-- whether a school is the one at a position, whose seats an amendment changed, if it changed some
abbrev pub is_reseated : Market → Option ℕ → ℕ → Bool
is_reseated m None s = false
is_reseated m (Some place) s = is_same (position (nat_eq s) (schools_of m)) (Some place)

-- an amendment led from papers m to others: one student at most has other choices or may leave, one school at most has other seats, and the
-- students before a point are as they were. The labels and the ends are those of a whole run of m, and the labels that are left are all but the
-- amended student's. The positions are those of the region's students from the point on.
pub record StartsAnew (m : Market) (rows : Rows) (test inner : ℕ → Bool) (old : List (List Rejection)) (point : ℕ) (labels started : ℕ → List Label) (ends : List (Option ℕ)) (positions : List ℕ) (place : Option ℕ) : Type 0 where
  pub well_formed : WellFormed m
  pub well_new : WellFormed rows.papers.now
  pub students : students_of rows.papers.now ≡ students_of m
  pub schools : schools_of rows.papers.now ≡ schools_of m
  pub choices : (j : ℕ) → choices_of m j ≡ old_row rows.papers.now rows.amended rows.before.now j
  pub seats : (s : ℕ) → is_reseated rows.papers.now place s ≡ false → seats_of rows.papers.now s ≡ seats_of m s
  pub keys : (j s : ℕ) → is_amended rows.amended j ≡ false → key_of rows.papers.now j s ≡ key_of m j s
  pub whole : AreWhole (cohort m everybody) old labels
  pub ended : AreEnds m old ends
  pub kept : (s : ℕ) (label : Label) → Contains (labels s) label → is_amended rows.amended label.key.student ≡ false → Contains (started s) label
  pub only : (s : ℕ) (label : Label) → Contains (started s) label → Contains (labels s) label
  pub gone : (s : ℕ) (label : Label) → Contains (started s) label → is_amended rows.amended label.key.student ≡ false
  pub within : point ≤ length old
  pub alike : (t : ℕ) → t ≤ point → AlikeUpTo t m rows.papers.now
  pub first : (t j : ℕ) → t ≤ point → is_among_first m t j ≡ true → is_amended rows.amended j ≡ false
  pub region : IsRegion m rows.papers.now rows.amended test inner
  pub inside : IfSome place (λ p. inner (get_or (schools_of rows.papers.now) p 0) ≡ true)
  pub turns : AreTurnsOf rows.papers.now test point (length old) positions

-- the turns were taken anew: the segments, of which those of some turns from the point on have given way, and the labels and the ends are a run of the new
-- papers, and the stances tell who stands elsewhere after the last turn
pub record EndsAnew (m : Market) (rows : Rows) (test : ℕ → Bool) (old : List (List Rejection)) (point : ℕ) (renewed : Renewed) (labels : ℕ → List Label) (ends : List (Option ℕ)) (list : List Stance) : Type 0 where
  pub whole : AreWhole (cohort_of rows) (anew old renewed) labels
  pub ended : AreEnds rows.papers.now (anew old renewed) ends
  pub one_each : length renewed.positions ≡ length renewed.chains
  pub later : (p : ℕ) → Contains renewed.positions p → point ≤ p
  pub within : (p : ℕ) → Contains renewed.positions p → p < length old
  pub stances : AreStances m (cut (cohort_of rows) (length old)) (joined old) (joined (anew old renewed)) list
  pub theirs : (j : ℕ) → is_amended rows.amended j ≡ true → is_aside list j ≡ true
  pub among : AreAmong test list
