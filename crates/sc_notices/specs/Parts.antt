-- Texts that are told part by part: what came of the choices of students, the lists of schools, and whose place differs.
use Rattle.std.specs.Prelude.{◌≡◌, ℕ, true, List, [], length, map, if◌then◌else◌}
use Rattle.std.specs.List.{All}
use Rattle.sc_papers.specs.Market.{Market, is_school, schools_of, students_of}
use Rattle.sc_papers.specs.Matching.{Matching}
use Rattle.sc_papers.specs.declared.key.Key.{Key}
use Rattle.sc_repair.specs.Standing.{matching_of, Standing}
use Rattle.sc_reasons.specs.Cutoff.{rows_in_order}
use Rattle.sc_reasons.specs.Entrants.{numbers_of, AreRising, Holds, StandsAt}
use Rattle.sc_reasons.specs.declared.cutoff.CutoffRow.{CutoffRow}
use Rattle.sc_reasons.specs.declared.entrants.Entrant.{Entrant}
use Rattle.sc_notices.specs.AdmissionsText.{school_lists}
use Rattle.sc_notices.specs.Changes.{differ, place_in}
use Rattle.sc_notices.specs.ChangesText.{change_line}
use Rattle.sc_notices.specs.ExplanationText.{student_lines}
use Rattle.sc_notices.specs.KeyLists.{AreCandidates}

-- the students whose choices are explained, and the rows of the schools in order of entry
pub record ToExplain : Type 0 where
  pub papers : Market
  pub entrants : List Entrant
  pub rows : List CutoffRow

-- these texts tell what came of each student's choices, under a matching by which the rows were made
pub record AreExplained (told : ToExplain) (parts : List (List ℕ)) : Type 0 where
  pub matching : Matching
  pub rows : told.rows ≡ rows_in_order told.papers matching
  pub hold : All (Holds matching) told.entrants
  pub each : parts ≡ map (student_lines told.papers matching) (numbers_of told.entrants)

-- the schools that are listed, and the keys of those who have each school and who wait for it, by the schools' positions
pub record ToList : Type 0 where
  pub papers : Market
  pub schools : List ℕ
  pub admitted : List (List Key)
  pub waiting : List (List Key)

-- these texts are the lists of each school, under a matching by which the candidates were found
pub record AreListed (told : ToList) (parts : List (List ℕ)) : Type 0 where
  pub matching : Matching
  pub candidates : AreCandidates told.papers matching (students_of told.papers) told.admitted told.waiting
  pub each : parts ≡ map (school_lists told.papers matching) told.schools

-- the schools that are listed are in the papers, and there are lists for each school
pub record CanList (told : ToList) : Type 0 where
  pub known : All (λ school. is_school told.papers school ≡ true) told.schools
  pub admitted : length told.admitted ≡ length (schools_of told.papers)
  pub waiting : length told.waiting ≡ length (schools_of told.papers)

-- the students whose places are compared, those of a time before, and what stands now
pub record ToCompare : Type 0 where
  pub students : List ℕ
  pub before : List Entrant
  pub standing : Standing

-- what is told of a student: a line where the place differs
abbrev pub change_part : Market → Matching → Market → Matching → ℕ → List ℕ
change_part m a n b i = if differ (place_in m a i) (place_in n b i) then change_line i (place_in m a i) (place_in n b i) else []

-- these texts tell whose place differs between now and papers under a matching, of which the places before are
pub record AreCompared (told : ToCompare) (parts : List (List ℕ)) : Type 0 where
  pub papers : Market
  pub matching : Matching
  pub rising : AreRising papers told.before
  pub hold : All (Holds matching) told.before
  pub each : parts ≡ map (change_part papers matching told.standing.papers (matching_of told.standing)) told.students
