-- The schools that students have, in order of entry.
use Rattle.std.specs.Prelude.{◌≡◌, ℕ, List, Option, map}
use Rattle.sc_papers.specs.Market.{Market, students_of}
use Rattle.sc_papers.specs.Matching.{Matching}

-- what each student has by a matching, in the papers' order of entry
abbrev pub ArePlaces : Market → Matching → List (Option ℕ) → Type 0
ArePlaces m a places = places ≡ map a (students_of m)
