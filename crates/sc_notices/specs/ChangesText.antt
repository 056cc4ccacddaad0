-- Whose place differs between two times, as text.
use Rattle.std.specs.Prelude.{ℕ, List, ◌++◌, Option, None, Some, codes, flat_map}
use Rattle.std.specs.Fmt.{decimal}
use Rattle.sc_papers.specs.Market.{Market}
use Rattle.sc_papers.specs.Matching.{Matching}
use Rattle.sc_report.specs.Text.{place_text}
use Rattle.sc_notices.specs.Changes.{changed, place_in}

-- a place: the school's number, a dash for none, or that the student is not in the papers
abbrev pub place_word : Option (Option ℕ) → List ℕ
place_word None = codes "absent"
place_word (Some held) = place_text held

-- the line of i, who had the one place and has the other
abbrev pub change_line : ℕ → Option (Option ℕ) → Option (Option ℕ) → List ℕ
change_line i before after = decimal i ++ codes "," ++ place_word before ++ codes "," ++ place_word after ++ codes "\n"

-- the line above the students' lines
abbrev pub changes_header : List ℕ
changes_header = codes "student,before,after\n"

-- the header, and the line of each student whose place differs
unfoldable pub changes_text : Market → Matching → Market → Matching → List ℕ
changes_text m a n b = changes_header ++ flat_map (λ i. change_line i (place_in m a i) (place_in n b i)) (changed m a n b)
