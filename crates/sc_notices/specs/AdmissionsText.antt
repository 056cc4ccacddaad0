-- The class lists and the waiting lists as text.
use Rattle.std.specs.Prelude.{ℕ, ◌+◌, List, [], ◌∷◌, ◌++◌, codes, flat_map}
use Rattle.std.specs.Fmt.{decimal}
use Rattle.std.specs.List.{enumerate_from}
use Rattle.sc_papers.specs.Market.{Market, schools_of}
use Rattle.sc_papers.specs.Matching.{Matching}
use Rattle.sc_papers.specs.declared.key.Key.{Key}
use Rattle.sc_report.specs.CutoffText.{draw_text}
use Rattle.sc_reasons.specs.Rising.{rising}
use Rattle.sc_notices.specs.Admissions.{class_list, waiting_list}
use Rattle.sc_notices.specs.declared.status.Status.{Status}
use Rattle.sc_notices.specs.declared.status.Status.TheVariants.{Admitted, Waiting}

-- a status in a word
abbrev pub status_word : Status → List ℕ
status_word Admitted = codes "admitted"
status_word Waiting = codes "waiting"

-- the line of a student in a list of a school: the school, the student's rank, from 1, number, class and draw, and what
-- the list is of
abbrev pub place_line : Status → ℕ → ℕ → Key → List ℕ
place_line status school rank key =
    decimal school ++ codes "," ++ decimal (rank + 1) ++ codes "," ++ decimal key.student ++ codes ","
    ++ decimal key.class ++ codes "," ++ draw_text key.draw ++ codes "," ++ status_word status ++ codes "\n"

-- the lines of a list
abbrev pub list_lines : Status → ℕ → List Key → List ℕ
list_lines status school keys = flat_map (λ place. place_line status school place.0 place.1) (enumerate_from 0 keys)

-- the lines of a school: its class list, and its waiting list
abbrev pub school_lists : Market → Matching → ℕ → List ℕ
school_lists m a s = list_lines Admitted s (class_list m a s) ++ list_lines Waiting s (waiting_list m a s)

-- the line above the schools' lines
abbrev pub admissions_header : List ℕ
admissions_header = codes "school,rank,student,class,draw,status\n"

-- the header, and the lines of these schools
abbrev pub admission_lines : Market → Matching → List ℕ → List ℕ
admission_lines m a schools = admissions_header ++ flat_map (school_lists m a) schools

-- the lines of all schools by rising number
unfoldable pub admissions_text : Market → Matching → List ℕ
admissions_text m a = admission_lines m a (rising (schools_of m))

-- the lines of one school
unfoldable pub admissions_of : Market → Matching → ℕ → List ℕ
admissions_of m a s = admission_lines m a (s ∷ [])
