-- What came of each choice, as text.
use Rattle.std.specs.Prelude.{ℕ, ◌+◌, List, [], ◌∷◌, ◌++◌, Option, None, Some, codes, flat_map}
use Rattle.std.specs.Fmt.{decimal}
use Rattle.std.specs.List.{enumerate_from}
use Rattle.sc_papers.specs.Key.{key_of}
use Rattle.sc_papers.specs.Market.{Market, choices_of, students_of}
use Rattle.sc_papers.specs.Matching.{Matching}
use Rattle.sc_papers.specs.declared.key.Key.{Key}
use Rattle.sc_reasons.specs.Cutoff.{cutoff}
use Rattle.sc_report.specs.CutoffText.{cutoff_field, draw_text}
use Rattle.sc_report.specs.ReasonText.{reason_word}
use Rattle.sc_reasons.specs.Rising.{rising}
use Rattle.sc_reasons.specs.declared.cutoff.Cutoff.{Cutoff}
use Rattle.sc_notices.specs.Explanation.{outcome}
use Rattle.sc_notices.specs.Lottery.{cutoff_rank, lottery_rank}
use Rattle.sc_notices.specs.declared.outcome.Outcome.{Outcome}
use Rattle.sc_notices.specs.declared.outcome.Outcome.TheVariants.{Given, Refused, Later}

-- an outcome's word: of a refusal that of the reason in the report
abbrev pub outcome_word : Outcome → List ℕ
outcome_word Given = codes "given"
outcome_word (Refused reason) = reason_word reason
outcome_word Later = codes "later"

-- the student's own class and draw
abbrev pub own_fields : Key → List ℕ
own_fields key = decimal key.class ++ codes "," ++ draw_text key.draw ++ codes ","

-- a rank in the lottery, or nothing where there is none
abbrev pub rank_field : Option ℕ → List ℕ
rank_field None = []
rank_field (Some rank) = decimal rank

-- what a line says of a choice but for the school's cutoff: its rank, from 1, the school, the student's own class and draw
-- there, and their rank in the lottery
abbrev pub own_part : ℕ → ℕ → Key → ℕ → List ℕ
own_part rank school key own = decimal (rank + 1) ++ codes "," ++ decimal school ++ codes "," ++ own_fields key ++ decimal own ++ codes ","

-- a school's cutoff, and the rank of its student in the lottery
abbrev pub cutoff_part : Cutoff → Option ℕ → List ℕ
cutoff_part cut last = cutoff_field cut ++ codes "," ++ rank_field last

-- what a line says of a choice: both of these, and what came of it
abbrev pub choice_fields : ℕ → ℕ → Key → ℕ → Cutoff → Option ℕ → Outcome → List ℕ
choice_fields rank school key own cut last came = own_part rank school key own ++ cutoff_part cut last ++ codes "," ++ outcome_word came ++ codes "\n"

-- the line of i's choice s, which has this rank, from 0
abbrev pub choice_line : Market → Matching → ℕ → ℕ → ℕ → List ℕ
choice_line m a i rank s =
    decimal i ++ codes "," ++ choice_fields rank s (key_of m i s) (lottery_rank m i) (cutoff m a s) (cutoff_rank m (cutoff m a s)) (outcome m a i rank s)

-- the lines of i's choices, best first
abbrev pub student_lines : Market → Matching → ℕ → List ℕ
student_lines m a i = flat_map (λ choice. choice_line m a i choice.0 choice.1) (enumerate_from 0 (choices_of m i))

-- the line above the students' lines
abbrev pub explanation_header : List ℕ
explanation_header = codes "student,rank,school,class,draw,lottery_rank,cutoff,cutoff_draw,cutoff_student,cutoff_lottery_rank,outcome\n"

-- the header, and the lines of these students
abbrev pub explanation_lines : Market → Matching → List ℕ → List ℕ
explanation_lines m a students = explanation_header ++ flat_map (student_lines m a) students

-- the lines of all students by rising number
unfoldable pub explanation_text : Market → Matching → List ℕ
explanation_text m a = explanation_lines m a (rising (students_of m))

-- the lines of one student
unfoldable pub explanation_of : Market → Matching → ℕ → List ℕ
explanation_of m a i = explanation_lines m a (i ∷ [])
