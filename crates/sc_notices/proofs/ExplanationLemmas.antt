-- The lines of a student's choices, one after the other.
use Rattle.std.proofs.Common.{◌≡◌, refl, sym, ◌∙◌, ap, subst, ℕ, ◌+◌, ◌<◌, Bool, true, false, ◌||◌, List, [], ◌∷◌, ◌++◌, length, get_or, map, take, All, add-one, append_assoc, arith, Option, Some, slice_get}
use Rattle.std.specs.Prelude.{codes, decimal, flat_map}
use Rattle.std.specs.List.{enumerate_from, list_any}
use Rattle.std.proofs.Math.Seq.{take-suc}
use Rattle.std.proofs.lemmas.List.{get_or-map, length-map}
use Rattle.std.proofs.lemmas.List.FromFn.{get_or-enumerate_from, length-enumerate_from}
use Rattle.std.proofs.lemmas.List.Folds.{list_any-append}
use Rattle.std.proofs.lemmas.Option.{get_or_from_slice_get, slice_get_within}
use Rattle.sc_papers.specs.Market.{Market, choices_of, students_of}
use Rattle.sc_reasons.specs.Rising.{rising}
use Rattle.sc_papers.specs.Matching.{Matching, has}
use Rattle.sc_papers.specs.declared.key.Key.{Key}
use Rattle.sc_papers.specs.Key.{key_of}
use Rattle.sc_reasons.specs.Cutoff.{cutoff, rows_in_order}
use Rattle.sc_reasons.specs.Entrants.{numbers_of, Holds}
use Rattle.sc_reasons.specs.Reason.{reason_by}
use Rattle.sc_reasons.specs.declared.cutoff.Cutoff.{Cutoff}
use Rattle.sc_reasons.specs.declared.cutoff.CutoffRow.{CutoffRow}
use Rattle.sc_reasons.specs.declared.entrants.Entrant.{Entrant}
use Rattle.sc_report.proofs.LineLemmas.{lines-map, lines-more}
use Rattle.sc_notices.specs.Explanation.{has_before, outcome, outcome_by}
use Rattle.sc_notices.specs.Lottery.{cutoff_rank, lottery_rank}
use Rattle.sc_notices.specs.ExplanationText.{choice_fields, choice_line, explanation_header, explanation_lines, explanation_of, explanation_text, student_lines}
use Rattle.sc_notices.specs.Parts.{AreExplained, ToExplain}
use Rattle.sc_notices.specs.Telling.{Tells}
use Rattle.sc_notices.specs.declared.outcome.Outcome.{Outcome}
use Rattle.sc_notices.specs.declared.parts.TextParts.TheVariants.{Explained}

-- the choices of a student, each with its rank
abbrev pub ranked : Market → ℕ → List (ℕ × ℕ)
ranked m i = enumerate_from 0 (choices_of m i)

pub ranked-length : (m : Market) (i : ℕ) → length (ranked m i) ≡ length (choices_of m i)
ranked-length m i = length-enumerate_from 0 (choices_of m i)

-- whether what i has stands before the next rank
pub before-more : (m : Market) (a : Matching) (i k s : ℕ) → slice_get (choices_of m i) k ≡ Some s → has_before m a i (k + 1) ≡ (has_before m a i k || has a s i)
before-more m a i k s here =
    ap (list_any (λ t. has a t i)) front
    ∙ list_any-append (λ t. has a t i) (take k (choices_of m i)) (s ∷ [])
    ∙ ap (λ b. has_before m a i k || b) (or-false (has a s i))
  where
    front : take (k + 1) (choices_of m i) ≡ take k (choices_of m i) ++ s ∷ []
    front =
        rw (add-one, take-suc (choices_of m i) k s (slice_get_within (choices_of m i) k s here))
        (ap (λ t. take k (choices_of m i) ++ t ∷ []) (get_or_from_slice_get (choices_of m i) k s s here))

    or-false : (b : Bool) → (b || false) ≡ b
    or-false true = refl
    or-false false = refl

-- a text that gained the line of the next choice
pub choices-more : (m : Market) (a : Matching) (i k s : ℕ) (key : Key) (own : ℕ) (cut : Cutoff) (last : Option ℕ) (came : Outcome) (given past : Bool) (number old text numbered new : List ℕ)
    → slice_get (choices_of m i) k ≡ Some s → number ≡ decimal i ++ codes "," → key ≡ key_of m i s → own ≡ lottery_rank m i → cut ≡ cutoff m a s → last ≡ cutoff_rank m cut
    → given ≡ has a s i → past ≡ has_before m a i k → came ≡ outcome_by given past (reason_by cut key)
    → text ≡ old ++ flat_map (λ choice. choice_line m a i choice.0 choice.1) (take k (ranked m i))
    → numbered ≡ text ++ number → new ≡ numbered ++ choice_fields k s key own cut last came
    → new ≡ old ++ flat_map (λ choice. choice_line m a i choice.0 choice.1) (take (k + 1) (ranked m i))
choices-more m a i k s key own cut last came given past number old text numbered new here number_is key_is own_is cut_is last_is given_is past_is came_is text_is numbered_is new_is =
    let low : k < length (choices_of m i) = slice_get_within (choices_of m i) k s here in
    let stands : (k, s) ≡ get_or (ranked m i) k (k, s) =
    sym (get_or-enumerate_from 0 (choices_of m i) k (k, s) low ∙ (λ t. (zero-plus k t, get_or_from_slice_get (choices_of m i) k s s here t))) in
    let line : new ≡ text ++ choice_line m a i k s =
    new_is
    ∙ (λ t. (numbered_is ∙ ap (λ n. text ++ n) number_is) t ++ choice_fields k s (key_is t) (own_is t) (cut_is t) ((last_is ∙ ap (cutoff_rank m) cut_is) t) (came_is t))
    ∙ (λ t. (text ++ (decimal i ++ codes ",")) ++ choice_fields k s (key_of m i s) (lottery_rank m i) (cutoff m a s) (cutoff_rank m (cutoff m a s)) (outcome_by (given_is t) (past_is t) (reason_by (cut_is t) (key_is t))))
    ∙ append_assoc text (decimal i ++ codes ",") (choice_fields k s (key_of m i s) (lottery_rank m i) (cutoff m a s) (cutoff_rank m (cutoff m a s)) (outcome m a i k s)) in
    lines-more (λ (choice : ℕ × ℕ). choice_line m a i choice.0 choice.1) (ranked m i) k (k, s) old text new text_is line (omega (arith, low, ranked-length m i)) stands
  where
    zero-plus : (n : ℕ) → 0 + n ≡ n
    zero-plus n = omega arith

-- the lines of students are told, each student's as a part
pub explained : (m : Market) (a b : Matching) (n : Market) (entrants : List Entrant) (rows : List CutoffRow) (text : List ℕ) → n ≡ m → b ≡ a → rows ≡ rows_in_order n b → All (Holds b) entrants
    → text ≡ explanation_lines m a (numbers_of entrants) → Tells (Explained (record { papers = n; entrants = entrants; rows = rows })) text
explained m a b n entrants rows text papers_is places_is rows_are hold text_is = (
  map (student_lines n b) (numbers_of entrants),
  record { matching = b; rows = rows_are; hold = hold; each = refl },
  text_is
      ∙ sym (λ t. explanation_lines (papers_is t) (places_is t) (numbers_of entrants))
      ∙ ap (λ lines. explanation_header ++ lines) (lines-map (λ (part : List ℕ). part) (student_lines n b) (numbers_of entrants)),
)

-- a part has the lines of its student, who has what is noted
pub told-part : (told : ToExplain) (parts : List (List ℕ)) (at : ℕ) (one : Entrant) (are : AreExplained told parts) → at < length told.entrants → one ≡ get_or told.entrants at one
    → Holds are.matching one × (student_lines told.papers are.matching one.student ≡ get_or parts at [])
told-part told parts at one are low is =
    let number = λ (e : Entrant). e.student in
    let lines = student_lines told.papers are.matching in
    let within : at < length (numbers_of told.entrants) = omega (arith, low, length-map told.entrants number) in (
      subst (Holds are.matching) (sym is) (are.hold at one low),
      sym (ap (λ p. get_or p at []) are.each
          ∙ get_or-map lines (numbers_of told.entrants) at one.student [] within
          ∙ ap lines (get_or-map number told.entrants at one one.student low ∙ ap number (sym is))),
    )

-- the text of all students has the lines of these, who are all
pub all-explained : (m : Market) (a : Matching) (n : Market) (students : List ℕ) → n ≡ m → students ≡ rising (students_of n) → explanation_text m a ≡ explanation_lines m a students
unfolding explanation_text
all-explained m a n students papers_is students_are = ap (explanation_lines m a) (sym (students_are ∙ ap (λ p. rising (students_of p)) papers_is))

-- and the text of one has the lines of that one
pub one-explained : (m : Market) (a : Matching) (i : ℕ) (students : List ℕ) → students ≡ i ∷ [] → explanation_of m a i ≡ explanation_lines m a students
unfolding explanation_of
one-explained m a i students students_are = ap (explanation_lines m a) (sym students_are)
