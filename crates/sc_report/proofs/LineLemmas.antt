-- Texts that grow line by line.
use Rattle.std.proofs.Common.{◌≡◌, refl, sym, ◌∙◌, ap, ℕ, ◌+◌, ◌<◌, ◌≤◌, List, [], ◌∷◌, ◌++◌, length, get_or, map, take, add-one, append-nil, append_assoc}
use Rattle.std.specs.Prelude.{flat_map}
use Rattle.std.proofs.lemmas.Grind.{flat_map-append}
use Rattle.std.proofs.lemmas.List.{take_all}
use Rattle.std.proofs.Math.Seq.{take-suc}
use Rattle.sc_papers.specs.Market.{Market, students_of}
use Rattle.sc_papers.specs.Matching.{Matching}
use Rattle.sc_reasons.specs.Cutoff.{cutoff_rows}
use Rattle.sc_reasons.specs.Reason.{reason_rows}
use Rattle.sc_reasons.specs.Rising.{rising}
use Rattle.sc_reasons.specs.declared.cutoff.CutoffRow.{CutoffRow}
use Rattle.sc_reasons.specs.declared.reason.ReasonRow.{ReasonRow}
use Rattle.sc_report.specs.CutoffText.{cutoff_lines, cutoff_text}
use Rattle.sc_report.specs.ReasonText.{reason_lines, reason_text}
use Rattle.sc_report.specs.Text.{assignment_lines, assignment_text, report_text}

pub flat_map-one_more : {X : Type 0} (f : X → List ℕ) (xs : List X) (x : X) → flat_map f (xs ++ x ∷ []) ≡ flat_map f xs ++ f x
flat_map-one_more f [] x = append-nil (f x)
flat_map-one_more f (y ∷ ys) x = ap (λ more. f y ++ more) (flat_map-one_more f ys x) ∙ sym (append_assoc (f y) (flat_map f ys) (f x))

-- a text that grew by the line of one more element
pub lines-more : {X : Type 0} (f : X → List ℕ) (xs : List X) (k : ℕ) (x : X) (old text new : List ℕ) → text ≡ old ++ flat_map f (take k xs) → new ≡ text ++ f x
    → k < length xs → x ≡ get_or xs k x → new ≡ old ++ flat_map f (take (k + 1) xs)
lines-more f xs k x old text new before grew low is =
    let front : take (k + 1) xs ≡ take k xs ++ x ∷ [] = rw (add-one, take-suc xs k x low) (ap (λ y. take k xs ++ y ∷ []) (sym is)) in
    grew ∙ ap (λ t. t ++ f x) before ∙ append_assoc old (flat_map f (take k xs)) (f x)
    ∙ ap (λ more. old ++ more) (sym (ap (flat_map f) front ∙ flat_map-one_more f (take k xs) x))

-- a text that has a header and the line of each element
pub lines-all : {X : Type 0} (f : X → List ℕ) (xs : List X) (k : ℕ) (old header start text : List ℕ) → start ≡ old ++ header → text ≡ start ++ flat_map f (take k xs)
    → length xs ≤ k → text ≡ old ++ (header ++ flat_map f xs)
lines-all f xs k old header start text start_is text_is over =
    text_is ∙ ap (λ ys. start ++ flat_map f ys) (take_all k xs over) ∙ ap (λ s. s ++ flat_map f xs) start_is ∙ append_assoc old header (flat_map f xs)

-- the lines of elements, made of what is made of each
pub lines-map : {X Y Z : Type 0} (f : Y → List Z) (g : X → Y) (xs : List X) → flat_map (λ x. f (g x)) xs ≡ flat_map f (map g xs)
lines-map f g [] = refl
lines-map f g (x ∷ xs) = ap (λ more. f (g x) ++ more) (lines-map f g xs)

pub lines-flat : {X Y : Type 0} (f : Y → List ℕ) (g : X → List Y) (xs : List X) → flat_map (λ x. flat_map f (g x)) xs ≡ flat_map f (flat_map g xs)
lines-flat f g [] = refl
lines-flat f g (x ∷ xs) = ap (λ more. flat_map f (g x) ++ more) (lines-flat f g xs) ∙ sym (flat_map-append f (g x) (flat_map g xs))

-- a text that has the lines of the students, and gained those of the cutoffs and of the reasons, is the report
pub report-joined : (m : Market) (a : Matching) (students : List ℕ) (rows : List CutoffRow) (reasons : List ReasonRow) (first second third : List ℕ)
    → students ≡ rising (students_of m) → rows ≡ cutoff_rows m a → reasons ≡ reason_rows m a
    → first ≡ assignment_lines a students → second ≡ first ++ cutoff_lines rows → third ≡ second ++ reason_lines reasons
    → third ≡ report_text m a
unfolding report_text
report-joined m a students rows reasons first second third students_is rows_is reasons_is first_is second_is third_is =
    third_is
    ∙ (λ t. (second_is ∙ (λ u. (first_is ∙ (λ v. assignment_lines a (students_is v))) u ++ cutoff_lines (rows_is u))) t ++ reason_lines (reasons_is t))
    ∙ append_assoc (assignment_text m a) (cutoff_text m a) (reason_text m a)
