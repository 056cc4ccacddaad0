use Rattle.std.proofs.Common.{◌≡◌, inl, inr, refl, sym, ap, ◌∙◌, ℕ, nat_eq, false, [], Option, None, Some, is_some, position}
use Rattle.std.specs.Option.{option_map_or}
use Rattle.std.proofs.lemmas.Bool.{cases_Bool}
use Rattle.std.proofs.lemmas.Option.{get_or_from_slice_get, none-some}
use Rattle.sc_papers.specs.Market.{Market, choices_of, is_student, student_of, students_of}
use Rattle.sc_papers.specs.declared.records.Student.{Student}
use Rattle.sc_papers.proofs.Positions.{position-there, student-position}
use Rattle.sc_repair.proofs.ledgers.choices_now.Goals as goal

-- a student who has no position has no choices
no-choices : (m : Market) (i : ℕ) → position (nat_eq i) (students_of m) ≡ None → [] ≡ choices_of m i
unfolding choices_of
no-choices m i none = elim (cases_Bool (is_student m i)) [
  | inl known ↦ let (at, found) = student-position m i known in absurd (none-some at (sym none ∙ found))
  | inr unknown ↦ go (student_of m i) unknown
]
  where
    go : (found : Option Student) → is_some found ≡ false → [] ≡ option_map_or (λ student. student.choices) found []
    go None unknown = refl
    go (Some student) unknown = cc

pub returns-in-Some : goal.returns-in-Some
returns-in-Some c =
    let m = c.args.papers.now in
    let here = position-there (students_of m) c.args.student c.in-Some.position (ap (λ (p : Market). position (nat_eq c.args.student) (students_of p)) (sym c.deref.ensures) ∙ sym c.student_position.ensures ∙ c.in-Some.is) in
    c.choices_at.ensures.choices ∙ ap (choices_of m) (get_or_from_slice_get (students_of m) c.in-Some.position c.args.student 0 here)

pub returns-in-None : goal.returns-in-None
returns-in-None c = no-choices c.args.papers.now c.args.student (ap (λ (p : Market). position (nat_eq c.args.student) (students_of p)) (sym c.deref.ensures) ∙ sym c.student_position.ensures ∙ c.in-None.is)
