-- Where students stand after a log.
use Rattle.std.specs.Prelude.{◌≡◌, ℕ, ◌==◌, nat_eq, Bool, true, List, All, map}
use Rattle.std.specs.List.{list_any, IsDistinct}
use Rattle.sc_papers.specs.Log.{next_choice, IsSettled}
use Rattle.sc_papers.specs.Market.{Market, is_student}
use Rattle.sc_papers.specs.Restriction.{restricted}
use Rattle.sc_papers.specs.declared.rejection.Rejection.{Rejection}
use Rattle.sc_checkpoint.specs.declared.standing.Standing.{Standing}

-- where each of these students stands after a log: at their next choice
abbrev pub next_choices_after : Market → List Rejection → List ℕ → List Standing
next_choices_after m log students = map (λ i. record { student = i; next = next_choice m log i }) students

-- whether a student is among those who stand
abbrev pub stands : List Standing → ℕ → Bool
stands next_choices i = list_any (λ choice. choice.student == i) next_choices

-- the next choices of different students of the papers after a log that settles the papers of these
-- students alone
pub record AreNextChoices (m : Market) (log : List Rejection) (next_choices : List Standing) : Type 0 where
  pub known : All (λ choice. is_student m choice.student ≡ true) next_choices
  pub different : IsDistinct nat_eq (map (λ choice. choice.student) next_choices)
  pub next : All (λ choice. choice.next ≡ next_choice m log choice.student) next_choices
  pub settled : IsSettled (restricted m (stands next_choices)) log
