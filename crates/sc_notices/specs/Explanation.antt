-- What came of each choice of a student.
use Rattle.std.specs.Prelude.{ℕ, Bool, false, ◌==◌, Option, take, if◌then◌else◌}
use Rattle.std.specs.Option.{option_map_or}
use Rattle.std.specs.List.{list_any}
use Rattle.sc_papers.specs.Market.{Market, choices_of}
use Rattle.sc_papers.specs.Matching.{Matching, has}
use Rattle.sc_reasons.specs.Reason.{reason}
use Rattle.sc_reasons.specs.declared.reason.Reason.{Reason}
use Rattle.sc_notices.specs.declared.outcome.Outcome.{Outcome}
use Rattle.sc_notices.specs.declared.outcome.Outcome.TheVariants.{Given, Refused, Later}

-- whether what a student has is this school
abbrev pub is_given : Option ℕ → ℕ → Bool
is_given held school = option_map_or (λ s. s == school) held false

-- what came of a choice: it was given, or one before it was, or else it was refused for this reason
abbrev pub outcome_by : Bool → Bool → Reason → Outcome
outcome_by is_given is_past reason = if is_given then Given else if is_past then Later else Refused reason

-- whether what i has stands before this rank, from 0, among i's choices
abbrev pub has_before : Market → Matching → ℕ → ℕ → Bool
has_before m a i rank = list_any (λ s. has a s i) (take rank (choices_of m i))

-- what came of i's choice s, which has this rank, from 0
abbrev pub outcome : Market → Matching → ℕ → ℕ → ℕ → Outcome
outcome m a i rank s = outcome_by (has a s i) (has_before m a i rank) (reason m a i s)
