-- The ranks of choices: at which a school stands, and at which a student does.
use Rattle.std.proofs.Common.{◌≡◌, refl, ap, sym, ◌∙◌, ℕ, ◌<◌, ◌==◌, true, List, get_or, Option, Some, None, Contains, position, slice_get, arith}
use Rattle.std.proofs.lemmas.Bool.{eqb-true, eq-eqb, true≢false}
use Rattle.std.proofs.lemmas.List.Quantifiers.{position-Some}
use Rattle.std.proofs.lemmas.Option.{slice_get-get_or, slice_get_within}
use Rattle.sc_papers.specs.Market.{Market, is_student, choices_of}
use Rattle.sc_papers.specs.WellFormed.{WithinLimits}
use Rattle.sc_papers.specs.declared.limits.TheConstants.{LONGEST_LIST}
use Rattle.sc_papers.proofs.Positions.{among-student}
use Rattle.sc_papers.proofs.Students.{choices-short}
use Rattle.sc_checkpoint.proofs.Marking.{position-none}
use Rattle.sc_engine.specs.RoundView.{next_of, rank_of}
use Rattle.sc_engine.proofs.Tables.{next-among, next-by}

-- the school stands there
pub rank-there : (choices : List ℕ) (s rank : ℕ) → position (λ c. c == s) choices ≡ Some rank → slice_get choices rank ≡ Some s
rank-there choices s rank found =
    let parts = position-Some (λ c. c == s) choices rank s found in
    slice_get-get_or choices rank s parts.0 ∙ ap Some (eqb-true (get_or choices rank s) s parts.1)

-- a school that is among the choices has a rank
pub rank-found : (choices : List ℕ) (s : ℕ) → Contains choices s → position (λ c. c == s) choices ≡ None → ⊥
rank-found choices s (k, low, is) none =
    true≢false (sym (eq-eqb s s refl) ∙ position-none (λ c. c == s) choices k s none (slice_get-get_or choices k s low ∙ ap Some is))

-- who stands at a choice is a student of the papers, and the choice a school of them
pub stander-student : (m : Market) (ranks : List (Option ℕ)) (i s : ℕ) → next_of m ranks i ≡ Some s → is_student m i ≡ true
stander-student m ranks i s next = among-student m i (next-among m ranks i s next)

-- and its rank is below the length of the longest list
pub stander-short : (m : Market) (ranks : List (Option ℕ)) (i s rank : ℕ) → WithinLimits m → next_of m ranks i ≡ Some s → rank_of m ranks i ≡ Some rank → rank < LONGEST_LIST
stander-short m ranks i s rank within next is =
    omega (arith, slice_get_within (choices_of m i) rank s (sym (next-by m ranks i rank is) ∙ next), choices-short m within i)
