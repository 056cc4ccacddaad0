-- No amendment changes the seed.
use Rattle.std.proofs.Common.{◌≡◌, refl, ℕ, ◌+◌, ◌-◌, Option, None, Some}
use Rattle.sc_papers.specs.Market.{Market, school_of, seats_of, student_of}
use Rattle.sc_papers.specs.Verdict.{after, changed_school, changed_student}
use Rattle.sc_papers.specs.declared.records.School.{School}
use Rattle.sc_papers.specs.declared.records.Student.{Student}
use Rattle.sc_papers.specs.declared.amendment.Amendment.{Amendment}
use Rattle.sc_papers.specs.declared.amendment.Amendment.TheVariants.{Enter, Withdraw, Rerank, Add, Close, Correct}

seed-changed_student : (m : Market) (i : ℕ) (change : Student → Student) → (changed_student m i change).seed ≡ m.seed
seed-changed_student m i change = by_case (student_of m i) refl
  where
    by_case : (found : Option Student) → student_of m i ≡ found → (changed_student m i change).seed ≡ m.seed
    by_case None none = rw none refl
    by_case (Some student) some = rw some refl

seed-changed_school : (m : Market) (s : ℕ) (change : School → School) → (changed_school m s change).seed ≡ m.seed
seed-changed_school m s change = by_case (school_of m s) refl
  where
    by_case : (found : Option School) → school_of m s ≡ found → (changed_school m s change).seed ≡ m.seed
    by_case None none = rw none refl
    by_case (Some school) some = rw some refl

pub seed-after : (m : Market) (a : Amendment) → (after m a).seed ≡ m.seed
seed-after m (Enter i zone siblings choices continuing) = refl
seed-after m (Withdraw i) = refl
seed-after m (Rerank i choices) = seed-changed_student m i (λ student. record student { choices = choices })
seed-after m (Add s count) = seed-changed_school m s (λ school. record school { seats = seats_of m s + count })
seed-after m (Close s count) = seed-changed_school m s (λ school. record school { seats = seats_of m s - count })
seed-after m (Correct i zone siblings continuing) = seed-changed_student m i (λ student. record student { zone = zone; siblings = siblings; continuing = continuing })
