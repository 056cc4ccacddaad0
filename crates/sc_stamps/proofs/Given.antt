-- No stamp is greater than the number of accepted amendments.
use Rattle.std.proofs.Common.{ℕ, zero, suc, ◌+◌, ◌<◌, ◌≤◌, List, [], ◌∷◌, ◌++◌, length, replicate, slice_index_or, swap, Option, Some, None, arith}
use Rattle.std.proofs.lemmas.List.Elements.{All-append, All-drop, All-replicate, All-set, All-take}
use Rattle.sc_papers.specs.Market.{Market}
use Rattle.sc_stamps.specs.Stamps.{AreGiven, IsInStep, Stamps, stamp_at, stamp_of, with_stamp, without_stamp}
use Rattle.sc_stamps.specs.declared.record.Record.{Record}
use Rattle.sc_stamps.specs.declared.record.Record.TheVariants.{OfStudent, OfSchool}

-- so it stays once one more is accepted
pub given-more : (n : ℕ) (stamps : List ℕ) → AreGiven n stamps → AreGiven (n + 1) stamps
given-more n stamps given = λ k d low. omega (arith, given k d low)

-- and where the next one is put in or put last
pub given-put : (n : ℕ) (stamps : List ℕ) (place : Option ℕ) → AreGiven n stamps → AreGiven (n + 1) (with_stamp stamps place (n + 1))
given-put n stamps None given = given-more n stamps given
given-put n stamps (Some k) given = All-set (λ stamp. stamp ≤ n + 1) stamps k (n + 1) (omega arith) (given-more n stamps given)

pub given-pushed : (n : ℕ) (stamps : List ℕ) → AreGiven n stamps → AreGiven (n + 1) (stamps ++ (n + 1) ∷ [])
given-pushed n stamps given = All-append (λ stamp. stamp ≤ n + 1) stamps ((n + 1) ∷ []) (given-more n stamps given) (All-replicate (λ stamp. stamp ≤ n + 1) 1 (n + 1) (omega arith))

-- where one is taken out
pub given-out : (n : ℕ) (stamps : List ℕ) (place : Option ℕ) → AreGiven n stamps → AreGiven (n + 1) (without_stamp stamps place)
given-out n stamps None given = given-more n stamps given
given-out n stamps (Some k) given =
    let more = given-more n stamps given in
    All-append (λ stamp. stamp ≤ n + 1) _ _ (All-take (λ stamp. stamp ≤ n + 1) k stamps more) (All-drop (λ stamp. stamp ≤ n + 1) (suc k) stamps more)

-- where two change places
pub given-swapped : (n : ℕ) (stamps : List ℕ) (a b : ℕ) → a < length stamps → b < length stamps → AreGiven n stamps → AreGiven n (swap stamps a b)
given-swapped n [] a b low high given = given
given-swapped n (x ∷ xs) a b low high given =
    All-set (λ stamp. stamp ≤ n) _ b _ (given a x low) (All-set (λ stamp. stamp ≤ n) (x ∷ xs) a _ (given b x high) given)

-- and of stamps of 0
pub given-zeros : (n count : ℕ) → AreGiven n (replicate count 0)
given-zeros n count = All-replicate (λ stamp. stamp ≤ n) count 0 (omega arith)

-- so no record's stamp is greater
given-at : (n : ℕ) (stamps : List ℕ) (k : ℕ) → AreGiven n stamps → slice_index_or stamps k 0 ≤ n
given-at n [] k given = omega arith
given-at n (x ∷ xs) zero given = given zero x (omega arith)
given-at n (x ∷ xs) (suc k) given = given-at n xs k (λ j d low. given (suc j) d (omega (arith, low)))

given-there : (n : ℕ) (stamps : List ℕ) (place : Option ℕ) → AreGiven n stamps → stamp_at stamps place ≤ n
given-there n stamps None given = omega arith
given-there n stamps (Some k) given = given-at n stamps k given

pub stamp-given : (m : Market) (stamps : Stamps) (r : Record) → IsInStep m stamps → stamp_of m stamps r ≤ stamps.accepted
stamp-given m stamps (OfStudent i) step = given-there stamps.accepted stamps.students _ step.students_given
stamp-given m stamps (OfSchool s) step = given-there stamps.accepted stamps.schools _ step.schools_given
