-- Who is on a roll that fits: exactly the students who have the school.
use Rattle.std.proofs.Common.{◌≡◌, refl, ap, sym, subst, ◌∙◌, ℕ, ◌+◌, ◌<◌, ◌≤◌, ◌==◌, Bool, true, cond, ◌&&◌, List, ◌∷◌, ◌++◌, length, Some, Contains, count_by, map}
use Rattle.std.specs.List.Sorted.{IsPermutation}
use Rattle.std.proofs.lemmas.Bool.{eqb-true, eq-eqb, and_parts, and_from}
use Rattle.std.proofs.lemmas.List.Elements.{All-contains, filter_agree}
use Rattle.std.proofs.lemmas.List.Sorted.{sum_by-IsPermutation}
use Rattle.std.proofs.lemmas.List.Sums.{sum_by-append, sum_by-cons}
use Rattle.sc_papers.specs.Market.{Market, students_of}
use Rattle.sc_papers.specs.Key.{key_of}
use Rattle.sc_papers.specs.Matching.{Matching, how_many, has}
use Rattle.sc_papers.specs.Progress.{placed}
use Rattle.sc_papers.specs.declared.key.Key.{Key}
use Rattle.sc_papers.proofs.Counting.{count-some, some-counted}
use Rattle.sc_papers.proofs.Sums.{count-all}
use Rattle.sc_papers.proofs.Students.{how_many-some, some-of_many}
use Rattle.sc_papers.proofs.Rejections.{has-true, has-some}
use Rattle.sc_seats.specs.Roll.{RollView}
use Rattle.sc_engine.specs.RoundView.{HoldsMatching, RollFits, RoundView, roll_of}
use Rattle.sc_engine.proofs.RollCounts.{counted}

-- who is on the roll has the school, and the key is their own
pub record OnRoll (m : Market) (a : Matching) (s : ℕ) (key : Key) : Type 0 where
  pub stands : a key.student ≡ Some s
  pub own : key ≡ key_of m key.student s

pub on-roll : (m : Market) (a : Matching) (s : ℕ) (roll : RollView) (key : Key) → RollFits m a s roll → Contains roll.keys key → OnRoll m a s key
on-roll m a s roll key fits held =
    let i : ℕ = key.student in
    let one : 0 < how_many m (λ j. j == i && has a s j) =
    subst (λ n. 0 < n) ((counted m a s roll fits).exact (λ j. j == i)) (count-some (λ (k : Key). k.student == i) roll.keys key held (eq-eqb i i refl)) in
    let found = some-of_many m (λ j. j == i && has a s j) one in
    let both = and_parts (found.0 == i) (has a s found.0) found.2 in
    record {
      stands = subst (λ j. a j ≡ Some s) (eqb-true found.0 i both.0) (has-true a s found.0 both.1);
      own = All-contains (λ k. k ≡ key_of m k.student s) roll.keys key (counted m a s roll fits).keyed held;
    }

-- a student who has the school is on the roll
pub roll-holds : (m : Market) (a : Matching) (s : ℕ) (roll : RollView) (i : ℕ) → RollFits m a s roll → Contains (students_of m) i → a i ≡ Some s → Contains roll.keys (key_of m i s)
roll-holds m a s roll i fits among stands =
    let passes : (i == i && has a s i) ≡ true = and_from (i == i) (has a s i) (eq-eqb i i refl) (has-some a s i stands) in
    let one : 0 < count_by (λ (k : Key). k.student == i) roll.keys =
    subst (λ n. 0 < n) (sym ((counted m a s roll fits).exact (λ j. j == i))) (how_many-some m (λ j. j == i && has a s j) i among passes) in
    let found = some-counted (λ (k : Key). k.student == i) roll.keys one in
    let same : found.0.student ≡ i = eqb-true found.0.student i found.2 in
    let own : found.0 ≡ key_of m found.0.student s = All-contains (λ k. k ≡ key_of m k.student s) roll.keys found.0 (counted m a s roll fits).keyed found.1 in
    subst (Contains roll.keys) (own ∙ ap (λ j. key_of m j s) same) found.1

-- how many are on the roll
pub roll-length : (m : Market) (a : Matching) (s : ℕ) (roll : RollView) → RollFits m a s roll → length roll.keys ≡ how_many m (has a s)
roll-length m a s roll fits = sym (count-all roll.keys) ∙ (counted m a s roll fits).exact (λ j. true)

-- a roll that fits still fits where the same have the school
pub roll-fits_still : (m : Market) (a b : Matching) (s : ℕ) (roll : RollView) → ((j : ℕ) → has a s j ≡ has b s j) → RollFits m a s roll → RollFits m b s roll
roll-fits_still m a b s roll agree fits = record {
  seats = fits.seats;
  within = fits.within;
  holds = subst (λ who. IsPermutation roll.keys (map (λ j. key_of m j s) who)) (filter_agree (has a s) (has b s) agree (students_of m)) fits.holds;
}

-- a round whose ranks, rolls or log are others fits too
pub fits-again : {m : Market} {r : RoundView} {a : Matching} (r' : RoundView) (b : Matching) → HoldsMatching m r a → length r'.ranks ≤ length m.students → length r'.rolls ≡ length r.rolls
    → ((s : ℕ) → RollFits m b s (roll_of m r'.rolls s)) → r'.proposals ≤ length r'.log + placed m b → HoldsMatching m r' b
fits-again r' b fits short long each counted = record {
  well_formed = fits.well_formed;
  within_limits = fits.within_limits;
  ranks = short;
  rolls = long ∙ fits.rolls;
  each = each;
  proposals = counted;
}

-- the counts of a roll after an offer
pub counts-offered : (p : ℕ → Bool) (key : Key) (out old new : List Key) → IsPermutation (key ∷ old) (out ++ new)
    → count_by (λ (k : Key). p k.student) out + count_by (λ (k : Key). p k.student) new ≡ cond (p key.student) 1 0 + count_by (λ (k : Key). p k.student) old
counts-offered p key out old new together =
    let term : Key → ℕ = λ k. cond (p k.student) 1 0 in
    sym (sum_by-append term out new) ∙ sum_by-IsPermutation term (key ∷ old) (out ++ new) together ∙ sum_by-cons term key old
