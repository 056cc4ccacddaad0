-- How many of the first students have their choice of each rank.
use Rattle.std.proofs.Common.{◌≡◌, sym, ◌∙◌, ap, ℕ, ◌+◌, ◌<◌, ◌≤◌, nat_eq, Bool, cond, List, length, length-take, get_or, take, Option, Some, is_none, count_by, slice_get, arith}
use Rattle.std.specs.Option.{option_eq}
use Rattle.std.proofs.lemmas.List.Sums.{count_by-le-length, sum_by_more}
use Rattle.std.proofs.lemmas.Option.{get_or_from_slice_get, slice_get_within}
use Rattle.sc_papers.specs.Market.{Market, choices_of, students_of}
use Rattle.sc_papers.specs.Matching.{Matching}
use Rattle.sc_papers.specs.declared.limits.TheConstants.{LONGEST_LIST}
use Rattle.sc_notices.specs.Counting.{AreRankCounts}
use Rattle.sc_notices.specs.Summary.{has_rank, is_unplaced, rank_in}
use Rattle.sc_notices.specs.declared.ranks.RankCounts.{RankCounts}

-- how many of the first pass, and whether the next one does
pub counted-more : (p : ℕ → Bool) (xs : List ℕ) (k x : ℕ) → slice_get xs k ≡ Some x → count_by p (take (k + 1) xs) ≡ count_by p (take k xs) + cond (p x) 1 0
counted-more p xs k x here =
    sum_by_more (λ y. cond (p y) 1 0) xs k x (slice_get_within xs k x here)
    ∙ ap (λ y. count_by p (take k xs) + cond (p y) 1 0) (get_or_from_slice_get xs k x x here)

-- no more of the first pass than they are
pub counted-few : (p : ℕ → Bool) (xs : List ℕ) (k : ℕ) → k < length xs → count_by p (take k xs) ≤ k
counted-few p xs k low = omega (arith, count_by-le-length p (take k xs), length-take k xs)

-- the counts of the first students, and one more
pub ranks-more : (m : Market) (a : Matching) (old new : RankCounts) (choices : List ℕ) (held : Option ℕ) (k i : ℕ)
    → slice_get (students_of m) k ≡ Some i → choices ≡ choices_of m i → held ≡ a i
    → AreRankCounts m a (take k (students_of m)) old
    → ((rank : ℕ) → rank < LONGEST_LIST → get_or new.by_rank rank 0 ≡ get_or old.by_rank rank 0 + cond (option_eq nat_eq (rank_in choices held) (Some rank)) 1 0)
    → new.unplaced ≡ old.unplaced + cond (is_none held) 1 0
    → AreRankCounts m a (take (k + 1) (students_of m)) new
ranks-more m a old new choices held k i here choices_is held_is before ranked unplaced = record {
  by_rank = λ rank low.
      ranked rank low
      ∙ ap (λ n. n + cond (option_eq nat_eq (rank_in choices held) (Some rank)) 1 0) (before.by_rank rank low)
      ∙ (λ t. count_by (has_rank m a rank) (take k (students_of m)) + cond (option_eq nat_eq (rank_in (choices_is t) (held_is t)) (Some rank)) 1 0)
      ∙ sym (counted-more (has_rank m a rank) (students_of m) k i here);
  unplaced =
      unplaced
      ∙ (λ t. before.unplaced t + cond (is_none (held_is t)) 1 0)
      ∙ sym (counted-more (is_unplaced a) (students_of m) k i here);
}
