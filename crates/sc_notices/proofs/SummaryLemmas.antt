-- The summary's text, line by line.
use Rattle.std.proofs.Common.{◌≡◌, ◌∙◌, ap, ℕ, ◌<◌, ◌++◌, List, [], length, get_or, append_assoc, arith}
use Rattle.std.proofs.lemmas.List.FromFn.{length-range_with_len, get_or-range_with_len}
use Rattle.sc_papers.specs.Market.{Market, students_of}
use Rattle.sc_papers.specs.Matching.{Matching, how_many}
use Rattle.sc_papers.specs.declared.limits.TheConstants.{LONGEST_LIST}
use Rattle.sc_notices.specs.Counting.{AreRankCounts}
use Rattle.sc_notices.specs.Summary.{unplaced, with_rank}
use Rattle.std.specs.Prelude.{codes, flat_map}
use Rattle.sc_notices.specs.SummaryText.{rank_line, rank_lines, ranks, school_lines, summary_text, unplaced_line}
use Rattle.sc_notices.specs.declared.ranks.RankCounts.{RankCounts}

-- there are as many ranks as a list may have choices
pub ranks-length : length ranks ≡ LONGEST_LIST
unfolding ranks
ranks-length = length-range_with_len 0 LONGEST_LIST

-- and each stands at itself
pub rank-there : (rank d : ℕ) → rank < LONGEST_LIST → rank ≡ get_or ranks rank d
unfolding ranks
rank-there rank d low = omega (arith, get_or-range_with_len 0 LONGEST_LIST rank d low)

pub counts-rank : (m : Market) (a : Matching) (counts : RankCounts) (rank : ℕ) → AreRankCounts m a (students_of m) counts → rank < LONGEST_LIST → get_or counts.by_rank rank 0 ≡ with_rank m a rank
unfolding with_rank how_many
counts-rank m a counts rank are low = are.by_rank rank low

pub counts-unplaced : (m : Market) (a : Matching) (counts : RankCounts) → AreRankCounts m a (students_of m) counts → counts.unplaced ≡ unplaced m a
unfolding unplaced how_many
counts-unplaced m a counts are = are.unplaced

-- a text that gained the ranks' lines and then that of the unplaced gained all of them
pub ranks-joined : (m : Market) (a : Matching) (count : ℕ) (old text new : List ℕ) → text ≡ old ++ (codes "rank,students\n" ++ flat_map (λ rank. rank_line rank (with_rank m a rank)) ranks)
    → new ≡ text ++ unplaced_line count → count ≡ unplaced m a → new ≡ old ++ rank_lines m a
ranks-joined m a count old text new text_is new_is count_is =
    let lines = flat_map (λ rank. rank_line rank (with_rank m a rank)) ranks in
    new_is
    ∙ (λ t. text_is t ++ unplaced_line (count_is t))
    ∙ append_assoc old (codes "rank,students\n" ++ lines) (unplaced_line (unplaced m a))
    ∙ ap (λ more. old ++ more) (append_assoc (codes "rank,students\n") lines (unplaced_line (unplaced m a)))

-- a text that gained the ranks' lines and then the schools' is the summary
pub summary-joined : (m : Market) (a : Matching) (old first second : List ℕ) → old ≡ [] → first ≡ old ++ rank_lines m a → second ≡ first ++ school_lines m a → second ≡ summary_text m a
unfolding summary_text
summary-joined m a old first second old_is first_is second_is = second_is ∙ ap (λ t. t ++ school_lines m a) (first_is ∙ ap (λ o. o ++ rank_lines m a) old_is)
