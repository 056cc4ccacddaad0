-- The count of a round's proposals.
use Rattle.std.proofs.Common.{◌≡◌, refl, ap, ◌∙◌, ℕ, ◌≤◌, false, ◌&&◌, List, [], ◌++◌, length, Option, None, Some, is_some, slice_get, arith}
use Rattle.std.specs.Option.{option_and_then}
use Rattle.std.proofs.lemmas.List.{length-append}
use Rattle.sc_papers.specs.Log.{matching_of}
use Rattle.sc_papers.specs.Market.{Market, choices_of}
use Rattle.sc_papers.specs.Matching.{how_many}
use Rattle.sc_papers.specs.Progress.{all_choices, placed}
use Rattle.sc_papers.specs.declared.rejection.Rejection.{Rejection}
use Rattle.sc_papers.proofs.Entering.{is_some-false}
use Rattle.sc_papers.proofs.Progress.{log-bounded}
use Rattle.sc_papers.proofs.Restriction.{counts-restricted}
use Rattle.sc_papers.proofs.Students.{how_many-agree, how_many-none}
use Rattle.sc_engine.specs.Counting.{CountsExactly}
use Rattle.sc_engine.specs.RoundView.{RoundView, Continues, Fits, entered_papers, has_entered, next_of, nobody, rank_of, standing_but}
use Rattle.sc_papers.proofs.Subsets.{well-restricted}
use Rattle.sc_engine.proofs.Tables.{next-none}

-- who stands at a choice has entered
stands-entered : (f : ℕ → Option ℕ) (rank : Option ℕ) → (is_some rank && is_some (option_and_then f rank)) ≡ is_some (option_and_then f rank)
stands-entered f None = refl
stands-entered f (Some at) = refl

pub standing-placed : (m : Market) (r : RoundView) (earlier : List Rejection) → Continues m earlier r
    → placed (entered_papers m r.ranks) (matching_of (entered_papers m r.ranks) (earlier ++ r.log)) ≡ standing_but m r.ranks nobody
unfolding next_of
standing-placed m r earlier continues =
    let n : Market = entered_papers m r.ranks in
    how_many-agree n (λ i. is_some (matching_of n (earlier ++ r.log) i)) (λ i. is_some (next_of m r.ranks i)) (λ i. ap is_some (continues.next i))
    ∙ counts-restricted m (has_entered m r.ranks) (λ i. is_some (next_of m r.ranks i))
    ∙ how_many-agree m (λ i. has_entered m r.ranks i && is_some (next_of m r.ranks i)) (λ i. is_some (next_of m r.ranks i))
    (λ i. stands-entered (λ rank. slice_get (choices_of m i) rank) (rank_of m r.ranks i))

pub proposals_bounded : (m : Market) (r : RoundView) (earlier : List Rejection) → Fits m r → Continues m earlier r → r.proposals ≤ all_choices (entered_papers m r.ranks)
proposals_bounded m r earlier fits continues =
    let n : Market = entered_papers m r.ranks in
    let bounded = log-bounded n (well-restricted m (has_entered m r.ranks) fits.well_formed) (earlier ++ r.log) continues.settled.valid in
    omega (arith, fits.proposals, bounded, standing-placed m r earlier continues, length-append earlier r.log)

pub exact_none : (m : Market) (r : RoundView) → ((i : ℕ) → has_entered m r.ranks i ≡ false) → r.log ≡ [] → r.proposals ≡ 0 → CountsExactly m r
exact_none m r nowhere no_log none =
    let choice : how_many m (λ i. is_some (next_of m r.ranks i)) ≡ 0 =
    how_many-none m (λ i. is_some (next_of m r.ranks i)) (λ i among. ap is_some (next-none m r.ranks i (is_some-false (rank_of m r.ranks i) (nowhere i)))) in
    omega (arith, choice, none, ap (λ (l : List Rejection). length l) no_log)
