-- An amendment after which the papers were settled from scratch: what the standing is then.
use Rattle.std.proofs.Common.{◌≡◌, refl, ap, sym, subst, ℕ, ◌≤◌, List, Ok, length, take, None, arith}
use Rattle.std.specs.declared.alloc.AllocError.{AllocError}
use Rattle.sc_papers.{specs.{Assignment.{assigned}, Log.{matching_of}, Market.{Market}, Matching.{IsStudentOptimal}, Restriction.{cut, joined, AreApart, IsSegmented}, Verdict.{after, verdict}, declared.amendment.Amendment.{Amendment}}, proofs.{Amending.{WellFormed-after}, Locality.{optimal-outside}, Rewinding.{alike-students}, Subsets.{well-cut}}}
use Rattle.sc_checkpoint.specs.Chains.{logs_in, Chain}
use Rattle.sc_ledgers.{specs.{Proposals.{made_at}, Renewed.{AreTurnsOf}}, proofs.{OneLog.{one-log}, TurnsMade.{made-inside}}}
use Rattle.sc_repair.{
  specs.{Changed.{standing_of}, Locality.{is_among, placed_of, TellsRegion}, Rewinding.{rewind_point}, Standing.{CountsInside, IsAmended, IsCertified, Standing}},
  proofs.{Regional.{counts-region, keeps-others, region-alike, region-apart, region-apart_after}, Resumption.{certified-of, length-students}, Rewinding.{rewind-within_after, segments-rewound, segments_after}},
}

-- two standings, of papers and of what an amendment makes of them
module _ (m n : Market) (a : Amendment) (places given : List (ℕ × ℕ)) (old chains : List Chain) (proposals first : ℕ) (allowed : verdict m a ≡ None) (accepted : n ≡ after m a) (before : IsCertified (standing_of m places old proposals))
    (now : IsCertified (standing_of n given chains first)) where
  -- the students before the rewind point have the chains that they had, since no other ones are settled
  first-stay : take (rewind_point m a) (logs_in chains) ≡ take (rewind_point m a) (logs_in old)
  first-stay =
      let k : ℕ = rewind_point m a in
      let low : k ≤ length n.students = subst (λ p. k ≤ length p.students) (sym accepted) (rewind-within_after m a) in
      one-log (cut n k) (well-cut n k now.well_formed) (take k (logs_in chains)) (take k (logs_in old)) (segments-rewound n n k (alike-students n n k refl refl refl) low low (logs_in chains) now.segmented)
      (subst (λ p. IsSegmented (cut p k) (take k (logs_in old))) (sym accepted) (segments_after m a (logs_in old) before.segmented))

  -- so the amendment was made, and settled as it is to be
  pub settled-afresh : (region : List ℕ) (point made : ℕ) (positions : List ℕ) → TellsRegion m a (is_among region) → point ≡ rewind_point m a → AreTurnsOf n (is_among region) point (length (logs_in chains)) positions
      → made ≡ made_at n (logs_in chains) positions → IsAmended {E = AllocError} (Ok tt) (standing_of m places old proposals) a (standing_of n given chains made)
  settled-afresh region point made positions tells at turns counted =
      let new : Standing = standing_of n given chains made in
      let test = is_among region in
      let apart : AreApart n test = subst (λ p. AreApart p test) (sym accepted) (region-apart_after m a test tells) in
      let low : point ≤ length (logs_in chains) = omega (arith, at, rewind-within_after m a, ap (λ (p : Market). length p.students) accepted, now.segmented.one_each, length-students n) in
      let inside = made-inside n test (logs_in chains) point positions now.well_formed apart now.segmented low turns in
      let placed : placed_of n test (matching_of n (joined (logs_in chains))) ≡ placed_of n test (assigned given) = ap (placed_of n test) (λ t j. (sym (now.matching j)) t) in
      let counts : CountsInside test point new = omega (arith, counted, inside, placed) in
      record {
        certified = certified-of n given (logs_in chains) made now.well_formed now.segmented now.matching;
        accepted = accepted;
        stays = first-stay;
        others = keeps-others (standing_of m places old proposals) new a region tells accepted (λ j fails.
            sym (optimal-outside m (after m a) test (assigned places) (assigned given) before.well_formed (WellFormed-after m a before.well_formed allowed) (region-apart m a test tells) (region-apart_after m a test tells)
            (region-alike m a test tells) before.optimal (subst (λ p. IsStudentOptimal p (assigned given)) accepted now.optimal) j fails));
        proposals = counts-region m a region new tells (subst (λ k. CountsInside test k new) at counts);
        unchanged = tt;
      }
