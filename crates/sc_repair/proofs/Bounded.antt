-- An amendment proposes no more often than the students of its region list schools.
use Rattle.std.proofs.Common.{◌≡◌, refl, sym, ap, subst, ◌∙◌, ℕ, zero, suc, ◌+◌, ◌≤◌, Bool, List, [], ◌∷◌, length, drop, length-append, arith}
use Rattle.std.proofs.lemmas.Grind.{common_steps}
use Rattle.std.specs.Prelude.{◌&&◌, is_some}
use Rattle.sc_papers.specs.Log.{matching_of as gives, IsSettled}
use Rattle.sc_papers.specs.Market.{Market, students_of}
use Rattle.sc_papers.specs.Progress.{all_choices, placed}
use Rattle.sc_papers.specs.Restriction.{entries_of, joined, restricted, AreApart}
use Rattle.sc_papers.specs.Verdict.{after}
use Rattle.sc_papers.specs.declared.amendment.Amendment.{Amendment}
use Rattle.sc_papers.specs.declared.rejection.Rejection.{Rejection}
use Rattle.sc_papers.proofs.Apart.{next-part, settled-apart}
use Rattle.sc_papers.proofs.Cutting.{segments-settled}
use Rattle.sc_papers.proofs.Progress.{log-bounded, same-length}
use Rattle.sc_papers.proofs.Restriction.{counts-restricted, restricted-restricts}
use Rattle.sc_papers.proofs.Students.{how_many-agree}
use Rattle.sc_papers.proofs.Subsets.{well-restricted}
use Rattle.sc_weave.specs.Weaving.{part_of}
use Rattle.sc_weave.proofs.Part.{part-segmented}
use Rattle.sc_repair.specs.Locality.{placed_of, TellsRegion}
use Rattle.sc_repair.specs.Rewinding.{rewind_point}
use Rattle.sc_repair.specs.Standing.{log_of, matching_of, CountsRegion, IsCertified, Standing}
use Rattle.sc_repair.proofs.Regional.{region-apart_after}

-- the segments from a position on have no more entries than all
part-none : (students : List ℕ) (test : ℕ → Bool) → part_of students test [] ≡ []
part-none [] test = refl
part-none (i ∷ students) test = refl

part-later : (k : ℕ) (students : List ℕ) (test : ℕ → Bool) (segments : List (List Rejection))
    → length (joined (part_of (drop k students) test (drop k segments))) ≤ length (joined (part_of students test segments))
part-later zero students test segments = omega arith
part-later (suc k) [] test segments = omega arith
part-later (suc k) (i ∷ students) test [] = omega (arith, ap (λ (own : List (List Rejection)). length (joined own)) (part-none (drop k students) test))
part-later (suc k) (i ∷ students) test (segment ∷ segments) = grind (arith, common_steps, part-later k students test segments, length-append segment (joined (part_of students test segments)))

-- certified papers whose students who pass lie apart
module _ (new : Standing) (test : ℕ → Bool) (certified : IsCertified new) (apart : AreApart new.papers test) where
  settled-own : IsSettled (restricted new.papers test) (entries_of test (log_of new))
  settled-own = ((settled-apart new.papers test (log_of new) apart).0 certified.settled).0

  -- the entries of those who pass are as many as their segments have
  entries-counted : length (entries_of test (log_of new)) ≡ length (joined (part_of (students_of new.papers) test new.segments))
  entries-counted =
      same-length (restricted new.papers test) (well-restricted new.papers test certified.well_formed) (entries_of test (log_of new)) (joined (part_of (students_of new.papers) test new.segments)) settled-own
      (segments-settled (restricted new.papers test) (part_of (students_of new.papers) test new.segments) (part-segmented new.papers test new.segments certified.well_formed apart certified.segmented))

  -- and those of them who have a school are those whom these entries place
  placed-counted : placed_of new.papers test (matching_of new) ≡ placed (restricted new.papers test) (gives (restricted new.papers test) (entries_of test (log_of new)))
  placed-counted =
      how_many-agree new.papers (λ i. test i && is_some (matching_of new i)) (λ i. test i && is_some (gives (restricted new.papers test) (entries_of test (log_of new)) i)) agree
      ∙ sym (counts-restricted new.papers test (λ i. is_some (gives (restricted new.papers test) (entries_of test (log_of new)) i)))
    where
      agree : (i : ℕ) → (test i && is_some (matching_of new i)) ≡ (test i && is_some (gives (restricted new.papers test) (entries_of test (log_of new)) i))
      agree i = grind (arith, common_steps, certified.matching i, next-part (restricted-restricts new.papers test) (log_of new) i)

  region-bounded : length (joined (part_of (students_of new.papers) test new.segments)) + placed_of new.papers test (matching_of new) ≤ all_choices (restricted new.papers test)
  region-bounded =
      omega (
        arith,
        entries-counted,
        placed-counted,
        log-bounded (restricted new.papers test) (well-restricted new.papers test certified.well_formed) (entries_of test (log_of new)) settled-own.valid,
      )

pub proposals_bounded : (m : Market) (a : Amendment) (new : Standing) (test : ℕ → Bool) → new.papers ≡ after m a → IsCertified new → CountsRegion m a new → TellsRegion m a test
    → new.proposals ≤ all_choices (restricted new.papers test)
proposals_bounded m a new test papers certified counts tells =
    let apart : AreApart new.papers test = subst (λ n. AreApart n test) (sym papers) (region-apart_after m a test tells) in
    omega (
      arith,
      counts test tells,
      part-later (rewind_point m a) (students_of new.papers) test new.segments,
      region-bounded new test certified apart,
    )
