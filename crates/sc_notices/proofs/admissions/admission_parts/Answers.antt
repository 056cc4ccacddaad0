use Rattle.std.proofs.Common.{◌≡◌, ◌∙◌, All, ap, length, subst, sym, true}
use Rattle.sc_papers.specs.Assignment.{assigned}
use Rattle.sc_papers.specs.Market.{is_school, schools_of, students_of}
use Rattle.sc_repair.specs.Standing.{matching_of}
use Rattle.sc_notices.specs.AdmissionsText.{admissions_text}
use Rattle.sc_notices.specs.KeyLists.{AreCandidates}
use Rattle.sc_notices.proofs.AdmissionLemmas.{all-listed, listed, rising-known}
use Rattle.sc_notices.proofs.admissions.admission_parts.Goals as goal

pub invariant_of-result : goal.invariant_of-result
invariant_of-result c =
    let m = c.deref-papers.result.now in
    let schools = ap (λ n. length (schools_of n)) (c.papers-2.ensures.papers ∙ sym (c.deref-papers.ensures ∙ c.papers.ensures.papers)) in
    record {
      known = subst (All (λ s. is_school m s ≡ true)) (sym c.in_ok-schools.ensures) (rising-known m);
      admitted = c.in_ok-candidates.ensures.candidates.holders.one_each ∙ schools;
      waiting = c.in_ok-candidates.ensures.candidates.waiters.one_each ∙ schools;
    }

pub returns : goal.returns
returns c =
    let standing = c.args.clearing.now.standing in
    let m = standing.papers in
    let a = matching_of standing in
    let b = assigned c.places.result.now in
    let n = c.deref-papers.result.now in
    let schools = c.in_ok-schools.schools.items in
    let found = c.in_ok-candidates.candidates in
    let same = c.deref-papers.ensures ∙ c.papers.ensures.papers in
    listed m a b n schools found.admitted found.waiting (admissions_text m a) same (ap assigned c.places.ensures)
    (subst (λ p. AreCandidates p b (students_of p) found.admitted found.waiting) (c.papers-2.ensures.papers ∙ sym same) c.in_ok-candidates.ensures.candidates)
    (all-listed m a n schools same c.in_ok-schools.ensures)
