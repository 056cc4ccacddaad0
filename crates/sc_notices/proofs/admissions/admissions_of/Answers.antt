use Rattle.std.proofs.Common.{◌≡◌, ◌∙◌, [], All, ap, length, subst, sym, true}
use Rattle.std.proofs.lemmas.List.Elements.{All-cons, All-nil}
use Rattle.sc_papers.specs.Assignment.{assigned}
use Rattle.sc_papers.specs.Market.{is_school, schools_of, students_of}
use Rattle.sc_repair.specs.Standing.{matching_of}
use Rattle.sc_notices.specs.AdmissionsText.{admissions_of}
use Rattle.sc_notices.specs.KeyLists.{AreCandidates}
use Rattle.sc_notices.proofs.AdmissionLemmas.{listed, one-listed, school-away, school-here}
use Rattle.sc_notices.proofs.admissions.admissions_of.Goals as goal

pub returns-then-is_none-clause-known : goal.returns-then-is_none-clause-known
returns-then-is_none-clause-known c =
    sym (school-away c.deref-papers.result.now c.args.school c.school_position.result c.is_none.result c.school_position.ensures c.is_none.ensures c.if-is_none.true)
    ∙ ap (λ m. is_school m c.args.school) (c.deref-papers.ensures ∙ c.papers.ensures.papers)

pub invariant_of-result : goal.invariant_of-result
invariant_of-result c =
    let m = c.deref-papers.result.now in
    let schools = ap (λ n. length (schools_of n)) (c.papers-2.ensures.papers ∙ sym (c.deref-papers.ensures ∙ c.papers.ensures.papers)) in
    record {
      known = subst (All (λ s. is_school m s ≡ true)) (sym c.in_ok-from_slice.ensures.items)
          (All-cons (λ s. is_school m s ≡ true) c.args.school []
          (school-here m c.args.school c.school_position.result c.is_none.result c.school_position.ensures c.is_none.ensures c.if-is_none.false) (All-nil (λ s. is_school m s ≡ true)));
      admitted = c.in_ok-candidates.ensures.candidates.holders.one_each ∙ schools;
      waiting = c.in_ok-candidates.ensures.candidates.waiters.one_each ∙ schools;
    }

pub returns-clause-known : goal.returns-clause-known
returns-clause-known c =
    sym (school-here c.deref-papers.result.now c.args.school c.school_position.result c.is_none.result c.school_position.ensures c.is_none.ensures c.if-is_none.false)
    ∙ ap (λ m. is_school m c.args.school) (c.deref-papers.ensures ∙ c.papers.ensures.papers)

pub returns-clause-text : goal.returns-clause-text
returns-clause-text c =
    let standing = c.args.clearing.now.standing in
    let m = standing.papers in
    let a = matching_of standing in
    let b = assigned c.places.result.now in
    let schools = c.in_ok-from_slice.field-0.items in
    let found = c.in_ok-candidates.candidates in
    let same = c.deref-papers.ensures ∙ c.papers.ensures.papers in
    listed m a b c.deref-papers.result.now schools found.admitted found.waiting (admissions_of m a c.args.school) same (ap assigned c.places.ensures)
    (subst (λ p. AreCandidates p b (students_of p) found.admitted found.waiting) (c.papers-2.ensures.papers ∙ sym same) c.in_ok-candidates.ensures.candidates)
    (one-listed m a c.args.school schools c.in_ok-from_slice.ensures.items)
