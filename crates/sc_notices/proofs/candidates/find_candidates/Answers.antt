use Rattle.std.proofs.Common.{◌≡◌, ◌==◌, ◌∙◌, [], Some, ap, length, replicate, slice_get, subst, sym}
use Rattle.std.specs.List.{before_first, list_any}
use Rattle.sc_papers.specs.Assignment.{assigned}
use Rattle.sc_papers.specs.Market.{choices_of, student_at, students_of}
use Rattle.sc_papers.specs.Matching.{has}
use Rattle.sc_papers.proofs.Hands.{hand-is}
use Rattle.sc_notices.specs.Admissions.{waits}
use Rattle.sc_notices.specs.Explanation.{is_given}
use Rattle.sc_notices.specs.KeyLists.{AddsKeys}
use Rattle.sc_notices.proofs.KeyListLemmas.{lists-more, lists-none}
use Rattle.sc_notices.proofs.candidates.find_candidates.Goals as goal

pub loop-position-init : goal.loop-position-init
loop-position-init c =
    let m = c.args.papers.now in
    let a = assigned c.args.places.now in
    record { holders = lists-none m (has a) _ (c.in_ok-empty.ensures ∙ ap (λ n. replicate n []) (c.schools_len.ensures ∙ ap (λ n. length n.schools) c.deref.ensures)); waiters = lists-none m (waits m a) _ (c.in_ok-empty-2.ensures ∙ ap (λ n. replicate n []) (c.schools_len-2.ensures ∙ ap (λ n. length n.schools) c.deref-2.ensures)) }

pub loop-position-preserved : goal.loop-position-preserved
loop-position-preserved c =
    let m = c.args.papers.now in
    let a = assigned c.args.places.now in
    let k = c.loop-position.position in
    let i = student_at m k in
    let told = ap (λ n. slice_get (students_of n) k) (sym c.deref-in-loop-position.ensures) ∙ sym c.in-Some.ensures in
    let here : slice_get (students_of m) k ≡ Some i = told ∙ ap Some (sym (hand-is m k c.in-Some.student told)) in
    let held = c.get_near-held.ensures ∙ ap a (sym (hand-is m k c.in-Some.student told)) in
    record {
      holders = lists-more m (has a) (is_given c.get_near-held.result) (students_of m) k i _ _ here (λ s. ap (λ o. is_given o s) held) c.loop-position.invariant.holders
          (subst (λ n. AddsKeys n (student_at n k) (is_given c.get_near-held.result) c.loop-position.candidates.admitted c.add_holder.new.admitted) c.deref-in-loop-position-2.ensures c.in_ok-add_holder.ensures);
      waiters = lists-more m (waits m a) _ (students_of m) k i _ _ here
          (λ s. ap (λ o. list_any (λ t. t == s) (before_first (is_given o) (choices_of m i))) held) c.loop-position.invariant.waiters c.in_ok-add_preferred.ensures;
    }
