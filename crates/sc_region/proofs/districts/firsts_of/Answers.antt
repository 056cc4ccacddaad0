use Rattle.std.proofs.Common.{◌≡◌, ◌<◌, ℕ, sym, subst, ◌∙◌, Contains, below_more, arith}
use Rattle.std.proofs.lemmas.Map.Entries.{length-keys_of}
use Rattle.std.proofs.lemmas.Option.{slice_get_within}
use Rattle.sc_papers.proofs.Choices.{place-of}
use Rattle.sc_papers.proofs.Hands.{hand-is}
use Rattle.sc_papers.specs.Market.{student_at, students_of}
use Rattle.sc_region.specs.Districts.{firsts_at, lists_in}
use Rattle.sc_region.specs.Groups.{first_choice, position_of}
use Rattle.sc_region.proofs.districts.firsts_of.Goals as goal

pub loop-position-preserved : goal.loop-position-preserved
loop-position-preserved c =
    let m = c.args.papers.now in
    let at = c.loop-position.position in
    let new = lists_in c.put.new.firsts.items in
    let own : student_at m at ≡ c.new.result.student = hand-is m at c.in-Some.student (sym c.student_at.ensures ∙ c.in-Some.is) ∙ sym c.new.ensures in
    let Has : ℕ → Type 0 = λ k. Contains (firsts_at new (position_of m (first_choice m (student_at m k)))) (student_at m k) in (
      c.in_ok-put.ensures.one_each ∙ c.loop-position.invariant.0,
      below_more Has at (λ k low. c.in_ok-put.ensures.keeps (position_of m (first_choice m (student_at m k))) (student_at m k) (c.loop-position.invariant.1 k low))
          (subst (λ q. Contains (firsts_at new q) (student_at m at)) c.first_position_at.ensures.position
          (subst (Contains (firsts_at new c.first_position_at.result)) (sym own) c.in_ok-put.ensures.has)),
    )

pub returns-clause-listed : goal.returns-clause-listed
returns-clause-listed c i among =
    let m = c.args.papers.now in
    let lists = lists_in c.loop-position.firsts.items in
    let (p, there) = place-of (students_of m) i among in
    let low : p < c.loop-position.position = omega (arith, slice_get_within (students_of m) p i there, length-keys_of m.students, c.loop-position-test.false, c.students_len-position-end.ensures.count) in
    subst (λ j. Contains (firsts_at lists (position_of m (first_choice m j))) j) (hand-is m p i there) (c.loop-position.invariant.1 p low)
