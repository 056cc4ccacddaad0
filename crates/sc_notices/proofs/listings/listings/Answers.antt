use Rattle.std.proofs.Common.{◌≡◌, ◌∙◌, ◌+◌, ◌++◌, ap, subst, sym, ◌<◌, ℕ, All, drop, get_or, length, map, take, arith}
use Rattle.std.proofs.Math.Seq.{take-append_seam}
use Rattle.std.proofs.lemmas.List.{length-map}
use Rattle.sc_papers.specs.Classed.{Classed}
use Rattle.sc_papers.specs.Market.{choices_of, schools_of, student_at, students_of}
use Rattle.sc_papers.proofs.Recorded.{chosen-low}
use Rattle.sc_notices.specs.Counting.{AreListings}
use Rattle.sc_notices.proofs.ListingLemmas.{count-placed, listings-few, listings-more, positions-length, positions-low}
use Rattle.sc_papers.proofs.Students.{choices-short}
use Rattle.sc_notices.proofs.listings.listings.Goals as goal

pub count_choices-requires : goal.count_choices-requires
count_choices-requires c =
    let m = c.args.papers.now in
    let k = c.loop-position.position in
    let here : k < length m.students = omega (arith, c.loop-position-test.true, c.students_len-position-end.ensures.count) in
    let choices = choices_of m (student_at m k) in
    let listed = c.classed_choices_at.result.now in
    let positions = map (λ c'. c'.position) listed in
    let are = c.classed_choices_at.ensures.positions in
    let before = subst (AreListings m (take k (students_of m))) (sym c.as_mut_slice.ensures.value) c.loop-position.invariant in
    let told = c.students_len-position-end.ensures in
    record {
      within = subst (λ (n : ℕ). All (λ (c' : Classed). c'.position < n) listed) (sym before.one_each) (chosen-low (length (schools_of m)) listed (positions-low m positions choices are));
      short = omega (arith, positions-length m positions choices are, length-map listed (λ c'. c'.position), choices-short m told.within_limits (student_at m k));
      few = λ at low. omega (arith, listings-few m told.well_formed k here c.as_mut_slice.result.now before at low, here, told.within_limits.students);
    }

pub loop-position-preserved : goal.loop-position-preserved
loop-position-preserved c =
    let m = c.args.papers.now in
    let k = c.loop-position.position in
    let here : k < length m.students = omega (arith, c.loop-position-test.true, c.students_len-position-end.ensures.count) in
    let before = subst (AreListings m (take k (students_of m))) (sym c.as_mut_slice.ensures.value) c.loop-position.invariant in
    let new = c.count_choices.new.counts in
    let listed = c.classed_choices_at.result.now in
    let items = c.loop-position.counts.items in
    let long : c.loop-position.counts.len ≡ length new = sym (c.count_choices.auto.counts ∙ c.as_mut_slice.ensures.len) in
    subst (AreListings m (take (k + 1) (students_of m))) (sym (ap (λ n. take n (new ++ drop (length new) items)) long ∙ take-append_seam new (drop (length new) items)))
    (listings-more m c.students_len-position-end.ensures.well_formed k here c.as_mut_slice.result.now new (map (λ c'. c'.position) listed)
    c.classed_choices_at.ensures.positions before c.count_choices.auto.counts
    (λ at low. c.count_choices.ensures at low ∙ ap (λ n. get_or c.as_mut_slice.result.now at 0 + n) (count-placed at listed)))
