use Rattle.std.proofs.Common.{◌∙◌, ◌++◌, ◌∷◌, [], ap, arith, sym}
use Rattle.std.proofs.lemmas.List.{take_all}
use Rattle.std.proofs.lemmas.Map.Entries.{length-keys_of}
use Rattle.sc_papers.specs.Market.{schools_of}
use Rattle.sc_tallies.proofs.Tallying.{take-one}
use Rattle.sc_reasons.specs.Rising.{rising}
use Rattle.sc_notices.proofs.AdmissionLemmas.{sorted-rising}
use Rattle.sc_notices.proofs.admissions.rising_schools.Goals as goal

pub loop-position-preserved : goal.loop-position-preserved
loop-position-preserved c =
    let m = c.args.papers.now in
    c.in_ok-push.ensures.items ∙ ap (λ front. front ++ c.in-Some.school ∷ []) c.loop-position.invariant
    ∙ sym (take-one (schools_of m) c.loop-position.position c.in-Some.school (sym c.in-Some.ensures))

pub returns : goal.returns
returns c =
    let m = c.args.papers.now in
    sorted-rising c.loop-position.schools.items c.sort_unstable.new.self.items c.sort_unstable.ensures.permutation c.sort_unstable.ensures.sorted
    ∙ ap rising (c.loop-position.invariant ∙ take_all c.loop-position.position (schools_of m) (omega (arith, c.loop-position-test.false, c.schools_len-position-end.ensures, length-keys_of m.schools)))
