use Rattle.std.proofs.Common.{◌≡◌, ◌-◌, ◌∷◌, true, ap, subst, ◌∙◌, drop, get_or, length, rules, take, ℕ, ◌++◌, []}
use Rattle.sc_papers.specs.Market.{schools_of}
use Rattle.sc_papers.specs.Placed.{schools_at}
use Rattle.sc_papers.specs.declared.school_no.TheConstants.SchoolNo.{GREATEST as greatest_school}
use Rattle.sc_intake.specs.Field.{is_within}
use Rattle.sc_intake.specs.Tidy.{TakesNumber}
use Rattle.sc_intake.proofs.TidyFields.{schools-last, schools-more}
use Rattle.sc_intake.proofs.TidyLines.{begins-with}
use Rattle.sc_intake.proofs.tidy_rows.place_schools.Goals as goal

pub loop-preserved : goal.loop-preserved
loop-preserved c =
    let schools = schools_of c.args.papers.now in
    let after = c.in_ok-number.after.now in
    let more = take (length after - 1) (drop 1 after) in
    let n = c.in_ok-number.number in
    let takes : TakesNumber c.loop.rest.now after n = search rules in
    let space : get_or after 0 0 ≡ 32 = search rules in
    let school : is_within 1 greatest_school n ≡ true = search rules in
    let same : c.in_ok-school.school ≡ n = search rules in
    let old = schools_at schools c.loop.placed in
    let pushed = c.if-not-push.ensures.added ∙ ap (λ (s : ℕ). old ++ s ∷ []) same in (
      schools-more c.args.text.now c.loop.rest.now more old _ n c.loop.invariant.0 (subst (λ t. TakesNumber c.loop.rest.now t n) (begins-with after 32 c.in-32.len_at_least space) takes) school pushed,
      c.if-not-push.ensures.within c.loop.invariant.1,
    )

pub returns-in_default-clause-schools : goal.returns-in_default-clause-schools
returns-in_default-clause-schools c =
    let schools = schools_of c.args.papers.now in
    let after = c.in_ok-number.after.now in
    let n = c.in_ok-number.number in
    let takes : TakesNumber c.loop.rest.now after n = search rules in
    let school : is_within 1 greatest_school n ≡ true = search rules in
    let same : c.in_ok-school.school ≡ n = search rules in
    let old = schools_at schools c.loop.placed in
    let pushed = c.if-not-push.ensures.added ∙ ap (λ (s : ℕ). old ++ s ∷ []) same in
    schools-last c.args.text.now c.loop.rest.now after old _ n c.loop.invariant.0 takes school pushed
