use Rattle.std.proofs.Common.{◌≡◌, ℕ, ◌-◌, ◌<◌, ◌++◌, ◌∷◌, [], true, ap, subst, ◌∙◌, arith, drop, get_or, length, rules, take}
use Rattle.std.proofs.lemmas.List.{take_more_set}
use Rattle.sc_papers.specs.declared.school_no.TheConstants.SchoolNo.{GREATEST as greatest_school}
use Rattle.sc_intake.specs.Field.{is_within}
use Rattle.sc_intake.specs.Tidy.{TakesNumber}
use Rattle.sc_intake.proofs.TidyFields.{schools-last, schools-more}
use Rattle.sc_intake.proofs.TidyLines.{begins-with}
use Rattle.sc_intake.proofs.tidy_rows.take_schools.Goals as goal

pub loop-count-preserved : goal.loop-count-preserved
loop-count-preserved c =
    let after = c.in_ok-number.after.now in
    let more = take (length after - 1) (drop 1 after) in
    let n = c.in_ok-number.number in
    let takes : TakesNumber c.loop-count.rest.now after n = search rules in
    let space : get_or after 0 0 ≡ 32 = search rules in
    let school : is_within 1 greatest_school n ≡ true = search rules in
    let same : c.in_ok-schools.field-0 ≡ n = search rules in
    let room : c.loop-count.count < length c.loop-count.schools = omega arith in
    let old = take c.loop-count.count c.loop-count.schools in
    let pushed = take_more_set c.loop-count.schools c.loop-count.count c.in_ok-schools.field-0 room ∙ ap (λ (s : ℕ). old ++ s ∷ []) same in
    schools-more c.args.text.now c.loop-count.rest.now more old _ n c.loop-count.invariant (subst (λ t. TakesNumber c.loop-count.rest.now t n) (begins-with after 32 c.in-32.len_at_least space) takes) school pushed

pub returns-in_default : goal.returns-in_default
returns-in_default c =
    let after = c.in_ok-number.after.now in
    let n = c.in_ok-number.number in
    let takes : TakesNumber c.loop-count.rest.now after n = search rules in
    let school : is_within 1 greatest_school n ≡ true = search rules in
    let same : c.in_ok-schools.field-0 ≡ n = search rules in
    let room : c.loop-count.count < length c.loop-count.schools = omega arith in
    let old = take c.loop-count.count c.loop-count.schools in
    let pushed = take_more_set c.loop-count.schools c.loop-count.count c.in_ok-schools.field-0 room ∙ ap (λ (s : ℕ). old ++ s ∷ []) same in
    schools-last c.args.text.now c.loop-count.rest.now after old c.from_vec.result n c.loop-count.invariant takes school (c.from_vec.ensures ∙ c.in-Ok.ensures.items ∙ pushed)
