use Rattle.std.proofs.Common.{◌==◌, ap, ◌∙◌, not, rules}
use Rattle.std.proofs.lemmas.Fn.{filter_same}
use Rattle.sc_region.specs.Districts.{students_in}
use Rattle.sc_region.proofs.Firsts.{students-filter}
use Rattle.sc_region.proofs.districts.strike.Goals as goal

pub returns : goal.returns
returns c =
    ap students_in (filter_same _ _ _ (λ x b f' k. search rules) _ _ c.retain.ensures.filtered)
    ∙ students-filter (λ i. not (i == c.args.student)) c.args.list.now.items
