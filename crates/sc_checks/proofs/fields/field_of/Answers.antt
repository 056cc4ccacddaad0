use Rattle.std.proofs.Common.{ℕ, List, ap, sym, ◌∙◌, rules, tests}
use Rattle.std.proofs.lemmas.Iterator.Consumers.{nth_from_yields_List}
use Rattle.std.proofs.lemmas.Iterator.Splits.{YieldsList-from_slice_split}
use Rattle.csv.specs.Records.{field_at}
use Rattle.sc_intake.proofs.LineCut.{field-get, fields-split}
use Rattle.sc_checks.proofs.fields.field_of.Goals as goal

pub returns : goal.returns
returns c =
    nth_from_yields_List c.nth.result c.nth.new.self c.args.index c.nth.ensures.ran
    (YieldsList-from_slice_split _ _ c.args.line.now c.split.ensures.rest c.split.ensures.done c.split.ensures.closure (λ x r q k. search (rules, tests)))
    ∙ field-get _ c.args.index ∙ ap (λ (fields : List (List ℕ)). field_at fields c.args.index) (sym (fields-split c.args.line.now))
