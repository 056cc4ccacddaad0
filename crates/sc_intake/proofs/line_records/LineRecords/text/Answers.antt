use Rattle.std.proofs.Common.{◌≡◌, false, rules, sym, ◌∙◌}
use Rattle.csv.specs.Reading.{default_config, records}
use Rattle.sc_intake.proofs.line_records.LineRecords.text.Goals as goal

pub returns : goal.returns
returns c =
    let left : c.args.self.now.left ≡ records default_config c.self.inside.rest.now = search rules in
    left ∙ sym (c.without_line_ends.ensures.records false)
