use Rattle.std.proofs.Common.{◌≡◌, true, rules, sym, ◌∙◌}
use Rattle.sc_intake.specs.Plain.{plain_records}
use Rattle.sc_intake.proofs.plain_records.PlainRecords.text.Goals as goal

pub returns : goal.returns
returns c =
    let left : c.args.self.now.left ≡ plain_records c.self.inside.rest.now = search rules in
    left ∙ sym (c.without_line_ends.ensures.records true)
