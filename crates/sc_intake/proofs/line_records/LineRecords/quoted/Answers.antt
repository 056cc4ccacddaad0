use Rattle.std.proofs.Common.{◌≡◌, ap, rules, sym, ◌∙◌}
use Rattle.csv.specs.Reading.{default_config, records}
use Rattle.sc_intake.proofs.PlainCutting.{unstripped}
use Rattle.sc_intake.proofs.line_records.LineRecords.quoted.Goals as goal

pub returns : goal.returns
returns c =
    let text = c.self.inside.rest.now in
    let left : c.args.self.now.left ≡ records default_config text = search rules in
    c.new.ensures ∙ ap (records default_config) (unstripped text c.self.invariant) ∙ sym left
