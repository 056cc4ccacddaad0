use Rattle.std.proofs.Common.{◌≡◌, ◌==◌, ◌∷◌, true, false, [], List, ℕ, sym, ◌∙◌, rules, length}
use Rattle.sc_intake.specs.Plain.{plain_records}
use Rattle.sc_intake.proofs.Lines.{records-line, records-none}
use Rattle.sc_intake.proofs.plain_records.PlainRecords.advance.Goals as goal

none : (text : List ℕ) → length text ≡ 0 → plain_records text ≡ []
none [] empty = records-none
none (c ∷ cs) empty = cc empty

pub returns-then-is_empty : goal.returns-then-is_empty
returns-then-is_empty c =
    let text = c.without_line_ends-text.result.now in
    let empty : length text ≡ 0 = search rules in
    let left : c.args.self.now.left ≡ plain_records c.self.inside.rest.now = search rules in
    left ∙ sym (c.without_line_ends-text.ensures.records true) ∙ none text empty

pub returns : goal.returns
returns c =
    let text = c.without_line_ends-text.result.now in
    let some : (length text == 0) ≡ false = search rules in
    let left : c.args.self.now.left ≡ plain_records c.self.inside.rest.now = search rules in
    rw (c.split_line.ensures.line, c.split_line.ensures.rest)
    (left ∙ sym (c.without_line_ends-text.ensures.records true) ∙ records-line text some c.without_line_ends-text.ensures.begins)
