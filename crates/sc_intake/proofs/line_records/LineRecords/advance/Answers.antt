use Rattle.std.proofs.Common.{◌≡◌, ◌==◌, None, false, length, drop, rules, sym, ◌∙◌}
use Rattle.std.proofs.lemmas.List.{take_rest}
use Rattle.csv.specs.Reading.{default_config, records}
use Rattle.memchr.specs.Find.{IsFirstByte, is_byte}
use Rattle.sc_intake.specs.Plain.{first_line, has_quote}
use Rattle.sc_intake.proofs.PlainCutting.{csv-none, ended-unmarked, line-off, line-read, quote-nowhere}
use Rattle.sc_intake.proofs.line_records.LineRecords.advance.Goals as goal

pub slice_bounds-self-count : goal.slice_bounds-self-count
slice_bounds-self-count c = rw c.split_line.ensures.line (line-off c.without_line_ends-text.result.now).0

pub slice_bounds-self-start : goal.slice_bounds-self-start
slice_bounds-self-start c = rw c.split_line.ensures.line (line-off c.without_line_ends-text.result.now).0

pub invariant_of-self : goal.invariant_of-self
invariant_of-self c =
    let text = c.without_line_ends-text.result.now in
    rw (take_rest text (length c.split_line.result.0.now), c.split_line.ensures.line) (ended-unmarked (drop (length (first_line text)) text) (line-off text).1)

pub returns-then-is_empty : goal.returns-then-is_empty
returns-then-is_empty c =
    let text = c.without_line_ends-text.result.now in
    let empty : length text ≡ 0 = search rules in
    let left : c.args.self.now.left ≡ records default_config c.self.inside.rest.now = search rules in
    left ∙ sym (c.without_line_ends-text.ensures.records false) ∙ csv-none text empty

pub returns : goal.returns
returns c =
    let text = c.without_line_ends-text.result.now in
    let line = c.split_line.result.0.now in
    let is : line ≡ first_line text = c.split_line.ensures.line in
    let some : (length text == 0) ≡ false = search rules in
    let none : c.memchr.result ≡ None = search rules in
    let nowhere : IsFirstByte (is_byte 34) line None = rw none at c.memchr.ensures in
    let unquoted = quote-nowhere line nowhere in
    let plain : has_quote (first_line text) ≡ false = rw is at unquoted in
    let left : c.args.self.now.left ≡ records default_config c.self.inside.rest.now = search rules in
    rw (take_rest text (length line), is) (left ∙ sym (c.without_line_ends-text.ensures.records false) ∙ line-read text some c.without_line_ends-text.ensures.begins plain)
