use Rattle.std.proofs.Common.{◌≡◌, ◌+◌, ◌==◌, ◌<◌, arith, inl, length}
use Rattle.std.specs.List.{count_by, slice_split}
use Rattle.std.proofs.lemmas.List.Splits.{length-slice_split}
use Rattle.sc_lines.proofs.TooManyFields.{line_of-many}
use Rattle.sc_lines.proofs.reading.line_in.Goals as goal

pub returns-then-commas-ge-MOST_FIELDS : goal.returns-then-commas-ge-MOST_FIELDS
returns-then-commas-ge-MOST_FIELDS c =
    let text = c.args.text.now in
    let size : length (slice_split (λ b. b == 44) text) ≡ count_by (λ b. b == 44) text + 1 = length-slice_split (λ b. b == 44) text in
    let counted = c.commas.ensures in
    let many : 7 < length (slice_split (λ b. b == 44) text) = omega arith in
    inl (line_of-many (slice_split (λ b. b == 44) text) many)
