use Rattle.std.proofs.Common.{◌≡◌, [], get_or, refl}
use Rattle.std.proofs.lemmas.Bool.{OnTrue_from}
use Rattle.sc_intake.specs.Plain.{ends_line, first_line}
use Rattle.sc_intake.proofs.TidyLines.{begins-with, no_line-at_end, no_line-at_line_end}
use Rattle.sc_intake.proofs.tidy_rows.is_at_line_end.Goals as goal

pub returns-in-len1-up : goal.returns-in-len1-up
returns-in-len1-up c =
    let text = c.args.text.now in
    let first = get_or text 0 0 in
    rw c.ends_line.ensures (OnTrue_from (ends_line first) (first_line text ≡ []) (λ end. no_line-at_line_end text _ first (begins-with text first c.in-len1-up.len_at_least refl) end))

pub returns-in-empty : goal.returns-in-empty
returns-in-empty c = no_line-at_end c.args.text.now c.in-empty.len_below
