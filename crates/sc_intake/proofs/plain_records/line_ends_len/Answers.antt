use Rattle.std.proofs.Common.{◌≡◌, ◌+◌, true, drop, get_or, sym, ◌∙◌, arith, rules}
use Rattle.std.proofs.lemmas.List.{at_drop_more}
use Rattle.sc_intake.specs.Plain.{cut, ends_line}
use Rattle.sc_intake.proofs.PlainCutting.{cut-skip}
use Rattle.sc_intake.proofs.plain_records.line_ends_len.Goals as goal

pub loop-start-preserved : goal.loop-start-preserved
loop-start-preserved c =
    let text = c.args.text.now in
    let start = c.loop-start.start in
    let end : ends_line (get_or text start 0) ≡ true = search rules in
    λ by_lines. sym (at_drop_more (cut by_lines) text start 0 (omega arith) ∙ cut-skip by_lines (get_or text start 0) (drop (start + 1) text) end) ∙ c.loop-start.invariant by_lines
