use Rattle.std.proofs.Common.{◌∙◌, ap, rules, subst, sym, true≢false}
use Rattle.clap.specs.Words.{HasKind, is_simple, is_simple_and_free}
use Rattle.clap.proofs.FaultLemmas.{failed_up}
use Rattle.sc_words.proofs.Reading.{line_is_free, line_is_simple, read, same_faults, whole}
use Rattle.sc_words.proofs.order.order_of.Goals as goal

pub returns-in_err-matches-clause-refused : goal.returns-in_err-matches-clause-refused
returns-in_err-matches-clause-refused c =
    let is = c.in_ok-program.ensures in
    let fault = c.in_err-matches.ensures.kinds (ap is_simple_and_free is ∙ line_is_free) in
    let same = same_faults c.args.words.now _ (search rules) is in
    failed_up c.from_residual-in_err-matches.result _ _ _ c.from_residual-in_err-matches.ensures.1 (subst (λ kinds. HasKind kinds c.in_err-matches.field-0.0) same fault)

pub unreachable-requires : goal.unreachable-requires
unreachable-requires c =
    let is = c.in_ok-program.ensures in
    let reads = (c.in_ok-matches.ensures.matches (ap is_simple is ∙ line_is_simple)).1 in
    let none = sym (same_faults c.args.words.now _ (search rules) is) ∙ c.in_ok-matches.ensures.kinds (ap is_simple_and_free is ∙ line_is_free) in
    true≢false (sym (c.in-None.ensures.found (whole c.args.words.now _ _ (search rules) is reads none)))

pub returns-clause-order : goal.returns-clause-order
returns-clause-order c =
    let is = c.in_ok-program.ensures in
    let reads = (c.in_ok-matches.ensures.matches (ap is_simple is ∙ line_is_simple)).1 in
    read c.args.words.now _ _ c.in-Some.order (search rules) is reads c.in-Some.ensures.given

pub returns-clause-refused : goal.returns-clause-refused
returns-clause-refused c =
    let is = c.in_ok-program.ensures in
    sym (same_faults c.args.words.now _ (search rules) is) ∙ c.in_ok-matches.ensures.kinds (ap is_simple_and_free is ∙ line_is_free)
