use Rattle.std.proofs.Common.{◌∙◌, sym}
use Rattle.clap.specs.Words.{found_of}
use Rattle.sc_words.proofs.Given.{set}
use Rattle.sc_words.proofs.order.is_set.Goals as goal

pub returns : goal.returns
returns c =
    let e = c.unwrap_or.ensures in
    let is = set _ (found_of c.args.found.now) c.args.name.now c.get_one.result c.get_one.ensures.none c.get_one.ensures.value in
    (λ s. is.0 (sym e ∙ s), λ s. e ∙ is.1 s)
