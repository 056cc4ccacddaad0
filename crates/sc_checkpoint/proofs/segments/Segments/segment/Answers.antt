use Rattle.std.proofs.Common.{ap, slice_range, Some, sym, ◌∙◌}
use Rattle.std.specs.Option.{option_map}
use Rattle.std.proofs.lemmas.Option.{slice_get-map}
use Rattle.sc_checkpoint.specs.Chains.{Chain}
use Rattle.sc_checkpoint.proofs.Spanned.{chain-read}
use Rattle.sc_checkpoint.proofs.segments.Segments.segment.Goals as goal

pub returns : goal.returns
returns c =
    let span = c.index-span.result.now in
    slice_get-map (λ (chain : Chain). chain.rejections) c.args.self.now c.args.k
    ∙ ap (option_map (λ (chain : Chain). chain.rejections))
    (chain-read c.self.inside.entries.items c.self.inside.spans.items c.args.self.now c.self.view_is c.args.k span c.requires c.index-span.ensures)
    ∙ ap (λ all. Some (slice_range all span.start span.end)) (sym c.deref.ensures.value)
