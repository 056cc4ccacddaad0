use Rattle.std.proofs.Common.{ap, ◌∙◌}
use Rattle.std.specs.Option.{option_map}
use Rattle.std.proofs.lemmas.Option.{slice_get-map}
use Rattle.sc_checkpoint.specs.Chains.{Chain}
use Rattle.sc_checkpoint.proofs.Spanned.{chain-read}
use Rattle.sc_checkpoint.proofs.segments.Segments.student.Goals as goal

pub returns : goal.returns
returns c =
    slice_get-map (λ (chain : Chain). chain.student) c.args.self.now c.args.k
    ∙ ap (option_map (λ (chain : Chain). chain.student))
    (chain-read c.self.inside.entries.items c.self.inside.spans.items c.args.self.now c.self.view_is c.args.k c.index.result.now c.requires c.index.ensures)
