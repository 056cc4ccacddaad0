use Rattle.std.proofs.Common.{inr, subst}
use Rattle.sc_steps.specs.Opening.{opening_in}
use Rattle.sc_steps.specs.Steps.{texts_of}
use Rattle.sc_runs.specs.Exporting.{ExportsStanding}
use Rattle.sc_runs.proofs.exporting.export_files.Goals as goal

pub returns-clause-files : goal.returns-clause-files
returns-clause-files g c = inr (
  texts_of c.in-Ok.texts.opening,
  c.in-Ok.texts.last.items,
  c.in-Ok.ensures.read,
  c.in-Ok.ensures.last,
  subst (λ text. ExportsStanding (opening_in c.args.seed.now (texts_of c.in-Ok.texts.opening)) text c.export_texts.result) c.as_slice.ensures.value c.export_texts.ensures,
)
