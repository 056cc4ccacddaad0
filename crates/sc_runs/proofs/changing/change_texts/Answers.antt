use Rattle.std.proofs.Common.{rules}
use Rattle.sc_report.specs.Watched.{device_of}
use Rattle.sc_runs.proofs.changing.change_texts.Goals as goal

pub returns-in-None : goal.returns-in-None
returns-in-None g c = record { bytes = c.answer_no_line.ensures.change (g.W.Write.contents (device_of c.args.out.now)); failed = search rules }
