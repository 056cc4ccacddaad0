use Rattle.std.proofs.lemmas.Result.{IfOk-weaker}
use Rattle.sc_report.specs.Watched.{device_of}
use Rattle.sc_steps.specs.Inputs.{opening_turns}
use Rattle.sc_steps.proofs.Openings.{MatchesFiles-read}
use Rattle.sc_steps.proofs.matching.match_files.Goals as goal
use Rattle.sc_steps.specs.Steps.{texts_of}

pub returns-clause-bytes : goal.returns-clause-bytes
returns-clause-bytes g c =
    MatchesFiles-read c.args.seed.now c.args.show_log (opening_turns g.R.Read.remaining c.args.opening.now c.read_opening.new.opening) (texts_of c.in-Ok.texts)
    (g.W.Write.contents (device_of c.args.out.now)) (g.W.Write.contents (device_of c.match_texts.new.out)) c.match_texts.result
    c.in-Ok.ensures.read c.match_texts.ensures.bytes.bytes

pub returns-clause-papers : goal.returns-clause-papers
returns-clause-papers g c =
    IfOk-weaker c.match_texts.result _ _ (λ papers opened. (texts_of c.in-Ok.texts, c.in-Ok.ensures.read, opened)) c.match_texts.ensures.papers
