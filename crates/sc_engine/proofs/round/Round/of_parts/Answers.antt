use Rattle.std.proofs.Common.{refl, ap, ◌∙◌, is_some}
use Rattle.sc_engine.specs.RoundView.{RoundView}
use Rattle.sc_engine.specs.Rolls.{rolls_of}
use Rattle.sc_engine.proofs.Offers.{seen_by}
use Rattle.sc_engine.proofs.Starting.{IsStart, fits_start, continues_start, no-rank}
use Rattle.sc_engine.proofs.Tables.{length-mapped}
use Rattle.sc_engine.proofs.round.Round.of_parts.Goals as goal

pub returns : goal.returns
returns g c =
    let m = c.args.papers.now in
    let round : RoundView = record { ranks = c.args.ranks; rolls = rolls_of g.R.Roll.keys g.R.Roll.seats c.args.rolls.items; log = c.args.log.items; proposals = 0 } in
    let start : IsStart m round = record {
      well_formed = c.students_len.ensures.well_formed;
      within_limits = c.students_len.ensures.within_limits;
      within = c.requires.within;
      nobody = c.requires.nobody;
      rolls = length-mapped (seen_by g.R.Roll.keys g.R.Roll.seats) c.args.rolls.items ∙ c.requires.length;
      empty = c.requires.empty;
      log = c.requires.log;
      proposals = refl;
    } in
    record {
      fits = fits_start m round start;
      nobody = λ i. ap is_some (no-rank m c.args.ranks c.requires.nobody i);
      settled = continues_start m round start;
      log = c.requires.log;
      proposals = refl;
      ready = refl;
    }
