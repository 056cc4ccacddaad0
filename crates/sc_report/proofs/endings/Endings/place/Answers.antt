use Rattle.sc_report.proofs.EndingLemmas.{endings-there}
use Rattle.sc_report.proofs.endings.Endings.place.Goals as goal

pub returns : goal.returns
returns c rows row have here =
    (endings-there rows c.args.self.now.schools.items c.args.position row c.index.result.now have here c.requires c.index.ensures).place
