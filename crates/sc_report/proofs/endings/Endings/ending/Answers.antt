use Rattle.std.proofs.Common.{[], arith, sym, ◌∙◌}
use Rattle.std.specs.Prelude.{nat_lt}
use Rattle.std.proofs.lemmas.Bool.{cond-false, cond-true, le-ltb, lt-ltb}
use Rattle.sc_report.proofs.EndingLemmas.{ending-at, endings-there}
use Rattle.sc_report.proofs.endings.Endings.ending.Goals as goal
use Rattle.sc_report.proofs.endings.Endings.ending.Goals.{then-school-class, else-school-class}

pub returns : goal.returns
returns c rows row key have here same =
    let school = c.index-school.result.now in
    ending-at row school key c.if-school-class.place [] 0 (endings-there rows c.args.self.now.schools.items c.args.position row school have here c.requires c.index-school.ensures)
    (elim c.if-school-class.branch [
      | then-school-class w ↦ w.place-is ∙ sym (cond-true (nat_lt school.last key.class) 1 0 (lt-ltb school.last key.class (omega (arith, same, w.if-school-class.true))))
      | else-school-class w ↦ w.place-is ∙ sym (cond-false (nat_lt school.last key.class) 1 0 (le-ltb school.last key.class (omega (arith, same, w.if-school-class.false))))
    ])
