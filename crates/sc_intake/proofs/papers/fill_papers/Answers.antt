use Rattle.std.proofs.Common.{◌≡◌, Some, None, Ok, Err, inl, sym, ◌∙◌, rules}
use Rattle.sc_intake.specs.Papers.{all_entered, first_not_in_roster}
use Rattle.sc_intake.proofs.PaperLemmas.{filled-all, filled-fault, filled-not-in-roster, same-unknown}
use Rattle.sc_intake.proofs.papers.fill_papers.Goals as goal

pub returns-in_err-enter_all : goal.returns-in_err-enter_all
returns-in_err-enter_all c =
    let same : c.from_residual-in_err-enter_all.result ≡ Err c.in_err-enter_all.field-0.0 = search rules in
    rw same (filled-fault c.args.papers.now c.args.roster.now c.args.lists.now _ c.in_err-enter_all.ensures)

pub returns-in-Some : goal.returns-in-Some
returns-in-Some c =
    let entered : all_entered c.args.lists.now c.args.papers.now c.args.roster.now ≡ Ok c.enter_all.new.papers = c.in_ok-enter_all.ensures in
    let found : first_not_in_roster c.args.roster.now c.args.lists.now ≡ Some c.in-Some.list.now = sym (same-unknown c.args.lists.now c.args.papers.now c.enter_all.new.papers c.args.roster.now c.requires.fresh entered) ∙ sym c.in-Some.ensures in
    inl (rw c.at.ensures (filled-not-in-roster c.args.papers.now c.enter_all.new.papers c.args.roster.now c.args.lists.now c.in-Some.list.now entered found))

pub returns : goal.returns
returns c =
    let entered : all_entered c.args.lists.now c.args.papers.now c.args.roster.now ≡ Ok c.enter_all.new.papers = c.in_ok-enter_all.ensures in
    let none : first_not_in_roster c.args.roster.now c.args.lists.now ≡ None = sym (same-unknown c.args.lists.now c.args.papers.now c.enter_all.new.papers c.args.roster.now c.requires.fresh entered) ∙ sym c.in-None.ensures in
    filled-all c.args.papers.now c.enter_all.new.papers c.args.roster.now c.args.lists.now entered none
