use Rattle.std.proofs.Common.{◌≡◌, ◌∷◌, [], rules}
use Rattle.sc_intake.specs.Cursor.{ReadsNext}
use Rattle.sc_intake.specs.Unquoted.{AddsLine}
use Rattle.sc_intake.proofs.Unquoting.{AreWritten-all, AreWritten-more}
use Rattle.sc_intake.proofs.unquoted.unquoted.Goals as goal

pub records-preserved : goal.records-preserved
records-preserved c =
    let reads : ReadsNext c.records.records c.read.new.self c.in_ok-ok.field-0 = search rules in
    let next : c.records.records.left ≡ c.read.new.self.current ∷ c.read.new.self.left = rw c.if-branch.true at reads in
    let adds : AddsLine c.records.text.items c.push_record.new.text.items c.read.new.self.current = search rules in
    AreWritten-more c.records.text.items c.push_record.new.text.items c.args.records.now.left c.records.records.left c.read.new.self.left c.read.new.self.current c.records.invariant next adds

pub returns : goal.returns
returns c =
    let reads : ReadsNext c.records.records c.read.new.self c.in_ok-ok.field-0 = search rules in
    let end : c.records.records.left ≡ [] = rw c.if-branch.false at reads in
    AreWritten-all c.records.text.items c.args.records.now.left c.records.records.left c.records.invariant end
