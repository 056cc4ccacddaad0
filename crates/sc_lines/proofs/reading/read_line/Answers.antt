use Rattle.sc_lines.proofs.Records.{no-line, read-line}
use Rattle.sc_lines.proofs.reading.read_line.Goals as goal

pub returns-in-Ok : goal.returns-in-Ok
returns-in-Ok c = read-line _ _ c.in-Ok.ensures

pub returns-in-Err-NoLine : goal.returns-in-Err-NoLine
returns-in-Err-NoLine c = no-line c.args.bytes.now c.in-Err-NoLine.field-0 c.in-Err-NoLine.field-0-is c.in-Err-NoLine.ensures
