use Rattle.sc_intake.proofs.CursorMoves.{read-answers}
use Rattle.sc_intake.proofs.quoted_records.read.Goals as goal

pub returns-in-Ok : goal.returns-in-Ok
returns-in-Ok c =
    let e = c.in-Ok.ensures in
    read-answers c.in-Ok.found _ _ _ c.requires (e.reads c.requires.trim c.requires.ready) (e.ready c.requires.trim) e.flexible
