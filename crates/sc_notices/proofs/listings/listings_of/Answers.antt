use Rattle.std.proofs.Common.{sym}
use Rattle.sc_notices.proofs.ListingLemmas.{listed-away, listed-there}
use Rattle.sc_notices.proofs.listings.listings_of.Goals as goal

pub returns-in-Some : goal.returns-in-Some
returns-in-Some c = listed-there c.args.papers.now c.args.counts.now c.args.school c.in-Some.position c.requires (sym c.in-Some.ensures)

pub returns-in-None : goal.returns-in-None
returns-in-None c = sym (listed-away c.args.papers.now c.students_len.ensures.well_formed c.args.school (sym c.in-None.ensures))
