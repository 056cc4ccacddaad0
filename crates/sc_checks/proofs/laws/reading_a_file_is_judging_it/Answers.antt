use Rattle.sc_checks.proofs.Together.{lists-judged, roster-judged, schools-judged}
use Rattle.sc_checks.proofs.laws.reading_a_file_is_judging_it.Goals as goal

pub returns : goal.returns
returns c = record { schools = schools-judged; roster = roster-judged; lists = lists-judged }
