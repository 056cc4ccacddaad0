-- How the proposals of a round are counted.
use Rattle.std.specs.Prelude.{◌≡◌, ◌+◌, length}
use Rattle.sc_papers.specs.Market.{Market}
use Rattle.sc_engine.specs.RoundView.{RoundView, nobody, standing_but}

-- every proposal came to an entry of the log or to a student who stands at a choice, and each of these
-- to one proposal
abbrev pub CountsExactly : Market → RoundView → Type 0
CountsExactly m r = r.proposals ≡ length r.log + standing_but m r.ranks nobody
