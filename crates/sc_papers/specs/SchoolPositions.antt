-- How the type `SchoolPositions` keeps where schools stand. Contracts see the positions alone.
use Rattle.std.specs.Prelude.{ℕ, ◌==◌, Option, None, Some, if◌then◌else◌}
use Rattle.sc_papers.specs.declared.school_positions.TheConstants.{NO_POSITION}

-- the position that what is kept of a number tells
abbrev pub position_told : ℕ → Option ℕ
position_told kept = if kept == NO_POSITION then None else Some kept
