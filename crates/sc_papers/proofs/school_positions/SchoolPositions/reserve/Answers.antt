use Rattle.std.proofs.Common.{ℕ, List, Option, None, ap, slice_index_or, ◌∙◌}
use Rattle.sc_papers.proofs.SchoolPositions.{told-same}
use Rattle.sc_papers.proofs.school_positions.SchoolPositions.reserve.Goals as goal

pub returns-in_err-make_room-clause-same : goal.returns-in_err-make_room-clause-same
returns-in_err-make_room-clause-same c s =
    told-same c.self.inside.by_number.items c.make_room.new.by_number.items s (c.make_room.ensures.same s) ∙ ap (λ (told : List (Option ℕ)). slice_index_or told s None) c.self.view_is

pub returns-clause-same : goal.returns-clause-same
returns-clause-same c s =
    told-same c.self.inside.by_number.items c.make_room.new.by_number.items s (c.make_room.ensures.same s) ∙ ap (λ (told : List (Option ℕ)). slice_index_or told s None) c.self.view_is
