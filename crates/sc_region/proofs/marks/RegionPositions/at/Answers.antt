use Rattle.std.proofs.Common.{nat_eq}
use Rattle.std.specs.List.{list_any}
use Rattle.std.proofs.lemmas.List.FromFn.{length-map-range_with_len}
use Rattle.sc_region.proofs.MarkedPositions.{marks-say}
use Rattle.sc_region.proofs.marks.RegionPositions.at.Goals as goal

pub returns-clause-count : goal.returns-clause-count
returns-clause-count c = length-map-range_with_len (λ q. list_any (nat_eq q) c.args.positions.items) 0 c.args.count

pub returns-clause-marked : goal.returns-clause-marked
returns-clause-marked c = marks-say c.args.count c.args.positions.items (record { rising = c.requires.rising; below = c.requires.within })
