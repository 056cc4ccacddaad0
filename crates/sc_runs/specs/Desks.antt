-- Papers after the stamped amendments of desks.
use Rattle.std.specs.Prelude.{List, IsPermutation}
use Rattle.sc_papers.specs.Market.{Market}
use Rattle.sc_papers.specs.declared.amendment.Stamped.{Stamped}
use Rattle.sc_stamps.specs.History.{after_list}
use Rattle.sc_stamps.specs.Verdict.{unamended}

-- the papers of an opening after stamped amendments in turn, of which the refused ones change nothing
abbrev pub papers_after : Market → List Stamped → Market
papers_after m list = (after_list (unamended m) list).papers

-- papers with the same schools and the same students, up to their order
pub record AreSameUpToOrder (m n : Market) : Type 0 where
  pub schools : IsPermutation m.schools n.schools
  pub students : IsPermutation m.students n.students
