-- The same papers in another order of entry.
use Rattle.std.specs.Prelude.{◌≡◌, IsPermutation}
use Rattle.sc_papers.specs.Market.{Market}

-- the same seed, and the same schools and students, up to their order
pub record IsReordering (m n : Market) : Type 0 where
  pub seed : n.seed ≡ m.seed
  pub schools : IsPermutation m.schools n.schools
  pub students : IsPermutation m.students n.students
