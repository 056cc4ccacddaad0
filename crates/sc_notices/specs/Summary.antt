-- What a district publishes of a matching: how many students have their first choice, their second and so
-- on, how many have none, and how sought after each school is.
use Rattle.std.specs.Prelude.{ℕ, Bool, ◌==◌, nat_eq, List, Option, Some, is_none, position}
use Rattle.std.specs.List.{list_any}
use Rattle.std.specs.Option.{option_and_then, option_eq}
use Rattle.sc_papers.specs.Market.{Market, choices_of}
use Rattle.sc_papers.specs.Matching.{Matching, how_many}

-- the rank of a school among choices, from 0, where it is one of them
abbrev pub rank_in : List ℕ → Option ℕ → Option ℕ
rank_in choices school = option_and_then (λ s. position (nat_eq s) choices) school

-- whether what i has is i's choice of this rank, from 0
abbrev pub has_rank : Market → Matching → ℕ → ℕ → Bool
has_rank m a rank i = option_eq nat_eq (rank_in (choices_of m i) (a i)) (Some rank)

-- whether i has no school
abbrev pub is_unplaced : Matching → ℕ → Bool
is_unplaced a i = is_none (a i)

-- whether i lists s
abbrev pub lists : Market → ℕ → ℕ → Bool
lists m s i = list_any (λ t. t == s) (choices_of m i)

-- how many students have their choice of this rank, from 0
unfoldable pub with_rank : Market → Matching → ℕ → ℕ
with_rank m a rank = how_many m (has_rank m a rank)

-- how many students have no school
unfoldable pub unplaced : Market → Matching → ℕ
unplaced m a = how_many m (is_unplaced a)

-- how many students list s
unfoldable pub listed : Market → ℕ → ℕ
listed m s = how_many m (lists m s)
