-- An assignment as contracts see it: pairs of a student and a school.
use Rattle.std.specs.Prelude.{ℕ, ◌==◌, nat_eq, List, Option, count_by, if◌then◌else◌}
use Rattle.std.specs.Map.{lookup}
use Rattle.indexmap.specs.IndexMap.{insert_entry}
use Rattle.sc_papers.specs.Matching.{has, Matching}

-- the school that the student has, if any
abbrev pub assigned : List (ℕ × ℕ) → ℕ → Option ℕ
assigned pairs i = lookup (nat_eq i) pairs

-- the assignment that gives the student this school and everybody else what they had: a student who
-- is there keeps the place in the order, and a new one comes last
abbrev pub with_place : List (ℕ × ℕ) → ℕ → ℕ → List (ℕ × ℕ)
with_place pairs i s = insert_entry nat_eq pairs i s

-- how many of the pairs have the school
abbrev pub holders : List (ℕ × ℕ) → ℕ → ℕ
holders pairs s = count_by (λ pair. pair.1 == s) pairs

-- one for a student who has the school, and nought for any other
abbrev pub holding : Matching → ℕ → ℕ → ℕ
holding a s i = if has a s i then 1 else 0
