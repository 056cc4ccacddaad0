-- How the type `Numbers` keeps the students' numbers. Other contracts see the numbers alone.
use Rattle.std.specs.Prelude.{ℕ, ◌<◌, ⊤, List}
use Rattle.std.specs.List.{AllPairs}
use Rattle.sc_papers.specs.declared.flat_papers.numbers.Kept.{Kept}
use Rattle.sc_papers.specs.declared.flat_papers.numbers.Kept.TheVariants.{Listed, Tabled}

-- the numbers, in order of entry
abbrev pub numbers_of : Kept → List ℕ
numbers_of (Listed numbers) = numbers.items
numbers_of (Tabled table) = table

-- each number is less than all later ones
abbrev pub Rise : List ℕ → Type 0
Rise numbers = AllPairs (λ x y. x < y) numbers

-- the numbers of a list rise
abbrev pub ListRises : Kept → Type 0
ListRises (Listed numbers) = Rise numbers.items
ListRises (Tabled table) = ⊤
