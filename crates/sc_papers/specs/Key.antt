-- Priority at a school: classes, keys, and who is ahead of whom.
use Rattle.std.specs.Prelude.{◌≡◌, ◌⊎◌, ℕ, ◌==◌, Bool, true, false, ◌&&◌, not, nat_lt, Option, slice_get, if◌then◌else◌}
use Rattle.std.specs.List.{list_any}
use Rattle.std.specs.Option.{option_and_then, option_map}
use Rattle.std.specs.Ordering.{nat_cmp, ordering_then}
use Rattle.std.specs.declared.cmp.Ordering.{Ordering}
use Rattle.sc_lottery.specs.Draw.{draw}
use Rattle.sc_papers.specs.Market.{Market, continues_at, schools_of, siblings_of, students_of, zone_of, zone_at}
use Rattle.sc_papers.specs.declared.key.Key.{Key}

-- whether two zones are the same zone; zone 0 is none and equals no zone
abbrev pub same_zone : ℕ → ℕ → Bool
same_zone a b = a == b && not (a == 0)

-- the priority class, best first: 0 continues there, 1 sibling and zone, 2 sibling, 3 zone, 4 none of
-- these (priority groups of the kind in Abdulkadiroğlu and Sönmez; the classes are this project's own)
abbrev pub class_by : Bool → Bool → Bool → ℕ
class_by continuing sibling zone =
    if continuing then 0 else
    (if sibling then (if zone then 1 else 2) else (if zone then 3 else 4))

-- whether a sibling of a student is at a school
abbrev pub has_sibling_at : Market → ℕ → ℕ → Bool
has_sibling_at m i s = list_any (λ t. t == s) (siblings_of m i)

-- whether a student lives in the zone of a school
abbrev pub lives_in_zone_of : Market → ℕ → ℕ → Bool
lives_in_zone_of m i s = same_zone (zone_of m i) (zone_at m s)

-- the priority class of a student at a school
abbrev pub class_at : Market → ℕ → ℕ → ℕ
class_at m i s = class_by (continues_at m i s) (has_sibling_at m i s) (lives_in_zone_of m i s)

-- the key of a student at a school: class, draw, number
unfoldable pub key_of : Market → ℕ → ℕ → Key
key_of m i s = record { class = class_at m i s; draw = draw m.seed i; student = i }

-- the key of the student at a position at the school at a position, if both are there
abbrev pub key_at : Market → ℕ → ℕ → Option Key
key_at m student school = option_and_then (λ i. option_map (key_of m i) (slice_get (schools_of m) school)) (slice_get (students_of m) student)

-- the smaller key is ahead: by class, then by draw, then by number
abbrev pub is_before : Key → Key → Bool
is_before a b =
    if a.class == b.class then
    (if a.draw == b.draw then nat_lt a.student b.student else nat_lt a.draw b.draw)
    else nat_lt a.class b.class

-- the same as a comparison answers it: class, then draw, then number
abbrev pub key_cmp : Key → Key → Ordering
key_cmp a b = ordering_then (nat_cmp a.class b.class) (ordering_then (nat_cmp a.draw b.draw) (nat_cmp a.student b.student))

-- whether student i is ahead of student j at school s
unfoldable pub is_ahead : Market → ℕ → ℕ → ℕ → Bool
is_ahead m s i j = is_before (key_of m i s) (key_of m j s)

-- a strict order of students: nobody is ahead of themselves, whoever is ahead of one who is ahead of a
-- third is ahead of the third, and of two different students one is ahead of the other
pub record IsStrictOrder (ahead : ℕ → ℕ → Bool) : Type 0 where
  pub irreflexive : (i : ℕ) → ahead i i ≡ false
  pub transitive : (i j k : ℕ) → ahead i j ≡ true → ahead j k ≡ true → ahead i k ≡ true
  pub total : (i j : ℕ) → (i ≡ j → ⊥) → (ahead i j ≡ true) ⊎ (ahead j i ≡ true)
