-- What one more student changes in the schools' tallies.
use Rattle.std.proofs.Common.{◌≡◌, refl, sym, ◌∙◌, ap, inl, inr, ℕ, zero, suc, ◌+◌, ◌<◌, ◌==◌, nat_eq, true, false, cond, List, [], ◌∷◌, ◌++◌, length, get_or, set, map, filter, replicate, take, Option, None, Some, Contains, count_by, position, slice_get, add-one, arith}
use Rattle.std.specs.List.{IsDistinct}
use Rattle.std.specs.Option.{option_and_then, option_map, option_map_or}
use Rattle.std.proofs.lemmas.Bool.{cases_Bool, cond-true, cond-false, eq-eqb, ne_eqb, false≢true}
use Rattle.std.proofs.Math.Seq.{take-suc}
use Rattle.std.proofs.lemmas.Option.{none-some, same_Some, get_or_from_slice_get, slice_get_within}
use Rattle.std.proofs.lemmas.List.{append-nil, get_or-map, length-map, map-append}
use Rattle.std.proofs.lemmas.List.Elements.{All-from_recursion, All-contains, filter-append}
use Rattle.std.proofs.lemmas.List.Sums.{fold-append, sum_by-append}
use Rattle.std.proofs.lemmas.Map.Entries.{length-keys_of}
use Rattle.std.proofs.lemmas.Map.Keys.{IsDistinct-head, IsDistinct-tail}
use Rattle.sc_papers.specs.Key.{key_at, key_of}
use Rattle.sc_papers.specs.Market.{Market, schools_of, students_of}
use Rattle.sc_papers.specs.Matching.{Matching, has, held, how_many}
use Rattle.sc_papers.specs.declared.key.Key.{Key}
use Rattle.sc_papers.proofs.Counting.{contains-head, contains-tail, count-cons_fails, count-cons_passes}
use Rattle.sc_papers.proofs.Rejections.{has-some, has-true}
use Rattle.sc_papers.proofs.Positions.{among-school, position-at, position-there, school-position}
use Rattle.sc_tallies.specs.LastKey.{keys_among, last_key, or_later}
use Rattle.sc_tallies.specs.Tally.{held_at, no_tally, tally, with_key, AreTallies}
use Rattle.sc_tallies.specs.declared.tally.Tally.{Tally}

-- two functions that agree at each element map a list alike
pub map-agree : {X Y : Type 0} (f g : X → Y) (xs : List X) → ((x : X) → Contains xs x → g x ≡ f x) → map g xs ≡ map f xs
map-agree f g [] same = refl
map-agree f g (x ∷ xs) same =
    let first : g x ≡ f x = same x (contains-head x xs) in
    let rest : map g xs ≡ map f xs = map-agree f g xs (λ y among. same y (contains-tail x xs y among)) in
    λ t. first t ∷ rest t

-- what differs at one number alone changes one place
pub map-changed : {Y : Type 0} (f g : ℕ → Y) (xs : List ℕ) (s at : ℕ) → IsDistinct nat_eq xs → at < length xs → get_or xs at s ≡ s
    → ((t : ℕ) → (t ≡ s → ⊥) → g t ≡ f t) → map g xs ≡ set (map f xs) at (g s)
map-changed f g [] s at differ low is others = absurd (omega (arith, low))
map-changed f g (x ∷ xs) s zero differ low is others =
    let rest : map g xs ≡ map f xs = map-agree f g xs (λ y among. others y (λ same.
    false≢true (sym (All-contains (λ z. nat_eq x z ≡ false) xs y (All-from_recursion (λ z. nat_eq x z ≡ false) xs (IsDistinct-head nat_eq x xs differ)) among) ∙ eq-eqb x y (is ∙ sym same)))) in
    λ t. g (is t) ∷ rest t
map-changed f g (x ∷ xs) s (suc at) differ low is others =
    let among : Contains xs s = (at, omega (arith, low), is) in
    let apart : x ≡ s → ⊥ = λ same. false≢true (sym (All-contains (λ z. nat_eq x z ≡ false) xs s (All-from_recursion (λ z. nat_eq x z ≡ false) xs (IsDistinct-head nat_eq x xs differ)) among) ∙ eq-eqb x s same) in
    let rest : map g xs ≡ set (map f xs) at (g s) = map-changed f g xs s at (IsDistinct-tail nat_eq x xs differ) (omega (arith, low)) is others in
    λ t. others x apart t ∷ rest t

-- the last of some keys and one more
pub last-more : (keys : List Key) (key : Key) → last_key (keys ++ key ∷ []) ≡ or_later (last_key keys) key
unfolding last_key
last-more keys key = fold-append or_later None keys (key ∷ [])

module _ (m : Market) (a : Matching) (students : List ℕ) (i s : ℕ) where
  keys-own : has a s i ≡ true → keys_among m a (students ++ i ∷ []) s ≡ keys_among m a students s ++ key_of m i s ∷ []
  keys-own holds =
      ap (map (λ j. key_of m j s)) (filter-append (has a s) students (i ∷ []) ∙ ap (λ more. filter (has a s) students ++ more) (cond-true (has a s i) (i ∷ []) [] holds))
      ∙ map-append (λ j. key_of m j s) (filter (has a s) students) (i ∷ [])

  keys-other : has a s i ≡ false → keys_among m a (students ++ i ∷ []) s ≡ keys_among m a students s
  keys-other fails =
      ap (map (λ j. key_of m j s)) (filter-append (has a s) students (i ∷ []) ∙ ap (λ more. filter (has a s) students ++ more) (cond-false (has a s i) (i ∷ []) [] fails) ∙ append-nil (filter (has a s) students))

  none : count_by (has a s) [] ≡ 0
  none = refl

  count-own : has a s i ≡ true → count_by (has a s) (students ++ i ∷ []) ≡ count_by (has a s) students + 1
  count-own holds = omega (arith, sum_by-append (λ j. cond (has a s j) 1 0) students (i ∷ []), count-cons_passes (has a s) i [] holds, none)

  count-other : has a s i ≡ false → count_by (has a s) (students ++ i ∷ []) ≡ count_by (has a s) students
  count-other fails = omega (arith, sum_by-append (λ j. cond (has a s j) 1 0) students (i ∷ []), count-cons_fails (has a s) i [] fails, none)

  -- one more student who has the school adds its key
  pub tally-own : has a s i ≡ true → tally m a (students ++ i ∷ []) s ≡ with_key (tally m a students s) (key_of m i s)
  unfolding tally
  tally-own holds =
      let last : last_key (keys_among m a (students ++ i ∷ []) s) ≡ or_later (last_key (keys_among m a students s)) (key_of m i s) =
      ap last_key (keys-own holds) ∙ last-more (keys_among m a students s) (key_of m i s) in
      let held = count-own holds in
      λ t. let one : Tally = record { held = held t; last = last t } in one

  -- and another student changes nothing
  pub tally-other : has a s i ≡ false → tally m a (students ++ i ∷ []) s ≡ tally m a students s
  unfolding tally
  tally-other fails =
      let last : last_key (keys_among m a (students ++ i ∷ []) s) ≡ last_key (keys_among m a students s) = ap last_key (keys-other fails) in
      let held = count-other fails in
      λ t. let one : Tally = record { held = held t; last = last t } in one

-- at first nobody is counted
pub tally-none : (m : Market) (a : Matching) (s : ℕ) → tally m a [] s ≡ no_tally
unfolding tally last_key
tally-none m a s = refl

-- the key of the student at a position at a school of the papers
pub key-here : (m : Market) (i s p q : ℕ) → slice_get (students_of m) p ≡ Some i → position (nat_eq s) (schools_of m) ≡ Some q → key_at m p q ≡ Some (key_of m i s)
key-here m i s p q student school = rw (student, position-there (schools_of m) s q school) refl

-- a student has a school of the papers
record HasAt (m : Market) (a : Matching) (i at : ℕ) (key : Key) : Type 0 where
  pub school : ℕ
  pub given : a i ≡ Some school
  pub found : position (nat_eq school) (schools_of m) ≡ Some at
  pub key_is : key_of m i school ≡ key

module _ (m : Market) (a : Matching) (i : ℕ) where
  pub held-none : a i ≡ None → held_at m a i ≡ None
  unfolding held_at
  held-none none = ap (option_and_then (λ s. option_map (λ at. (at, key_of m i s)) (position (nat_eq s) (schools_of m)))) none

  pub held-away : (s : ℕ) → a i ≡ Some s → position (nat_eq s) (schools_of m) ≡ None → held_at m a i ≡ None
  unfolding held_at
  held-away s is away =
      ap (option_and_then (λ s. option_map (λ at. (at, key_of m i s)) (position (nat_eq s) (schools_of m)))) is
      ∙ ap (option_map (λ at. (at, key_of m i s))) away

  pub held-there : (s at : ℕ) → a i ≡ Some s → position (nat_eq s) (schools_of m) ≡ Some at → held_at m a i ≡ Some (at, key_of m i s)
  unfolding held_at
  held-there s at is found =
      ap (option_and_then (λ s. option_map (λ at. (at, key_of m i s)) (position (nat_eq s) (schools_of m)))) is
      ∙ ap (option_map (λ at. (at, key_of m i s))) found

  held-inverse : (at : ℕ) (key : Key) → held_at m a i ≡ Some (at, key) → HasAt m a i at key
  unfolding held_at
  held-inverse at key there = go (a i) refl there
    where
      at_school : (s : ℕ) (o : Option ℕ) → a i ≡ Some s → position (nat_eq s) (schools_of m) ≡ o → option_map {U = ℕ × Key} (λ (k : ℕ). (k, key_of m i s)) o ≡ Some (at, key) → HasAt m a i at key
      at_school s None is away e = absurd (none-some (at, key) e)
      at_school s (Some k) is found e =
          let same : (k, key_of m i s) ≡ (at, key) = same_Some (k, key_of m i s) (at, key) e in
          record { school = s; given = is; found = found ∙ ap Some (ap (λ p. p.0) same); key_is = ap (λ p. p.1) same }

      go : (o : Option ℕ) → a i ≡ o → option_and_then (λ (s : ℕ). option_map {U = ℕ × Key} (λ (k : ℕ). (k, key_of m i s)) (position (nat_eq s) (schools_of m))) o ≡ Some (at, key) → HasAt m a i at key
      go None is e = absurd (none-some (at, key) e)
      go (Some s) is e = at_school s (position (nat_eq s) (schools_of m)) is refl e

-- one more student who has no school of the papers changes no tally
pub tallies-same : (m : Market) (a : Matching) (students : List ℕ) (i : ℕ) → held_at m a i ≡ None
    → map (tally m a (students ++ i ∷ [])) (schools_of m) ≡ map (tally m a students) (schools_of m)
tallies-same m a students i away = map-agree (tally m a students) (tally m a (students ++ i ∷ [])) (schools_of m) (λ s among. tally-other m a students i s (fails s among))
  where
    fails : (s : ℕ) → Contains (schools_of m) s → has a s i ≡ false
    fails s among = elim (cases_Bool (has a s i)) [
      | inr apart ↦ apart
      | inl holds ↦
          let (at, found) = school-position m s (among-school m s among) in
          absurd (none-some (at, key_of m i s) (sym away ∙ held-there m a i s at (has-true a s i holds) found))
    ]

-- and one who has one changes the tally of that school
pub tallies-set : (m : Market) (a : Matching) (students : List ℕ) (i at : ℕ) (key : Key) (t : Tally) → IsDistinct nat_eq (schools_of m) → held_at m a i ≡ Some (at, key)
    → t ≡ get_or (map (tally m a students) (schools_of m)) at t
    → map (tally m a (students ++ i ∷ [])) (schools_of m) ≡ set (map (tally m a students) (schools_of m)) at (with_key t key)
tallies-set m a students i at key t differ there is =
    let here = held-inverse m a i at key there in
    let s = here.school in
    let place = position-at (schools_of m) s at here.found in
    let old : t ≡ tally m a students s = is ∙ get_or-map (tally m a students) (schools_of m) at s t place.0 ∙ ap (tally m a students) place.1 in
    let new : tally m a (students ++ i ∷ []) s ≡ with_key t key =
    tally-own m a students i s (has-some a s i here.given) ∙ (λ u. with_key (sym old u) (here.key_is u)) in
    map-changed (tally m a students) (tally m a (students ++ i ∷ [])) (schools_of m) s at differ place.0 place.1
    (λ other apart. tally-other m a students i other (ap (λ o. option_map_or (λ u. u == other) o false) here.given ∙ ne_eqb s other (λ same. apart (sym same))))
    ∙ ap (set (map (tally m a students) (schools_of m)) at) new

pub at-within : (m : Market) (a : Matching) (i at : ℕ) (key : Key) → held_at m a i ≡ Some (at, key) → at < length (schools_of m)
at-within m a i at key there = let here = held-inverse m a i at key there in (position-at (schools_of m) here.school at here.found).0

-- nobody is counted at first
pub tallies-none : (m : Market) (a : Matching) (xs : List ℕ) → replicate (length xs) no_tally ≡ map (tally m a []) xs
tallies-none m a [] = refl
tallies-none m a (x ∷ xs) = λ t. sym (tally-none m a x) t ∷ tallies-none m a xs t

-- the first numbers of a list and one more
pub take-one : (xs : List ℕ) (k x : ℕ) → slice_get xs k ≡ Some x → take (k + 1) xs ≡ take k xs ++ x ∷ []
take-one xs k x here =
    rw (add-one, take-suc xs k x (slice_get_within xs k x here)) (ap (λ y. take k xs ++ y ∷ []) (get_or_from_slice_get xs k x x here))

-- there is a tally for each school
pub tallies-length : (m : Market) (a : Matching) (tallies : List Tally) → AreTallies m a tallies → length tallies ≡ length m.schools
tallies-length m a tallies are = ap length are ∙ length-map (schools_of m) (tally m a (students_of m)) ∙ length-keys_of m.schools

-- what is read at a school's position is its tally
pub tally-placed : (m : Market) (a : Matching) (tallies : List Tally) (s at : ℕ) (t : Tally) → AreTallies m a tallies → slice_get (schools_of m) at ≡ Some s → t ≡ get_or tallies at t → t ≡ tally m a (students_of m) s
tally-placed m a tallies s at t are here is =
    is ∙ ap (λ all. get_or all at t) are ∙ get_or-map (tally m a (students_of m)) (schools_of m) at s t (slice_get_within (schools_of m) at s here)
    ∙ ap (tally m a (students_of m)) (get_or_from_slice_get (schools_of m) at s s here)

pub tally-read : (m : Market) (a : Matching) (tallies : List Tally) (s at : ℕ) (t : Tally) → AreTallies m a tallies → position (nat_eq s) (schools_of m) ≡ Some at → t ≡ get_or tallies at t → t ≡ tally m a (students_of m) s
tally-read m a tallies s at t are found = tally-placed m a tallies s at t are (position-there (schools_of m) s at found)

-- a school's tally has how many students have it
pub held-tally : (m : Market) (a : Matching) (s : ℕ) (t : Tally) → t ≡ tally m a (students_of m) s → t.held ≡ held m a s
unfolding tally how_many
held-tally m a s t is = ap (λ u. u.held) is
