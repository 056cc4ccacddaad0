-- Look-ups by position, and what one write changes.
use Rattle.std.proofs.Common.{◌≡◌, refl, ap, sym, ◌∙◌, inl, inr, ℕ, zero, suc, ◌<◌, nat_eq, cond, List, [], ◌∷◌, length, get_or, set, map, Option, Some, None, Contains, All, position, arith, get_or-set_other, get_or-set_same}
use Rattle.std.specs.Option.{option_map_or}
use Rattle.std.proofs.lemmas.Bool.{cases_eq, eq-eqb, ne_eqb, cond-true, cond-false}
use Rattle.std.proofs.lemmas.Option.{none-some}
use Rattle.std.proofs.lemmas.List.{get_or_default, get_or_read, length-map}
use Rattle.std.proofs.lemmas.Map.Entries.{length-keys_of}
use Rattle.sc_papers.specs.Market.{Market, schools_of, seats_of, students_of}
use Rattle.sc_papers.proofs.Positions.{position-among, position-at, position-one}
use Rattle.sc_audit.specs.AuditView.{looked_up, stand_of, keys_at}
use Rattle.sc_papers.specs.declared.key.Key.{Key}

-- what is looked up at a known position
pub looked-at : {X : Type 0} (xs : List ℕ) (table : List X) (d : X) (i at : ℕ) → position (nat_eq i) xs ≡ Some at → looked_up xs table d i ≡ get_or table at d
looked-at xs table d i at found = ap (λ o. option_map_or (λ k. get_or table k d) o d) found

-- and after a write
pub looked-set : {X : Type 0} (xs : List ℕ) (table : List X) (d v : X) (i at : ℕ) → position (nat_eq i) xs ≡ Some at → at < length table → (j : ℕ) → looked_up xs (set table at v) d j ≡ cond (nat_eq j i) v (looked_up xs table d j)
looked-set xs table d v i at found low j = elim (cases_eq j i) [
  | inl same ↦ looked-at xs (set table at v) d j at (ap (λ n. position (nat_eq n) xs) same ∙ found) ∙ get_or-set_same table at v d low
      ∙ sym (cond-true (nat_eq j i) v (looked_up xs table d j) (eq-eqb j i same))
  | inr apart ↦ other (position (nat_eq j) xs) refl apart ∙ sym (cond-false (nat_eq j i) v (looked_up xs table d j) (ne_eqb j i apart))
]
  where
    other : (o : Option ℕ) → position (nat_eq j) xs ≡ o → (j ≡ i → ⊥) → option_map_or (λ k. get_or (set table at v) k d) o d ≡ option_map_or (λ k. get_or table k d) o d
    other None is apart = refl
    other (Some k) is apart = get_or-set_other table at k v d (λ same. apart (position-one xs i j at found (is ∙ ap Some same)))

-- a student's stand
pub stand-at : (m : Market) (stands : List (Option ℕ)) (i at : ℕ) (now : Option ℕ) → length stands ≡ length m.students → position (nat_eq i) (students_of m) ≡ Some at → now ≡ get_or stands at now → now ≡ stand_of m stands i
unfolding stand_of
stand-at m stands i at now long found is =
    let low : at < length stands = omega (arith, (position-at (students_of m) i at found).0, length-keys_of m.students, long) in
    get_or_read stands at now low is None ∙ sym (looked-at (students_of m) stands None i at found)

pub stand-away : (m : Market) (stands : List (Option ℕ)) (i : ℕ) → position (nat_eq i) (students_of m) ≡ None → None ≡ stand_of m stands i
unfolding stand_of
stand-away m stands i away = sym (ap (λ o. option_map_or (λ k. get_or stands k None) o None) away)

pub stand-put : (m : Market) (stands : List (Option ℕ)) (stand : Option ℕ) (i at : ℕ) → length stands ≡ length m.students → position (nat_eq i) (students_of m) ≡ Some at → (j : ℕ) → stand_of m (set stands at stand) j ≡ cond (nat_eq j i) stand (stand_of m stands j)
unfolding stand_of
stand-put m stands stand i at long found =
    let low : at < length stands = omega (arith, (position-at (students_of m) i at found).0, length-keys_of m.students, long) in
    looked-set (students_of m) stands None stand i at found low

-- who stands somewhere is a student of the papers
pub stander-among : (m : Market) (stands : List (Option ℕ)) (i : ℕ) (stand : ℕ) → stand_of m stands i ≡ Some stand → Contains (students_of m) i
unfolding stand_of
stander-among m stands i stand is = go (position (nat_eq i) (students_of m)) refl is
  where
    go : (o : Option ℕ) → position (nat_eq i) (students_of m) ≡ o → option_map_or (λ k. get_or stands k None) o None ≡ Some stand → Contains (students_of m) i
    go None at none = absurd (none-some stand none)
    go (Some k) at there = position-among (students_of m) i k at

-- the keys of a school
pub keys-read : (m : Market) (kept : List (List Key)) (s at : ℕ) → position (nat_eq s) (schools_of m) ≡ Some at → keys_at m kept s ≡ get_or kept at []
unfolding keys_at
keys-read m kept s at found = looked-at (schools_of m) kept [] s at found

pub keys-put : (m : Market) (kept : List (List Key)) (keys : List Key) (s at : ℕ) → length kept ≡ length m.schools → position (nat_eq s) (schools_of m) ≡ Some at → (t : ℕ) → keys_at m (set kept at keys) t ≡ cond (nat_eq t s) keys (keys_at m kept t)
unfolding keys_at
keys-put m kept keys s at long found =
    let low : at < length kept = omega (arith, (position-at (schools_of m) s at found).0, length-keys_of m.schools, long) in
    looked-set (schools_of m) kept [] keys s at found low

-- what a mapped list has at an index
pub get_or-mapped : {X Y : Type 0} (f : X → Y) (xs : List X) (k : ℕ) (x : X) (d : Y) → k < length xs → get_or (map f xs) k d ≡ f (get_or xs k x)
get_or-mapped f [] k x d low = absurd (omega (arith, low))
get_or-mapped f (y ∷ ys) zero x d low = refl
get_or-mapped f (y ∷ ys) (suc k) x d low = get_or-mapped f ys k x d (omega (arith, low))

pub map-set : {X Y : Type 0} (f : X → Y) (xs : List X) (k : ℕ) (v : X) → map f (set xs k v) ≡ set (map f xs) k (f v)
map-set f [] k v = refl
map-set f (x ∷ xs) zero v = refl
map-set f (x ∷ xs) (suc k) v = ap (λ ys. f x ∷ ys) (map-set f xs k v)

pub read-mapped : {X Y : Type 0} (f : X → Y) (xs : List X) (k : ℕ) (now : X) (d : Y) → k < length (map f xs) → now ≡ get_or xs k now → get_or (map f xs) k d ≡ f now
read-mapped f xs k now d low is = get_or-mapped f xs k now d (omega (arith, low, length-map xs f)) ∙ ap f (sym is)

-- a write that changes nothing of what is read
pub map-set_same : {X Y : Type 0} (f : X → Y) (xs : List X) (k : ℕ) (v now : X) → now ≡ get_or xs k now → f v ≡ f now → map f (set xs k v) ≡ map f xs
map-set_same f [] k v now is same = refl
map-set_same f (x ∷ xs) zero v now is same = ap (λ y. y ∷ map f xs) (same ∙ ap f is)
map-set_same f (x ∷ xs) (suc k) v now is same = ap (λ ys. f x ∷ ys) (map-set_same f xs k v now is same)

-- the seats of a school at its position
pub seats-there : {X : Type 0} (f : X → ℕ) (m : Market) (xs : List X) (s at : ℕ) (now : X) → map f xs ≡ map (seats_of m) (schools_of m) → position (nat_eq s) (schools_of m) ≡ Some at → now ≡ get_or xs at now → f now ≡ seats_of m s
seats-there f m xs s at now same found is =
    let here = position-at (schools_of m) s at found in
    let long : length xs ≡ length (schools_of m) = sym (length-map xs f) ∙ ap length same ∙ length-map (schools_of m) (seats_of m) in
    let low : at < length xs = omega (arith, here.0, long) in
    sym (read-mapped f xs at now 0 (omega (arith, low, length-map xs f)) is)
    ∙ ap (λ ys. get_or ys at 0) same
    ∙ get_or-mapped (seats_of m) (schools_of m) at s 0 here.0
    ∙ ap (seats_of m) here.1

-- what holds of each member holds of all
pub all-from : {X : Type 0} (P : X → Type 0) (xs : List X) → ((x : X) → Contains xs x → P x) → All P xs
all-from P xs each k d low = each (get_or xs k d) (k, low, get_or_default xs k (get_or xs k d) d low)
