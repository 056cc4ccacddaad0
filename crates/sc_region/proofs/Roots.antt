-- Trees of parents: roots, a shorter way to a root, and two trees made one.
use Rattle.std.proofs.Common.{◌≡◌, inl, inr, refl, sym, ap, subst, ◌∙◌, ℕ, zero, suc, ◌+◌, ◌<◌, ◌≤◌, ◌==◌, List, [], ◌∷◌, length, map, min, max, set, length-set, arith}
use Rattle.std.proofs.lemmas.Bool.Decides.{nat_tests}
use Rattle.std.specs.Prelude.{slice_index}
use Rattle.std.specs.List.{range_with_len}
use Rattle.std.proofs.lemmas.Bool.{cases_eq, cases_lt, cond-true, cond-false, eq-eqb, ne_eqb}
use Rattle.std.proofs.lemmas.List.{length-map, get_or_past, get_or-set_same, get_or-set_other}
use Rattle.std.proofs.lemmas.List.FromFn.{fill_by_all, get_or-range_with_len, get_or-map-range_with_len, length-map-range_with_len, length-range_with_len}
use Rattle.std.proofs.lemmas.Simd.{map-map}
use Rattle.sc_region.specs.Groups.{joined, moved}
use Rattle.sc_region.specs.Roots.{climbed, root_of, roots_of, AreParents, KeepsRoots}

module _ (parents : List ℕ) (low : AreParents parents) where
  -- what is so of the roots, and of a child where it is so of its parent, is so of all
  by-parent : (P : ℕ → Type 0) → ((k : ℕ) → slice_index parents k ≡ k → P k) → ((k : ℕ) → P (slice_index parents k) → P k) → (bound k : ℕ) → k ≤ bound → P k
  by-parent P own up zero k within = own k (omega (arith, low k, within))
  by-parent P own up (suc bound) k within = elim (cases_lt (slice_index parents k) k) [
    | inl before ↦ up k (by-parent P own up bound (slice_index parents k) (omega (arith, before, within)))
    | inr same ↦ own k (omega (arith, low k, same))
  ]

  -- whoever is their own parent is a root
  climbed-fixed : (steps k : ℕ) → slice_index parents k ≡ k → climbed parents steps k ≡ k
  unfolding climbed
  climbed-fixed zero k fixed = refl
  climbed-fixed (suc steps) k fixed = ap (climbed parents steps) fixed ∙ climbed-fixed steps k fixed

  pub root-fixed : (k : ℕ) → slice_index parents k ≡ k → root_of parents k ≡ k
  unfolding root_of
  root-fixed k fixed = climbed-fixed k k fixed

  -- more steps than are needed lead no further
  climbed-enough : (few many k : ℕ) → k ≤ few → k ≤ many → climbed parents few k ≡ climbed parents many k
  unfolding climbed
  climbed-enough zero many k within also = let fixed : slice_index parents k ≡ k = omega (arith, low k, within) in sym (climbed-fixed many k fixed)
  climbed-enough (suc few) zero k within also = let fixed : slice_index parents k ≡ k = omega (arith, low k, also) in climbed-fixed (suc few) k fixed
  climbed-enough (suc few) (suc many) k within also = elim (cases_lt (slice_index parents k) k) [
    | inl before ↦ climbed-enough few many (slice_index parents k) (omega (arith, before, within)) (omega (arith, before, also))
    | inr same ↦
        let fixed : slice_index parents k ≡ k = omega (arith, low k, same) in
        climbed-fixed (suc few) k fixed ∙ sym (climbed-fixed (suc many) k fixed)
  ]

  -- a child has its parent's root
  pub root-parent : (k : ℕ) → root_of parents k ≡ root_of parents (slice_index parents k)
  unfolding root_of climbed
  root-parent k = climbed-enough k (suc k) k (omega arith) (omega arith) ∙ climbed-enough k (slice_index parents k) (slice_index parents k) (low k) (omega arith)

  pub root_low : (k : ℕ) → root_of parents k ≤ k
  root_low k =
      by-parent (λ j. root_of parents j ≤ j) (λ j fixed. omega (arith, root-fixed j fixed)) (λ j below. omega (arith, root-parent j, low j, below)) k k (omega arith)

  -- a root is its own parent
  pub root-idle : (k : ℕ) → slice_index parents (root_of parents k) ≡ root_of parents k
  root-idle k =
      by-parent (λ j. slice_index parents (root_of parents j) ≡ root_of parents j)
      (λ j fixed. subst (λ r. slice_index parents r ≡ r) (sym (root-fixed j fixed)) fixed)
      (λ j idle. subst (λ r. slice_index parents r ≡ r) (sym (root-parent j)) idle) k k (omega arith)

  -- what is the same for a child and its parent, and a root's own position, is the root
  root-unique : (f : ℕ → ℕ) → ((k : ℕ) → f k ≡ f (slice_index parents k)) → ((k : ℕ) → slice_index parents k ≡ k → f k ≡ k) → (k : ℕ) → f k ≡ root_of parents k
  root-unique f same own k =
      by-parent (λ j. f j ≡ root_of parents j) (λ j fixed. own j fixed ∙ sym (root-fixed j fixed)) (λ j here. same j ∙ here ∙ sym (root-parent j)) k k (omega arith)

-- what is so of the number that is put at a position, and of the others where they stand, is so of each
set-each : (xs : List ℕ) (at x : ℕ) → at < length xs → (P : ℕ → ℕ → Type 0) → P at x → ((k : ℕ) → (k ≡ at → ⊥) → P k (slice_index xs k)) → (k : ℕ) → P k (slice_index (set xs at x) k)
set-each xs at x within P here there k = elim (cases_eq k at) [
  | inl same ↦ subst (λ j. P j (slice_index (set xs at x) j)) (sym same) (subst (P at) (sym (get_or-set_same xs at x 0 within)) here)
  | inr other ↦ subst (P k) (sym (get_or-set_other xs at k x 0 other)) (there k other)
]

-- a position with another parent, at it or before it
module _ (parents : List ℕ) (low : AreParents parents) (at x : ℕ) (within : at < length parents) (before : x ≤ at) where
  pub set-low : AreParents (set parents at x)
  set-low = set-each parents at x within (λ k parent. parent ≤ k) before (λ k other. low k)

  -- the roots are mapped, where the map makes the root of the position that of its new parent, and leaves the other roots
  set-roots : (f : ℕ → ℕ) → f (root_of parents at) ≡ f (root_of parents x) → (x ≡ at → f (root_of parents at) ≡ at) → ((k : ℕ) → (k ≡ at → ⊥) → slice_index parents k ≡ k → f k ≡ k)
      → (k : ℕ) → root_of (set parents at x) k ≡ f (root_of parents k)
  set-roots f moves stays others k =
      sym (root-unique (set parents at x) set-low (λ j. f (root_of parents j))
      (set-each parents at x within (λ j parent. f (root_of parents j) ≡ f (root_of parents parent)) moves (λ j other. ap f (root-parent parents low j)))
      (set-each parents at x within (λ j parent. parent ≡ j → f (root_of parents j) ≡ j) stays (λ j other fixed. ap f (root-fixed parents low j fixed) ∙ others j other fixed)) k)

-- a shorter way: a position's parent becomes its parent's parent
halved-roots : (parents : List ℕ) → AreParents parents → (at : ℕ) → at < length parents → (k : ℕ) → root_of (set parents at (slice_index parents (slice_index parents at))) k ≡ root_of parents k
halved-roots parents low at within =
    set-roots parents low at (slice_index parents (slice_index parents at)) within (omega (arith, low at, low (slice_index parents at))) (λ r. r)
    (root-parent parents low at ∙ root-parent parents low (slice_index parents at))
    (λ same. root-fixed parents low at (omega (arith, same, low at, low (slice_index parents at))))
    (λ k other fixed. refl)

-- one root put below another
linked-roots : (parents : List ℕ) → AreParents parents → (kept lost : ℕ) → kept ≤ lost → lost < length parents → slice_index parents kept ≡ kept → slice_index parents lost ≡ lost
    → (k : ℕ) → root_of (set parents lost kept) k ≡ moved kept lost (root_of parents k)
linked-roots parents low kept lost order within kept_idle lost_idle =
    set-roots parents low lost kept within order (moved kept lost)
    (lost_moves ∙ sym (ap (moved kept lost) (root-fixed parents low kept kept_idle) ∙ kept_stays)) (λ same. lost_moves ∙ same)
    (λ k other fixed. cond-false (k == lost) kept k (ne_eqb k lost other))
  where
    lost_moves : moved kept lost (root_of parents lost) ≡ kept
    lost_moves = ap (moved kept lost) (root-fixed parents low lost lost_idle) ∙ cond-true (lost == lost) kept lost (eq-eqb lost lost refl)

    kept_stays : moved kept lost kept ≡ kept
    kept_stays = grind (arith, nat_tests)

-- the roots as a list
pub length_roots : (parents : List ℕ) → length (roots_of parents) ≡ length parents
unfolding roots_of
length_roots parents = length-map-range_with_len (root_of parents) 0 (length parents)

-- a position of theirs is one of the parents
pub own-within : (parents roots : List ℕ) → roots_of parents ≡ roots → (k : ℕ) → k < length roots → k < length parents
own-within parents roots are k low = omega (arith, low, ap (λ (xs : List ℕ). length xs) are, length_roots parents)

pub roots_at : (parents : List ℕ) (k : ℕ) → k < length parents → slice_index (roots_of parents) k ≡ root_of parents k
unfolding roots_of
roots_at parents k within = get_or-map-range_with_len (root_of parents) 0 (length parents) k k 0 within (omega arith)

pub roots_kept : (old new : List ℕ) → KeepsRoots old new → roots_of new ≡ roots_of old
unfolding roots_of
roots_kept old new keeps = λ t. map (λ k. keeps.roots k t) (range_with_len 0 (keeps.size t))

pub ruleset told_roots = (length_roots, roots_at, roots_kept)

-- positions with one parent have one root
pub root_shared : (parents : List ℕ) → AreParents parents → (a b : ℕ) → slice_index parents a ≡ slice_index parents b → root_of parents a ≡ root_of parents b
root_shared parents low a b same = root-parent parents low a ∙ ap (root_of parents) same ∙ sym (root-parent parents low b)

-- what is so of two numbers, is so of the lesser and of the greater
of-both : (P : ℕ → Type 0) (x y : ℕ) → P x → P y → P (min x y) × P (max x y)
of-both P x y of_x of_y = elim (cases_lt x y) [
  | inl below ↦ let (least, most) : (x ≡ min x y) × (y ≡ max x y) = (omega arith, omega arith) in (subst P least of_x, subst P most of_y)
  | inr above ↦ let (least, most) : (y ≡ min x y) × (x ≡ max x y) = (omega arith, omega arith) in (subst P least of_y, subst P most of_x)
]

-- the greater root put below the lesser makes the two groups one
roots-joined : (parents : List ℕ) → AreParents parents → (a b : ℕ) → a < length parents → b < length parents
    → roots_of (set parents (max (root_of parents a) (root_of parents b)) (min (root_of parents a) (root_of parents b))) ≡ joined (roots_of parents) a b
unfolding roots_of joined
roots-joined parents low a b a_within b_within =
    (λ t. map (λ k. linked-roots parents low kept lost (omega arith) (omega (arith, root_low parents low a, root_low parents low b)) idle.0 idle.1 k t) (range_with_len 0 (length-set parents lost kept t)))
    ∙ sym (map-map (moved kept lost) (root_of parents) (range_with_len 0 (length parents)))
    ∙ (λ t. map (moved (min (sym at_a t) (sym at_b t)) (max (sym at_a t) (sym at_b t))) (map (root_of parents) (range_with_len 0 (length parents))))
  where
    kept : ℕ
    kept = min (root_of parents a) (root_of parents b)

    lost : ℕ
    lost = max (root_of parents a) (root_of parents b)

    at_a : slice_index (roots_of parents) a ≡ root_of parents a
    at_a = roots_at parents a a_within

    at_b : slice_index (roots_of parents) b ≡ root_of parents b
    at_b = roots_at parents b b_within

    idle : (slice_index parents kept ≡ kept) × (slice_index parents lost ≡ lost)
    idle = of-both (λ r. slice_index parents r ≡ r) (root_of parents a) (root_of parents b) (root-idle parents low a) (root-idle parents low b)

-- each position is at first its own parent
start-is : (count k : ℕ) → k < count → slice_index (range_with_len 0 count) k ≡ k
start-is count k within = omega (arith, get_or-range_with_len 0 count k 0 within)

pub start_low : (count : ℕ) → AreParents (range_with_len 0 count)
start_low count k = grind (arith, start-is count k, get_or_past (range_with_len 0 count) k 0, length-range_with_len 0 count)

pub roots_start : (count : ℕ) → roots_of (range_with_len 0 count) ≡ range_with_len 0 count
unfolding roots_of
roots_start count =
    sym (fill_by_all (root_of (range_with_len 0 count)) (range_with_len 0 count) (length (range_with_len 0 count)) 0 refl
    (λ k within.
    let is = start-is count k (omega (arith, within, length-range_with_len 0 count)) in
    is ∙ sym (root-fixed (range_with_len 0 count) (start_low count) k is)))

-- parents that are roots below a bound, and as they were from it on
pub record AreFlatBelow (parents now : List ℕ) (bound : ℕ) : Type 0 where
  pub size : length now ≡ length parents
  pub below : (k : ℕ) → k < bound → slice_index now k ≡ root_of parents k
  pub from : (k : ℕ) → bound ≤ k → slice_index now k ≡ slice_index parents k

pub flat-more : (parents now : List ℕ) (at z : ℕ) → AreParents parents → AreFlatBelow parents now at → at < length parents → z ≡ slice_index now (slice_index now at)
    → AreFlatBelow parents (set now at z) (at + 1)
flat-more parents now at z low flat within is = record {
  size = length-set now at z ∙ flat.size;
  below = set-each now at z now_within (λ k parent. k < at + 1 → parent ≡ root_of parents k) (λ before. is ∙ root) (λ k other before. flat.below k (omega (arith, other, before)));
  from = set-each now at z now_within (λ k parent. at + 1 ≤ k → parent ≡ slice_index parents k) (λ past. absurd (omega (arith, past))) (λ k other past. flat.from k (omega (arith, past)));
}
  where
    now_within : at < length now
    now_within = omega (arith, within, flat.size)

    parent : slice_index now at ≡ slice_index parents at
    parent = flat.from at (omega arith)

    root : slice_index now (slice_index now at) ≡ root_of parents at
    root = grind (arith, parent, low at, flat.below (slice_index parents at), root-parent parents low at, root-fixed parents low at)

pub flat_all : (parents now : List ℕ) (bound : ℕ) → AreFlatBelow parents now bound → length parents ≤ bound → now ≡ roots_of parents
unfolding roots_of
flat_all parents now bound flat past =
    fill_by_all (root_of parents) now (length parents) 0 flat.size (λ k within. flat.below k (omega (arith, within, past)))

-- one step of a climb
pub climb-step : (old now : List ℕ) (at x y z : ℕ) → KeepsRoots old now → at < length now → x ≡ slice_index now at → y ≡ slice_index now x → z ≡ slice_index (set now at y) at
    → KeepsRoots old (set now at y) × (z < length (set now at y)) × (root_of old z ≡ root_of old at)
climb-step old now at x y z keeps within x_is y_is z_is = (kept, omega (arith, grand, lower, within, length-set now at y), root)
  where
    half : y ≡ slice_index now (slice_index now at)
    half = y_is ∙ ap (slice_index now) x_is

    grand : z ≡ slice_index now (slice_index now at)
    grand = z_is ∙ get_or-set_same now at y 0 within ∙ half

    lower : slice_index now (slice_index now at) ≤ at
    lower = omega (arith, keeps.low at, keeps.low (slice_index now at))

    kept : KeepsRoots old (set now at y)
    kept = subst (λ w. KeepsRoots old (set now at w)) (sym half) (record {
      size = length-set now at (slice_index now (slice_index now at)) ∙ keeps.size;
      low = set-low now keeps.low at (slice_index now (slice_index now at)) within lower;
      roots = λ k. halved-roots now keeps.low at within k ∙ keeps.roots k;
    })

    root : root_of old z ≡ root_of old at
    root =
        ap (root_of old) grand ∙ sym (keeps.roots (slice_index now (slice_index now at)))
        ∙ sym (root-parent now keeps.low at ∙ root-parent now keeps.low (slice_index now at)) ∙ keeps.roots at

pub KeepsRoots-trans : (a b c : List ℕ) → KeepsRoots a b → KeepsRoots b c → KeepsRoots a c
KeepsRoots-trans a b c first second = record { size = second.size ∙ first.size; low = second.low; roots = λ k. second.roots k ∙ first.roots k }

-- two groups joined, after the climbs to their roots
pub climbed-joined : (old now : List ℕ) (a b kept lost : ℕ) → KeepsRoots old now → a < length old → b < length old
    → kept ≡ min (root_of old a) (root_of old b) → lost ≡ max (root_of old a) (root_of old b)
    → AreParents (set now lost kept) × (roots_of (set now lost kept) ≡ joined (roots_of old) a b)
climbed-joined old now a b kept lost keeps a_within b_within kept_is lost_is =
    subst (λ xs. AreParents xs × (roots_of xs ≡ joined (roots_of old) a b)) (sym list) (
      set-low now keeps.low (max (root_of now a) (root_of now b)) (min (root_of now a) (root_of now b)) (omega (arith, root_low now keeps.low a, root_low now keeps.low b, a_low, b_low)) (omega arith),
      roots-joined now keeps.low a b a_low b_low ∙ ap (λ xs. joined xs a b) (roots_kept old now keeps),
    )
  where
    a_low : a < length now
    a_low = omega (arith, a_within, keeps.size)

    b_low : b < length now
    b_low = omega (arith, b_within, keeps.size)

    list : set now lost kept ≡ set now (max (root_of now a) (root_of now b)) (min (root_of now a) (root_of now b))
    list = λ t. set now
        ((lost_is ∙ (λ s. max (sym (keeps.roots a) s) (sym (keeps.roots b) s))) t)
        ((kept_is ∙ (λ s. min (sym (keeps.roots a) s) (sym (keeps.roots b) s))) t)

pub length-joined : (groups : List ℕ) (a b : ℕ) → length (joined groups a b) ≡ length groups
unfolding joined
length-joined groups a b = length-map groups (moved (min (slice_index groups a) (slice_index groups b)) (max (slice_index groups a) (slice_index groups b)))

-- to join a group to itself changes nothing
moved-nowhere : (k : ℕ) (groups : List ℕ) → map (moved k k) groups ≡ groups
moved-nowhere k [] = refl
moved-nowhere k (g ∷ groups) = let own : moved k k g ≡ g = grind (arith, nat_tests) in λ t. own t ∷ moved-nowhere k groups t

pub joined-nothing : (groups : List ℕ) (a b : ℕ) → slice_index groups a ≡ slice_index groups b → joined groups a b ≡ groups
unfolding joined
joined-nothing groups a b same =
    let least : min (slice_index groups a) (slice_index groups b) ≡ slice_index groups b = omega (arith, same) in
    let most : max (slice_index groups a) (slice_index groups b) ≡ slice_index groups b = omega (arith, same) in
    (λ t. map (moved (least t) (most t)) groups) ∙ moved-nowhere (slice_index groups b) groups

pub joined-one : (parents : List ℕ) (a b : ℕ) → a < length parents → b < length parents → root_of parents a ≡ root_of parents b → joined (roots_of parents) a b ≡ roots_of parents
joined-one parents a b first second same = joined-nothing (roots_of parents) a b (roots_at parents a first ∙ same ∙ sym (roots_at parents b second))
