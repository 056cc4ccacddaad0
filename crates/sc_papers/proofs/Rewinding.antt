-- Papers that are alike up to k have the same settled logs when they are cut at k.
use Rattle.std.proofs.Common.{◌≡◌, inl, inr, refl, ap, sym, ◌∙◌, ℕ, ◌≤◌, ◌==◌, nat_eq, Bool, not, ◌&&◌, List, [], ◌∷◌, ◌++◌, Option, Some, Contains, find, count_by, take, subst, arith}
use Rattle.std.specs.List.{list_any}
use Rattle.std.specs.Map.{lookup, keys_of}
use Rattle.std.specs.Option.{option_and_then, option_eq, option_map_or}
use Rattle.sc_lottery.specs.Draw.{draw}
use Rattle.sc_papers.specs.Market.{Market, student_of, choices_of, seats_of, zone_at}
use Rattle.sc_papers.specs.Key.{is_before, is_ahead, key_of, class_by, same_zone}
use Rattle.sc_papers.specs.Matching.{how_many, has, held}
use Rattle.sc_papers.specs.Log.{is_rejected, next_choice, matching_of, rivals, IsValidEntry, IsValidAfter, IsSettled}
use Rattle.sc_papers.specs.Restriction.{cut, AlikeUpTo}
use Rattle.sc_papers.specs.declared.key.Key.{Key}
use Rattle.sc_papers.specs.declared.records.Student.{Student}
use Rattle.sc_papers.specs.declared.rejection.Rejection.{Rejection}
use Rattle.sc_papers.proofs.Rejections.{has-true, has-agree}
use Rattle.sc_papers.proofs.Students.{how_many-agree, how_many-none, some-student}
use Rattle.sc_papers.proofs.Validity.{next-listed}

-- to the laws, the papers n are the papers m, but for seats of schools that nobody lists
pub record Alike (m n : Market) : Type 0 where
  pub choices : (i : ℕ) → choices_of n i ≡ choices_of m i
  pub ahead : (s i j : ℕ) → is_ahead n s i j ≡ is_ahead m s i j
  pub counts : (p : ℕ → Bool) → how_many n p ≡ how_many m p
  pub seats : (i s : ℕ) → Contains (choices_of m i) s → seats_of n s ≡ seats_of m s

pub next-alike : {m n : Market} → Alike m n → (log : List Rejection) (i : ℕ) → next_choice n log i ≡ next_choice m log i
unfolding next_choice
next-alike alike log i = ap (find (λ s. not (is_rejected log i s))) (alike.choices i)

has-alike : {m n : Market} → Alike m n → (log : List Rejection) (s i : ℕ) → has (matching_of n log) s i ≡ has (matching_of m log) s i
has-alike {m} {n} alike log s i = has-agree (matching_of n log) (matching_of m log) s i (next-alike alike log i)

rivals-alike : {m n : Market} → Alike m n → (log : List Rejection) (i s : ℕ) → rivals n log i s ≡ rivals m log i s
rivals-alike {m} {n} alike log i s =
    alike.counts (λ j. has (matching_of n log) s j && is_ahead n s j i)
    ∙ how_many-agree m (λ j. has (matching_of n log) s j && is_ahead n s j i) (λ j. has (matching_of m log) s j && is_ahead m s j i)
    (λ j. ap (λ b. b && is_ahead n s j i) (has-alike alike log s j) ∙ ap (λ b. has (matching_of m log) s j && b) (alike.ahead s j i))

held-alike : {m n : Market} → Alike m n → (log : List Rejection) (s : ℕ) → held n (matching_of n log) s ≡ held m (matching_of m log) s
held-alike {m} {n} alike log s =
    alike.counts (has (matching_of n log) s) ∙ how_many-agree m (has (matching_of n log) s) (has (matching_of m log) s) (has-alike alike log s)

entry-alike : {m n : Market} → Alike m n → (log : List Rejection) (e : Rejection) → IsValidEntry m log e → IsValidEntry n log e
entry-alike {m} {n} alike log e valid = record {
  next = next-alike alike log e.student ∙ valid.next;
  full = omega (arith, valid.full, alike.seats e.student e.school (next-listed m log e.student e.school valid.next), rivals-alike alike log e.student e.school);
}

valid-alike : {m n : Market} → Alike m n → (log rest : List Rejection) → IsValidAfter m log rest → IsValidAfter n log rest
valid-alike alike log [] valid = tt
valid-alike alike log (e ∷ rest) valid = (entry-alike alike log e valid.0, valid-alike alike (log ++ e ∷ []) rest valid.1)

-- a school that somebody has is listed, and has the same seats; another is held by nobody
within-alike : {m n : Market} → Alike m n → (log : List Rejection) (s : ℕ) → held m (matching_of m log) s ≤ seats_of m s → held n (matching_of n log) s ≤ seats_of n s
within-alike {m} {n} alike log s within =
    elim (some-student m (has (matching_of m log) s)) [
      | inl (i, among, holds) ↦ omega (arith, within, held-alike alike log s, alike.seats i s (next-listed m log i s (has-true (matching_of m log) s i holds)))
      | inr none ↦ omega (arith, held-alike alike log s, how_many-none m (has (matching_of m log) s) none)
    ]

pub settled-alike : {m n : Market} → Alike m n → (log : List Rejection) → IsSettled m log → IsSettled n log
settled-alike alike log settled = record {
  valid = valid-alike alike [] log settled.valid;
  within_seats = λ s. within-alike alike log s (settled.within_seats s);
}

-- a key, by what it is made of
pub key_by : List ℕ → ℕ → Option Student → ℕ → ℕ → Key
key_by seed zone found i s = record {
  class = class_by
      (option_eq nat_eq (option_and_then (λ student. student.continuing) found) (Some s))
      (list_any (λ t. t == s) (option_map_or (λ student. student.siblings) found []))
      (same_zone (option_map_or (λ student. student.zone) found 0) zone);
  draw = draw seed i;
  student = i;
}

pub key-by : (m : Market) (i s : ℕ) → key_of m i s ≡ key_by m.seed (zone_at m s) (student_of m i) i s
unfolding key_of key_by
key-by m i s = refl

module _ (k : ℕ) (m n : Market) (alike : AlikeUpTo k m n) where
  student-cut : (i : ℕ) → student_of (cut n k) i ≡ student_of (cut m k) i
  unfolding cut
  student-cut i = ap (lookup (nat_eq i)) alike.students

  key-cut : (i s : ℕ) → key_of (cut n k) i s ≡ key_of (cut m k) i s
  unfolding cut
  key-cut i s = key-by (cut n k) i s ∙ (λ t. key_by (alike.seed t) (alike.zones s t) (student-cut i t) i s) ∙ sym (key-by (cut m k) i s)

  choices-cut : (i : ℕ) → choices_of (cut n k) i ≡ choices_of (cut m k) i
  unfolding choices_of
  choices-cut i = ap (λ found. option_map_or (λ student. student.choices) found []) (student-cut i)

  ahead-cut : (s i j : ℕ) → is_ahead (cut n k) s i j ≡ is_ahead (cut m k) s i j
  unfolding is_ahead
  ahead-cut s i j = λ t. is_before (key-cut i s t) (key-cut j s t)

  counts-cut : (p : ℕ → Bool) → how_many (cut n k) p ≡ how_many (cut m k) p
  unfolding how_many cut
  counts-cut p = ap (λ es. count_by p (keys_of es)) alike.students

  seats-cut : (i s : ℕ) → Contains (choices_of (cut m k) i) s → seats_of (cut n k) s ≡ seats_of (cut m k) s
  unfolding seats_of cut
  seats-cut i s listed = alike.seats i s listed

  pub cut-alike : Alike (cut m k) (cut n k)
  cut-alike = record { choices = choices-cut; ahead = ahead-cut; counts = counts-cut; seats = seats-cut }

pub settled-rewound : (m n : Market) (k : ℕ) (log : List Rejection) → AlikeUpTo k m n → IsSettled (cut m k) log → IsSettled (cut n k) log
settled-rewound m n k log alike settled = settled-alike (cut-alike k m n alike) log settled

-- papers whose first k students are the same
pub alike-students : (m n : Market) (k : ℕ) → n.seed ≡ m.seed → n.schools ≡ m.schools → take k n.students ≡ take k m.students → AlikeUpTo k m n
unfolding seats_of
alike-students m n k seed schools students = record {
  seed = seed;
  students = students;
  zones = λ s. ap (λ es. option_map_or (λ school. school.zone) (lookup (nat_eq s) es) 0) schools;
  seats = λ i s listed. ap (λ es. option_map_or (λ school. school.seats) (lookup (nat_eq s) es) 0) schools;
}

-- papers that differ in the seats of a school that none of the first k students lists
pub alike-seats : (m n : Market) (k s : ℕ) → n.seed ≡ m.seed → n.students ≡ m.students → ((t : ℕ) → zone_at n t ≡ zone_at m t) → ((t : ℕ) → (t ≡ s → ⊥) → seats_of n t ≡ seats_of m t) → ((i : ℕ) → Contains (choices_of (cut m k) i) s → ⊥) → AlikeUpTo k m n
alike-seats m n k s seed students zones seats unlisted = record {
  seed = seed;
  students = ap (take k) students;
  zones = zones;
  seats = λ i t listed. seats t (λ same. unlisted i (subst (Contains (choices_of (cut m k) i)) same listed));
}
