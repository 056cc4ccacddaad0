-- Students who list no school in common with a set have the same, whatever changes within the set.
use Rattle.std.proofs.Common.{◌≡◌, inl, inr, ap, sym, subst, ◌∙◌, ℕ, nat_eq, Bool, true, false, cond, List, [], Contains, count_by, arith}
use Rattle.std.specs.Map.{lookup, keys_of}
use Rattle.std.specs.Option.{option_map_or}
use Rattle.std.proofs.lemmas.Bool.{cases_Bool, cond-true, cond-false, not_from_false, not-true}
use Rattle.sc_papers.specs.Market.{Market, student_of, choices_of, seats_of}
use Rattle.sc_papers.specs.Key.{is_before, is_ahead, key_of}
use Rattle.sc_papers.specs.WellFormed.{WellFormed}
use Rattle.sc_papers.specs.Matching.{Matching, how_many, IsStudentOptimal}
use Rattle.sc_papers.specs.Log.{next_choice, matching_of, IsSettled}
use Rattle.sc_papers.specs.Restriction.{restricted, entries_of, outside, AreApart, AlikeOutside}
use Rattle.sc_papers.specs.declared.rejection.Rejection.{Rejection}
use Rattle.sc_papers.proofs.Restriction.{restricted-restricts, choices-restricted}
use Rattle.sc_papers.proofs.Rewinding.{Alike, next-alike, settled-alike, key_by, key-by}
use Rattle.sc_papers.proofs.Subsets.{well-restricted}
use Rattle.sc_papers.proofs.Optimality.{settled-optimal}
use Rattle.sc_papers.proofs.Uniqueness.{optimal-unique}
use Rattle.sc_papers.proofs.Existence.{settled-exists}
use Rattle.sc_papers.proofs.Apart.{settled-apart, next-part}

module _ (m n : Market) (test : ℕ → Bool) (alike : AlikeOutside test m n) where
  rest_of : Market → Market
  rest_of p = restricted p (outside test)

  student-outside : (i : ℕ) → student_of (rest_of n) i ≡ student_of (rest_of m) i
  unfolding restricted rest_of
  student-outside i = ap (lookup (nat_eq i)) alike.students

  key-outside : (i s : ℕ) → key_of (rest_of n) i s ≡ key_of (rest_of m) i s
  unfolding restricted rest_of
  key-outside i s = key-by (rest_of n) i s ∙ (λ t. key_by (alike.seed t) (alike.zones s t) (student-outside i t) i s) ∙ sym (key-by (rest_of m) i s)

  choices-outside : (i : ℕ) → choices_of (rest_of n) i ≡ choices_of (rest_of m) i
  unfolding choices_of
  choices-outside i = ap (λ found. option_map_or (λ student. student.choices) found []) (student-outside i)

  ahead-outside : (s i j : ℕ) → is_ahead (rest_of n) s i j ≡ is_ahead (rest_of m) s i j
  unfolding is_ahead
  ahead-outside s i j = λ t. is_before (key-outside i s t) (key-outside j s t)

  counts-outside : (p : ℕ → Bool) → how_many (rest_of n) p ≡ how_many (rest_of m) p
  unfolding how_many restricted rest_of
  counts-outside p = ap (λ es. count_by p (keys_of es)) alike.students

  -- who lists something in the restricted papers doesn't pass
  listed-outside : (i s : ℕ) → Contains (choices_of (rest_of m) i) s → (test i ≡ false) × Contains (choices_of m i) s
  unfolding rest_of
  listed-outside i s listed =
      let here : Contains (cond (outside test i) (choices_of m i) []) s = subst (λ xs. Contains xs s) (choices-restricted m (outside test) i) listed in
      elim (cases_Bool (outside test i)) [
        | inl out ↦ (not-true (test i) out, subst (λ xs. Contains xs s) (cond-true (outside test i) (choices_of m i) [] out) here)
        | inr within ↦
            let (k, low, at) = subst (λ xs. Contains xs s) (cond-false (outside test i) (choices_of m i) [] within) here in
            absurd (omega (arith, low))
      ]

  seats-outside : (i s : ℕ) → Contains (choices_of (rest_of m) i) s → seats_of (rest_of n) s ≡ seats_of (rest_of m) s
  unfolding seats_of restricted rest_of
  seats-outside i s listed = let (out, in_list) = listed-outside i s listed in alike.seats i s out in_list

  rest-alike : Alike (rest_of m) (rest_of n)
  rest-alike = record { choices = choices-outside; ahead = ahead-outside; counts = counts-outside; seats = seats-outside }

  -- the next choices of those outside are the same
  next-outside : WellFormed n → AreApart m test → AreApart n test → (log other : List Rejection) → IsSettled m log → IsSettled n other → (i : ℕ) → test i ≡ false → next_choice m log i ≡ next_choice n other i
  unfolding rest_of
  next-outside well apart_m apart_n log other first second i out =
      let out_true : outside test i ≡ true = not_from_false (test i) out in
      let rest_m : IsSettled (rest_of m) (entries_of (outside test) log) = ((settled-apart m test log apart_m).0 first).1 in
      let rest_n : IsSettled (rest_of n) (entries_of (outside test) other) = ((settled-apart n test other apart_n).0 second).1 in
      let moved : IsSettled (rest_of n) (entries_of (outside test) log) = settled-alike rest-alike (entries_of (outside test) log) rest_m in
      let well_rest : WellFormed (rest_of n) = well-restricted n (outside test) well in
      let same : next_choice (rest_of n) (entries_of (outside test) log) i ≡ next_choice (rest_of n) (entries_of (outside test) other) i =
      optimal-unique (rest_of n) (matching_of (rest_of n) (entries_of (outside test) log)) (matching_of (rest_of n) (entries_of (outside test) other))
      (settled-optimal (rest_of n) well_rest (entries_of (outside test) log) moved) (settled-optimal (rest_of n) well_rest (entries_of (outside test) other) rest_n) i in
      sym (next-part (restricted-restricts m (outside test)) log i out_true)
      ∙ sym (next-alike rest-alike (entries_of (outside test) log) i)
      ∙ same
      ∙ next-part (restricted-restricts n (outside test)) other i out_true

pub optimal-outside : (m n : Market) (test : ℕ → Bool) (a b : Matching) → WellFormed m → WellFormed n → AreApart m test → AreApart n test → AlikeOutside test m n → IsStudentOptimal m a → IsStudentOptimal n b → (i : ℕ) → test i ≡ false → a i ≡ b i
optimal-outside m n test a b well_m well_n apart_m apart_n alike first second i out =
    let (log, settled_m) = settled-exists m well_m in
    let (other, settled_n) = settled-exists n well_n in
    optimal-unique m a (matching_of m log) first (settled-optimal m well_m log settled_m) i
    ∙ next-outside m n test alike well_n apart_m apart_n log other settled_m settled_n i out
    ∙ optimal-unique n (matching_of n other) b (settled-optimal n well_n other settled_n) second i
