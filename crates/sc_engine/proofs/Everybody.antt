-- Everybody goes to their first choice, in whatever order they are to propose.
use Rattle.std.proofs.Common.{◌≡◌, Vec, ◌+◌, set, take, drop, append_assoc, ◌∷◌, ◌<◌, ◌⊎◌, inl, inr, refl, ap, sym, subst, ◌∙◌, ℕ, nat_eq, Bool, true, false, cond, List, [], ◌++◌, length, get_or, replicate, Option, None, Some, All, is_some, position, slice_get, append-nil, arith}
use Rattle.std.specs.List.Sorted.{IsPermutation}
use Rattle.std.specs.Option.{option_map_or}
use Rattle.std.specs.declared.alloc.Global.{Global}
use Rattle.std.proofs.lemmas.Bool.{false_from_ne_true}
use Rattle.std.proofs.lemmas.Cmp.{nat_eq_equiv}
use Rattle.std.proofs.lemmas.List.{drop-set, drop_more, get_or-replicate, length-replicate, take-append-drop, take-set, take_more}
use Rattle.std.proofs.lemmas.List.Elements.{All-cons}
use Rattle.std.proofs.lemmas.List.Concat.{flat_map-append}
use Rattle.std.proofs.lemmas.List.Sorted.{All-permutation, IsPermutation-map, IsPermutation-middle, IsPermutation-push_more, IsPermutation-sym, list_any-IsPermutation}
use Rattle.std.proofs.lemmas.Map.Entries.{length-keys_of}
use Rattle.std.proofs.lemmas.Map.Keys.{IsDistinct-IsPermutation}
use Rattle.std.proofs.lemmas.Option.{none-some}
use Rattle.sc_papers.specs.Log.{next_choice}
use Rattle.sc_papers.specs.Market.{Market, choices_of, student_at, students_of}
use Rattle.sc_papers.proofs.Hands.{position-low}
use Rattle.sc_papers.proofs.Entering.{is_some-false}
use Rattle.sc_papers.proofs.Positions.{any-among, position-among, position-found}
use Rattle.sc_papers.proofs.Restriction.{choices-restricted}
use Rattle.sc_engine.specs.Applicants.{in_turn, numbers_of, AreEverybody, IsWithin}
use Rattle.sc_engine.specs.RoundView.{RoundView, Fits, Midway, entered_papers, except, has_entered, next_of, rank_of, roll_of}
use Rattle.sc_engine.specs.Together.{among, Waits}
use Rattle.sc_engine.proofs.Beginning.{first-choice}
use Rattle.sc_engine.proofs.Proposals.{has-none}
use Rattle.sc_engine.proofs.Rolls.{fits-again, roll-fits_still}
use Rattle.sc_engine.proofs.Tables.{next-by, next-none}

-- one student more is in a turn
pub turn_more : (turns : List (Vec ℕ Global)) (at student : ℕ) (old new : Vec ℕ Global) → at < length turns → old ≡ get_or turns at old → new.items ≡ old.items ++ student ∷ []
    → IsPermutation (student ∷ in_turn turns) (in_turn (set turns at new))
turn_more turns at student old new low is more =
    let before : List ℕ = in_turn (take at turns) in
    let behind : List ℕ = in_turn (drop (at + 1) turns) in
    let was : in_turn turns ≡ before ++ (old.items ++ behind) =
    ap in_turn (sym (take-append-drop at turns) ∙ ap (λ (rest : List (Vec ℕ Global)). take at turns ++ rest) (drop_more turns at old low ∙ ap (λ (v : Vec ℕ Global). v ∷ drop (at + 1) turns) (sym is)))
    ∙ flat_map-append (λ (v : Vec ℕ Global). v.items) (take at turns) (old ∷ drop (at + 1) turns) in
    let now : in_turn (set turns at new) ≡ before ++ ((old.items ++ student ∷ []) ++ behind) =
    ap in_turn (sym (take-append-drop at (set turns at new)) ∙ ap (λ (first : List (Vec ℕ Global)). first ++ drop at (set turns at new)) (take-set turns at new)
    ∙ ap (λ (rest : List (Vec ℕ Global)). take at turns ++ rest) (drop-set turns at new low))
    ∙ flat_map-append (λ (v : Vec ℕ Global). v.items) (take at turns) (new ∷ drop (at + 1) turns)
    ∙ ap (λ (here : List ℕ). before ++ (here ++ behind)) more in
    let placed : IsPermutation (student ∷ ((before ++ old.items) ++ behind)) ((before ++ old.items) ++ student ∷ behind) =
    IsPermutation-sym _ _ (IsPermutation-middle (before ++ old.items) student behind) in
    rw (was, now, append_assoc old.items (student ∷ []) behind) (rw (append_assoc before old.items behind, append_assoc before old.items (student ∷ behind)) at placed)

-- the next student has been put into a turn
pub everybody_more : (m : Market) (k : ℕ) (old new : List ℕ) → k < length m.students → IsPermutation (take k (students_of m)) (numbers_of m old) → All (IsWithin m) old → IsPermutation (k ∷ old) new
    → IsPermutation (take (k + 1) (students_of m)) (numbers_of m new) × All (IsWithin m) new
everybody_more m k old new low numbers within put = (
  subst (λ (first : List ℕ). IsPermutation first (numbers_of m new)) (sym (take_more (students_of m) k 0 (rw (length-keys_of m.students) low)))
      (IsPermutation-push_more (take k (students_of m)) (numbers_of m old) (numbers_of m new) (student_at m k) numbers (IsPermutation-map (student_at m) (k ∷ old) new put)),
  All-permutation (IsWithin m) (k ∷ old) new put (All-cons (IsWithin m) k old low within),
)

-- a student stands at their first choice, and nobody else stands anywhere
first-rank : (m : Market) (i : ℕ) → ((among (students_of m) i ≡ true) × (rank_of m (replicate (length m.students) (Some 0)) i ≡ Some 0)) ⊎ ((among (students_of m) i ≡ false) × (rank_of m (replicate (length m.students) (Some 0)) i ≡ None))
unfolding rank_of
first-rank m i = go (position (nat_eq i) (students_of m)) refl
  where
    ranks : List (Option ℕ)
    ranks = replicate (length m.students) (Some 0)

    go : (o : Option ℕ) → position (nat_eq i) (students_of m) ≡ o
        → ((among (students_of m) i ≡ true) × (option_map_or (λ k. get_or ranks k None) o None ≡ Some 0)) ⊎ ((among (students_of m) i ≡ false) × (option_map_or (λ k. get_or ranks k None) o None ≡ None))
    go None is = inr (false_from_ne_true (among (students_of m) i) (λ holds. none-some _ (sym is ∙ position-found (students_of m) i holds)), refl)
    go (Some k) is = inl (
      any-among (students_of m) i (position-among (students_of m) i k is),
      get_or-replicate (length m.students) k (Some 0) None (position-low m i k is),
    )

-- everybody waits at their first choice, where nobody had entered
pub waits_first : (m : Market) (old : RoundView) (applicants : List ℕ) → Fits m old → ((i : ℕ) → has_entered m old.ranks i ≡ false) → old.log ≡ [] → old.proposals ≡ 0 → AreEverybody m applicants
    → Waits m (record old { ranks = replicate (length m.students) (Some 0) }) (numbers_of m applicants) []
waits_first m old applicants fits nobody no_log none everybody = record {
  fits = fits-again (record old { ranks = ranks }) (except (among hands) (next_of m ranks)) fits (omega (arith, length-replicate (length m.students) first)) refl
      (λ t. roll-fits_still m (next_of m old.ranks) (except (among hands) (next_of m ranks)) t (roll_of m old.rolls t)
      (λ j. has-none (next_of m old.ranks) t j (next-none m old.ranks j (is_some-false (rank_of m old.ranks j) (nobody j))) ∙ sym (has-none (except (among hands) (next_of m ranks)) t j (away j)))
      (fits.each t))
      (omega (arith, none));
  entered = λ i. elim (first-rank m i) [ inl (is, rank) ↦ ap is_some rank ∙ sym is | inr (is, rank) ↦ ap is_some rank ∙ sym is ];
  differ = IsDistinct-IsPermutation nat_eq nat_eq_equiv.symm (students_of m) hands moved fits.well_formed.students_differ;
  put_out = λ k d low. absurd (omega (arith, low));
  earlier = [];
  midway = subst (λ log. Midway m [] (record old { ranks = ranks; log = log })) (sym no_log) (record { valid = tt; next = next });
}
  where
    first : Option ℕ
    first = Some 0

    ranks : List (Option ℕ)
    ranks = replicate (length m.students) first

    hands : List ℕ
    hands = numbers_of m applicants ++ []

    moved : IsPermutation (students_of m) hands
    moved = subst (IsPermutation (students_of m)) (sym (append-nil (numbers_of m applicants))) everybody.numbers

    -- whoever stands somewhere is away
    away : (j : ℕ) → except (among hands) (next_of m ranks) j ≡ None
    away j = elim (first-rank m j) [
      | inl (is, rank) ↦ ap (λ b. cond b None (next_of m ranks j)) (sym (list_any-IsPermutation (nat_eq j) (students_of m) hands moved) ∙ is)
      | inr (is, rank) ↦ nowhere (among hands j) (next_of m ranks j) (next-none m ranks j rank)
    ]
      where
        nowhere : (b : Bool) (o : Option ℕ) → o ≡ None → cond b None o ≡ None
        nowhere true o is = refl
        nowhere false o is = is

    next : (i : ℕ) → next_choice (entered_papers m ranks) [] i ≡ next_of m ranks i
    next i =
        first-choice (entered_papers m ranks) [] i (λ s. refl) ∙ ap (λ xs. slice_get xs 0) (choices-restricted m (has_entered m ranks) i) ∙ elim (first-rank m i) [
          | inl (is, rank) ↦ ap (λ b. slice_get (cond b (choices_of m i) []) 0) (ap is_some rank) ∙ sym (next-by m ranks i 0 rank)
          | inr (is, rank) ↦ ap (λ b. slice_get (cond b (choices_of m i) []) 0) (ap is_some rank) ∙ sym (next-none m ranks i rank)
        ]
