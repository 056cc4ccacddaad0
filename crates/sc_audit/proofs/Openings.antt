-- The state before the first entry.
use Rattle.std.proofs.Common.{◌≡◌, inl, inr, refl, ap, sym, subst, ◌∙◌, ℕ, ◌+◌, ◌<◌, ◌≤◌, nat_eq, Bool, false, not, ◌&&◌, List, [], ◌∷◌, ◌++◌, length, get_or, find, map, take, Option, Some, None, All, position, slice_get, arith}
use Rattle.std.specs.Option.{option_and_then, option_map_or}
use Rattle.std.proofs.lemmas.Bool.{cases_eq, cases_lt, and_left, and_right}
use Rattle.std.proofs.lemmas.List.{map-append, take_all}
use Rattle.std.proofs.lemmas.Map.Entries.{length-keys_of}
use Rattle.std.proofs.lemmas.Option.{none-some, same_Some, slice_get-get_or}
use Rattle.sc_papers.specs.Log.{next_choice, is_rejected}
use Rattle.sc_papers.specs.Market.{Market, students_of, schools_of, choices_of, seats_of}
use Rattle.sc_papers.specs.Matching.{has}
use Rattle.sc_papers.specs.WellFormed.{WellFormed, WithinLimits}
use Rattle.sc_papers.specs.declared.key.Key.{Key}
use Rattle.sc_papers.proofs.Choices.{contains-at}
use Rattle.sc_papers.proofs.Students.{how_many-none, lister-among}
use Rattle.sc_audit.specs.AuditView.{AuditView, stand_of, next_of, keys_at, keeps, KeepsBest, KeepsBestAtEach, MovesTo, Follows}
use Rattle.sc_tallies.proofs.Tallying.{take-one}
use Rattle.sc_audit.proofs.Tables.{stand-away}
use Rattle.sc_papers.proofs.Positions.{among-student, place-position, position-at, position-one, student-position}

-- nobody stands anywhere
pub nobody-stands : (m : Market) (stands : List (Option ℕ)) → length stands ≡ length m.students → All (λ stand. stand ≡ None) stands → (i : ℕ) → stand_of m stands i ≡ None
unfolding stand_of
nobody-stands m stands long nobody i = go (position (nat_eq i) (students_of m)) refl
  where
    go : (o : Option ℕ) → position (nat_eq i) (students_of m) ≡ o → option_map_or (λ at. get_or stands at None) o None ≡ None
    go None is = refl
    go (Some at) is = nobody at None (omega (arith, (position-at (students_of m) i at is).0, length-keys_of m.students, long))

-- no key is kept anywhere
nothing-kept : (m : Market) (kept : List (List Key)) → length kept ≡ length m.schools → All (λ keys. keys ≡ []) kept → (s : ℕ) → keys_at m kept s ≡ []
unfolding keys_at
nothing-kept m kept long nothing s = go (position (nat_eq s) (schools_of m)) refl
  where
    go : (o : Option ℕ) → position (nat_eq s) (schools_of m) ≡ o → option_map_or (λ at. get_or kept at []) o [] ≡ []
    go None is = refl
    go (Some at) is = nothing at [] (omega (arith, (position-at (schools_of m) s at is).0, length-keys_of m.schools, long))

pub no-next : (m : Market) (stands : List (Option ℕ)) → ((i : ℕ) → stand_of m stands i ≡ None) → (i : ℕ) → next_of m stands i ≡ None
no-next m stands nobody i = ap (option_and_then (slice_get (choices_of m i))) (nobody i)

-- then nobody is kept
nobody_kept : ℕ → Bool
nobody_kept i = false

keeps-nobody : (m : Market) (l : AuditView) → ((i : ℕ) → next_of m l.stands i ≡ None) → (s : ℕ) → KeepsBest m (next_of m l.stands) nobody_kept s []
keeps-nobody m l nowhere s =
    let absent : (j : ℕ) → next_of m l.stands j ≡ Some s → ⊥ = λ j at. none-some s (sym (nowhere j) ∙ at) in
    record {
      exact_keys = record {
        keyed = λ k d low. absurd (omega (arith, low));
        exact = λ p. sym (how_many-none m (λ j. p j && keeps (next_of m l.stands) nobody_kept s j)
            (λ j among. and_right (p j) (keeps (next_of m l.stands) nobody_kept s j) (and_left (has (next_of m l.stands) s j) (nobody_kept j) (ap (λ o. option_map_or (λ t. nat_eq t s) o false) (nowhere j)))));
      };
      within = omega arith;
      full = λ i at waits. absurd (absent i at);
      ahead = λ i j at waits at_j held. absurd (absent i at);
    }

pub best-empty : (m : Market) (l : AuditView) → WellFormed m → WithinLimits m → length l.stands ≡ length m.students → length l.kept ≡ length m.schools → l.seats ≡ map (seats_of m) (schools_of m) → ((i : ℕ) → next_of m l.stands i ≡ None) → All (λ keys. keys ≡ []) l.kept → KeepsBestAtEach m l
best-empty m l well within stands schools seats nowhere nothing = record {
  well_formed = well;
  within_limits = within;
  stands = stands;
  schools = schools;
  seats = seats;
  is_kept = nobody_kept;
  each = λ s. subst (KeepsBest m (next_of m l.stands) nobody_kept s) (sym (nothing-kept m l.kept schools nothing s)) (keeps-nobody m l nowhere s);
}

-- the first k students have come to their first choices
pub record Opened (m : Market) (l : AuditView) (k : ℕ) : Type 0 where
  pub keeps_best : KeepsBestAtEach m l
  pub came : (i at : ℕ) → position (nat_eq i) (students_of m) ≡ Some at → at < k → next_of m l.stands i ≡ slice_get (choices_of m i) 0
  pub later : (i at : ℕ) → position (nat_eq i) (students_of m) ≡ Some at → k ≤ at → next_of m l.stands i ≡ None

pub opened-none : (m : Market) (l : AuditView) → KeepsBestAtEach m l → ((i : ℕ) → next_of m l.stands i ≡ None) → Opened m l 0
opened-none m l keeps_best nobody = record {
  keeps_best = keeps_best;
  came = λ i at found low. absurd (omega (arith, low));
  later = λ i at found past. nobody i;
}

pub opened-nowhere : (m : Market) (l : AuditView) (k i : ℕ) → Opened m l k → slice_get (students_of m) k ≡ Some i → next_of m l.stands i ≡ None
opened-nowhere m l k i opened here = opened.later i k (place-position m opened.keeps_best.well_formed k i here) (omega arith)

pub opened-more : (m : Market) (l new : AuditView) (k i : ℕ) → Opened m l k → slice_get (students_of m) k ≡ Some i → MovesTo m l i 0 new → Opened m new (k + 1)
opened-more m l new k i opened here moves =
    let own : position (nat_eq i) (students_of m) ≡ Some k = place-position m opened.keeps_best.well_formed k i here in
    record {
      keeps_best = moves.keeps_best;
      came = λ j at found low. elim (cases_eq j i) [
        | inl same ↦ ap (next_of m new.stands) same ∙ moves.own ∙ ap (λ n. slice_get (choices_of m n) 0) (sym same)
        | inr apart ↦
            let before : at < k = elim (cases_lt at k) [ inl below ↦ below | inr past ↦ absurd (apart (position-one (students_of m) i j k own (found ∙ ap Some (omega (arith, low, past))))) ] in
            moves.others j apart ∙ opened.came j at found before
      ];
      later = λ j at found past.
          let apart : j ≡ i → ⊥ = λ same. omega (arith, past, same_Some at k (sym found ∙ ap (λ n. position (nat_eq n) (students_of m)) same ∙ own)) in
          moves.others j apart ∙ opened.later j at found (omega (arith, past));
    }

-- before the first entry the next choice is the first
first-open : (m : Market) (i : ℕ) → next_choice m [] i ≡ slice_get (choices_of m i) 0
unfolding next_choice
first-open m i = go (choices_of m i)
  where
    go : (xs : List ℕ) → find (λ s. not (is_rejected [] i s)) xs ≡ slice_get xs 0
    go [] = refl
    go (x ∷ xs) = refl

pub opened-all : (m : Market) (l : AuditView) (k : ℕ) → length m.students ≤ k → Opened m l k → Follows m [] l
opened-all m l k all opened = record {
  keeps_best = opened.keeps_best;
  next = λ i. first-open m i ∙ go i (position (nat_eq i) (students_of m)) refl (slice_get (choices_of m i) 0) refl;
}
  where
    go : (i : ℕ) (o : Option ℕ) → position (nat_eq i) (students_of m) ≡ o → (first : Option ℕ) → slice_get (choices_of m i) 0 ≡ first → slice_get (choices_of m i) 0 ≡ next_of m l.stands i
    go i (Some at) found first is = sym (opened.came i at found (omega (arith, all, (position-at (students_of m) i at found).0, length-keys_of m.students)))
    go i None away (Some s) is =
        let (at, found) = student-position m i (among-student m i (lister-among m i s (contains-at (choices_of m i) 0 s is))) in
        absurd (none-some at (sym away ∙ found))
    go i None away None is = is ∙ ap (option_and_then (slice_get (choices_of m i))) (stand-away m l.stands i away)

-- the schools with their seats, one by one
pub record SeatsUpTo (m : Market) (k : ℕ) (seats : List ℕ) : Type 0 where
  pub are : seats ≡ map (seats_of m) (take k (schools_of m))

pub seats-more : (m : Market) (k n : ℕ) (seats : List ℕ) → k < length m.schools → ((s : ℕ) → slice_get (schools_of m) k ≡ Some s → n ≡ seats_of m s) → SeatsUpTo m k seats → SeatsUpTo m (k + 1) (seats ++ n ∷ [])
seats-more m k n seats low is upto =
    let s : ℕ = get_or (schools_of m) k 0 in
    let here : slice_get (schools_of m) k ≡ Some s = slice_get-get_or (schools_of m) k 0 (omega (arith, low, length-keys_of m.schools)) in
    record {
      are = ap (λ ys. ys ++ n ∷ []) upto.are ∙ ap (λ x. map (seats_of m) (take k (schools_of m)) ++ x ∷ []) (is s here)
          ∙ sym (map-append (seats_of m) (take k (schools_of m)) (s ∷ [])) ∙ ap (map (seats_of m)) (sym (take-one (schools_of m) k s here));
    }

pub seats-all : (m : Market) (k : ℕ) (seats : List ℕ) → length m.schools ≤ k → SeatsUpTo m k seats → seats ≡ map (seats_of m) (schools_of m)
seats-all m k seats all upto = upto.are ∙ ap (map (seats_of m)) (take_all k (schools_of m) (omega (arith, all, length-keys_of m.schools)))
