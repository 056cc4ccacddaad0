-- The lines of the schools' lists, one after the other.
use Rattle.std.proofs.Common.{◌≡◌, sym, ◌∙◌, ap, inl, inr, ℕ, ◌+◌, ◌<◌, ◌≤◌, Bool, true, false, not, List, [], ◌∷◌, ◌++◌, append_assoc, length, get_or, map, refl, take, All, IsPermutation, position, nat_eq, Option, None, Some, is_some, arith}
use Rattle.std.specs.List.{enumerate_from}
use Rattle.std.specs.List.Sorted.{IsSortedByKey}
use Rattle.std.specs.Ordering.{nat_cmp}
use Rattle.std.specs.Prelude.{flat_map}
use Rattle.std.proofs.lemmas.Bool.{cases_Bool, false≢true}
use Rattle.std.proofs.lemmas.List.{map-id, take_all}
use Rattle.std.proofs.lemmas.List.FromFn.{get_or-enumerate_from, length-enumerate_from}
use Rattle.std.proofs.lemmas.List.Sorted.{All-permutation, IsNonDecreasingBy-from_sort}
use Rattle.std.proofs.lemmas.Option.{slice_get-get_or}
use Rattle.sc_papers.specs.Market.{Market, is_school, schools_of, students_of}
use Rattle.sc_papers.specs.Matching.{Matching, has}
use Rattle.sc_papers.specs.declared.key.Key.{Key}
use Rattle.sc_papers.proofs.Choices.{contains-at}
use Rattle.sc_papers.proofs.Hands.{school-has_position}
use Rattle.sc_papers.proofs.Positions.{among-school, position-among}
use Rattle.sc_reasons.specs.Rising.{rising}
use Rattle.sc_report.proofs.LineLemmas.{lines-map, lines-more}
use Rattle.sc_reasons.proofs.RisingLemmas.{rising-by, rising-permutes}
use Rattle.sc_seats.specs.Roll.{in_order}
use Rattle.sc_notices.specs.Admissions.{class_list, keys_passing, waiting_list, waits}
use Rattle.sc_notices.specs.AdmissionsText.{admission_lines, admissions_header, admissions_of, admissions_text, list_lines, place_line, school_lists}
use Rattle.sc_notices.specs.KeyLists.{AreCandidates}
use Rattle.sc_notices.specs.Telling.{Tells}
use Rattle.sc_notices.specs.declared.parts.TextParts.TheVariants.{Listed}
use Rattle.sc_notices.specs.declared.status.Status.{Status}
use Rattle.sc_notices.specs.declared.status.Status.TheVariants.{Admitted, Waiting}

-- a text that gained the line of the next key of a list
pub list-more : (status : Status) (school : ℕ) (keys : List Key) (k : ℕ) (key : Key) (old text new : List ℕ) → k < length keys → key ≡ get_or keys k key
    → text ≡ old ++ flat_map (λ place. place_line status school place.0 place.1) (take k (enumerate_from 0 keys))
    → new ≡ text ++ place_line status school k key
    → new ≡ old ++ flat_map (λ place. place_line status school place.0 place.1) (take (k + 1) (enumerate_from 0 keys))
list-more status school keys k key old text new low is before grew =
    lines-more (λ (place : ℕ × Key). place_line status school place.0 place.1) (enumerate_from 0 keys) k (k, key) old text new before grew
    (omega (arith, low, length-enumerate_from 0 keys))
    (sym (get_or-enumerate_from 0 keys k (k, key) low ∙ (λ t. (zero-plus k t, sym is t))))
  where
    zero-plus : (n : ℕ) → 0 + n ≡ n
    zero-plus n = omega arith

-- and that of all
pub list-whole : (status : Status) (school : ℕ) (keys : List Key) (k : ℕ) (old text : List ℕ) → length keys ≤ k
    → text ≡ old ++ flat_map (λ place. place_line status school place.0 place.1) (take k (enumerate_from 0 keys))
    → text ≡ old ++ list_lines status school keys
list-whole status school keys k old text over text_is =
    text_is
    ∙ ap (λ places. old ++ flat_map (λ (place : ℕ × Key). place_line status school place.0 place.1) places)
    (take_all k (enumerate_from 0 keys) (omega (arith, over, length-enumerate_from 0 keys)))

-- a text that gained both lists of a school
pub school-joined : (m : Market) (a : Matching) (s : ℕ) (admitted waiting : List Key) (old first second : List ℕ)
    → admitted ≡ in_order (keys_passing m (has a s) (students_of m) s) → waiting ≡ in_order (keys_passing m (waits m a s) (students_of m) s)
    → first ≡ old ++ list_lines Admitted s admitted → second ≡ first ++ list_lines Waiting s waiting
    → second ≡ old ++ school_lists m a s
unfolding class_list waiting_list
school-joined m a s admitted waiting old first second admitted_is waiting_is first_is second_is =
    second_is
    ∙ ap (λ text. text ++ list_lines Waiting s waiting) first_is
    ∙ append_assoc old (list_lines Admitted s admitted) (list_lines Waiting s waiting)
    ∙ (λ t. old ++ (list_lines Admitted s (admitted_is t) ++ list_lines Waiting s (waiting_is t)))

-- the schools of the papers are known, by rising number too
pub rising-known : (m : Market) → All (λ s. is_school m s ≡ true) (rising (schools_of m))
rising-known m =
    All-permutation (λ s. is_school m s ≡ true) (schools_of m) (rising (schools_of m)) (rising-permutes (schools_of m))
    (λ k d low. among-school m (get_or (schools_of m) k d) (contains-at (schools_of m) k (get_or (schools_of m) k d) (slice_get-get_or (schools_of m) k d low)))

-- numbers that were sorted rise
pub sorted-rising : (xs ys : List ℕ) → IsPermutation xs ys → IsSortedByKey (λ x. x) nat_cmp ys → ys ≡ rising xs
sorted-rising xs ys moved sorted =
    sym (map-id ys) ∙ rising-by (λ x. x) xs ys moved (IsNonDecreasingBy-from_sort (λ x. x) ys sorted) ∙ ap rising (map-id xs)

-- the lists of schools are told, each school's as a part
pub listed : (m : Market) (a b : Matching) (n : Market) (schools : List ℕ) (admitted waiting : List (List Key)) (text : List ℕ) → n ≡ m → b ≡ a → AreCandidates n b (students_of n) admitted waiting
    → text ≡ admission_lines m a schools → Tells (Listed (record { papers = n; schools = schools; admitted = admitted; waiting = waiting })) text
listed m a b n schools admitted waiting text papers_is places_is are text_is = (
  map (school_lists n b) schools,
  record { matching = b; candidates = are; each = refl },
  text_is
      ∙ sym (λ t. admission_lines (papers_is t) (places_is t) schools)
      ∙ ap (λ lines. admissions_header ++ lines) (lines-map (λ (part : List ℕ). part) (school_lists n b) schools),
)

-- the text of all schools has the lists of these, which are all
pub all-listed : (m : Market) (a : Matching) (n : Market) (schools : List ℕ) → n ≡ m → schools ≡ rising (schools_of n) → admissions_text m a ≡ admission_lines m a schools
unfolding admissions_text
all-listed m a n schools papers_is schools_are = ap (admission_lines m a) (sym (schools_are ∙ ap (λ p. rising (schools_of p)) papers_is))

-- and the text of one has the lists of that one
pub one-listed : (m : Market) (a : Matching) (s : ℕ) (schools : List ℕ) → schools ≡ s ∷ [] → admissions_of m a s ≡ admission_lines m a schools
unfolding admissions_of
one-listed m a s schools schools_are = ap (admission_lines m a) (sym schools_are)

-- a school without a position is not in the papers
pub school-away : (m : Market) (s : ℕ) (found : Option ℕ) (absent : Bool) → found ≡ position (nat_eq s) (schools_of m) → is_some found ≡ not absent → absent ≡ true → is_school m s ≡ false
school-away m s None absent is none holds = elim (cases_Bool (is_school m s)) [
  | inl known ↦ absurd (school-has_position m s known is)
  | inr unknown ↦ unknown
]
school-away m s (Some at) absent is none holds = absurd (false≢true (sym (none ∙ ap not holds)))

-- and one with a position is
pub school-here : (m : Market) (s : ℕ) (found : Option ℕ) (absent : Bool) → found ≡ position (nat_eq s) (schools_of m) → is_some found ≡ not absent → absent ≡ false → is_school m s ≡ true
school-here m s None absent is none fails = absurd (false≢true (none ∙ ap not fails))
school-here m s (Some at) absent is none fails = among-school m s (position-among (schools_of m) s at (sym is))
