-- What is found of a log, entry by entry, and that there is one answer.
use Rattle.std.proofs.Common.{◌≡◌, inl, inr, refl, ap, sym, subst, ◌∙◌, ℕ, suc, ◌+◌, ◌<◌, ◌≤◌, true, false, List, [], ◌∷◌, ◌++◌, length, take, drop, get_or, Option, Result, Ok, Err, IfOk, add-one, arith}
use Rattle.std.proofs.Math.Seq.{take-suc, drop-cons}
use Rattle.std.proofs.lemmas.Bool.{cases_order}
use Rattle.std.proofs.lemmas.List.{take-append-drop, take_all, length-take}
use Rattle.sc_papers.specs.Log.{matching_of, IsValidEntry, IsValidLog, IsSettled}
use Rattle.sc_papers.specs.Market.{Market, students_of}
use Rattle.sc_papers.specs.Matching.{Matching, has, held, WithinSeats, IsStudentOptimal}
use Rattle.sc_papers.specs.WellFormed.{WellFormed}
use Rattle.sc_papers.specs.declared.rejection.Rejection.{Rejection}
use Rattle.sc_papers.proofs.Optimality.{settled-optimal}
use Rattle.sc_papers.proofs.Rejections.{has-agree}
use Rattle.sc_papers.proofs.Standings.{valid-rest}
use Rattle.sc_papers.proofs.Students.{how_many-agree}
use Rattle.sc_papers.proofs.Validity.{valid-push}
use Rattle.sc_audit.specs.AuditView.{AuditView, next_of, Follows, Finds}
use Rattle.sc_audit.specs.Over.{IsFirstOver}
use Rattle.sc_audit.specs.Verdict.{IsBadLine, IsVerdict}
use Rattle.sc_audit.specs.declared.verdict.Verdict.{Verdict}
use Rattle.sc_audit.specs.declared.verdict.Verdict.TheVariants.{BadEntry, Over, Certified}
use Rattle.sc_tallies.specs.Places.{ArePlaces}
use Rattle.sc_tallies.proofs.Tallying.{map-agree}

-- the first k entries are valid, and the state follows them
pub record ReadUpTo (m : Market) (log : List Rejection) (k : ℕ) (l : AuditView) : Type 0 where
  pub valid : IsValidLog m (take k log)
  pub follows : Follows m (take k log) l

pub read-none : (m : Market) (log : List Rejection) (l : AuditView) → Follows m [] l → ReadUpTo m log 0 l
read-none m log l follows = record { valid = tt; follows = follows }

take-entry : (log : List Rejection) (k : ℕ) (e : Rejection) → k < length log → e ≡ get_or log k e → take (k + 1) log ≡ take k log ++ e ∷ []
take-entry log k e low is = rw (add-one, take-suc log k e low) (ap (λ y. take k log ++ y ∷ []) (sym is))

pub read-more : (m : Market) (log : List Rejection) (k : ℕ) (l new : AuditView) (e : Rejection) → k < length log → e ≡ get_or log k e → ReadUpTo m log k l → Finds m (take k log) e true new → ReadUpTo m log (k + 1) new
read-more m log k l new e low is before found = record {
  valid = subst (IsValidLog m) (sym (take-entry log k e low is)) (valid-push m [] (take k log) e before.valid found.0);
  follows = subst (λ first. Follows m first new) (sym (take-entry log k e low is)) found.1;
}

pub bad-line : (m : Market) (log : List Rejection) (k line : ℕ) (l new : AuditView) (e : Rejection) → k < length log → e ≡ get_or log k e → line ≡ k + 1 → ReadUpTo m log k l → Finds m (take k log) e false new → IsBadLine m log line
bad-line m log k line l new e low is line_is before found = record {
  before = take k log;
  entry = e;
  rest = drop (suc k) log;
  parts = sym (take-append-drop k log) ∙ ap (λ rest. take k log ++ rest) (drop-cons log k e low ∙ ap (λ y. y ∷ drop (suc k) log) (sym is));
  counted = omega (arith, line_is, length-take k log, low);
  valid = before.valid;
  invalid = found;
}

-- the whole log is read
pub read-all : (m : Market) (log : List Rejection) (k : ℕ) (l : AuditView) → length log ≤ k → ReadUpTo m log k l → IsValidLog m log × Follows m log l
read-all m log k l all read =
    (subst (IsValidLog m) (take_all k log all) read.valid, subst (λ whole. Follows m whole l) (take_all k log all) read.follows)

held-same : (m : Market) (log : List Rejection) (l : AuditView) → Follows m log l → (s : ℕ) → held m (matching_of m log) s ≡ held m (next_of m l.stands) s
held-same m log l follows s = how_many-agree m (has (matching_of m log) s) (has (next_of m l.stands) s) (λ j. has-agree (matching_of m log) (next_of m l.stands) s j (follows.next j))

pub over-log : (m : Market) (log : List Rejection) (l : AuditView) (s : ℕ) → Follows m log l → IsFirstOver m (next_of m l.stands) s → IsFirstOver m (matching_of m log) s
over-log m log l s follows over = record {
  over = omega (arith, over.over, held-same m log l follows s);
  least = λ t low. omega (arith, over.least t low, held-same m log l follows t);
}

pub settled-log : (m : Market) (log : List Rejection) (l : AuditView) → IsValidLog m log → Follows m log l → WithinSeats m (next_of m l.stands) → IsSettled m log
settled-log m log l valid follows within = record {
  valid = valid;
  within_seats = λ t. omega (arith, within t, held-same m log l follows t);
}

-- a certified log's matching is student-optimal
pub certified-optimal : {E : Type 0} (m : Market) (log : List Rejection) (result : Result Verdict E) → WellFormed m → IfOk result (IsVerdict m log) → IfOk result (λ verdict. verdict ≡ Certified → IsStudentOptimal m (matching_of m log))
certified-optimal m log (Ok verdict) well found = λ certified. settled-optimal m well log (subst (IsVerdict m log) certified found)
certified-optimal m log (Err e) well found = tt

-- where the state follows a log, each student has by the log what they stand at
pub places-by : (m : Market) (log : List Rejection) (l : AuditView) (places : List (Option ℕ)) → Follows m log l → ArePlaces m (next_of m l.stands) places → ArePlaces m (matching_of m log) places
places-by m log l places follows are = are ∙ map-agree (matching_of m log) (next_of m l.stands) (students_of m) (λ i among. sym (follows.next i))

-- a list cut in two ways
abbrev rest_of : {X : Type 0} → List X → List X
rest_of [] = []
rest_of (x ∷ xs) = xs

longer : {X : Type 0} (xs : List X) (x : X) (us ys vs : List X) → xs ++ x ∷ us ≡ ys ++ vs → length xs < length ys → (more : List X) × (ys ≡ xs ++ x ∷ more)
longer xs x us [] vs same low = absurd (omega (arith, low))
longer [] x us (y ∷ ys) vs same low =
    let first : x ≡ y = ap (λ l. get_or l 0 x) same in
    (ys, ap (λ z. z ∷ ys) (sym first))
longer (z ∷ xs) x us (y ∷ ys) vs same low =
    let first : z ≡ y = ap (λ l. get_or l 0 z) same in
    let (more, is) = longer xs x us ys vs (ap rest_of same) (omega (arith, low)) in
    (more, λ t. sym first t ∷ is t)

-- what is in a valid log is valid
within-valid : (m : Market) (log before : List Rejection) (e : Rejection) (rest : List Rejection) → log ≡ before ++ e ∷ rest → IsValidLog m log → IsValidEntry m before e
within-valid m log before e rest parts valid = (valid-rest m [] before (e ∷ rest) (subst (IsValidLog m) parts valid)).0

not-both : (m : Market) (log : List Rejection) (a b : ℕ) (first : IsBadLine m log a) (second : IsBadLine m log b) → length first.before < length second.before → ⊥
not-both m log a b first second low =
    let (more, is) = longer first.before first.entry first.rest second.before (second.entry ∷ second.rest) (sym first.parts ∙ second.parts) low in
    first.invalid (within-valid m second.before first.before first.entry more is second.valid)

one-line : (m : Market) (log : List Rejection) (a b : ℕ) → IsBadLine m log a → IsBadLine m log b → a ≡ b
one-line m log a b first second = elim (cases_order (length first.before) (length second.before)) [
  | inl same ↦ omega (arith, same, first.counted, second.counted)
  | inr (inl below) ↦ absurd (not-both m log a b first second below)
  | inr (inr above) ↦ absurd (not-both m log b a second first above)
]

pub one-school : (m : Market) (a : Matching) (s t : ℕ) → IsFirstOver m a s → IsFirstOver m a t → s ≡ t
one-school m a s t first second = elim (cases_order s t) [
  | inl same ↦ same
  | inr (inl below) ↦ absurd (omega (arith, first.over, second.least s below))
  | inr (inr above) ↦ absurd (omega (arith, second.over, first.least t above))
]

bad-valid : (m : Market) (log : List Rejection) (line : ℕ) → IsBadLine m log line → IsValidLog m log → ⊥
bad-valid m log line bad valid = bad.invalid (within-valid m log bad.before bad.entry bad.rest bad.parts valid)

-- there is one verdict
pub one-verdict : (m : Market) (log : List Rejection) (v w : Verdict) → IsVerdict m log v → IsVerdict m log w → v ≡ w
one-verdict m log (BadEntry a) (BadEntry b) first second = ap BadEntry (one-line m log a b first second)
one-verdict m log (BadEntry a) (Over t) first second = absurd (bad-valid m log a first second.0)
one-verdict m log (BadEntry a) Certified first second = absurd (bad-valid m log a first second.valid)
one-verdict m log (Over s) (BadEntry b) first second = absurd (bad-valid m log b second first.0)
one-verdict m log (Over s) (Over t) first second = ap Over (one-school m (matching_of m log) s t first.1 second.1)
one-verdict m log (Over s) Certified first second = absurd (omega (arith, first.1.over, second.within_seats s))
one-verdict m log Certified (BadEntry b) first second = absurd (bad-valid m log b second first.valid)
one-verdict m log Certified (Over t) first second = absurd (omega (arith, second.1.over, first.within_seats t))
one-verdict m log Certified Certified first second = refl
