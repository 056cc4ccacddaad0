-- The stamps beside keys: what is read of them, and what they are once one is put in, taken out or put last.
use Rattle.std.proofs.Common.{◌≡◌, inl, inr, refl, sym, ap, ◌∙◌, ℕ, suc, nat_eq, Bool, true, false, cond, List, [], ◌∷◌, ◌++◌, length, position, Option, Some, None, arith}
use Rattle.std.specs.Prelude.{is_some, nat_lt}
use Rattle.std.specs.List.{AllByRecursion, IsDistinct, position_or_len}
use Rattle.std.specs.Map.{keys_of, lookup, remove_entry}
use Rattle.std.specs.Option.{option_map}
use Rattle.std.proofs.lemmas.Bool.{cases_Bool, eqb-true, eq-eqb, ne_eqb, false≢true}
use Rattle.std.proofs.lemmas.Bool.Decides.{nat_tests}
use Rattle.std.proofs.lemmas.List.{length-set}
use Rattle.sc_stamps.specs.Stamps.{stamp_at, with_stamp, without_stamp}

-- the position among keys, by the first of them
position-here : (test : ℕ → Bool) (k : ℕ) (ks : List ℕ) → test k ≡ true → position test (k ∷ ks) ≡ Some 0
position-here test k ks here = rw here (grind (arith, nat_tests))

position-next : (test : ℕ → Bool) (k : ℕ) (ks : List ℕ) → test k ≡ false → position test (k ∷ ks) ≡ option_map suc (position test ks)
position-next test k ks other =
    elim (cases_Bool (nat_lt (position_or_len test ks) (length ks))) [
      | inl within ↦ rw within (grind (arith, nat_tests))
      | inr past ↦ rw past (grind (arith, nat_tests))
    ]

-- the stamp of a key
abbrev pub read : {X : Type 0} → List ℕ → ℕ → List (ℕ × X) → ℕ
read stamps q es = stamp_at stamps (position (nat_eq q) (keys_of es))

read-suc : (x : ℕ) (xs : List ℕ) (place : Option ℕ) → stamp_at (x ∷ xs) (option_map suc place) ≡ stamp_at xs place
read-suc x xs None = refl
read-suc x xs (Some k) = refl

read-here : {X : Type 0} (x : ℕ) (xs : List ℕ) (q : ℕ) (e : ℕ × X) (es : List (ℕ × X)) → nat_eq q e.0 ≡ true → read (x ∷ xs) q (e ∷ es) ≡ x
read-here x xs q e es here = ap (stamp_at (x ∷ xs)) (position-here (nat_eq q) e.0 (keys_of es) here)

read-next : {X : Type 0} (x : ℕ) (xs : List ℕ) (q : ℕ) (e : ℕ × X) (es : List (ℕ × X)) → nat_eq q e.0 ≡ false → read (x ∷ xs) q (e ∷ es) ≡ read xs q es
read-next x xs q e es other = ap (stamp_at (x ∷ xs)) (position-next (nat_eq q) e.0 (keys_of es) other) ∙ read-suc x xs (position (nat_eq q) (keys_of es))

-- the stamps with one put in, by the first key
put-suc : (x : ℕ) (xs : List ℕ) (place : Option ℕ) (w : ℕ) → with_stamp (x ∷ xs) (option_map suc place) w ≡ x ∷ with_stamp xs place w
put-suc x xs None w = refl
put-suc x xs (Some k) w = refl

put-here : (x : ℕ) (xs : List ℕ) (test : ℕ → Bool) (k : ℕ) (ks : List ℕ) (w : ℕ) → test k ≡ true → with_stamp (x ∷ xs) (position test (k ∷ ks)) w ≡ w ∷ xs
put-here x xs test k ks w here = ap (λ place. with_stamp (x ∷ xs) place w) (position-here test k ks here)

put-next : (x : ℕ) (xs : List ℕ) (test : ℕ → Bool) (k : ℕ) (ks : List ℕ) (w : ℕ) → test k ≡ false → with_stamp (x ∷ xs) (position test (k ∷ ks)) w ≡ x ∷ with_stamp xs (position test ks) w
put-next x xs test k ks w other = ap (λ place. with_stamp (x ∷ xs) place w) (position-next test k ks other) ∙ put-suc x xs (position test ks) w

-- and with one taken out
out-suc : (x : ℕ) (xs : List ℕ) (place : Option ℕ) → without_stamp (x ∷ xs) (option_map suc place) ≡ x ∷ without_stamp xs place
out-suc x xs None = refl
out-suc x xs (Some k) = refl

out-here : (x : ℕ) (xs : List ℕ) (test : ℕ → Bool) (k : ℕ) (ks : List ℕ) → test k ≡ true → without_stamp (x ∷ xs) (position test (k ∷ ks)) ≡ xs
out-here x xs test k ks here = ap (without_stamp (x ∷ xs)) (position-here test k ks here)

out-next : (x : ℕ) (xs : List ℕ) (test : ℕ → Bool) (k : ℕ) (ks : List ℕ) → test k ≡ false → without_stamp (x ∷ xs) (position test (k ∷ ks)) ≡ x ∷ without_stamp xs (position test ks)
out-next x xs test k ks other = ap (without_stamp (x ∷ xs)) (position-next test k ks other) ∙ out-suc x xs (position test ks)

pub remove-here : {X : Type 0} (test : ℕ → Bool) (e : ℕ × X) (es : List (ℕ × X)) → test e.0 ≡ true → remove_entry test (e ∷ es) ≡ es
remove-here test e es here = rw here refl

pub remove-next : {X : Type 0} (test : ℕ → Bool) (e : ℕ × X) (es : List (ℕ × X)) → test e.0 ≡ false → remove_entry test (e ∷ es) ≡ e ∷ remove_entry test es
remove-next test e es other = rw other refl

-- to put a stamp in keeps how many there are
pub length-put : (stamps : List ℕ) (place : Option ℕ) (w : ℕ) → length (with_stamp stamps place w) ≡ length stamps
length-put stamps None w = refl
length-put stamps (Some k) w = length-set stamps k w

-- to take one out keeps stamps in step with entries that lose theirs
pub length-out : {X : Type 0} (test : ℕ → Bool) (es : List (ℕ × X)) (stamps : List ℕ) → length stamps ≡ length es
    → length (without_stamp stamps (position test (keys_of es))) ≡ length (remove_entry test es)
length-out test [] [] same = refl
length-out test [] (x ∷ xs) same = absurd (omega (arith, same))
length-out test (e ∷ es) [] same = absurd (omega (arith, same))
length-out test (e ∷ es) (x ∷ xs) same =
    elim (cases_Bool (test e.0)) [
      | inl here ↦
          ap length (out-here x xs test e.0 (keys_of es) here) ∙ omega (arith, same) ∙ sym (ap length (remove-here test e es here))
      | inr other ↦
          ap length (out-next x xs test e.0 (keys_of es) other) ∙ ap suc (length-out test es xs (omega (arith, same))) ∙ sym (ap length (remove-next test e es other))
    ]

-- whether a key is among entries, by the first of them
pub known-here : {X : Type 0} (q : ℕ) (e : ℕ × X) (es : List (ℕ × X)) → nat_eq q e.0 ≡ true → is_some (lookup (nat_eq q) (e ∷ es)) ≡ true
known-here q e es here = rw here refl

pub known-next : {X : Type 0} (q : ℕ) (e : ℕ × X) (es : List (ℕ × X)) → nat_eq q e.0 ≡ false → is_some (lookup (nat_eq q) (e ∷ es)) ≡ is_some (lookup (nat_eq q) es)
known-next q e es other = rw other refl

-- a key that is not among them has stamp 0
read-nothing : (place : Option ℕ) → stamp_at [] place ≡ 0
read-nothing None = refl
read-nothing (Some k) = refl

pub read-absent : {X : Type 0} (q : ℕ) (es : List (ℕ × X)) (stamps : List ℕ) → is_some (lookup (nat_eq q) es) ≡ false → read stamps q es ≡ 0
read-absent q es [] absent = read-nothing (position (nat_eq q) (keys_of es))
read-absent q [] (x ∷ xs) absent = refl
read-absent q (e ∷ es) (x ∷ xs) absent =
    elim (cases_Bool (nat_eq q e.0)) [
      | inl here ↦ absurd (false≢true (sym absent ∙ known-here q e es here))
      | inr other ↦ read-next x xs q e es other ∙ read-absent q es xs (sym (known-next q e es other) ∙ absent)
    ]

pub read-known : {X : Type 0} (q : ℕ) (es : List (ℕ × X)) (stamps : List ℕ) → read stamps q es ≡ cond (is_some (lookup (nat_eq q) es)) (read stamps q es) 0
read-known q es stamps =
    elim (cases_Bool (is_some (lookup (nat_eq q) es))) [
      | inl known ↦ sym (λ t. cond (known t) (read stamps q es) 0)
      | inr absent ↦ read-absent q es stamps absent ∙ sym (λ t. cond (absent t) (read stamps q es) 0)
    ]

-- the stamp of a key once another one may have a new stamp
abbrev pub marked : Bool → Bool → ℕ → ℕ → ℕ
marked known same new old = cond known (cond same new old) 0

-- keys at one place are one, and a key apart from the one there is another
same-keys : (i q k : ℕ) → nat_eq i k ≡ true → nat_eq q k ≡ true → nat_eq i q ≡ true
same-keys i q k first second = eq-eqb i q (eqb-true i k first ∙ sym (eqb-true q k second))

pub apart-keys : (i q k : ℕ) → nat_eq i k ≡ true → nat_eq q k ≡ false → nat_eq i q ≡ false
apart-keys i q k first second = ne_eqb i q (λ same. false≢true (sym second ∙ eq-eqb q k (sym same ∙ eqb-true i k first)))

apart-others : (i q k : ℕ) → nat_eq i k ≡ false → nat_eq q k ≡ true → nat_eq i q ≡ false
apart-others i q k first second = ne_eqb i q (λ same. false≢true (sym first ∙ eq-eqb i k (same ∙ eqb-true q k second)))

-- the stamps after one is put in at a key
pub read-put : {X : Type 0} (i q w : ℕ) (es : List (ℕ × X)) (stamps : List ℕ) → length stamps ≡ length es
    → read (with_stamp stamps (position (nat_eq i) (keys_of es)) w) q es ≡ marked (is_some (lookup (nat_eq q) es)) (nat_eq i q) w (read stamps q es)
read-put i q w [] [] same = refl
read-put i q w [] (x ∷ xs) same = absurd (omega (arith, same))
read-put i q w (e ∷ es) [] same = absurd (omega (arith, same))
read-put i q w (e ∷ es) (x ∷ xs) same =
    elim (cases_Bool (nat_eq i e.0)) [
      | inl put ↦
          ap (λ ys. read ys q (e ∷ es)) (put-here x xs (nat_eq i) e.0 (keys_of es) w put)
          ∙ elim (cases_Bool (nat_eq q e.0)) [
            | inl here ↦
                read-here w xs q e es here
                ∙ sym (λ t. marked (known-here q e es here t) (same-keys i q e.0 put here t) w (read (x ∷ xs) q (e ∷ es)))
            | inr other ↦
                read-next w xs q e es other ∙ read-known q es xs
                ∙ sym (λ t. marked (known-next q e es other t) (apart-keys i q e.0 put other t) w (read-next x xs q e es other t))
          ]
      | inr after ↦
          ap (λ ys. read ys q (e ∷ es)) (put-next x xs (nat_eq i) e.0 (keys_of es) w after)
          ∙ elim (cases_Bool (nat_eq q e.0)) [
            | inl here ↦
                read-here x (with_stamp xs (position (nat_eq i) (keys_of es)) w) q e es here
                ∙ sym (λ t. marked (known-here q e es here t) (apart-others i q e.0 after here t) w (read-here x xs q e es here t))
            | inr other ↦
                read-next x (with_stamp xs (position (nat_eq i) (keys_of es)) w) q e es other
                ∙ read-put i q w es xs (omega (arith, same))
                ∙ sym (λ t. marked (known-next q e es other t) (nat_eq i q) w (read-next x xs q e es other t))
          ]
    ]

-- after one is put last, with a key that is new
pub read-push : {X : Type 0} (i q w : ℕ) (v : X) (es : List (ℕ × X)) (stamps : List ℕ) → length stamps ≡ length es → is_some (lookup (nat_eq i) es) ≡ false
    → read (stamps ++ w ∷ []) q (es ++ (i, v) ∷ []) ≡ marked (is_some (lookup (nat_eq q) (es ++ (i, v) ∷ []))) (nat_eq i q) w (read stamps q es)
read-push i q w v [] [] same new =
    elim (cases_Bool (nat_eq q i)) [
      | inl here ↦
          read-here w [] q (i, v) [] here
          ∙ sym (λ t. marked (known-here q (i, v) [] here t) (same-keys i q i (eq-eqb i i refl) here t) w 0)
      | inr other ↦
          read-next w [] q (i, v) [] other
          ∙ sym (λ t. marked (known-next q (i, v) [] other t) (nat_eq i q) w 0)
    ]
read-push i q w v [] (x ∷ xs) same new = absurd (omega (arith, same))
read-push i q w v (e ∷ es) [] same new = absurd (omega (arith, same))
read-push i q w v (e ∷ es) (x ∷ xs) same new =
    elim (cases_Bool (nat_eq i e.0)) [
      | inl there ↦ absurd (false≢true (sym new ∙ known-here i e es there))
      | inr after ↦
          elim (cases_Bool (nat_eq q e.0)) [
            | inl here ↦
                read-here x (xs ++ w ∷ []) q e (es ++ (i, v) ∷ []) here
                ∙ sym (λ t. marked (known-here q e (es ++ (i, v) ∷ []) here t) (apart-others i q e.0 after here t) w (read-here x xs q e es here t))
            | inr other ↦
                read-next x (xs ++ w ∷ []) q e (es ++ (i, v) ∷ []) other
                ∙ read-push i q w v es xs (omega (arith, same)) (sym (known-next i e es after) ∙ new)
                ∙ sym (λ t. marked (known-next q e (es ++ (i, v) ∷ []) other t) (nat_eq i q) w (read-next x xs q e es other t))
          ]
    ]

-- a key is not among keys that differ from it
absent-apart : {X : Type 0} (q k : ℕ) (es : List (ℕ × X)) → nat_eq q k ≡ true → AllByRecursion (λ y. nat_eq k y ≡ false) (keys_of es) → is_some (lookup (nat_eq q) es) ≡ false
absent-apart q k [] same apart = refl
absent-apart q k (e ∷ es) same apart =
    elim (cases_Bool (nat_eq q e.0)) [
      | inl here ↦ absurd (false≢true (sym apart.0 ∙ same-keys k e.0 q (eq-eqb k q (sym (eqb-true q k same))) (eq-eqb e.0 q (sym (eqb-true q e.0 here)))))
      | inr other ↦ known-next q e es other ∙ absent-apart q k es same apart.1
    ]

-- after one is taken out with its key
pub read-out : {X : Type 0} (i q w : ℕ) (es : List (ℕ × X)) (stamps : List ℕ) → length stamps ≡ length es → IsDistinct nat_eq (keys_of es)
    → read (without_stamp stamps (position (nat_eq i) (keys_of es))) q (remove_entry (nat_eq i) es) ≡ marked (is_some (lookup (nat_eq q) (remove_entry (nat_eq i) es))) (nat_eq i q) w (read stamps q es)
unfolding IsDistinct
read-out i q w [] [] same differ = refl
read-out i q w [] (x ∷ xs) same differ = absurd (omega (arith, same))
read-out i q w (e ∷ es) [] same differ = absurd (omega (arith, same))
read-out i q w (e ∷ es) (x ∷ xs) same differ =
    elim (cases_Bool (nat_eq i e.0)) [
      | inl out ↦
          (λ t. read (out-here x xs (nat_eq i) e.0 (keys_of es) out t) q (remove-here (nat_eq i) e es out t))
          ∙ elim (cases_Bool (nat_eq q e.0)) [
            | inl here ↦
                let gone = absent-apart q e.0 es here differ.0 in
                read-absent q es xs gone
                ∙ sym (λ t. marked (gone t) (nat_eq i q) w (read (x ∷ xs) q (e ∷ es)))
            | inr other ↦
                read-known q es xs
                ∙ sym (λ t. marked (is_some (lookup (nat_eq q) es)) (apart-keys i q e.0 out other t) w (read-next x xs q e es other t))
          ]
          ∙ sym (λ t. marked (is_some (lookup (nat_eq q) (remove-here (nat_eq i) e es out t))) (nat_eq i q) w (read (x ∷ xs) q (e ∷ es)))
      | inr after ↦
          (λ t. read (out-next x xs (nat_eq i) e.0 (keys_of es) after t) q (remove-next (nat_eq i) e es after t))
          ∙ elim (cases_Bool (nat_eq q e.0)) [
            | inl here ↦
                read-here x (without_stamp xs (position (nat_eq i) (keys_of es))) q e (remove_entry (nat_eq i) es) here
                ∙ sym (λ t. marked (known-here q e (remove_entry (nat_eq i) es) here t) (apart-others i q e.0 after here t) w (read-here x xs q e es here t))
            | inr other ↦
                read-next x (without_stamp xs (position (nat_eq i) (keys_of es))) q e (remove_entry (nat_eq i) es) other
                ∙ read-out i q w es xs (omega (arith, same)) differ.1
                ∙ sym (λ t. marked (known-next q e (remove_entry (nat_eq i) es) other t) (nat_eq i q) w (read-next x xs q e es other t))
          ]
          ∙ sym (λ t. marked (is_some (lookup (nat_eq q) (remove-next (nat_eq i) e es after t))) (nat_eq i q) w (read (x ∷ xs) q (e ∷ es)))
    ]
