-- Who stands at a school without being kept there: all keys that are kept are ahead.
use Rattle.std.proofs.Common.{◌≡◌, inl, inr, refl, ap, sym, subst, ◌∙◌, ℕ, ◌<◌, nat_eq, Bool, true, false, cond, List, [], length, get_or, map, Option, Some, None, Contains, position, slice_get}
use Rattle.std.specs.List.{list_all}
use Rattle.std.specs.Option.{option_and_then, option_map}
use Rattle.std.proofs.lemmas.Bool.{cases_Bool, cases_eq, cond-true, cond-false, eq-eqb, ne_eqb, false_from_ne_true, false≢true, and_from, and_parts}
use Rattle.std.proofs.lemmas.List.Elements.{All-contains}
use Rattle.std.proofs.lemmas.List.Sums.{AllPass-from_list_all, list_all-from_AllPass}
use Rattle.std.proofs.lemmas.Option.{none-some, same_Some}
use Rattle.sc_papers.specs.Key.{is_ahead, is_before, key_of}
use Rattle.sc_papers.specs.Market.{Market, choices_of, schools_of, students_of}
use Rattle.sc_papers.specs.Matching.{Matching, has}
use Rattle.sc_papers.specs.declared.key.Key.{Key}
use Rattle.sc_papers.proofs.Priority.{before-irrefl}
use Rattle.sc_papers.proofs.Rejections.{has-true, has-some}
use Rattle.sc_audit.specs.AuditView.{AuditView, stand_of, next_of, keys_at, is_past, past_at, waiting_at, waiting_rank, KeepsBest, KeepsBestAtEach}
use Rattle.sc_audit.specs.declared.waiting.Waiting.{Waiting}
use Rattle.sc_audit.proofs.Keeping.{keys-hold, keys-own}
use Rattle.sc_audit.proofs.Tables.{all-from, keys-read, read-mapped, stander-among}

-- of a student at a school that keeps the best, all keys are ahead where it isn't kept, and only there
past-kept : (m : Market) (next : Matching) (kept : ℕ → Bool) (s : ℕ) (keys : List Key) → KeepsBest m next kept s keys → (i : ℕ) → Contains (students_of m) i → next i ≡ Some s → kept i ≡ true → list_all (λ key. is_before key (key_of m i s)) keys ≡ false
past-kept m next kept s keys best i among at held =
    false_from_ne_true (list_all (λ key. is_before key (key_of m i s)) keys) (λ all.
    let own : Contains keys (key_of m i s) = keys-hold i best.exact_keys among (and_from (has next s i) (kept i) (has-some next s i at) held) in
    false≢true (sym (before-irrefl (key_of m i s)) ∙ All-contains (λ key. is_before key (key_of m i s) ≡ true) keys (key_of m i s) (AllPass-from_list_all (λ key. is_before key (key_of m i s)) keys all) own))

past-aside : (m : Market) (next : Matching) (kept : ℕ → Bool) (s : ℕ) (keys : List Key) → KeepsBest m next kept s keys → (i : ℕ) → next i ≡ Some s → kept i ≡ false → list_all (λ key. is_before key (key_of m i s)) keys ≡ true
unfolding is_ahead
past-aside m next kept s keys best i at waits =
    list_all-from_AllPass (λ key. is_before key (key_of m i s)) keys (all-from (λ key. is_before key (key_of m i s) ≡ true) keys (λ key among.
    let own = keys-own key best.exact_keys among in
    let parts = and_parts (has next s key.student) (kept key.student) own.1 in
    let ahead : is_before (key_of m key.student s) (key_of m i s) ≡ true = best.ahead i key.student at waits (has-true next s key.student parts.0) parts.1 in
    subst (λ k. is_before k (key_of m i s) ≡ true) (sym own.2) ahead))

module _ (m : Market) (l : AuditView) (keeps_best : KeepsBestAtEach m l) (i s : ℕ) (next : next_of m l.stands i ≡ Some s) where
  pub kept-past : Contains (students_of m) i → keeps_best.is_kept i ≡ true → is_past m l.kept i s ≡ false
  unfolding is_past
  kept-past among held = past-kept m (next_of m l.stands) keeps_best.is_kept s (keys_at m l.kept s) (keeps_best.each s) i among next held

  pub aside-past : keeps_best.is_kept i ≡ false → is_past m l.kept i s ≡ true
  unfolding is_past
  aside-past waits = past-aside m (next_of m l.stands) keeps_best.is_kept s (keys_at m l.kept s) (keeps_best.each s) i next waits

  pub past-waits : Contains (students_of m) i → is_past m l.kept i s ≡ true → keeps_best.is_kept i ≡ false
  past-waits among past = elim (cases_Bool (keeps_best.is_kept i)) [
    | inl held ↦ absurd (false≢true (sym (kept-past among held) ∙ past))
    | inr waits ↦ waits
  ]

-- the rank at which a student stands
pub record Stands (m : Market) (l : AuditView) (i s : ℕ) : Type 0 where
  pub rank : ℕ
  pub is : stand_of m l.stands i ≡ Some rank
  pub at : slice_get (choices_of m i) rank ≡ Some s

pub stands-from : (m : Market) (l : AuditView) (i s : ℕ) → next_of m l.stands i ≡ Some s → Stands m l i s
stands-from m l i s next = go (stand_of m l.stands i) refl next
  where
    go : (o : Option ℕ) → stand_of m l.stands i ≡ o → option_and_then (slice_get (choices_of m i)) o ≡ Some s → Stands m l i s
    go None is none = absurd (none-some s none)
    go (Some rank) is at = record { rank = rank; is = is; at = at }

-- a student who stands at a school behind all who are kept there
pub record Waits (m : Market) (l : AuditView) (i s rank : ℕ) : Type 0 where
  pub is : stand_of m l.stands i ≡ Some rank
  pub at : slice_get (choices_of m i) rank ≡ Some s
  pub past : is_past m l.kept i s ≡ true

module _ {m : Market} {l : AuditView} {i s rank : ℕ} (waits : Waits m l i s rank) where
  pub waits-next : next_of m l.stands i ≡ Some s
  waits-next = ap (option_and_then (slice_get (choices_of m i))) waits.is ∙ waits.at

  pub waits-among : Contains (students_of m) i
  waits-among = stander-among m l.stands i rank waits.is

  pub waits-aside : (keeps_best : KeepsBestAtEach m l) → keeps_best.is_kept i ≡ false
  waits-aside keeps_best = past-waits m l keeps_best i s waits-next waits-among waits.past

-- what is found at a rank
pub past-made : (m : Market) (kept : List (List Key)) (i rank s : ℕ) → slice_get (choices_of m i) rank ≡ Some s → past_at m kept i rank ≡ cond (is_past m kept i s) (Some (record { rank = rank; school = s })) None
past-made m kept i rank s at = ap (option_and_then (λ t. cond (is_past m kept i t) (Some (record { rank = rank; school = t })) None)) at

pub past-none : (m : Market) (kept : List (List Key)) (i rank : ℕ) → slice_get (choices_of m i) rank ≡ None → past_at m kept i rank ≡ None
past-none m kept i rank none = ap (option_and_then (λ t. cond (is_past m kept i t) (Some (record { rank = rank; school = t })) None)) none

pub waiting-stands : (m : Market) (l : AuditView) (i rank : ℕ) → stand_of m l.stands i ≡ Some rank → waiting_at m l i ≡ past_at m l.kept i rank
unfolding waiting_at
waiting-stands m l i rank is = ap (option_and_then (past_at m l.kept i)) is

pub waiting-nowhere : (m : Market) (l : AuditView) (i : ℕ) → stand_of m l.stands i ≡ None → waiting_at m l i ≡ None
unfolding waiting_at
waiting-nowhere m l i is = ap (option_and_then (past_at m l.kept i)) is

pub waits-made : (m : Market) (l : AuditView) (i s rank : ℕ) → Waits m l i s rank → waiting_at m l i ≡ Some (record { rank = rank; school = s })
waits-made m l i s rank waits = waiting-stands m l i rank waits.is ∙ past-made m l.kept i rank s waits.at ∙ cond-true (is_past m l.kept i s) (Some (record { rank = rank; school = s })) None waits.past

one-waiting : (a b : Waiting) → Some a ≡ Some b → a ≡ b
one-waiting a b same = ap (λ o. or_else o) same
  where
    or_else : Option Waiting → Waiting
    or_else None = a
    or_else (Some x) = x

pub waits-from : (m : Market) (l : AuditView) (i : ℕ) (waiting : Waiting) → waiting_at m l i ≡ Some waiting → Waits m l i waiting.school waiting.rank
unfolding waiting_at
waits-from m l i waiting found = go (stand_of m l.stands i) refl found
  where
    last : (rank s : ℕ) → stand_of m l.stands i ≡ Some rank → slice_get (choices_of m i) rank ≡ Some s → (b : Bool) → is_past m l.kept i s ≡ b → cond b (Some (record { rank = rank; school = s })) None ≡ Some waiting → Waits m l i waiting.school waiting.rank
    last rank s is at false past none = absurd (none-some waiting none)
    last rank s is at true past same =
        subst (λ (w : Waiting). Waits m l i w.school w.rank) (one-waiting (record { rank = rank; school = s }) waiting same) (record { is = is; at = at; past = past })

    choice : (rank : ℕ) → stand_of m l.stands i ≡ Some rank → (o : Option ℕ) → slice_get (choices_of m i) rank ≡ o → option_and_then (λ s. cond (is_past m l.kept i s) (Some (record { rank = rank; school = s })) None) o ≡ Some waiting → Waits m l i waiting.school waiting.rank
    choice rank is None at none = absurd (none-some waiting none)
    choice rank is (Some s) at there = last rank s is at (is_past m l.kept i s) refl there

    go : (o : Option ℕ) → stand_of m l.stands i ≡ o → option_and_then (past_at m l.kept i) o ≡ Some waiting → Waits m l i waiting.school waiting.rank
    go None is none = absurd (none-some waiting none)
    go (Some rank) is there = choice rank is (slice_get (choices_of m i) rank) refl there

-- at the school of an entry
pub waits-at : (m : Market) (l : AuditView) (i s rank : ℕ) → waiting_rank (waiting_at m l i) s ≡ Some rank → Waits m l i s rank
waits-at m l i s rank found = go (waiting_at m l i) refl found
  where
    go : (o : Option Waiting) → waiting_at m l i ≡ o → waiting_rank o s ≡ Some rank → Waits m l i s rank
    go None is none = absurd (none-some rank none)
    go (Some waiting) is there = elim (cases_eq waiting.school s) [
      | inl same ↦
          let ranked : waiting.rank ≡ rank = same_Some waiting.rank rank (sym (cond-true (nat_eq waiting.school s) (Some waiting.rank) None (eq-eqb waiting.school s same)) ∙ there) in
          subst (λ t. Waits m l i t rank) same (subst (Waits m l i waiting.school) ranked (waits-from m l i waiting is))
      | inr apart ↦ absurd (none-some rank (sym (cond-false (nat_eq waiting.school s) (Some waiting.rank) None (ne_eqb waiting.school s apart)) ∙ there))
    ]

pub waits-not : (m : Market) (l : AuditView) (i s rank : ℕ) → waiting_rank (waiting_at m l i) s ≡ None → Waits m l i s rank → ⊥
waits-not m l i s rank none waits =
    none-some rank (sym none ∙ ap (λ o. waiting_rank o s) (waits-made m l i s rank waits) ∙ cond-true (nat_eq s s) (Some rank) None (eq-eqb s s refl))

-- the school at which a student stands without being kept
abbrev pub waiting_school : Market → AuditView → ℕ → Option ℕ
waiting_school m l i = option_map (λ (waiting : Waiting). waiting.school) (waiting_at m l i)

-- at any school
pub waits-school : (m : Market) (l : AuditView) (i s : ℕ) → waiting_school m l i ≡ Some s → (rank : ℕ) × Waits m l i s rank
waits-school m l i s found = go (waiting_at m l i) refl found
  where
    go : (o : Option Waiting) → waiting_at m l i ≡ o → option_map (λ (waiting : Waiting). waiting.school) o ≡ Some s → (rank : ℕ) × Waits m l i s rank
    go None is none = absurd (none-some s none)
    go (Some waiting) is there = (waiting.rank, subst (λ t. Waits m l i t waiting.rank) (same_Some waiting.school s there) (waits-from m l i waiting is))

-- the test of a school's keys, as the papers see it
pub past-read : {X : Type 0} (f : X → List Key) (m : Market) (xs : List X) (i s at : ℕ) (now : X) (key : Key) (result : Bool) → position (nat_eq s) (schools_of m) ≡ Some at → at < length (map f xs) → now ≡ get_or xs at now → key ≡ key_of m i s → result ≡ list_all (λ kept. is_before kept key) (f now) → result ≡ is_past m (map f xs) i s
unfolding is_past
past-read f m xs i s at now key result found low is key_is tested =
    tested ∙ ap (λ k. list_all (λ kept. is_before kept k) (f now)) key_is
    ∙ ap (list_all (λ kept. is_before kept (key_of m i s))) (sym (keys-read m (map f xs) s at found ∙ read-mapped f xs at now [] low is))
