-- Of the keys of a school, as many as it has seats, the best ones, are those of the students whom it holds.
use Rattle.std.proofs.Common.{◌≡◌, ◌⊎◌, inl, inr, refl, ap, sym, subst, ◌∙◌, ℕ, ◌≤◌, ◌<◌, ◌+◌, ◌==◌, Bool, true, false, not, ◌&&◌, List, [], ◌∷◌, ◌++◌, length, Some, Contains, append_assoc, arith}
use Rattle.std.proofs.lemmas.Bool.{cases_Bool, cases_eq, and_parts, and_from, false≢true, ne_eqb, eq-eqb}
use Rattle.std.proofs.lemmas.List.Elements.{All-contains, Contains-append_left, Contains-append_right, Contains-append_cases, Contains-push_cases}
use Rattle.sc_papers.specs.Market.{Market, seats_of, students_of}
use Rattle.sc_papers.specs.Key.{is_ahead, is_before, key_of}
use Rattle.sc_papers.specs.WellFormed.{WellFormed}
use Rattle.sc_papers.specs.Matching.{how_many, has}
use Rattle.sc_papers.specs.Log.{next_choice, matching_of}
use Rattle.sc_papers.specs.Chain.{held_by_others, InChain, PutsOut}
use Rattle.sc_papers.specs.declared.rejection.Rejection.{Rejection}
use Rattle.sc_papers.specs.declared.key.Key.{Key}
use Rattle.sc_papers.proofs.Priority.{before-trans, before-irrefl, before-asymm}
use Rattle.sc_papers.proofs.Counting.{contains-cons, contains-head, contains-tail}
use Rattle.sc_papers.proofs.Students.{how_many-le, how_many-none}
use Rattle.sc_papers.proofs.Chain.{how_many-split}
use Rattle.sc_papers.proofs.Validity.{next-among}
use Rattle.sc_seats.specs.Roll.{IsAscending}
use Rattle.sc_ledgers.specs.Ledger.{IsApart, StaysFullOfOthers, Tells}
use Rattle.sc_ledgers.proofs.Others.{is_other, other_stands}

-- those who pass a test and have one of some keys are no more than these keys
pub at_most : (m : Market) → WellFormed m → (keys : List Key) (p : ℕ → Bool) → ((j : ℕ) → p j ≡ true → Contains (students_of m) j) → ((j : ℕ) → p j ≡ true → (key : Key) × Contains keys key × (key.student ≡ j)) → how_many m p ≤ length keys
at_most m well [] p among has_key = omega (arith, how_many-none m p (λ j here. none j (cases_Bool (p j))))
  where
    none : (j : ℕ) → (p j ≡ true) ⊎ (p j ≡ false) → p j ≡ false
    none j (inr fails) = fails
    none j (inl passes) = absurd (omega (arith, (has_key j passes).1.1))
at_most m well (key ∷ keys) p among has_key =
    let rest : ℕ → Bool = λ j. p j && not (j == key.student) in
    let fewer : how_many m rest ≤ length keys = at_most m well keys rest (λ j passes. among j (and_parts (p j) (not (j == key.student)) passes).0) (λ j passes.
    let parts = and_parts (p j) (not (j == key.student)) passes in
    let found = has_key j parts.0 in
    elim (contains-cons key keys found.0 found.1) [
      | inl same ↦ absurd (false≢true (sym (ap not (eq-eqb j key.student (sym found.2 ∙ ap (λ k. k.student) (sym same)))) ∙ parts.1))
      | inr later ↦ (found.0, later, found.2)
    ]) in
    elim (cases_Bool (p key.student)) [
      | inl passes ↦ omega (arith, how_many-split m well p key.student (among key.student passes) passes, fewer)
      | inr fails ↦ omega (arith, fewer, how_many-le m p rest (λ j passes. and_from (p j) (not (j == key.student)) passes (ap not (ne_eqb j key.student (λ same. false≢true (sym fails ∙ ap p (sym same) ∙ passes))))))
    ]

-- keys of different students who pass a test are no more than these students
pub at_least : (m : Market) → WellFormed m → (keys : List Key) (p : ℕ → Bool) → IsApart keys → ((key : Key) → Contains keys key → (p key.student ≡ true) × Contains (students_of m) key.student) → length keys ≤ how_many m p
at_least m well [] p apart passes = omega arith
at_least m well (key ∷ keys) p apart passes =
    let first = passes key (contains-head key keys) in
    let rest : ℕ → Bool = λ j. p j && not (j == key.student) in
    let fewer : length keys ≤ how_many m rest = at_least m well keys rest apart.1 (λ other later.
    let there = passes other (contains-tail key keys other later) in
    (and_from (p other.student) (not (other.student == key.student)) there.0 (ap not (ne_eqb other.student key.student (apart.0 other later))), there.1)) in
    omega (arith, how_many-split m well p key.student first.1 first.0, fewer)

-- the keys before one in an ascending list are ahead of it, and it of those behind
front_ahead : (front : List Key) (key : Key) (rest : List Key) → IsAscending (front ++ key ∷ rest) → (x : Key) → Contains front x → is_before x key ≡ true
front_ahead [] key rest up x here = absurd (omega (arith, here.1))
front_ahead (first ∷ front) key rest up x here = elim (contains-cons first front x here) [
  | inl same ↦ ap (λ k. is_before k key) (sym same) ∙ All-contains (λ later. is_before first later ≡ true) (front ++ key ∷ rest) key up.0 (Contains-append_right front (key ∷ rest) key (contains-head key rest))
  | inr later ↦ front_ahead front key rest up.1 x later
]

rest_behind : (front : List Key) (key : Key) (rest : List Key) → IsAscending (front ++ key ∷ rest) → (x : Key) → Contains rest x → is_before key x ≡ true
rest_behind [] key rest up x here = All-contains (λ later. is_before key later ≡ true) rest x up.0 here
rest_behind (first ∷ front) key rest up x here = rest_behind front key rest up.1 x here

-- a list parted at a member
split-at : (xs : List Key) (x : Key) → Contains xs x → (front : List Key) × (rest : List Key) × (xs ≡ front ++ x ∷ rest) × (length front < length xs)
split-at [] x here = absurd (omega (arith, here.1))
split-at (y ∷ xs) x here = elim (contains-cons y xs x here) [
  | inl same ↦ ([], xs, ap (λ k. k ∷ xs) same, omega arith)
  | inr later ↦
      let parts = split-at xs x later in
      (y ∷ parts.0, parts.1, ap (λ l. y ∷ l) parts.2, omega (arith, parts.3))
]

-- a key that is ahead of one in an ascending list stands before it
ahead_in_front : (front : List Key) (key : Key) (rest : List Key) → IsAscending (front ++ key ∷ rest) → (x : Key) → Contains (front ++ key ∷ rest) x → is_before x key ≡ true → Contains front x
ahead_in_front front key rest up x here ahead = elim (Contains-append_cases front (key ∷ rest) x here) [
  | inl before ↦ before
  | inr there ↦ elim (contains-cons key rest x there) [
    | inl same ↦ absurd (false≢true (sym (before-irrefl key) ∙ ap (λ k. is_before k key) same ∙ ahead))
    | inr later ↦ absurd (false≢true (sym (before-asymm key x (rest_behind front key rest up x later)) ∙ ahead))
  ]
]

-- ascending keys of one school are of different students
pub apart_from_own : (m : Market) (s : ℕ) (keys : List Key) → IsAscending keys → ((key : Key) → Contains keys key → key ≡ key_of m key.student s) → IsApart keys
apart_from_own m s [] up own = tt
apart_from_own m s (key ∷ keys) up own = (
  λ other later same.
      let alike : other ≡ key = own other (contains-tail key keys other later) ∙ ap (λ j. key_of m j s) same ∙ sym (own key (contains-head key keys)) in
      false≢true (sym (before-irrefl key) ∙ ap (is_before key) (sym alike) ∙ All-contains (λ later'. is_before key later' ≡ true) keys other up.0 later),
  apart_from_own m s keys up.1 (λ other later. own other (contains-tail key keys other later)),
)

-- the first of some keys of different students
apart-front : (first rest : List Key) → IsApart (first ++ rest) → IsApart first
apart-front [] rest apart = tt
apart-front (x ∷ first) rest apart = ((λ other here. apart.0 other (Contains-append_left first rest other here)), apart-front first rest apart.1)

length_push : (front : List Key) (key : Key) → length (front ++ key ∷ []) ≡ 1 + length front
length_push [] key = refl
length_push (x ∷ front) key = omega (arith, length_push front key)

apart-push : (first : List Key) (k : Key) → IsApart first → ((x : Key) → Contains first x → x.student ≡ k.student → ⊥) → IsApart (first ++ k ∷ [])
apart-push [] k apart others = ((λ other here. absurd (omega (arith, here.1))), tt)
apart-push (x ∷ first) k apart others = (
  λ other here same. elim (Contains-push_cases first k other here) [
    | inl before ↦ apart.0 other before same
    | inr it ↦ others x (contains-head x first) (sym same ∙ ap (λ key. key.student) (sym it))
  ],
  apart-push first k apart.1 (λ y here. others y (contains-tail x first y here)),
)

-- what is given of the keys of a school in the course of a chain
pub record Given (m : Market) (log : List Rejection) (hand s : ℕ) (keys : List Key) : Type 0 where
  pub well : WellFormed m
  pub chain : InChain m log hand
  pub stays : StaysFullOfOthers m log hand
  pub tells : Tells m log hand s keys
  pub up : IsAscending keys

-- whoever stands there has one of the keys
has_key : (m : Market) (log : List Rejection) (hand s : ℕ) (keys : List Key) → Tells m log hand s keys → (j : ℕ) → (has (matching_of m log) s j && not (j == hand)) ≡ true → Contains keys (key_of m j s)
has_key m log hand s keys tells j other =
    let stands = other_stands m log hand s j other in
    tells.standing j stands.0 stands.1

-- a student before whose key there are fewer keys than seats stands at the school
pub front-stands : (m : Market) (log : List Rejection) (hand s : ℕ) (front : List Key) (key : Key) (rest : List Key) → Given m log hand s (front ++ key ∷ rest) → length front < seats_of m s → next_choice m log key.student ≡ Some s
unfolding is_ahead key_of
front-stands m log hand s front key rest given few =
    let keys : List Key = front ++ key ∷ rest in
    let here : Contains keys key = Contains-append_right front (key ∷ rest) key (contains-head key rest) in
    elim (given.tells.asked key here) [
      | inl stands ↦ stands
      | inr rejected ↦
          let rival : ℕ → Bool = λ j. (has (matching_of m log) s j && not (j == hand)) && is_ahead m s j key.student in
          let most : how_many m rival ≤ length front = at_most m given.well front rival
          (λ j passes. next-among m log j s (other_stands m log hand s j (and_parts (has (matching_of m log) s j && not (j == hand)) (is_ahead m s j key.student) passes).0).0)
          (λ j passes.
          let parts = and_parts (has (matching_of m log) s j && not (j == hand)) (is_ahead m s j key.student) passes in
          (key_of m j s, ahead_in_front front key rest given.up (key_of m j s) (has_key m log hand s keys given.tells j parts.0) (ap (is_before (key_of m j s)) (given.tells.own key here) ∙ parts.1), refl)) in
          absurd (omega (arith, most, few, given.stays.full key.student s rejected))
    ]

-- where there are fewer keys than seats, the school has room
pub has_room : (m : Market) (log : List Rejection) (hand s : ℕ) (keys : List Key) → Given m log hand s keys → length keys < seats_of m s → held_by_others m log hand s < seats_of m s
unfolding key_of
has_room m log hand s keys given few =
    let other : ℕ → Bool = λ j. has (matching_of m log) s j && not (j == hand) in
    omega (
      arith,
      few,
      at_most m given.well keys other (λ j passes. next-among m log j s (other_stands m log hand s j passes).0)
          (λ j passes. (key_of m j s, has_key m log hand s keys given.tells j passes, refl)),
    )

-- a school of which as many keys as it has seats stand up to one
pub record Filled (m : Market) (log : List Rejection) (hand s : ℕ) (front : List Key) (key : Key) (rest : List Key) : Type 0 where
  pub given : Given m log hand s (front ++ key ∷ rest)
  pub seats : seats_of m s ≡ 1 + length front

-- each of the first keys is of a student who stands there and is not in hand
first-stands : (m : Market) (log : List Rejection) (hand s : ℕ) (front : List Key) (key : Key) (rest : List Key) → Filled m log hand s front key rest → (x : Key) → Contains (front ++ key ∷ []) x → next_choice m log x.student ≡ Some s
first-stands m log hand s front key rest filled x here = elim (Contains-append_cases front (key ∷ []) x here) [
  | inl before ↦
      let parts = split-at front x before in
      let same : front ++ key ∷ rest ≡ parts.0 ++ x ∷ (parts.1 ++ key ∷ rest) = ap (λ f. f ++ key ∷ rest) parts.2 ∙ append_assoc parts.0 (x ∷ parts.1) (key ∷ rest) in
      front-stands m log hand s parts.0 x (parts.1 ++ key ∷ rest) (subst (Given m log hand s) same filled.given) (omega (arith, filled.seats, parts.3))
  | inr there ↦ elim (contains-cons key [] x there) [
    | inl same ↦ ap (λ k. next_choice m log k.student) (sym same) ∙ front-stands m log hand s front key rest filled.given (omega (arith, filled.seats))
    | inr none ↦ absurd (omega (arith, none.1))
  ]
]

-- some keys of the school, ascending, of students who stand there and are not in hand, are no more than its seats
stand_within : (m : Market) (log : List Rejection) (hand s : ℕ) (keys some : List Key) → Given m log hand s keys → IsApart some → ((x : Key) → Contains some x → (next_choice m log x.student ≡ Some s) × (x.student ≡ hand → ⊥)) → (length some ≤ held_by_others m log hand s) × (length some ≤ seats_of m s)
stand_within m log hand s keys some given apart stand =
    let few : length some ≤ held_by_others m log hand s = at_least m given.well some (λ j. has (matching_of m log) s j && not (j == hand)) apart
    (λ x here.
    let stands = stand x here in
    (is_other m log hand s x.student stands.0 stands.1, next-among m log x.student s stands.0)) in
    (few, omega (arith, few, given.chain.others_within s))

-- the school is full of others
pub is_full : (m : Market) (log : List Rejection) (hand s : ℕ) (front : List Key) (key : Key) (rest : List Key) → Filled m log hand s front key rest → seats_of m s ≤ held_by_others m log hand s
is_full m log hand s front key rest filled =
    let keys : List Key = front ++ key ∷ rest in
    let first : List Key = front ++ key ∷ [] in
    let inside : (x : Key) → Contains first x → Contains keys x = λ x here. subst (λ l. Contains l x) (append_assoc front (key ∷ []) rest) (Contains-append_left first rest x here) in
    let within = stand_within m log hand s keys first filled.given
    (apart-front first rest (subst IsApart (sym (append_assoc front (key ∷ []) rest)) (apart_from_own m s keys filled.given.up filled.given.tells.own)))
    (λ x here. (first-stands m log hand s front key rest filled x here, filled.given.tells.apart x (inside x here))) in
    omega (arith, within.0, filled.seats, length_push front key)

-- a key of the first is ahead of each of the rest
first_ahead : (front : List Key) (key : Key) (rest : List Key) → IsAscending (front ++ key ∷ rest) → (x k : Key) → Contains (front ++ key ∷ []) x → Contains rest k → is_before x k ≡ true
first_ahead front key rest up x k here there = elim (Contains-push_cases front key x here) [
  | inl before ↦ before-trans x key k (front_ahead front key rest up x before) (rest_behind front key rest up k there)
  | inr same ↦ ap (λ y. is_before y k) (sym same) ∙ rest_behind front key rest up k there
]

-- whoever stands there and is not in hand has one of the first keys
stands_first : (m : Market) (log : List Rejection) (hand s : ℕ) (front : List Key) (key : Key) (rest : List Key) → Filled m log hand s front key rest → (j : ℕ) → next_choice m log j ≡ Some s → (j ≡ hand → ⊥) → Contains (front ++ key ∷ []) (key_of m j s)
unfolding key_of
stands_first m log hand s front key rest filled j next other =
    let keys : List Key = front ++ key ∷ rest in
    let first : List Key = front ++ key ∷ [] in
    let own_key : Key = key_of m j s in
    let given = filled.given in
    let here : Contains (first ++ rest) own_key = subst (λ l. Contains l own_key) (sym (append_assoc front (key ∷ []) rest)) (given.tells.standing j next other) in
    let inside : (x : Key) → Contains first x → Contains keys x = λ x at. subst (λ l. Contains l x) (append_assoc front (key ∷ []) rest) (Contains-append_left first rest x at) in
    elim (Contains-append_cases first rest own_key here) [
      | inl there ↦ there
      | inr behind ↦
          let apart : IsApart (first ++ own_key ∷ []) = apart-push first own_key
          (apart-front first rest (subst IsApart (sym (append_assoc front (key ∷ []) rest)) (apart_from_own m s keys given.up given.tells.own)))
          (λ x at same. false≢true (sym (before-irrefl own_key) ∙ ap (λ y. is_before y own_key) (sym (given.tells.own x (inside x at) ∙ ap (λ i. key_of m i s) same)) ∙ first_ahead front key rest given.up x own_key at behind)) in
          let within = stand_within m log hand s keys (first ++ own_key ∷ []) given apart (λ x at. elim (Contains-push_cases first own_key x at) [
            | inl before ↦ (first-stands m log hand s front key rest filled x before, given.tells.apart x (inside x before))
            | inr same ↦ (ap (λ k. next_choice m log k.student) (sym same) ∙ next, λ is. other (ap (λ k. k.student) same ∙ is))
          ]) in
          absurd (omega (arith, within.1, filled.seats, length_push first own_key, length_push front key))
    ]

same_student : (m : Market) (s j : ℕ) (key : Key) → key ≡ key_of m j s → j ≡ key.student
unfolding key_of
same_student m s j key same = sym (ap (λ k. k.student) same)

-- the one in hand, who is ahead of the last of the first keys, puts that student out
pub puts_out_the_last : (m : Market) (log : List Rejection) (hand s : ℕ) (front : List Key) (key : Key) (rest : List Key) → Filled m log hand s front key rest → next_choice m log hand ≡ Some s → is_before (key_of m hand s) key ≡ true → PutsOut m log hand s key.student
unfolding is_ahead
puts_out_the_last m log hand s front key rest filled proposes ahead =
    let keys : List Key = front ++ key ∷ rest in
    let is_own : key ≡ key_of m key.student s = filled.given.tells.own key (Contains-append_right front (key ∷ rest) key (contains-head key rest)) in
    record {
      proposes = proposes;
      full = is_full m log hand s front key rest filled;
      there = first-stands m log hand s front key rest filled key (Contains-append_right front (key ∷ []) key (contains-head key []));
      last = λ j next other. elim (cases_eq j hand) [
        | inl is ↦ ap (λ i. is_before (key_of m i s) (key_of m key.student s)) is ∙ ap (is_before (key_of m hand s)) (sym is_own) ∙ ahead
        | inr apart ↦ elim (Contains-push_cases front key (key_of m j s) (stands_first m log hand s front key rest filled j next apart)) [
          | inl before ↦ ap (is_before (key_of m j s)) (sym is_own) ∙ front_ahead front key rest filled.given.up (key_of m j s) before
          | inr same ↦ absurd (other (same_student m s j key same))
        ]
      ];
    }

-- the one in hand, behind the last of the first keys, is put out
pub puts_out_the_hand : (m : Market) (log : List Rejection) (hand s : ℕ) (front : List Key) (key : Key) (rest : List Key) → Filled m log hand s front key rest → next_choice m log hand ≡ Some s → is_before key (key_of m hand s) ≡ true → PutsOut m log hand s hand
unfolding is_ahead
puts_out_the_hand m log hand s front key rest filled proposes behind = record {
  proposes = proposes;
  full = is_full m log hand s front key rest filled;
  there = proposes;
  last = λ j next other. elim (Contains-push_cases front key (key_of m j s) (stands_first m log hand s front key rest filled j next other)) [
    | inl before ↦ before-trans (key_of m j s) key (key_of m hand s) (front_ahead front key rest filled.given.up (key_of m j s) before) behind
    | inr same ↦ ap (λ k. is_before k (key_of m hand s)) (sym same) ∙ behind
  ];
}
