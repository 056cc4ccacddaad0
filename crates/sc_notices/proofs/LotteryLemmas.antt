-- Ranks in the lottery.
use Rattle.std.proofs.Common.{◌≡◌, ◌⊎◌, refl, sym, ◌∙◌, ap, subst, inl, inr, ℕ, zero, suc, ◌+◌, ◌<◌, ◌≤◌, ◌==◌, nat_eq, Bool, true, false, cond, List, [], ◌∷◌, ◌++◌, length, get_or, map, take, count_by, Option, None, Some, position, add-one, arith}
use Rattle.std.specs.List.{IsDistinct}
use Rattle.std.specs.Prelude.{nat_lt}
use Rattle.std.proofs.lemmas.Bool.{cases_Bool, cases_lt, cond-false, cond-true, eq-eqb, false≢true}
use Rattle.std.proofs.Math.Seq.{take-suc}
use Rattle.std.proofs.lemmas.List.{get_or-map, get_or_default, length-map, map-append}
use Rattle.std.proofs.lemmas.List.Elements.{All-from_recursion}
use Rattle.std.proofs.lemmas.List.Sorted.{length_permutation, sum_by-IsPermutation}
use Rattle.std.proofs.lemmas.Map.Entries.{length-keys_of}
use Rattle.std.proofs.lemmas.Map.Keys.{IsDistinct-head, IsDistinct-tail}
use Rattle.sc_papers.specs.Key.{is_before, key_of}
use Rattle.std.proofs.lemmas.Option.{none-some}
use Rattle.sc_papers.specs.Draw.{draw}
use Rattle.sc_papers.specs.Market.{Market, schools_of, seats_of, students_of}
use Rattle.sc_papers.specs.Matching.{Matching, has, held, how_many}
use Rattle.sc_papers.specs.WellFormed.{WellFormed}
use Rattle.sc_papers.specs.declared.key.Key.{Key}
use Rattle.sc_papers.proofs.Counting.{count-cons_fails, count-cons_passes}
use Rattle.sc_papers.proofs.Positions.{position-at}
use Rattle.sc_papers.proofs.Priority.{before-asymm, before-irrefl}
use Rattle.sc_seats.specs.Roll.{IsAscending, in_order}
use Rattle.sc_seats.proofs.Order.{ascending-places}
use Rattle.sc_seats.proofs.Ordering.{Differ, Differ-cons, ascending-in_order, in_order-permutes}
use Rattle.sc_tallies.specs.LastKey.{keys_among, last_key}
use Rattle.sc_tallies.proofs.LastKeys.{keyed, last-contained}
use Rattle.sc_reasons.specs.Cutoff.{cutoff, cutoff_by, cutoff_row, rows_in_order}
use Rattle.sc_reasons.specs.declared.cutoff.Cutoff.{Cutoff}
use Rattle.sc_reasons.specs.declared.cutoff.Cutoff.TheVariants.{Closed, Free, Full}
use Rattle.sc_reasons.specs.declared.cutoff.CutoffRow.{CutoffRow}
use Rattle.sc_reasons.proofs.CutoffLemmas.{cutoff-read}
use Rattle.sc_notices.specs.Lottery.{cutoff_rank, lottery_rank, ticket_of}
use Rattle.sc_notices.specs.Tickets.{IsLotteryOf}
use Rattle.sc_notices.specs.declared.lottery.Lottery.{Lottery}

-- where the first pass and the others fail, so many pass
pub count-split : (p : Key → Bool) (keys : List Key) (n : ℕ) → n ≤ length keys → ((k : ℕ) (d : Key) → k < n → p (get_or keys k d) ≡ true)
    → ((k : ℕ) (d : Key) → n ≤ k → k < length keys → p (get_or keys k d) ≡ false) → count_by p keys ≡ n
count-split p [] zero low pass fail = refl
count-split p [] (suc n) low pass fail = absurd (omega (arith, low))
count-split p (x ∷ xs) zero low pass fail =
    count-cons_fails p x xs (fail 0 x (omega arith) (omega arith))
    ∙ count-split p xs zero (omega arith) (λ k d below. absurd (omega (arith, below))) (λ k d above here. fail (suc k) d (omega arith) (omega (arith, here)))
count-split p (x ∷ xs) (suc n) low pass fail =
    let rest = count-split p xs n (omega (arith, low)) (λ k d below. pass (suc k) d (omega (arith, below))) (λ k d above here. fail (suc k) d (omega (arith, above)) (omega (arith, here))) in
    omega (arith, rest, count-cons_passes p x xs (pass 0 x (omega arith)))

-- how many of what is made of numbers pass
count-map : (p : Key → Bool) (f : ℕ → Key) (xs : List ℕ) → count_by p (map f xs) ≡ count_by (λ x. p (f x)) xs
count-map p f [] = refl
count-map p f (x ∷ xs) = elim (cases_Bool (p (f x))) [
  | inl passes ↦
      count-cons_passes p (f x) (map f xs) passes ∙ ap (λ n. 1 + n) (count-map p f xs) ∙ sym (count-cons_passes (λ y. p (f y)) x xs passes)
  | inr fails ↦ count-cons_fails p (f x) (map f xs) fails ∙ count-map p f xs ∙ sym (count-cons_fails (λ y. p (f y)) x xs fails)
]

-- students who differ have tickets that differ
differ-tickets : (m : Market) (students : List ℕ) → IsDistinct nat_eq students → Differ (map (ticket_of m) students)
differ-tickets m [] apart = record { once = λ key. omega arith }
differ-tickets m (i ∷ rest) apart =
    Differ-cons (ticket_of m i) (map (ticket_of m) rest) (differ-tickets m rest (IsDistinct-tail nat_eq i rest apart)) (λ among.
    let (k, low, here) = among in
    let same : get_or rest k 0 ≡ i =
    ap (λ (key : Key). key.student) (sym (get_or-map (ticket_of m) rest k 0 (ticket_of m i) (omega (arith, low, length-map rest (ticket_of m)))) ∙ here) in
    false≢true (sym (All-from_recursion (λ j. nat_eq i j ≡ false) rest (IsDistinct-head nat_eq i rest apart) k 0 (omega (arith, low, length-map rest (ticket_of m)))) ∙ eq-eqb i (get_or rest k 0) (sym same)))

-- the tickets of all students, best first
pub tickets-ascend : (m : Market) → WellFormed m → IsAscending (in_order (map (ticket_of m) (students_of m)))
tickets-ascend m well = ascending-in_order (map (ticket_of m) (students_of m)) (differ-tickets m (students_of m) well.students_differ)

-- as many are ahead of one as its rank tells
ranked : (m : Market) (i n : ℕ) (tickets : List Key) → tickets ≡ in_order (map (ticket_of m) (students_of m)) → count_by (λ key. is_before key (ticket_of m i)) tickets ≡ n → n + 1 ≡ lottery_rank m i
unfolding lottery_rank how_many
ranked m i n tickets are count =
    let all = map (ticket_of m) (students_of m) in
    ap (λ k. k + 1)
    (sym count
    ∙ ap (count_by (λ key. is_before key (ticket_of m i))) are
    ∙ sum_by-IsPermutation (λ key. cond (is_before key (ticket_of m i)) 1 0) all (in_order all) (in_order-permutes all)
    ∙ count-map (λ key. is_before key (ticket_of m i)) (ticket_of m) (students_of m))

-- where a ticket stands among them, so many are ahead of it
pub rank-there : (m : Market) → WellFormed m → (i n : ℕ) (tickets : List Key) (ticket : Key) → tickets ≡ in_order (map (ticket_of m) (students_of m)) → ticket ≡ ticket_of m i
    → n < length tickets → get_or tickets n ticket ≡ ticket → n + 1 ≡ lottery_rank m i
rank-there m well i n tickets ticket are is low here =
    let up : IsAscending tickets = subst IsAscending (sym are) (tickets-ascend m well) in
    let at : (d : Key) → get_or tickets n d ≡ ticket = λ d. get_or_default tickets n d ticket low ∙ here in
    ranked m i n tickets are
    (ap (λ key. count_by (λ other. is_before other key) tickets) (sym is)
    ∙ count-split (λ other. is_before other ticket) tickets n (omega (arith, low))
    (λ k d below. subst (λ key. is_before (get_or tickets k d) key ≡ true) (at d) (ascending-places tickets k n d up below low))
    (λ k d above within. behind up at k d above within (cases_lt n k)))
  where
    behind : IsAscending tickets → ((d : Key) → get_or tickets n d ≡ ticket) → (k : ℕ) (d : Key) → n ≤ k → k < length tickets → (n < k) ⊎ (k ≤ n) → is_before (get_or tickets k d) ticket ≡ false
    behind up at k d above within (inl later) =
        before-asymm ticket (get_or tickets k d) (subst (λ key. is_before key (get_or tickets k d) ≡ true) (at d) (ascending-places tickets n k d up later within))
    behind up at k d above within (inr same) =
        let one : n ≡ k = omega (arith, above, same) in
        subst (λ j. is_before (get_or tickets j d) ticket ≡ false) one (subst (λ key. is_before key ticket ≡ false) (sym (at d)) (before-irrefl ticket))

-- and where it would stand, if it is not among them
pub rank-between : (m : Market) → WellFormed m → (i n : ℕ) (tickets : List Key) (ticket : Key) → tickets ≡ in_order (map (ticket_of m) (students_of m)) → ticket ≡ ticket_of m i
    → n ≤ length tickets → ((k : ℕ) (d : Key) → k < n → is_before (get_or tickets k d) ticket ≡ true) → ((k : ℕ) (d : Key) → n ≤ k → k < length tickets → is_before ticket (get_or tickets k d) ≡ true)
    → n + 1 ≡ lottery_rank m i
rank-between m well i n tickets ticket are is low ahead behind =
    ranked m i n tickets are
    (ap (λ key. count_by (λ other. is_before other key) tickets) (sym is)
    ∙ count-split (λ other. is_before other ticket) tickets n low ahead (λ k d above within. before-asymm ticket (get_or tickets k d) (behind k d above within)))

-- there are as many tickets as students
pub tickets-few : (m : Market) (tickets : List Key) → tickets ≡ in_order (map (ticket_of m) (students_of m)) → length tickets ≡ length m.students
tickets-few m tickets are =
    let all = map (ticket_of m) (students_of m) in
    ap length are ∙ length_permutation all (in_order all) (in_order-permutes all) ∙ length-map (students_of m) (ticket_of m) ∙ length-keys_of m.students

abbrev last_of : Cutoff → Option Key
last_of Closed = None
last_of Free = None
last_of (Full last) = Some last

-- a full school's cutoff is the last key
full-says : (seats count : ℕ) (o : Option Key) (key : Key) → cutoff_by seats count o ≡ Full key → o ≡ Some key
full-says seats count None key full = elim (cases_Bool (seats == 0)) [
  | inl none ↦ absurd (none-some key (ap last_of (sym (cond-true (seats == 0) Closed Free none) ∙ full)))
  | inr some ↦ absurd (none-some key (ap last_of (sym (cond-false (seats == 0) Closed Free some) ∙ full)))
]
full-says seats count (Some last) key full = elim (cases_Bool (seats == 0)) [
  | inl none ↦ absurd (none-some key (ap last_of (sym (cond-true (seats == 0) Closed _ none) ∙ full)))
  | inr some ↦ elim (cases_Bool (nat_lt count seats)) [
    | inl fewer ↦ absurd (none-some key (ap last_of (sym (cond-true (nat_lt count seats) Free (Full last) fewer) ∙ sym (cond-false (seats == 0) Closed _ some) ∙ full)))
    | inr enough ↦ ap last_of (sym (cond-false (nat_lt count seats) Free (Full last) enough) ∙ sym (cond-false (seats == 0) Closed _ some) ∙ full)
  ]
]

-- it is that of a student, and so has their ticket
pub cutoff-ticket : (m : Market) (a : Matching) (s : ℕ) (last ticket : Key) → Full last ≡ cutoff m a s → ticket.class ≡ 0 → ticket.draw ≡ last.draw → ticket.student ≡ last.student
    → ticket ≡ ticket_of m last.student
unfolding cutoff key_of
cutoff-ticket m a s last ticket full class_is draw_is student_is =
    let keys = keys_among m a (students_of m) s in
    let among = last-contained keys last (full-says (seats_of m s) (held m a s) (last_key keys) last (sym full)) in
    let (j, here, holds, is) = keyed (has a s) (λ i. key_of m i s) (students_of m) last among in
    let whose : j ≡ last.student = ap (λ (key : Key). key.student) is in
    let drawn : ticket.draw ≡ draw m.seed last.student = draw_is ∙ ap (λ (key : Key). key.draw) (sym is) ∙ ap (draw m.seed) whose in
    λ t. let key : Key = record { class = class_is t; draw = drawn t; student = student_is t } in key

-- a row has the cutoff of its school
pub row-cutoff : (m : Market) (a : Matching) (rows : List CutoffRow) (k : ℕ) (row : CutoffRow) → rows ≡ rows_in_order m a → k < length rows → row ≡ get_or rows k row → row.cutoff ≡ cutoff m a row.school
row-cutoff m a rows k row are low is =
    let s = get_or (schools_of m) k 0 in
    let within : k < length (schools_of m) = omega (arith, low, ap length are, length-map (schools_of m) (cutoff_row m a)) in
    let same : row ≡ cutoff_row m a s = is ∙ ap (λ all. get_or all k row) are ∙ get_or-map (cutoff_row m a) (schools_of m) k 0 row within in
    ap (λ (r : CutoffRow). r.cutoff) same ∙ ap (cutoff m a) (sym (ap (λ (r : CutoffRow). r.school) same))

-- the ranks of the first rows' cutoffs, and of one more
pub ranks-more : (m : Market) (rows : List CutoffRow) (k : ℕ) (row : CutoffRow) (rank : Option ℕ) (old new : List (Option ℕ)) → k < length rows → row ≡ get_or rows k row
    → old ≡ map (λ r. cutoff_rank m r.cutoff) (take k rows) → rank ≡ cutoff_rank m row.cutoff → new ≡ old ++ rank ∷ [] → new ≡ map (λ r. cutoff_rank m r.cutoff) (take (k + 1) rows)
ranks-more m rows k row rank old new low is old_is rank_is grew =
    let f = λ (r : CutoffRow). cutoff_rank m r.cutoff in
    let front : take (k + 1) rows ≡ take k rows ++ row ∷ [] = rw (add-one, take-suc rows k row low) (ap (λ r. take k rows ++ r ∷ []) (sym is)) in
    grew ∙ (λ t. old_is t ++ rank_is t ∷ []) ∙ sym (ap (map f) front ∙ map-append f (take k rows) (row ∷ []))

-- the rank that is kept at a school's position is that of its cutoff
pub rank-read : (m : Market) (a : Matching) (rows : List CutoffRow) (lottery : Lottery) (s at : ℕ) (cut : Cutoff) (last : Option ℕ) → IsLotteryOf m rows lottery → rows ≡ rows_in_order m a
    → position (nat_eq s) (schools_of m) ≡ Some at → cut ≡ cutoff m a s → last ≡ get_or lottery.of_cutoffs.items at last → last ≡ cutoff_rank m cut
rank-read m a rows lottery s at cut last is are found cut_is last_is =
    let row = cutoff_row m a s in
    let within : at < length rows = omega (arith, (position-at (schools_of m) s at found).0, ap length are, length-map (schools_of m) (cutoff_row m a)) in
    last_is ∙ ap (λ all. get_or all at last) (is.ranks a are) ∙ get_or-map (λ (r : CutoffRow). cutoff_rank m r.cutoff) rows at row last within
    ∙ ap (cutoff_rank m) (cutoff-read m a rows s at row are found ∙ sym cut_is)
