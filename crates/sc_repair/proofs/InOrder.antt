-- Students who are put in order of turn, one turn after the other.
use Rattle.std.proofs.Common.{◌≡◌, add-zero, zero-add, refl, sym, ap, subst, ◌∙◌, ℕ, zero, suc, ◌+◌, ◌<◌, ◌≤◌, List, [], ◌∷◌, ◌++◌, length, map, take, slice_get, Option, Some, None, arith}
use Rattle.std.specs.Prelude.{filter_map}
use Rattle.std.specs.List.{cons_option, range_with_len}
use Rattle.std.specs.Option.{option_map}
use Rattle.std.proofs.lemmas.List.{append-nil, length-map, map-append, take-map, take_all}
use Rattle.std.proofs.lemmas.List.FromFn.{get_or-range_with_len, length-range_with_len}
use native.Mathlib.Decide.{dec_lt}
use Rattle.std.proofs.lemmas.List.Elements.{filter_map-append}
use Rattle.std.proofs.lemmas.Option.{none-some, same_Some, slice_get-get_or, slice_get-map, slice_get_within}
use Rattle.sc_papers.specs.EntryOrder.{with_swapped_students}
use Rattle.sc_papers.specs.Market.{Market}
use Rattle.sc_stamps.specs.Stamps.{Stamps, with_swapped_stamps}
use Rattle.sc_stamps.specs.Verdict.{StampedPapers}
use Rattle.sc_engine.proofs.Settling.{take-next}
use Rattle.sc_region.proofs.Rising.{range-more}
use Rattle.sc_repair.specs.Turns.{AreInTurn, AreTurns, TurnsOfEntry, entered, exchanged, first_turns, in_turn, stamped_in_turn, swapped}
use Rattle.sc_repair.proofs.AmendedInTurn.{kept-swapped, swapped-in_turn}
use Rattle.sc_repair.proofs.EntryTurns.{exchanged-second, turn-of}
use Rattle.sc_repair.proofs.InTurn.{exchanged-other, take-there}

-- the positions of those who stand, in order of turn
abbrev pub standing : List (Option ℕ) → List ℕ
standing places = filter_map (λ place. place) places

-- the items in turn are those at these positions
picked : {X : Type 0} (places : List (Option ℕ)) (xs : List X) → in_turn places xs ≡ filter_map (slice_get xs) (standing places)
picked [] xs = refl
picked (None ∷ places) xs = picked places xs
picked (Some p ∷ places) xs = ap (cons_option (slice_get xs p)) (picked places xs)

-- the items at the positions from 0 on
from-place : {X : Type 0} (zs xs : List X) (a : ℕ) → ((i : ℕ) → slice_get zs (a + i) ≡ slice_get xs i) → filter_map (slice_get zs) (range_with_len a (length xs)) ≡ xs
from-place zs [] a same = refl
from-place zs (x ∷ xs) a same =
    let own : slice_get zs a ≡ Some x = ap (slice_get zs) (sym (add-zero a)) ∙ same 0 in
    let next : (i : ℕ) → a + 1 + i ≡ a + suc i = λ i. omega arith in
    (λ t. cons_option (own t) (from-place zs xs (a + 1) (λ i. ap (slice_get zs) (next i) ∙ same (suc i)) t))

-- so nobody is elsewhere than in order of turn
pub in-order : {X : Type 0} (places : List (Option ℕ)) (xs : List X) → standing places ≡ range_with_len 0 (length xs) → in_turn places xs ≡ xs
in-order places xs is = picked places xs ∙ ap (filter_map (slice_get xs)) is ∙ from-place xs xs 0 (λ i. ap (slice_get xs) (zero-add i))

-- the positions from one on
range-there : (a n i : ℕ) → i < n → slice_get (range_with_len a n) i ≡ Some (a + i)
range-there a n i low =
    slice_get-get_or (range_with_len a n) i 0 (omega (arith, low, length-range_with_len a n)) ∙ ap Some (get_or-range_with_len a n i 0 low)

range-within : (a n i k : ℕ) → slice_get (range_with_len a n) i ≡ Some k → k < a + n
range-within a zero i k here = absurd (none-some k here)
range-within a (suc n) zero k here = omega (arith, same_Some a k here)
range-within a (suc n) (suc i) k here = let rest = range-within (a + 1) n i k here in omega (arith, rest)

range-kept : (f : ℕ → ℕ) (a n : ℕ) → ((k : ℕ) → k < a + n → f k ≡ k) → map f (range_with_len a n) ≡ range_with_len a n
range-kept f a zero same = refl
range-kept f a (suc n) same = (λ t. same a (omega arith) t ∷ range-kept f (a + 1) n (λ k low. same k (omega (arith, low))) t)

-- whoever stands has a turn, and whoever has a turn stands
standing-turn : (places : List (Option ℕ)) (i p : ℕ) → slice_get (standing places) i ≡ Some p → (turn : ℕ) × (slice_get places turn ≡ Some (Some p))
standing-turn [] i p here = absurd (none-some p here)
standing-turn (None ∷ places) i p here = let (turn, at) = standing-turn places i p here in (suc turn, at)
standing-turn (Some q ∷ places) zero p here = (0, ap Some here)
standing-turn (Some q ∷ places) (suc i) p here = let (turn, at) = standing-turn places i p here in (suc turn, at)

turn-standing : (places : List (Option ℕ)) (turn p : ℕ) → slice_get places turn ≡ Some (Some p) → (i : ℕ) × (slice_get (standing places) i ≡ Some p)
turn-standing [] turn p here = absurd (none-some (Some p) here)
turn-standing (None ∷ places) zero p here = absurd (none-some p (same_Some None (Some p) here))
turn-standing (None ∷ places) (suc turn) p here = turn-standing places turn p here
turn-standing (Some q ∷ places) zero p here = (0, same_Some (Some q) (Some p) here)
turn-standing (Some q ∷ places) (suc turn) p here = let (i, at) = turn-standing places turn p here in (suc i, at)

standing-mapped : (f : ℕ → ℕ) (places : List (Option ℕ)) → standing (map (option_map f) places) ≡ map f (standing places)
standing-mapped f [] = refl
standing-mapped f (None ∷ places) = standing-mapped f places
standing-mapped f (Some p ∷ places) = ap (λ rest. f p ∷ rest) (standing-mapped f places)

-- the first turns' students stand in order at the first positions
abbrev pub FirstInOrder : List (Option ℕ) → ℕ → ℕ → Type 0
FirstInOrder places turn place = standing (take turn places) ≡ range_with_len 0 place

-- a turn whose student withdrew changes nothing
pub order-passed : (places : List (Option ℕ)) (turn place : ℕ) → slice_get places turn ≡ Some None → FirstInOrder places turn place → FirstInOrder places (turn + 1) place
order-passed places turn place here before =
    ap standing (take-next places turn None here) ∙ filter_map-append (λ (q : Option ℕ). q) (take turn places) (None ∷ [])
    ∙ append-nil (standing (take turn places)) ∙ before

-- the next student does not stand among the first ones yet
pub order-later : (t : TurnsOfEntry) (turn place p : ℕ) → AreTurns t → slice_get t.positions turn ≡ Some (Some p) → FirstInOrder t.positions turn place → place ≤ p
order-later t turn place p are here before = elim (dec_lt p place) [
  | yes low ↦
      let (early, at) = standing-turn (take turn t.positions) p p (ap (λ ps. slice_get ps p) before ∙ range-there 0 place p low ∙ ap Some (zero-add p)) in
      let (first, there) = take-there turn early t.positions (Some p) at in
      absurd (omega (arith, first, same_Some early turn (sym ((are early p).0 there) ∙ (are turn p).0 here)))
  | no high ↦ omega (arith, high)
]

-- and changes places with whoever stands next
pub order-next : (t : TurnsOfEntry) (turn place p : ℕ) → AreTurns t → slice_get t.positions turn ≡ Some (Some p) → FirstInOrder t.positions turn place
    → FirstInOrder (swapped place p t).positions (turn + 1) (place + 1)
order-next t turn place p are here before =
    let later = order-later t turn place p are here before in
    let own : slice_get (map (option_map (exchanged place p)) t.positions) turn ≡ Some (Some place) =
    slice_get-map (option_map (exchanged place p)) t.positions turn ∙ ap (option_map (option_map (exchanged place p))) here ∙ ap (λ k. Some (Some k)) (exchanged-second place p) in
    ap standing (take-next (map (option_map (exchanged place p)) t.positions) turn (Some place) own)
    ∙ filter_map-append (λ (q : Option ℕ). q) (take turn (map (option_map (exchanged place p)) t.positions)) (Some place ∷ [])
    ∙ ap (λ ps. ps ++ place ∷ [])
    (ap standing (take-map (option_map (exchanged place p)) turn t.positions) ∙ standing-mapped (exchanged place p) (take turn t.positions) ∙ ap (map (exchanged place p)) before
    ∙ range-kept (exchanged place p) 0 place (λ k low. exchanged-other place p k (λ same. absurd (omega (arith, low, same))) (λ same. absurd (omega (arith, low, same, later)))))
    ∙ sym (range-more 0 place ∙ ap (λ k. range_with_len 0 place ++ k ∷ []) (zero-add place))

-- at the end, everybody stands in order
pub order-whole : (t : TurnsOfEntry) (place : ℕ) → AreTurns t → standing t.positions ≡ range_with_len 0 place → place ≡ length t.turns
order-whole t place are is = elim (dec_lt (length t.turns) place) [
  | yes low ↦
      let (turn, at) = standing-turn t.positions (length t.turns) (length t.turns) (ap (λ ps. slice_get ps (length t.turns)) is ∙ range-there 0 place (length t.turns) low ∙ ap Some (zero-add (length t.turns))) in
      absurd (omega (arith, slice_get_within t.turns (length t.turns) turn ((are turn (length t.turns)).0 at)))
  | no high ↦ elim (dec_lt place (length t.turns)) [
    | yes short ↦
        let (turn, own) = turn-of t.turns place short in
        let (i, at) = turn-standing t.positions turn place ((are turn place).1 own) in
        absurd (omega (arith, range-within 0 place i place (ap (λ ps. slice_get ps i) (sym is) ∙ at)))
    | no long ↦ omega (arith, high, long)
  ]
]

-- what has been put in order so far
pub record IsOrdering (whole : StampedPapers) (turn place end : ℕ) (t : TurnsOfEntry) (m : Market) (stamps : Stamps) : Type 0 where
  pub in_turn : AreInTurn t m stamps
  pub same : stamped_in_turn t.positions m stamps ≡ whole
  pub order : FirstInOrder t.positions turn place
  pub count : length t.positions ≡ end
  pub few : place ≤ turn

-- where the next turn's student stands, and the place for them
pub ordering-within : (whole : StampedPapers) (turn place end p : ℕ) (t : TurnsOfEntry) (m : Market) (stamps : Stamps) → IsOrdering whole turn place end t m stamps → slice_get t.positions turn ≡ Some (Some p)
    → (place ≤ p) × (p < length m.students)
ordering-within whole turn place end p t m stamps so here =
    let kept = so.in_turn in
    (order-later t turn place p kept.turns here so.order, omega (arith, kept.count, slice_get_within t.turns p turn ((kept.turns turn p).0 here)))

-- after a turn whose student withdrew
pub ordering-passed : (whole : StampedPapers) (turn place end : ℕ) (t : TurnsOfEntry) (m : Market) (stamps : Stamps) → IsOrdering whole turn place end t m stamps → slice_get t.positions turn ≡ Some None
    → IsOrdering whole (turn + 1) place end t m stamps
ordering-passed whole turn place end t m stamps so here = record { in_turn = so.in_turn; same = so.same; order = order-passed t.positions turn place here so.order; count = so.count; few = omega (arith, so.few) }

-- and after one whose student stands now where they belong
pub ordering-next : (whole : StampedPapers) (turn place end p : ℕ) (t : TurnsOfEntry) (m : Market) (stamps : Stamps) → IsOrdering whole turn place end t m stamps → slice_get t.positions turn ≡ Some (Some p)
    → IsOrdering whole (turn + 1) (place + 1) end (swapped place p t) (with_swapped_students m place p) (with_swapped_stamps stamps place p)
ordering-next whole turn place end p t m stamps so here =
    let (later, within) = ordering-within whole turn place end p t m stamps so here in
    let low : place < length m.students = omega (arith, later, within) in
    record {
      in_turn = kept-swapped t m stamps so.in_turn place p low within;
      same = swapped-in_turn t m stamps so.in_turn place p low within ∙ so.same;
      order = order-next t turn place p so.in_turn.turns here so.order;
      count = length-map t.positions (option_map (exchanged place p)) ∙ so.count;
      few = omega (arith, so.few);
    }

-- at the end
pub ordering-done : (whole : StampedPapers) (turn place end : ℕ) (t : TurnsOfEntry) (m : Market) (stamps : Stamps) → IsOrdering whole turn place end t m stamps → end ≤ turn → record { papers = m; stamps = stamps } ≡ whole
ordering-done whole turn place end t m stamps so past =
    let kept = so.in_turn in
    let all : standing t.positions ≡ range_with_len 0 place = ap standing (sym (take_all turn t.positions (omega (arith, so.count, past)))) ∙ so.order in
    let many : place ≡ length t.turns = order-whole t place kept.turns all in
    let students : in_turn t.positions m.students ≡ m.students = in-order t.positions m.students (all ∙ ap (range_with_len 0) (many ∙ kept.count)) in
    let own : in_turn t.positions stamps.students ≡ stamps.students = in-order t.positions stamps.students (all ∙ ap (range_with_len 0) (many ∙ kept.count ∙ sym kept.in_step.students)) in
    (λ u. let r : StampedPapers = record { papers = record m { students = sym students u }; stamps = record stamps { students = sym own u } } in r) ∙ so.same

-- the four that stand in an ordering, told by equations
pub ordering-at : (whole : StampedPapers) (turn place now end : ℕ) (s t : TurnsOfEntry) (m n : Market) (stamps others : Stamps) → IsOrdering whole turn place end s m stamps
    → now ≡ place → t ≡ s → n ≡ m → others ≡ stamps → IsOrdering whole turn now end t n others
ordering-at whole turn place now end s t m n stamps others so places turns papers marks =
    subst (λ (x : ℕ × TurnsOfEntry × Market × Stamps). IsOrdering whole turn x.0 end x.1 x.2 x.3) (λ u. (sym places u, sym turns u, sym papers u, sym marks u)) so

-- so many turns, each of a student who stands at the position of the same number
pub first-made : (count : ℕ) → record { positions = map Some (range_with_len 0 count); turns = range_with_len 0 count } ≡ first_turns count
first-made zero = refl
first-made (suc count) =
    let own = range_with_len 0 count in
    let many : length own ≡ count = length-range_with_len 0 count in
    let placed : length (map Some own) ≡ count = length-map own Some ∙ many in
    let next : suc count ≡ count + 1 = omega arith in
    let more : range_with_len 0 (suc count) ≡ own ++ count ∷ [] = ap (range_with_len 0) next ∙ range-more 0 count ∙ ap (λ k. own ++ k ∷ []) (zero-add count) in
    let positions : map Some (range_with_len 0 (suc count)) ≡ map Some own ++ Some (length own) ∷ [] =
    ap (map Some) more ∙ map-append Some own (count ∷ []) ∙ ap (λ k. map Some own ++ Some k ∷ []) (sym many) in
    let turns : range_with_len 0 (suc count) ≡ own ++ length (map Some own) ∷ [] = more ∙ ap (λ k. own ++ k ∷ []) (sym placed) in
    (λ u. record { positions = positions u; turns = turns u }) ∙ ap entered (first-made count)

-- whoever enters in the order in which they stand is in order
pub first-in_turn : {X : Type 0} (xs : List X) → in_turn (first_turns (length xs)).positions xs ≡ xs
first-in_turn xs =
    in-order (first_turns (length xs)).positions xs
    (ap (λ (t : TurnsOfEntry). standing t.positions) (sym (first-made (length xs))) ∙ all-stand (range_with_len 0 (length xs)))
  where
    all-stand : (ps : List ℕ) → standing (map Some ps) ≡ ps
    all-stand [] = refl
    all-stand (p ∷ ps) = ap (λ rest. p ∷ rest) (all-stand ps)
