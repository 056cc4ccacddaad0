-- Everybody proposes, several one after the other.
use Rattle.std.proofs.Common.{◌≡◌, inl, inr, refl, ap, sym, subst, ◌∙◌, ℕ, zero, suc, ◌+◌, ◌<◌, ◌==◌, nat_eq, Bool, false, not, ◌&&◌, ◌||◌, List, [], ◌∷◌, ◌++◌, length, get_or, set, map, Option, None, Some, All, Contains, position, slice_get, append_assoc, append-nil, arith, get_or-set_same, set-set}
use Rattle.std.specs.List.{AllByRecursion, IsDistinct}
use Rattle.std.specs.List.Sorted.{IsPermutation}
use Rattle.std.proofs.lemmas.Bool.{cases_eq, eq-eqb, ne_eqb, false≢true, and_right}
use Rattle.std.proofs.lemmas.Cmp.{nat_eq_equiv}
use Rattle.std.specs.Option.{option_to_list}
use Rattle.std.proofs.lemmas.Option.{same_Some}
use Rattle.std.proofs.lemmas.List.{get_or-map, length-map, map-append}
use Rattle.std.proofs.lemmas.List.Elements.{All-nil, All-append, All-contains, All-contains_itself, All-cons, All-tail, All-weaker, Contains-append_right}
use Rattle.std.proofs.lemmas.List.Sorted.{IsPermutation-middle, list_any-IsPermutation}
use Rattle.std.proofs.lemmas.Map.Keys.{IsDistinct-head, IsDistinct-tail, IsDistinct-push, IsDistinct-IsPermutation}
use Rattle.sc_papers.specs.Chain.{and_one}
use Rattle.sc_papers.specs.Market.{Market, choices_of, student_at, students_of}
use Rattle.sc_papers.specs.declared.proposal.Proposal.{Proposal}
use Rattle.sc_papers.specs.declared.rejection.Rejection.{Rejection}
use Rattle.sc_papers.proofs.Counting.{contains-head}
use Rattle.sc_papers.proofs.Hands.{student-there}
use Rattle.sc_papers.proofs.Positions.{any-among}
use Rattle.sc_papers.proofs.Rejections.{any-push}
use Rattle.sc_engine.specs.Proposals.{IsProposal}
use Rattle.sc_engine.specs.RoundView.{RoundView, next_of, HaveEntered, IsAway, IsPutOut, Moves, OffersAt, OthersStay, Passes, Proposes, without, without_log}
use Rattle.sc_engine.specs.Together.{all_of, among, moved_to, PassesUnnoted, Waits}
use Rattle.sc_engine.proofs.Forgetting.{fits_but-without_log, midway-without_log}
use Rattle.sc_engine.proofs.Moves.{passed-more}
use Rattle.sc_engine.proofs.Proposals.{and-keeps}
use Rattle.sc_engine.proofs.Tables.{next-by, rank-at, rank-low}
use Rattle.sc_engine.proofs.Steps.{continues-midway, entry_of, moves-same}

-- a number that differs from each of a list is not among them
none-among : (x : ℕ) (xs : List ℕ) → AllByRecursion (λ y. nat_eq x y ≡ false) xs → among xs x ≡ false
none-among x [] apart = refl
none-among x (y ∷ ys) apart = ap (λ b. b || among ys x) apart.0 ∙ none-among x ys apart.1

-- the first is not among the others
first-absent : (x : ℕ) (xs : List ℕ) → IsDistinct nat_eq (x ∷ xs) → among xs x ≡ false
first-absent x xs differ = none-among x xs (IsDistinct-head nat_eq x xs differ)

-- leaving out the first leaves the others
without-first : (x : ℕ) (xs : List ℕ) → IsDistinct nat_eq (x ∷ xs) → without (among (x ∷ xs)) x ≡ among xs
without-first x xs differ = λ t j. others j t
  where
    others : (j : ℕ) → (among (x ∷ xs) j && not (j == x)) ≡ among xs j
    others j = elim (cases_eq j x) [
      | inl is ↦ and_right (among (x ∷ xs) j) (not (j == x)) (ap not (eq-eqb j x is)) ∙ sym (ap (among xs) is ∙ first-absent x xs differ)
      | inr apart ↦ and-keeps (among (x ∷ xs) j) (not (j == x)) (ap not (ne_eqb j x apart)) ∙ ap (λ b. b || among xs j) (ne_eqb j x apart)
    ]

contains-student : (outs : List Rejection) (e : Rejection) → Contains outs e → Contains (map (λ (out : Rejection). out.student) outs) e.student
contains-student outs e (k, low, at) = (
  k,
  omega (arith, low, length-map outs (λ (out : Rejection). out.student)),
  get_or-map (λ (out : Rejection). out.student) outs k e e.student low ∙ ap (λ (out : Rejection). out.student) at,
)

-- whoever has been put out stays so where another student moves
stay-put : {m : Market} {r r' : RoundView} (i : ℕ) (hands : List ℕ) (outs : List Rejection) → OthersStay m r r' i → among (all_of hands outs) i ≡ false → All (IsPutOut m r) outs → All (IsPutOut m r') outs
stay-put {m} {r} {r'} i hands outs stay absent all =
    All-weaker (Contains outs) (IsPutOut m r')
    (λ e held. stay e
    (λ same. false≢true (sym absent ∙ any-among (all_of hands outs) i
    (subst (Contains (all_of hands outs)) same (Contains-append_right hands (map (λ (out : Rejection). out.student) outs) e.student (contains-student outs e held)))))
    (All-contains (IsPutOut m r) outs e all held))
    outs (All-contains_itself outs)

-- the first of those who wait is away
pub waits_away : (m : Market) (r : RoundView) (i : ℕ) (hands : List ℕ) (outs : List Rejection) → Waits m r (i ∷ hands) outs → IsAway m r (among (all_of (i ∷ hands) outs)) i
waits_away m r i hands outs waits = record {
  fits = waits.fits;
  gone = any-among (all_of (i ∷ hands) outs) i (contains-head i (all_of hands outs));
}

-- whose order does not matter
put-first : (hands : List ℕ) (e : Rejection) (outs : List Rejection) → IsPermutation (all_of hands (e ∷ outs)) (all_of (e.student ∷ hands) outs)
put-first hands e outs = IsPermutation-middle hands e.student (map (λ (out : Rejection). out.student) outs)

pub put_out_away : (m : Market) (r : RoundView) (hands : List ℕ) (e : Rejection) (outs : List Rejection) → Waits m r hands (e ∷ outs) → IsAway m r (among (all_of hands (e ∷ outs))) e.student
put_out_away m r hands e outs waits = record {
  fits = waits.fits;
  gone = any-among (all_of hands (e ∷ outs)) e.student (Contains-append_right hands (map (λ (out : Rejection). out.student) (e ∷ outs)) e.student (contains-head e.student (map (λ (out : Rejection). out.student) outs)));
}

-- some move, and afterwards these wait
waits_moved : {m : Market} {r : RoundView} {hands : List ℕ} {outs : List Rejection} (r' : RoundView) (hands' : List ℕ) (outs' : List Rejection) → Waits m r hands outs
    → Moves m r (among (all_of hands outs)) r' (among (all_of hands' outs')) → IsDistinct nat_eq (all_of hands' outs') → All (IsPutOut m r') outs' → Waits m r' hands' outs'
waits_moved r' hands' outs' waits moves differ put_out = record {
  fits = moves.fits;
  entered = λ i. moves.entered i ∙ waits.entered i;
  differ = differ;
  put_out = put_out;
  earlier = waits.earlier;
  midway = moves.midway waits.earlier waits.midway;
}

-- a rejection is noted: the student is to propose
pub waits_noted : (m : Market) (r r' : RoundView) (hands : List ℕ) (e : Rejection) (outs : List Rejection) → Waits m r hands (e ∷ outs)
    → Passes m r (among (all_of hands (e ∷ outs))) r' e.student → Waits m r' (e.student ∷ hands) outs
waits_noted m r r' hands e outs waits passes =
    let differ = IsDistinct-IsPermutation nat_eq nat_eq_equiv.symm (all_of hands (e ∷ outs)) (all_of (e.student ∷ hands) outs) (put-first hands e outs) waits.differ in
    waits_moved r' (e.student ∷ hands) outs waits
    (subst (Moves m r (among (all_of hands (e ∷ outs))) r') (λ t j. list_any-IsPermutation (nat_eq j) (all_of hands (e ∷ outs)) (all_of (e.student ∷ hands) outs) (put-first hands e outs) t) passes.moves)
    differ (stay-put e.student hands outs passes.others (first-absent e.student (all_of hands outs) differ) (All-tail (IsPutOut m r) e outs waits.put_out))

-- the first proposes, and perhaps another is put out, who waits
pub waits_proposed : (m : Market) (r r' : RoundView) (i : ℕ) (hands : List ℕ) (outs : List Rejection) (out : Option Rejection) → Waits m r (i ∷ hands) outs
    → Proposes m r (among (all_of (i ∷ hands) outs)) r' i out → Waits m r' hands (outs ++ option_to_list out)
waits_proposed m r r' i hands outs None waits told =
    let rest : List ℕ = all_of hands outs in
    subst (Waits m r' hands) (sym (append-nil outs))
    (waits_moved r' hands outs waits (subst (Moves m r (among (i ∷ rest)) r') (without-first i rest waits.differ) told.moves)
    (IsDistinct-tail nat_eq i rest waits.differ) (stay-put i hands outs told.others (first-absent i rest waits.differ) waits.put_out))
waits_proposed m r r' i hands outs (Some out) waits told =
    let rest : List ℕ = all_of hands outs in
    let more : all_of hands (outs ++ out ∷ []) ≡ rest ++ out.student ∷ [] = ap (λ l. hands ++ l) (map-append (λ (o : Rejection). o.student) outs (out ∷ [])) ∙ sym (append_assoc hands (map (λ (o : Rejection). o.student) outs) (out.student ∷ [])) in
    let left : without (among (i ∷ rest)) i ≡ among rest = without-first i rest waits.differ in
    waits_moved r' hands (outs ++ out ∷ []) waits
    (subst (Moves m r (among (i ∷ rest)) r') (ap (λ away. and_one away out.student) left ∙ (λ t j. sym (any-push (nat_eq j) rest out.student) t) ∙ ap among (sym more)) told.moves)
    (subst (IsDistinct nat_eq) (sym more) (IsDistinct-push nat_eq_equiv rest out.student (IsDistinct-tail nat_eq i rest waits.differ) (sym (ap (λ (away : ℕ → Bool). away out.student) left) ∙ told.put_out.1)))
    (All-append (IsPutOut m r') outs (out ∷ []) (stay-put i hands outs told.others (first-absent i rest waits.differ) waits.put_out) (All-cons (IsPutOut m r') out [] told.put_out.0 (All-nil (IsPutOut m r'))))

-- the log is forgotten
pub waits_forgotten : (m : Market) (r : RoundView) (hands : List ℕ) (outs : List Rejection) → Waits m r hands outs → Waits m (without_log r) hands outs
waits_forgotten m r hands outs waits = record {
  fits = fits_but-without_log m r (among (all_of hands outs)) waits.fits;
  entered = waits.entered;
  differ = waits.differ;
  put_out = All-weaker (IsPutOut m r) (IsPutOut m (without_log r)) (λ e put. record { stands = put.stands; refused = put.refused }) outs waits.put_out;
  earlier = waits.earlier ++ r.log;
  midway = midway-without_log m r waits.earlier waits.midway;
}

-- nobody waits any more
pub waits_done : (m : Market) (r : RoundView) → Waits m r [] [] → HaveEntered m r (students_of m)
waits_done m r waits = record {
  fits = waits.fits;
  entered = waits.entered;
  earlier = waits.earlier;
  continues = continues-midway m r waits.fits waits.earlier waits.midway;
}

-- the rejection of the first of them is noted, who is to propose
pub waits_noted_first : (m : Market) (r r' : RoundView) (hands : List ℕ) (e : Rejection) (outs : List Rejection) (at : ℕ) → position (nat_eq e.student) (students_of m) ≡ Some at
    → ((away : ℕ → Bool) → IsAway m r away e.student → Passes m r away r' e.student) → Waits m r hands (e ∷ outs) → Waits m r' (student_at m at ∷ hands) outs
waits_noted_first m r r' hands e outs at found passes waits =
    subst (λ (i : ℕ). Waits m r' (i ∷ hands) outs) (sym (student-there m e.student at found))
    (waits_noted m r r' hands e outs waits (passes (among (all_of hands (e ∷ outs))) (put_out_away m r hands e outs waits)))

-- what is written where it stands changes nothing
set-own : {X : Type 0} (xs : List X) (k : ℕ) (d x : X) → k < length xs → get_or xs k d ≡ x → set xs k x ≡ xs
set-own [] k d x low is = absurd (omega (arith, low))
set-own (y ∷ ys) zero d x low is = ap (λ z. z ∷ ys) (sym is)
set-own (y ∷ ys) (suc k) d x low is = ap (λ zs. y ∷ zs) (set-own ys k d x (omega (arith, low)) is)

-- no choice is passed yet
pub passes-none : (m : Market) (r : RoundView) (away : ℕ → Bool) (i : ℕ) → IsAway m r away i → PassesUnnoted m r away r i
passes-none m r away i hand = record {
  noted = r;
  passes = record { moves = moves-same m r r away away refl refl hand.fits refl; others = λ e apart put. put };
  unnoted = refl;
}

pub passes-start : (m : Market) (r : RoundView) (away : ℕ → Bool) (i at rank : ℕ) → IsAway m r away i → get_or r.ranks at None ≡ Some rank → PassesUnnoted m r away (moved_to r at rank) i
passes-start m r away i at rank hand stood =
    subst (λ (ranks : List (Option ℕ)). PassesUnnoted m r away (record r { ranks = ranks }) i) (sym (set-own r.ranks at None (Some rank) (rank-low r.ranks at rank stood) stood)) (passes-none m r away i hand)

-- one more school refuses
pub passes-on : (m : Market) (r : RoundView) (away : ℕ → Bool) (i at rank : ℕ) (made : Proposal) → IsAway m r away i → position (nat_eq i) (students_of m) ≡ Some at → at < length r.ranks
    → IsProposal m i (slice_get (choices_of m i) rank) (Some made) → OffersAt r.rolls r.rolls made.position made.key (Some made.key)
    → PassesUnnoted m r away (moved_to r at rank) i → PassesUnnoted m r away (moved_to r at (rank + 1)) i
passes-on m r away i at rank made hand found low is offered before =
    let noted : RoundView = before.noted in
    let ranks : set r.ranks at (Some rank) ≡ noted.ranks = ap (λ (v : RoundView). v.ranks) before.unnoted in
    let rolls : r.rolls ≡ noted.rolls = ap (λ (v : RoundView). v.rolls) before.unnoted in
    let here : get_or noted.ranks at None ≡ Some rank = ap (λ l. get_or l at None) (sym ranks) ∙ get_or-set_same r.ranks at (Some rank) None low in
    let next : slice_get (choices_of m i) rank ≡ next_of m noted.ranks i = sym (next-by m noted.ranks i rank (rank-at m noted.ranks i at found ∙ here)) in
    let more : RoundView = record { ranks = set noted.ranks at (Some (rank + 1)); rolls = noted.rolls; log = noted.log ++ entry_of made.key.student made.school ∷ []; proposals = noted.proposals + 1 } in
    let same : set r.ranks at (Some (rank + 1)) ≡ more.ranks = sym (set-set r.ranks at (Some rank) (Some (rank + 1))) ∙ ap (λ l. set l at (Some (rank + 1))) ranks in
    record {
      noted = more;
      passes = (passed-more m r noted more away i at made hand before.passes (subst (λ o. IsProposal m i o (Some made)) next is) (subst (λ l. OffersAt l l made.position made.key (Some made.key)) rolls offered) found refl refl
          (λ k stood. ap (λ n. set noted.ranks at (Some (n + 1))) (same_Some rank k (sym here ∙ stood))) refl).0;
      unnoted = λ t. record { ranks = same t; rolls = rolls t; log = r.log; proposals = r.proposals };
    }

-- whoever passes on still waits, also where no rejection is noted
pub waits_passed : (m : Market) (r r' : RoundView) (i : ℕ) (hands : List ℕ) (outs : List Rejection) → Waits m r (i ∷ hands) outs → PassesUnnoted m (without_log r) (among (all_of (i ∷ hands) outs)) r' i → Waits m r' (i ∷ hands) outs
waits_passed m r r' i hands outs waits passed =
    let forgotten = waits_forgotten m r (i ∷ hands) outs waits in
    let noted : Waits m passed.noted (i ∷ hands) outs = waits_moved passed.noted (i ∷ hands) outs forgotten passed.passes.moves waits.differ
    (stay-put i hands outs passed.passes.others (first-absent i (all_of hands outs) waits.differ) forgotten.put_out) in
    subst (λ (v : RoundView). Waits m v (i ∷ hands) outs) (sym passed.unnoted) (waits_forgotten m passed.noted (i ∷ hands) outs noted)
