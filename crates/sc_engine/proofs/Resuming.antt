-- Students who come back to where they stood after an earlier log.
use Rattle.std.proofs.Common.{◌≡◌, inl, inr, refl, ap, sym, subst, ◌∙◌, ℕ, zero, suc, ◌+◌, ◌<◌, ◌==◌, nat_eq, Bool, true, false, ◌&&◌, ◌||◌, List, [], ◌∷◌, ◌++◌, length, map, take, slice_get, Option, Some, None, Contains, IfSome, append-nil, arith}
use Rattle.std.specs.List.{IsDistinct}
use Rattle.std.specs.Option.{option_map}
use Rattle.std.proofs.lemmas.Bool.{cases_Bool, cases_lt, eqb-true, eq-eqb, and_from, false≢true}
use Rattle.std.proofs.lemmas.Cmp.{nat_eq_equiv}
use Rattle.std.proofs.lemmas.Option.{same_Some, slice_get-get_or, slice_get-map, slice_get_within, get_or_from_slice_get}
use Rattle.std.proofs.lemmas.List.{get_or-take, length-take, take_all}
use Rattle.std.proofs.lemmas.List.Folds.{Any-from_list_any, list_any_at}
use Rattle.std.proofs.lemmas.List.Elements.{All-contains}
use Rattle.sc_papers.specs.Chain.{and_one}
use Rattle.sc_papers.specs.Log.{next_choice, matching_of, IsSettled}
use Rattle.sc_papers.specs.Market.{Market, choices_of, seats_of}
use Rattle.sc_papers.specs.Matching.{Matching, has, held, how_many}
use Rattle.sc_papers.specs.Restriction.{restricted}
use Rattle.sc_papers.specs.declared.rejection.Rejection.{Rejection}
use Rattle.sc_papers.proofs.Entering.{is_some-false}
use Rattle.sc_papers.proofs.Rejections.{has-true, has-some}
use Rattle.sc_papers.proofs.Restriction.{restricted-restricts, next-kept, next-dropped, counts-restricted, seats-restricted}
use Rattle.sc_papers.proofs.Students.{how_many-lt}
use Rattle.sc_papers.proofs.Validity.{next-listed, next-among}
use Rattle.sc_checkpoint.specs.NextChoices.{stands, AreNextChoices}
use Rattle.sc_checkpoint.specs.declared.standing.Standing.{Standing}
use Rattle.sc_engine.specs.RoundView.{RoundView, Fits, has_entered, rank_of, next_of, StandsToo, Continues, entered_papers}
use Rattle.sc_engine.proofs.Tables.{next-entered, next-none}
use Rattle.sc_engine.proofs.Proposals.{has-none}
use Rattle.sc_engine.proofs.Settling.{among_first, first-apart, first-more}

-- the first k of those who stand have entered, and nobody else, and each stands at theirs
pub record PutFirst (m : Market) (next_choices : List Standing) (r : RoundView) (spent : Bool) (k : ℕ) : Type 0 where
  pub fits : Fits m r
  pub entered : (i : ℕ) → has_entered m r.ranks i ≡ stands (take k next_choices) i
  pub next : (at : ℕ) (choice : Standing) → at < k → slice_get next_choices at ≡ Some choice → next_of m r.ranks choice.student ≡ choice.next
  pub log : r.log ≡ []
  pub proposals : r.proposals ≡ 0
  pub ready : spent ≡ false

-- the students of the next choices
abbrev numbers : List Standing → List ℕ
numbers next_choices = map (λ (choice : Standing). choice.student) next_choices

-- who is among the first next choices is among the first of their students
stands-first : (next_choices : List Standing) (k i : ℕ) → stands (take k next_choices) i ≡ among_first (numbers next_choices) k i
stands-first next_choices zero i = refl
stands-first [] (suc k) i = refl
stands-first (choice ∷ rest) (suc k) i = λ t. nat_eq_equiv.symm choice.student i t || stands-first rest k i t

-- one more
stands-more : (next_choices : List Standing) (k : ℕ) (choice : Standing) → slice_get next_choices k ≡ Some choice → (i : ℕ) → stands (take (k + 1) next_choices) i ≡ and_one (stands (take k next_choices)) choice.student i
stands-more next_choices k choice here i =
    stands-first next_choices (k + 1) i
    ∙ first-more (numbers next_choices) k choice.student (slice_get-map (λ (s : Standing). s.student) next_choices k ∙ ap (option_map (λ (s : Standing). s.student)) here) i
    ∙ ap (λ b. b || i == choice.student) (sym (stands-first next_choices k i))

-- the next one is not among them
stands-apart : (next_choices : List Standing) (k : ℕ) (choice : Standing) → IsDistinct nat_eq (numbers next_choices) → slice_get next_choices k ≡ Some choice → stands (take k next_choices) choice.student ≡ false
stands-apart next_choices k choice different here =
    stands-first next_choices k choice.student
    ∙ first-apart (numbers next_choices) k choice.student different (slice_get-map (λ (s : Standing). s.student) next_choices k ∙ ap (option_map (λ (s : Standing). s.student)) here)

-- who stands has a choice
stands-rank : (next_choices : List Standing) (k i : ℕ) → stands (take k next_choices) i ≡ true → (at : ℕ) × (choice : Standing) × (at < k) × (slice_get next_choices at ≡ Some choice) × (choice.student ≡ i)
stands-rank next_choices k i there =
    let (at, choice, low, is, passes) = Any-from_list_any (λ (choice : Standing). choice.student == i) (take k next_choices) there in
    let here = slice_get-get_or next_choices at choice (omega (arith, low, length-take k next_choices)) ∙ ap Some (sym (get_or-take k next_choices at choice (omega (arith, low, length-take k next_choices))) ∙ is) in
    (at, choice, omega (arith, low, length-take k next_choices), here, eqb-true choice.student i passes)

-- and who has one stands
rank-stands : (next_choices : List Standing) (k at : ℕ) (choice : Standing) → at < k → slice_get next_choices at ≡ Some choice → stands (take k next_choices) choice.student ≡ true
rank-stands next_choices k at choice low here =
    list_any_at (λ (one : Standing). one.student == choice.student) (take k next_choices) at choice (omega (arith, low, slice_get_within next_choices at choice here, length-take k next_choices))
    (eq-eqb _ _ (ap (λ (one : Standing). one.student) (get_or-take k next_choices at choice low ∙ get_or_from_slice_get next_choices at choice choice here)))

-- what holds of any choice holds if there is one
if-some : (o : Option ℕ) (P : ℕ → Type 0) → ((s : ℕ) → o ≡ Some s → P s) → IfSome o P
if-some None P holds = tt
if-some (Some s) P holds = holds s refl

module _ {m : Market} {earlier : List Rejection} {next_choices : List Standing} (after : AreNextChoices m earlier next_choices) where
  -- where a choice says that its student stands
  pub next-after : (at : ℕ) (choice : Standing) → slice_get next_choices at ≡ Some choice → choice.next ≡ next_choice m earlier choice.student
  next-after at choice here = All-contains (λ (s : Standing). s.next ≡ next_choice m earlier s.student) next_choices choice after.next (at, slice_get_within next_choices at choice here, get_or_from_slice_get next_choices at choice choice here)

  -- the student lists the school
  pub listed-after : (at : ℕ) (choice : Standing) → slice_get next_choices at ≡ Some choice → IfSome choice.next (λ s. Contains (choices_of m choice.student) s)
  listed-after at choice here = if-some choice.next (λ s. Contains (choices_of m choice.student) s) (λ s is. next-listed m earlier choice.student s (sym (next-after at choice here) ∙ is))

  module _ {r : RoundView} {spent : Bool} {k : ℕ} (put : PutFirst m next_choices r spent k) where
    -- who has entered stands at their next choice after the earlier log
    pub next-put : (i : ℕ) → stands (take k next_choices) i ≡ true → next_of m r.ranks i ≡ next_choice m earlier i
    next-put i there =
        let (at, choice, low, here, is) = stands-rank next_choices k i there in
        ap (next_of m r.ranks) (sym is) ∙ put.next at choice low here ∙ next-after at choice here ∙ ap (next_choice m earlier) is

    -- the next one has not entered
    pub absent-put : (choice : Standing) → slice_get next_choices k ≡ Some choice → has_entered m r.ranks choice.student ≡ false
    absent-put choice here = put.entered choice.student ∙ stands-apart next_choices k choice after.different here

    -- and its school has room
    pub room-put : (choice : Standing) (s : ℕ) → slice_get next_choices k ≡ Some choice → choice.next ≡ Some s → held m (next_of m r.ranks) s < seats_of m s
    room-put choice s here is =
        let i : ℕ = choice.student in
        let test : ℕ → Bool = stands next_choices in
        let n : Market = restricted m test in
        let next : Matching = next_of m r.ranks in
        let all : take (length next_choices) next_choices ≡ next_choices = take_all (length next_choices) next_choices (omega arith) in
        let within : k < length next_choices = slice_get_within next_choices k choice here in
        let own : next_choice m earlier i ≡ Some s = sym (next-after k choice here) ∙ is in
        let wider : (j : ℕ) → stands (take k next_choices) j ≡ true → test j ≡ true = λ j there.
        let (at, found, low, rank, same) = stands-rank next_choices k j there in
        ap test (sym same) ∙ ap (λ xs. stands xs found.student) (sym all) ∙ rank-stands next_choices (length next_choices) at found (omega (arith, low, within)) rank in
        let here_too : test i ≡ true = ap (λ xs. stands xs i) (sym all) ∙ rank-stands next_choices (length next_choices) k choice within here in
        let passes : (j : ℕ) → test j ≡ true → next_choice m earlier j ≡ Some s → (test j && has (matching_of n earlier) s j) ≡ true = λ j there chosen.
        and_from (test j) (has (matching_of n earlier) s j) there (has-some (matching_of n earlier) s j (next-kept (restricted-restricts m test) earlier j there ∙ chosen)) in
        let fewer : held m next s < how_many m (λ j. test j && has (matching_of n earlier) s j) =
        how_many-lt m (has next s) (λ j. test j && has (matching_of n earlier) s j)
        (λ j there.
        let stood : next j ≡ Some s = has-true next s j there in
        let entered : stands (take k next_choices) j ≡ true = sym (put.entered j) ∙ next-entered m r.ranks j s stood in
        passes j (wider j entered) (sym (next-put j entered) ∙ stood))
        i (next-among m earlier i s own)
        (has-none next s i (next-none m r.ranks i (is_some-false (rank_of m r.ranks i) (absent-put choice here))))
        (passes i here_too own) in
        omega (arith, fewer, after.settled.within_seats s, counts-restricted m test (has (matching_of n earlier) s), seats-restricted m test s)

    pub room-put_if : (choice : Standing) → slice_get next_choices k ≡ Some choice → IfSome choice.next (λ s. held m (next_of m r.ranks) s < seats_of m s)
    room-put_if choice here = if-some choice.next (λ s. held m (next_of m r.ranks) s < seats_of m s) (λ s is. room-put choice s here is)

    -- one more
    pub put-more : (r' : RoundView) (spent' : Bool) (choice : Standing) → slice_get next_choices k ≡ Some choice → StandsToo m r r' choice.student choice.next → spent' ≡ spent → PutFirst m next_choices r' spent' (k + 1)
    put-more r' spent' choice here too same = record {
      fits = too.fits;
      entered = λ i. too.entered i ∙ ap (λ b. b || i == choice.student) (put.entered i) ∙ sym (stands-more next_choices k choice here i);
      next = λ at found low rank. elim (cases_lt at k) [
        | inl below ↦ too.others found.student (λ is. false≢true (sym (stands-apart next_choices k choice after.different here) ∙ ap (stands (take k next_choices)) (sym is) ∙ rank-stands next_choices k at found below rank)) ∙ put.next at found below rank
        | inr past ↦
            let at_k : at ≡ k = omega (arith, past, low) in
            let same_one : found ≡ choice = same_Some found choice (sym rank ∙ ap (slice_get next_choices) at_k ∙ here) in
            ap (λ (s : Standing). next_of m r'.ranks s.student) same_one ∙ too.own ∙ ap (λ (s : Standing). s.next) (sym same_one)
      ];
      log = too.log ∙ put.log;
      proposals = too.proposals ∙ put.proposals;
      ready = same ∙ put.ready;
    }

-- all of them have entered, and the round goes on from the earlier log
pub continues-put : (m : Market) (earlier : List Rejection) (next_choices : List Standing) (r : RoundView) (spent : Bool) (k : ℕ) → k ≡ length next_choices → PutFirst m next_choices r spent k → AreNextChoices m earlier next_choices → Continues m earlier r
continues-put m earlier next_choices r spent k all put after =
    let test : ℕ → Bool = stands next_choices in
    let n : Market = restricted m test in
    let whole : take k next_choices ≡ next_choices = take_all k next_choices (omega (arith, all)) in
    let entered : (i : ℕ) → has_entered m r.ranks i ≡ test i = λ i. put.entered i ∙ ap (λ xs. stands xs i) whole in
    let same_papers : entered_papers m r.ranks ≡ n = λ t. restricted m (λ i. entered i t) in
    let same_log : earlier ++ r.log ≡ earlier = ap (λ log. earlier ++ log) put.log ∙ append-nil earlier in
    record {
      settled = subst (λ p. IsSettled p (earlier ++ r.log)) (sym same_papers) (subst (IsSettled n) (sym same_log) after.settled);
      next = λ i. ap (λ p. next_choice p (earlier ++ r.log) i) same_papers ∙ ap (λ log. next_choice n log i) same_log ∙ elim (cases_Bool (test i)) [
        | inl there ↦ next-kept (restricted-restricts m test) earlier i there ∙ sym (next-put after put i (ap (λ xs. stands xs i) whole ∙ there))
        | inr gone ↦ next-dropped (restricted-restricts m test) earlier i gone ∙ sym (next-none m r.ranks i (is_some-false (rank_of m r.ranks i) (entered i ∙ gone)))
      ];
    }
