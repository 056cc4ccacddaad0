use Rattle.std.proofs.Common.{◌≡◌, sym, ap, subst, ◌∙◌, ℕ, List, slice_get, slice_set, Some, Contains}
use Rattle.std.proofs.lemmas.Option.{get_or_from_slice_get, slice_get_within}
use Rattle.sc_papers.specs.Market.{choices_of, student_at}
use Rattle.sc_ledgers.specs.Cohort.{cohort}
use Rattle.sc_ledgers.specs.Course.{labels_of, Came}
use Rattle.sc_ledgers.specs.Known.{IsAnswer, IsByKey}
use Rattle.sc_ledgers.specs.declared.ledger.Answer.TheVariants.{PutsOut, Refused, Seated}
use Rattle.sc_ledgers.proofs.Answering.{student-of-key}
use Rattle.sc_ledgers.proofs.Proposing.{comes, ends-out, ends-seated, goes-put_out, goes-refused, noted-at, seats-here, ledger-here}
use Rattle.sc_ledgers.proofs.chain.propose.Goals as goal

pub returns-in_default-clause-came : goal.returns-in_default-clause-came
returns-in_default-clause-came c enters new chain labels begins course =
    ends-out (cohort c.args.papers.now enters) new c.args.turn chain (student_at c.args.papers.now c.args.hand.position) c.args.hand.rank labels (labels_of c.args.papers.now c.args.ledgers.now.items) begins course (sym c.in_default.ensures.school)

pub returns-in-Refused-clause-came : goal.returns-in-Refused-clause-came
returns-in-Refused-clause-came c enters new chain labels begins course =
    let m = c.args.papers.now in
    let i : ℕ = student_at m c.args.hand.position in
    let s : ℕ = c.in-Some.proposal.school in
    let now = labels_of m c.args.ledgers.now.items in
    let listed : slice_get (choices_of m i) c.args.hand.rank ≡ Some s = sym c.in-Some.ensures.school in
    let here : c.index.result.now ≡ now s = ledger-here m c.args.ledgers.now.items s c.in-Some.proposal.position c.index.result.now c.in-Some.ensures.position c.requires.one_each c.index.ensures in
    subst (λ j. Came (cohort m enters) new c.args.turn chain labels now (Some (record { student = j; school = s })))
    (sym (ap (λ key. key.student) c.in-Some.ensures.key ∙ student-of-key m i s))
    (goes-refused (cohort m enters) new c.args.turn chain i c.args.hand.rank s labels now begins course listed
    (comes (cohort m enters) new c.args.turn chain i c.args.hand.rank s c.get.result labels now c.in-Some.proposal.key Refused begins course listed
    (subst IsByKey here c.ask.ensures.by_key)
    (c.get.ensures.value ∙ c.unwrap_or-seats.ensures ∙ seats-here m s c.in-Some.proposal.position c.seats_at.result c.in-Some.ensures.position c.seats_at.ensures)
    c.in-Some.ensures.key
    (subst (λ l. IsAnswer c.args.turn l c.get.result c.in-Some.proposal.key Refused) here c.in-Refused.ensures.answer)))

pub returns-in_ok-note-in-Seated-clause-came : goal.returns-in_ok-note-in-Seated-clause-came
returns-in_ok-note-in-Seated-clause-came c enters new chain labels begins course =
    let m = c.args.papers.now in
    let i : ℕ = student_at m c.args.hand.position in
    let s : ℕ = c.in-Some.proposal.school in
    let at : ℕ = c.in-Some.proposal.position in
    let now = labels_of m c.args.ledgers.now.items in
    let listed : slice_get (choices_of m i) c.args.hand.rank ≡ Some s = sym c.in-Some.ensures.school in
    let here : c.index.result.now ≡ now s = ledger-here m c.args.ledgers.now.items s at c.index.result.now c.in-Some.ensures.position c.requires.one_each c.index.ensures in
    ends-seated (cohort m enters) new c.args.turn chain i c.args.hand.rank s labels now
    (labels_of m (slice_set c.args.ledgers.now.items at c.note.new.self)) c.in-Some.proposal.key begins course listed c.in-Some.ensures.key
    (noted-at m c.args.ledgers.now.items s at c.args.turn c.in-Some.proposal.key c.index_mut.result.now c.note.new.self c.in-Some.ensures.position c.requires.one_each
    (ledger-here m c.args.ledgers.now.items s at c.index_mut.result.now c.in-Some.ensures.position c.requires.one_each c.index_mut.ensures.value)
    c.in_ok-note-in-Seated.ensures.there c.in_ok-note-in-Seated.ensures.kept c.in_ok-note-in-Seated.ensures.only)
    (comes (cohort m enters) new c.args.turn chain i c.args.hand.rank s c.get.result labels now c.in-Some.proposal.key Seated begins course listed
    (subst IsByKey here c.ask.ensures.by_key)
    (c.get.ensures.value ∙ c.unwrap_or-seats.ensures ∙ seats-here m s at c.seats_at.result c.in-Some.ensures.position c.seats_at.ensures)
    c.in-Some.ensures.key
    (subst (λ l. IsAnswer c.args.turn l c.get.result c.in-Some.proposal.key Seated) here c.in-Seated.ensures.answer))

pub returns-in_ok-note-in-PutsOut-clause-came : goal.returns-in_ok-note-in-PutsOut-clause-came
returns-in_ok-note-in-PutsOut-clause-came c enters new chain labels begins course =
    let m = c.args.papers.now in
    let i : ℕ = student_at m c.args.hand.position in
    let s : ℕ = c.in-Some.proposal.school in
    let at : ℕ = c.in-Some.proposal.position in
    let now = labels_of m c.args.ledgers.now.items in
    let listed : slice_get (choices_of m i) c.args.hand.rank ≡ Some s = sym c.in-Some.ensures.school in
    let here : c.index.result.now ≡ now s = ledger-here m c.args.ledgers.now.items s at c.index.result.now c.in-Some.ensures.position c.requires.one_each c.index.ensures in
    goes-put_out (cohort m enters) new c.args.turn chain i c.args.hand.rank s labels now
    (labels_of m (slice_set c.args.ledgers.now.items at c.note-in-PutsOut.new.self)) c.in-Some.proposal.key c.in-PutsOut.last begins course listed c.in-Some.ensures.key
    (noted-at m c.args.ledgers.now.items s at c.args.turn c.in-Some.proposal.key c.index_mut-in-PutsOut.result.now c.note-in-PutsOut.new.self c.in-Some.ensures.position c.requires.one_each
    (ledger-here m c.args.ledgers.now.items s at c.index_mut-in-PutsOut.result.now c.in-Some.ensures.position c.requires.one_each c.index_mut-in-PutsOut.ensures.value)
    c.in_ok-note-in-PutsOut.ensures.there c.in_ok-note-in-PutsOut.ensures.kept c.in_ok-note-in-PutsOut.ensures.only)
    (comes (cohort m enters) new c.args.turn chain i c.args.hand.rank s c.get.result labels now c.in-Some.proposal.key (PutsOut c.in-PutsOut.last) begins course listed
    (subst IsByKey here c.ask.ensures.by_key)
    (c.get.ensures.value ∙ c.unwrap_or-seats.ensures ∙ seats-here m s at c.seats_at.result c.in-Some.ensures.position c.seats_at.ensures)
    c.in-Some.ensures.key
    (subst (λ l. IsAnswer c.args.turn l c.get.result c.in-Some.proposal.key (PutsOut c.in-PutsOut.last)) here c.in-PutsOut.ensures.answer))

-- the school asked is listed
listed-at : (xs : List ℕ) (rank s : ℕ) → slice_get xs rank ≡ Some s → Contains xs s
listed-at xs rank s at = (rank, slice_get_within xs rank s at, get_or_from_slice_get xs rank s s at)

pub returns-in-Refused-clause-asked : goal.returns-in-Refused-clause-asked
returns-in-Refused-clause-asked c = listed-at (choices_of c.args.papers.now (student_at c.args.papers.now c.args.hand.position)) c.args.hand.rank c.in-Some.proposal.school (sym c.in-Some.ensures.school)

pub returns-in_ok-note-in-PutsOut-clause-asked : goal.returns-in_ok-note-in-PutsOut-clause-asked
returns-in_ok-note-in-PutsOut-clause-asked c = listed-at (choices_of c.args.papers.now (student_at c.args.papers.now c.args.hand.position)) c.args.hand.rank c.in-Some.proposal.school (sym c.in-Some.ensures.school)
