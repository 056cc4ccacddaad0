use Rattle.std.proofs.Common.{◌≡◌, inl, inr, refl, sym, ap, subst, ◌∙◌, ℕ, ◌-◌, arith}
use Rattle.sc_papers.specs.Market.{seats_of, student_at}
use Rattle.sc_papers.specs.Key.{key_of}
use Rattle.sc_ledgers.specs.Course.{labels_of}
use Rattle.sc_ledgers.specs.Known.{IsAnswer, IsByKey}
use Rattle.sc_ledgers.specs.Marks.{flag_at, marked_in}
use Rattle.sc_ledgers.specs.declared.ledger.Answer.TheVariants.{Refused}
use Rattle.sc_ledgers.proofs.Answering.{student-of-key}
use Rattle.sc_ledgers.proofs.Proposing.{ledger-here, seats-here}
use Rattle.sc_ledgers.proofs.sweep.is_refused_too.Goals as goal

pub returns-then-not-has : goal.returns-then-not-has
returns-then-not-has c is =
    let n = c.args.rows.now.papers.now in (
      c.if-not-is_of.ensures.student refl ∙ ap (λ key. key.student) c.in-Some.ensures.key ∙ student-of-key n (student_at n c.args.turn) c.in-Some.proposal.school,
      inl (ap (marked_in n c.args.marks.now.flags) (c.if-not-is_of.ensures.school refl) ∙ ap (flag_at c.args.marks.now.flags) c.in-Some.ensures.position ∙ sym c.has.ensures ∙ c.if-not-has.true),
    )

pub returns-in-Refused : goal.returns-in-Refused
returns-in-Refused c is =
    let n = c.args.rows.now.papers.now in
    let s : ℕ = c.in-Some.proposal.school in
    let i : ℕ = student_at n c.args.turn in
    let same : c.args.entry.now.student ≡ i = c.if-not-is_of.ensures.student refl ∙ ap (λ key. key.student) c.in-Some.ensures.key ∙ student-of-key n i s in
    let here : c.index-ledgers-at.result ≡ labels_of n c.args.ledgers.now s = ledger-here n c.args.ledgers.now s c.in-Some.proposal.position c.index-ledgers-at.result c.in-Some.ensures.position c.requires.one_each c.index-ledgers-at.is in
    let seats : c.get.result ≡ seats_of n s = c.get.ensures.value ∙ c.unwrap_or-seats.ensures ∙ seats-here n s c.in-Some.proposal.position c.seats_at.result c.in-Some.ensures.position c.seats_at.ensures in
    let told : IsAnswer (c.args.turn - 1) (labels_of n c.args.ledgers.now s) (seats_of n s) (key_of n i s) Refused =
    subst (λ l. IsAnswer (c.args.turn - 1) l (seats_of n s) (key_of n i s) Refused) here
    (subst (λ q. IsAnswer (c.args.turn - 1) c.index-ledgers-at.result q (key_of n i s) Refused) seats
    (subst (λ key. IsAnswer (c.args.turn - 1) c.index-ledgers-at.result c.get.result key Refused) c.in-Some.ensures.key
    (subst (IsAnswer (c.args.turn - 1) c.index-ledgers-at.result c.get.result c.in-Some.proposal.key) c.in-Refused.is c.ask.ensures.answer))) in (
      same,
      inr (
        c.args.turn - 1,
        omega (arith, c.if-turn-eq0.false),
        subst (λ t. IsByKey (labels_of n c.args.ledgers.now t)) (sym (c.if-not-is_of.ensures.school refl)) (subst IsByKey here c.ask.ensures.by_key),
        subst (λ t. IsAnswer (c.args.turn - 1) (labels_of n c.args.ledgers.now t) (seats_of n t) (key_of n c.args.entry.now.student t) Refused) (sym (c.if-not-is_of.ensures.school refl))
            (subst (λ j. IsAnswer (c.args.turn - 1) (labels_of n c.args.ledgers.now s) (seats_of n s) (key_of n j s) Refused) (sym same) told),
      ),
    )
