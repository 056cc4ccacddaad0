use Rattle.std.proofs.Common.{◌≡◌, ◌+◌, ◌<◌, ◌∙◌, ◌++◌, ◌∷◌, [], sym, subst, map, length, All, arith}
use Rattle.std.proofs.lemmas.List.{map-append}
use Rattle.std.proofs.lemmas.List.Elements.{All-append, All-cons, All-nil}
use Rattle.sc_audit.specs.BestKeys.{BestView}
use Rattle.sc_audit.proofs.Openings.{SeatsUpTo, seats-more, seats-all}
use Rattle.sc_audit.proofs.audit_state.no_keys.Goals as goal

pub loop-position-preserved : goal.loop-position-preserved
loop-position-preserved c =
    let m = c.args.papers.now in
    let k = c.loop-position.position in
    let schools = c.loop-position.schools.items in
    let low : k < length m.schools = omega (arith, c.loop-position-test.true, c.schools_len-position-end.ensures) in
    let more : SeatsUpTo m (k + 1) (map (λ (b : BestView). b.seats) (schools ++ c.none.result ∷ [])) =
    subst (SeatsUpTo m (k + 1)) (sym (map-append (λ (b : BestView). b.seats) schools (c.none.result ∷ [])))
    (seats-more m k c.none.result.seats (map (λ (b : BestView). b.seats) schools) low (λ s here. c.none.ensures.seats ∙ c.seats_at.ensures s here) c.loop-position.invariant.0) in
    let empty : All (λ (b : BestView). b.keys ≡ []) (schools ++ c.none.result ∷ []) =
    All-append (λ (b : BestView). b.keys ≡ []) schools (c.none.result ∷ []) c.loop-position.invariant.1
    (All-cons (λ (b : BestView). b.keys ≡ []) c.none.result [] c.none.ensures.keys (All-nil (λ (b : BestView). b.keys ≡ []))) in (
      subst (λ items. SeatsUpTo m (k + 1) (map (λ (b : BestView). b.seats) items)) (sym c.in_ok-push.ensures.items) more,
      subst (All (λ (b : BestView). b.keys ≡ [])) (sym c.in_ok-push.ensures.items) empty,
    )

pub returns-clause-seats : goal.returns-clause-seats
returns-clause-seats c =
    seats-all c.args.papers.now c.loop-position.position (map (λ (b : BestView). b.seats) c.loop-position.schools.items) (omega (arith, c.loop-position-test.false, c.schools_len-position-end.ensures)) c.loop-position.invariant.0
