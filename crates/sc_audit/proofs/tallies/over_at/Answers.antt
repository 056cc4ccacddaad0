use Rattle.std.proofs.Common.{sym, ◌∙◌, ap, arith}
use Rattle.std.proofs.lemmas.Option.{same_Some}
use Rattle.sc_tallies.specs.declared.tally.Tally.{Tally}
use Rattle.sc_tallies.proofs.Tallying.{held-tally, tally-placed}
use Rattle.sc_audit.specs.Tallies.{over_at}
use Rattle.sc_audit.proofs.Tallying.{over-some, over-none}
use Rattle.sc_audit.proofs.tallies.over_at.Goals as goal

pub returns-then-get-tallies : goal.returns-then-get-tallies
returns-then-get-tallies c = λ a s are here.
    let m = c.args.papers.now in
    let school = c.in-Some.school in
    let t : Tally = c.index-tallies-position.result in
    let counted = held-tally m a school t (tally-placed m a c.args.tallies.now school c.args.position t are (sym c.in-Some.ensures) c.index-tallies-position.is) in
    over-some m a school c.get.result t.held (c.get.ensures.value ∙ c.seats_of.ensures) counted (omega (arith, c.if-get-tallies.true, ap (λ (t : Tally). t.held) c.index-tallies-position.is))
    ∙ ap (over_at m a) (same_Some school s (c.in-Some.ensures ∙ here))

pub returns-else-get-tallies : goal.returns-else-get-tallies
returns-else-get-tallies c = λ a s are here.
    let m = c.args.papers.now in
    let school = c.in-Some.school in
    let t : Tally = c.index-tallies-position.result in
    let counted = held-tally m a school t (tally-placed m a c.args.tallies.now school c.args.position t are (sym c.in-Some.ensures) c.index-tallies-position.is) in
    over-none m a school c.get.result t.held (c.get.ensures.value ∙ c.seats_of.ensures) counted (omega (arith, c.if-get-tallies.false, ap (λ (t : Tally). t.held) c.index-tallies-position.is))
    ∙ ap (over_at m a) (same_Some school s (c.in-Some.ensures ∙ here))
