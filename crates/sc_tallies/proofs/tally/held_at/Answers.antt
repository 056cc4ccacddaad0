use Rattle.std.proofs.Common.{sym, ◌∙◌, ap, Some}
use Rattle.std.proofs.lemmas.Option.{none-some, same_Some}
use Rattle.sc_papers.specs.Key.{key_of}
use Rattle.sc_tallies.proofs.Tallying.{key-here, held-none, held-away, held-there}
use Rattle.sc_tallies.proofs.tally.held_at.Goals as goal

pub returns-in_default-clause-found : goal.returns-in_default-clause-found
returns-in_default-clause-found c a i here has = sym (held-none c.args.papers.now a i (has ∙ c.in_default.is))

pub returns-in_err-at-clause-found : goal.returns-in_err-at-clause-found
returns-in_err-at-clause-found c a i here has =
    c.from_residual.ensures ∙ sym (held-away c.args.papers.now a i c.in-Some.school (has ∙ c.in-Some.is) (sym c.in_err-at.ensures))

pub returns-in_err-key-clause-found : goal.returns-in_err-key-clause-found
returns-in_err-key-clause-found c a i here has =
    absurd (none-some (key_of c.args.papers.now i c.in-Some.school)
    (c.in_err-key.ensures ∙ key-here c.args.papers.now i c.in-Some.school c.args.position c.in_ok-at.at here (sym c.in_ok-at.ensures)))

pub returns-clause-found : goal.returns-clause-found
returns-clause-found c a i here has =
    let m = c.args.papers.now in
    let s = c.in-Some.school in
    let key = c.in_ok-key.ensures ∙ key-here m i s c.args.position c.in_ok-at.at here (sym c.in_ok-at.ensures) in
    sym (held-there m a i s c.in_ok-at.at (has ∙ c.in-Some.is) (sym c.in_ok-at.ensures)
    ∙ ap (λ k. Some (c.in_ok-at.at, k)) (sym (same_Some c.in_ok-key.key (key_of m i s) key)))
