use Rattle.std.proofs.Common.{◌∙◌, ap, sym, length, nat_eq, unwrap_or}
use Rattle.std.specs.List.{position_or_len}
use Rattle.sc_notices.specs.Explanation.{is_given}
use Rattle.sc_notices.proofs.KeyListLemmas.{none-first, place-or_length}
use Rattle.sc_notices.proofs.candidates.preferred_count.Goals as goal

pub returns-in-Some : goal.returns-in-Some
returns-in-Some c =
    let choices = c.args.choices.now in
    c.unwrap_or.ensures
    ∙ ap (λ found. unwrap_or found (length choices)) c.rank_among.ensures
    ∙ place-or_length (nat_eq c.in-Some.school) choices
    ∙ ap (λ held. position_or_len (is_given held) choices) (sym c.in-Some.is)

pub returns-in-None : goal.returns-in-None
returns-in-None c =
    let choices = c.args.choices.now in
    none-first choices ∙ ap (λ held. position_or_len (is_given held) choices) (sym c.in-None.is)
