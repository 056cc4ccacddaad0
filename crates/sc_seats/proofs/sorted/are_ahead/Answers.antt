use Rattle.std.proofs.Common.{◌≡◌, ap, sym, ◌∙◌, ◌-◌, Some, length, slice_get}
use Rattle.std.specs.Option.{option_copied}
use Rattle.sc_seats.proofs.Order.{all-ahead, last-ahead}
use Rattle.sc_seats.proofs.sorted.are_ahead.Goals as goal

pub returns-in-Some : goal.returns-in-Some
returns-in-Some c =
    let here : slice_get c.args.keys.now (length c.args.keys.now - 1) ≡ Some c.key.result = sym c.last.ensures.value ∙ ap option_copied c.in-Some.is ∙ ap Some (sym c.key.ensures) in (
      λ ahead. all-ahead c.args.keys.now c.key.result c.args.key.now c.requires.ascending here (sym c.is_ahead_of.ensures ∙ ahead),
      λ all. c.is_ahead_of.ensures ∙ last-ahead c.args.keys.now c.key.result c.args.key.now here all,
    )
