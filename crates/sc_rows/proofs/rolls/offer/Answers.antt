use Rattle.std.proofs.Common.{ap, ◌∙◌, nat_eq}
use Rattle.std.specs.List.{list_any}
use Rattle.sc_rows.proofs.Seen.{unseen-new, seen-after}
use Rattle.sc_rows.proofs.rolls.offer.Goals as goal

pub offer_again-requires-clause-new : goal.offer_again-requires-clause-new
offer_again-requires-clause-new g c =
    unseen-new c.args.seen.now.items (g.R.Roll.keys c.args.roll.now) c.args.key c.contains.result c.requires.known
    (c.contains.ensures.value ∙ ap (list_any (λ y. nat_eq y c.args.key.student)) c.as_slice.ensures.value) c.if-contains.false

pub returns-clause-known : goal.returns-clause-known
returns-clause-known g c =
    seen-after c.args.seen.now.items c.push.new.self.items (g.R.Roll.keys c.args.roll.now) (g.R.Roll.keys c.offer_again.new.roll) c.args.key c.in_ok-out.out c.requires.known c.in_ok-push.ensures.items c.in_ok-out.ensures.together
