use Rattle.std.proofs.Common.{subst}
use Rattle.std.specs.List.Sorted.{IsPermutation}
use Rattle.sc_seats.specs.Held.{keys_of}
use Rattle.sc_seats.specs.declared.held.Held.{Held}
use Rattle.sc_seats.proofs.Heaps.{heaped-together, heaped-last}
use Rattle.sc_seats.proofs.held.Held.replace_last.Goals as goal

pub returns-clause-together : goal.returns-clause-together
returns-clause-together c =
    let made = subst (λ (held : Held). IsPermutation (keys_of held) c.into_heap-keys.result) c.in-Listed.ensures.value c.into_heap-keys.ensures in
    heaped-together (keys_of c.args.self.now) c.into_heap-keys.result c.replace_last-out.new.self c.args.key c.replace_last-out.result made c.replace_last-out.ensures.together

pub returns-clause-last : goal.returns-clause-last
returns-clause-last c =
    let made = subst (λ (held : Held). IsPermutation (keys_of held) c.into_heap-keys.result) c.in-Listed.ensures.value c.into_heap-keys.ensures in
    heaped-last (keys_of c.args.self.now) c.into_heap-keys.result c.replace_last-out.result made c.replace_last-out.ensures.last
