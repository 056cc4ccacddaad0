use Rattle.std.proofs.Common.{◌∷◌, [], List, subst, sym}
use Rattle.std.specs.List.Sorted.{IsPermutation}
use Rattle.std.proofs.lemmas.List.Sorted.{IsPermutation-append_comm}
use Rattle.sc_papers.specs.declared.key.Key.{Key}
use Rattle.sc_seats.specs.Held.{keys_of}
use Rattle.sc_seats.specs.declared.held.Held.{Held}
use Rattle.sc_seats.proofs.held.Held.add.Goals as goal

pub returns-in_ok-append-in-Listed-clause-added : goal.returns-in_ok-append-in-Listed-clause-added
returns-in_ok-append-in-Listed-clause-added c =
    let appended = subst (λ (keys : List Key). IsPermutation (c.args.key ∷ c.in-Listed.keys) keys) (sym c.in_ok-append-in-Listed.ensures) (IsPermutation-append_comm (c.args.key ∷ []) c.in-Listed.keys) in
    subst (λ (held : Held). IsPermutation (c.args.key ∷ keys_of held) c.append.new.self) (sym c.in-Listed.is) appended
