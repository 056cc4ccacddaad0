use Rattle.std.proofs.Common.{◌<◌, length, refl, ap, sym, subst, ◌∙◌, arith}
use Rattle.std.proofs.lemmas.Option.{slice_get_read}
use Rattle.sc_repair.specs.Turns.{AreTurns, TurnsOfEntry, swapped}
use Rattle.sc_repair.proofs.EntryTurns.{swap-made, turn-within}
use Rattle.sc_repair.proofs.turns.Turns.swap.Goals as goal

pub index_mut-requires : goal.index_mut-requires
index_mut-requires c =
    let t : TurnsOfEntry = record { positions = c.self.inside.positions.items; turns = c.self.inside.turns.items } in
    let are : AreTurns t = subst AreTurns (sym c.self.view_is) c.requires.turns in
    let low : c.args.a < length t.turns = subst (λ (s : TurnsOfEntry). c.args.a < length s.turns) (sym c.self.view_is) c.requires.a in
    omega (arith, c.self.inside.positions.ok.0, turn-within t c.args.a c.index-first.result.now are (slice_get_read t.turns (length t.turns) c.args.a c.index-first.result.now refl low c.index-first.ensures))

pub index_mut-requires-2 : goal.index_mut-requires-2
index_mut-requires-2 c =
    let t : TurnsOfEntry = record { positions = c.self.inside.positions.items; turns = c.self.inside.turns.items } in
    let are : AreTurns t = subst AreTurns (sym c.self.view_is) c.requires.turns in
    let low : c.args.b < length t.turns = subst (λ (s : TurnsOfEntry). c.args.b < length s.turns) (sym c.self.view_is) c.requires.b in
    omega (arith, c.self.inside.positions.ok.0, turn-within t c.args.b c.index-second.result.now are (slice_get_read t.turns (length t.turns) c.args.b c.index-second.result.now refl low c.index-second.ensures))

pub returns : goal.returns
returns c =
    let t : TurnsOfEntry = record { positions = c.self.inside.positions.items; turns = c.self.inside.turns.items } in
    let are : AreTurns t = subst AreTurns (sym c.self.view_is) c.requires.turns in
    let low : c.args.a < length t.turns = subst (λ (s : TurnsOfEntry). c.args.a < length s.turns) (sym c.self.view_is) c.requires.a in
    let high : c.args.b < length t.turns = subst (λ (s : TurnsOfEntry). c.args.b < length s.turns) (sym c.self.view_is) c.requires.b in
    swap-made t c.swap.new.self.items c.args.a c.args.b c.index-first.result.now c.index-second.result.now are
    (slice_get_read t.turns (length t.turns) c.args.a c.index-first.result.now refl low c.index-first.ensures)
    (slice_get_read t.turns (length t.turns) c.args.b c.index-second.result.now refl high c.index-second.ensures)
    c.swap.ensures.items
    ∙ ap (swapped c.args.a c.args.b) c.self.view_is
