use Rattle.std.proofs.Common.{◌≡◌, ◌-◌, ℕ, Some, length, take, slice_get, ap, sym, subst, ◌∙◌, arith}
use Rattle.sc_repair.specs.Turns.{AreTurns, TurnsOfEntry, left}
use Rattle.sc_repair.proofs.EntryTurns.{last-own, left-made, left-nobody, turn-within}
use Rattle.sc_repair.proofs.turns.Turns.leave.Goals as goal

pub index_mut-requires : goal.index_mut-requires
index_mut-requires c =
    let t : TurnsOfEntry = record { positions = c.self.inside.positions.items; turns = c.self.inside.turns.items } in
    let are : AreTurns t = subst AreTurns (sym c.self.view_is) c.requires in
    let own : slice_get t.turns (length t.turns - 1) ≡ Some c.in-Some.turn = last-own t.turns c.pop.new.self.items c.in-Some.turn c.in-Some.ensures.items in
    omega (arith, c.self.inside.positions.ok.0, turn-within t (length t.turns - 1) c.in-Some.turn are own)

pub returns-in-Some : goal.returns-in-Some
returns-in-Some c =
    let t : TurnsOfEntry = record { positions = c.self.inside.positions.items; turns = c.self.inside.turns.items } in
    let are : AreTurns t = subst AreTurns (sym c.self.view_is) c.requires in
    let own : slice_get t.turns (length t.turns - 1) ≡ Some c.in-Some.turn = last-own t.turns c.pop.new.self.items c.in-Some.turn c.in-Some.ensures.items in
    left-made t c.pop.new.self.items c.in-Some.turn are own (c.pop.ensures.rest ∙ ap (λ (n : ℕ). take (n - 1) t.turns) c.self.inside.turns.ok.0) ∙ ap left c.self.view_is

pub returns-in_default : goal.returns-in_default
returns-in_default c =
    let t : TurnsOfEntry = record { positions = c.self.inside.positions.items; turns = c.self.inside.turns.items } in
    let are : AreTurns t = subst AreTurns (sym c.self.view_is) c.requires in
    left-nobody t c.pop.new.self.items are (omega (arith, c.self.inside.turns.ok.0, c.in_default.ensures.cases.0)) (c.pop.ensures.rest ∙ ap (λ (n : ℕ). take (n - 1) t.turns) c.self.inside.turns.ok.0) ∙ ap left c.self.view_is
