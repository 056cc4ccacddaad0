use Rattle.std.proofs.Common.{◌≡◌, ◌-◌, ℕ, Option, length, ap, sym, ◌∙◌, arith}
use Rattle.sc_papers.specs.Market.{Market}
use Rattle.sc_repair.specs.Turns.{last_turns, swapped}
use Rattle.sc_repair.proofs.entry_order.put_last.Goals as goal

pub returns-in-Some-clause-turns : goal.returns-in-Some-clause-turns
returns-in-Some-clause-turns c =
    let last : c.students_len-last.result - 1 ≡ length c.args.turns.now.turns - 1 = omega (arith, c.students_len-last.ensures.count, ap (λ (m : Market). length m.students) c.deref.ensures, c.requires.in_turn.count) in
    c.swap_students.ensures.turns
    ∙ ap (λ (n : ℕ). swapped c.in-Some.position n c.args.turns.now) last
    ∙ sym (ap (λ (place : Option ℕ). last_turns place c.args.turns.now) c.in-Some.is)
