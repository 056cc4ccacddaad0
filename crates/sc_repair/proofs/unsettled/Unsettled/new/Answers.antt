use Rattle.std.proofs.Common.{◌≡◌, ℕ, length, replicate, ap, sym, subst, ◌∙◌}
use Rattle.std.proofs.lemmas.List.{length-replicate}
use Rattle.sc_papers.specs.Market.{Market}
use Rattle.sc_papers.specs.WellFormed.{WellFormed}
use Rattle.sc_stamps.specs.Stamps.{Stamps, no_stamps}
use Rattle.sc_stamps.specs.Verdict.{StampedPapers}
use Rattle.sc_repair.specs.Turns.{AreInTurn, TurnsOfEntry, first_turns, in_turn, stamped_in_turn}
use Rattle.sc_stamps.proofs.Turns.{in-step-opening}
use Rattle.sc_repair.proofs.AmendedInTurn.{kept-first}
use Rattle.sc_repair.proofs.InOrder.{first-in_turn}
use Rattle.sc_repair.proofs.unsettled.Unsettled.new.Goals as goal

pub invariant_of-result : goal.invariant_of-result
invariant_of-result c =
    let m = c.args.papers in
    let turns : c.in-Ok.turns ≡ first_turns (length m.students) = c.in-Ok.ensures ∙ ap first_turns (c.students_len-students.ensures.count ∙ ap (λ (m : Market). length m.students) c.deref.ensures) in
    subst (λ (t : TurnsOfEntry). AreInTurn t m c.in-Ok-new.stamps) (sym turns)
    (subst (λ (s : Stamps). AreInTurn (first_turns (length m.students)) m s) (sym (c.in-Ok-new.ensures ∙ ap no_stamps c.deref-2.ensures)) (kept-first m (no_stamps m) (subst WellFormed c.deref.ensures c.students_len-students.ensures.well_formed) (in-step-opening m)))

pub returns-clause-unamended : goal.returns-clause-unamended
returns-clause-unamended c =
    let m = c.args.papers in
    let turns : c.in-Ok.turns ≡ first_turns (length m.students) = c.in-Ok.ensures ∙ ap first_turns (c.students_len-students.ensures.count ∙ ap (λ (m : Market). length m.students) c.deref.ensures) in
    let students = first-in_turn m.students in
    let zeros = replicate (length m.students) 0 in
    let stamps : in_turn (first_turns (length m.students)).positions zeros ≡ zeros =
    ap (λ (n : ℕ). in_turn (first_turns n).positions zeros) (sym (length-replicate (length m.students) 0)) ∙ first-in_turn zeros in
    (λ u. stamped_in_turn (turns u).positions m ((c.in-Ok-new.ensures ∙ ap no_stamps c.deref-2.ensures) u))
    ∙ (λ u. let r : StampedPapers = record { papers = record m { students = students u }; stamps = record { accepted = 0; students = stamps u; schools = replicate (length m.schools) 0 } } in r)
