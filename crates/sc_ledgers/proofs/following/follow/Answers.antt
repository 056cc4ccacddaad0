use Rattle.std.proofs.Common.{◌≡◌, sym, ap, subst, ◌∙◌, ℕ, Some, [], ◌∷◌, ◌++◌, take, slice_get, arith, append_assoc}
use Rattle.std.proofs.lemmas.List.{take_all, take_more}
use Rattle.std.proofs.lemmas.Option.{slice_get-get_or}
use Rattle.sc_papers.proofs.Standings.{valid-join}
use Rattle.sc_ledgers.specs.Elsewhere.{row_in, InStep}
use Rattle.sc_ledgers.proofs.Siding.{moved-among, moved-aside}
use Rattle.sc_ledgers.proofs.Stepping.{follows, valid-at}
use Rattle.sc_ledgers.proofs.following.follow.Goals as goal

pub loop-entry-preserved : goal.loop-entry-preserved
loop-entry-preserved c = (
  λ j is. moved-aside c.loop-entry.stances c.move_on.new.self c.args.run c.entry-item.result c.next_after-next.result c.in_ok-move_on.ensures.moved j (c.loop-entry.invariant.0 j is),
  λ test all among. moved-among test c.loop-entry.stances c.move_on.new.self c.args.run c.entry-item.result c.next_after-next.result c.in_ok-move_on.ensures.moved
      (ap (λ e. test e.student) c.entry-item.is ∙ all c.loop-entry.entry-index c.entry-item.result c.loop-entry-test.true) (c.loop-entry.invariant.1 test all among),
  λ m n log other well rows valid after stances.
      let entries = c.args.entries.now in
      let k : ℕ = c.loop-entry.entry-index in
      let e = c.entry-item.result in
      let at : slice_get entries k ≡ Some e = slice_get-get_or entries k e c.loop-entry-test.true ∙ ap Some (sym c.entry-item.is) in
      let before = valid-at m log entries k e at after in
      subst (λ l. InStep c.args.run m n l other c.move_on.new.self) (append_assoc log (take k entries) (e ∷ []) ∙ ap (λ l. log ++ l) (sym (take_more entries k e c.loop-entry-test.true ∙ ap (λ x. take k entries ++ x ∷ []) (sym c.entry-item.is))))
      (follows c.args.run m n (row_in c.args.run c.args.rows.now) (log ++ take k entries) other c.loop-entry.stances c.move_on.new.self e c.next_after-next.result well rows
      (valid-join m [] log (take k entries) valid before.0) before.1 c.next_after-next.ensures c.in_ok-move_on.ensures.moved
      (c.loop-entry.invariant.2 m n log other well rows valid after stances)),
)

pub returns-clause-followed : goal.returns-clause-followed
returns-clause-followed c m n log other well rows valid after stances =
    subst (λ l. InStep c.args.run m n (log ++ l) other c.loop-entry.stances) (take_all c.loop-entry.entry-index c.args.entries.now (omega (arith, c.loop-entry-test.false)))
    (c.loop-entry.invariant.2 m n log other well rows valid after stances)
