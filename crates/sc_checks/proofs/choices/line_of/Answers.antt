use Rattle.std.proofs.Common.{ap, ◌∙◌, nat_cmp, option_map}
use Rattle.std.specs.Prelude.{option_and_then}
use Rattle.std.specs.BTreeMap.{get}
use Rattle.sc_intake.specs.declared.lists.ListRow.{ListRow}
use Rattle.sc_checks.specs.Lines.{row_at}
use Rattle.sc_checks.specs.Representation.{row_view}
use Rattle.sc_checks.proofs.Positions.{same-at}
use Rattle.sc_checks.proofs.choices.line_of.Goals as goal

pub returns-in-Some : goal.returns-in-Some
returns-in-Some c text lists positions same =
    ap (option_and_then (option_map row_view)) c.in-Some.ensures
    ∙ same-at (option_map row_view) (λ (list : ListRow). row_at text list.row) c.args.lines.now lists (get nat_cmp c.args.positions.now c.args.student) same
    ∙ ap (option_and_then (λ (list : ListRow). row_at text list.row)) (positions c.args.student)

pub returns-in-None : goal.returns-in-None
returns-in-None c text lists positions same =
    ap (option_and_then (option_map row_view)) c.in-None.ensures
    ∙ same-at (option_map row_view) (λ (list : ListRow). row_at text list.row) c.args.lines.now lists (get nat_cmp c.args.positions.now c.args.student) same
    ∙ ap (option_and_then (λ (list : ListRow). row_at text list.row)) (positions c.args.student)
