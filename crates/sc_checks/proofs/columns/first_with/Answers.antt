use Rattle.std.proofs.Common.{◌≡◌, ℕ, List, ◌+◌, ◌∙◌, [], true, false, drop, get_or, sym, ap, Option, Some}
use Rattle.std.proofs.lemmas.List.{at_drop_all, at_drop_more}
use Rattle.sc_intake.specs.File.{text_at}
use Rattle.sc_intake.specs.Plain.{fields_from}
use Rattle.sc_checks.specs.Columns.{cause_in, first_with, is_cause, Field}
use Rattle.sc_checks.specs.declared.columns.Column.TheVariants.{School}
use Rattle.sc_checks.proofs.Firsts.{first_with-here, first_with-more, first_with-none}
use Rattle.sc_checks.proofs.columns.first_with.Goals as goal

pub returns-then-is_cause : goal.returns-then-is_cause
returns-then-is_cause c =
    let cause = c.args.cause.now in
    let fields = fields_from [] c.args.line.now in
    let columns = c.args.columns.now in
    let index = c.loop-index.index in
    let column = get_or columns index School in
    let told : List ℕ → Option Field = λ v. Some (record { column = column; value = v }) in
    let is : is_cause cause (cause_in column (text_at fields index)) ≡ true =
    ap (λ (v : List ℕ). is_cause cause (cause_in column v)) (sym c.field_text-value.ensures) ∙ ap (is_cause cause) (sym c.cause_in.ensures) ∙ sym c.is_cause.ensures ∙ c.if-is_cause.true
    in
    ap told c.field_text-value.ensures
    ∙ sym (c.loop-index.invariant ∙ at_drop_more (first_with cause fields index) columns index School c.loop-index-test.true ∙ first_with-here cause fields index column (drop (index + 1) columns) is)

pub loop-index-preserved : goal.loop-index-preserved
loop-index-preserved c =
    let cause = c.args.cause.now in
    let fields = fields_from [] c.args.line.now in
    let columns = c.args.columns.now in
    let index = c.loop-index.index in
    let column = get_or columns index School in
    let other : is_cause cause (cause_in column (text_at fields index)) ≡ false =
    ap (λ (v : List ℕ). is_cause cause (cause_in column v)) (sym c.field_text-value.ensures) ∙ ap (is_cause cause) (sym c.cause_in.ensures) ∙ sym c.is_cause.ensures ∙ c.if-is_cause.false
    in
    c.loop-index.invariant ∙ at_drop_more (first_with cause fields index) columns index School c.loop-index-test.true ∙ first_with-more cause fields index column (drop (index + 1) columns) other

pub returns : goal.returns
returns c =
    let cause = c.args.cause.now in
    let fields = fields_from [] c.args.line.now in
    sym (c.loop-index.invariant ∙ at_drop_all (first_with cause fields c.loop-index.index) c.args.columns.now c.loop-index.index c.loop-index-test.false ∙ first_with-none cause fields c.loop-index.index)
