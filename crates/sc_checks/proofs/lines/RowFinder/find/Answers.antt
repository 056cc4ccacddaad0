use Rattle.std.proofs.Common.{◌≡◌, ◌+◌, ◌∷◌, [], sym, ◌∙◌, add-one, rules, arith}
use Rattle.sc_checks.specs.Lines.{rows_of}
use Rattle.sc_checks.specs.Representation.{row_view, rows_left, Finds}
use Rattle.sc_checks.proofs.RowLemmas.{numbered-past, numbered-there, rows-on}
use Rattle.sc_checks.proofs.lines.RowFinder.find.Goals as goal
use Rattle.sc_checks.proofs.lines.RowFinder.find.Goals.{then-number-self, else-number-self}

pub rows-init : goal.rows-init
rows-init c = elim c.if-number-self.branch [
  | then-number-self w ↦ rw w.self-is record { finds = w.new.ensures.finds; first = λ below. omega (arith, w.new.ensures.first) }
  | else-number-self w ↦ rw w.self-is record { finds = c.requires; first = λ below. absurd (omega (arith, below, w.if-number-self.false)) }
]

pub returns-in_default-clause-row : goal.returns-in_default-clause-row
returns-in_default-clause-row c =
    let none : rows_left c.rows.self.rest ≡ [] = search rules in
    sym (numbered-past (rows_of c.args.text.now) c.rows.self.passed c.args.number (c.rows.invariant.finds.left ∙ none) c.rows-test.true)

pub returns-then-self-number-clause-row : goal.returns-then-self-number-clause-row
returns-then-self-number-clause-row c =
    let next : rows_left c.rows.self.rest ≡ row_view c.in-Some.row ∷ rows_left c.in-Some.rest = search rules in
    let at = c.if-self-number.true in
    sym (numbered-there (rows_of c.args.text.now) c.rows.self.passed c.args.number (row_view c.in-Some.row) (rows_left c.in-Some.rest) (c.rows.invariant.finds.left ∙ next) (omega arith))

pub returns-then-self-number-clause-finds : goal.returns-then-self-number-clause-finds
returns-then-self-number-clause-finds c =
    let next : rows_left c.rows.self.rest ≡ row_view c.in-Some.row ∷ rows_left c.in-Some.rest = search rules in
    record {
      left = rw (add-one c.rows.self.passed)
          (rows-on (rows_of c.args.text.now) c.rows.self.passed (row_view c.in-Some.row) (rows_left c.in-Some.rest) (c.rows.invariant.finds.left ∙ next));
      lines = search rules;
    }

pub rows-preserved : goal.rows-preserved
rows-preserved c =
    let next : rows_left c.rows.self.rest ≡ row_view c.in-Some.row ∷ rows_left c.in-Some.rest = search rules in
    let finds : Finds c.args.text.now (record { passed = c.rows.self.passed + 1; rest = c.in-Some.rest }) = record {
      left = rw (add-one c.rows.self.passed)
          (rows-on (rows_of c.args.text.now) c.rows.self.passed (row_view c.in-Some.row) (rows_left c.in-Some.rest) (c.rows.invariant.finds.left ∙ next));
      lines = search rules;
    } in
    record {
      finds = finds;
      first = λ below. absurd (omega (arith, below, c.rows-test.true, c.if-self-number.false));
    }
