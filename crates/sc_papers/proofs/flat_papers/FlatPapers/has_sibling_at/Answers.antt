use Rattle.std.proofs.Common.{◌≡◌, true, false, length, nat_eq, Some, sym, ◌∙◌}
use Rattle.std.specs.Option.{option_eq}
use Rattle.std.specs.Prelude.{nat_lt, slice_get}
use Rattle.sc_papers.specs.Market.{siblings_of, student_at}
use Rattle.sc_papers.proofs.Keys.{some-sibling}
use Rattle.sc_papers.proofs.flat_papers.FlatPapers.has_sibling_at.Goals as goal

pub returns-then-has_first_sibling_at : goal.returns-then-has_first_sibling_at
returns-then-has_first_sibling_at c =
    let siblings = siblings_of c.args.self.now (student_at c.args.self.now c.args.student) in
    let first : option_eq nat_eq (slice_get siblings 0) (Some c.args.school) ≡ true = sym (rw c.requires.row.sibling at c.has_first_sibling_at.ensures) ∙ c.if-has_first_sibling_at.true in
    c.if-has_first_sibling_at.true ∙ (rw first at (some-sibling c.args.school siblings))

pub returns-else-has_more_siblings : goal.returns-else-has_more_siblings
returns-else-has_more_siblings c =
    let siblings = siblings_of c.args.self.now (student_at c.args.self.now c.args.student) in
    let first : option_eq nat_eq (slice_get siblings 0) (Some c.args.school) ≡ false = sym (rw c.requires.row.sibling at c.has_first_sibling_at.ensures) ∙ c.if-has_first_sibling_at.false in
    let more : nat_lt 1 (length siblings) ≡ false = sym (rw c.requires.row.more_siblings at c.has_more_siblings.ensures) ∙ c.if-has_more_siblings.false in
    c.if-has_more_siblings.false ∙ (rw (first, more) at (some-sibling c.args.school siblings))
