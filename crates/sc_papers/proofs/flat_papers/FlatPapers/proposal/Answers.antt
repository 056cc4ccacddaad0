use Rattle.std.proofs.Common.{◌≡◌, ℕ, Option, Some, map, slice_get, sym, ap, ◌∙◌}
use Rattle.std.specs.Option.{option_and_then}
use Rattle.sc_papers.specs.Key.{key_of}
use Rattle.sc_papers.specs.Market.{choices_of, schools_of, student_at}
use Rattle.sc_papers.proofs.ChoicePositions.{choice-place, choice-read, choice-there, class-there, place-read, school-at_place}
use Rattle.sc_papers.proofs.flat_papers.FlatPapers.proposal.Goals as goal

pub unreachable-requires : goal.unreachable-requires
unreachable-requires c =
    let m = c.args.self.now in
    let choices = c.choices.result.now in
    let places = ap (map Some) (ap (map (λ c'. c'.position)) c.choices.ensures) ∙ c.row_at-row.ensures.positions in
    let read = c.in_ok-choice.ensures.lookup in
    let here = place-read choices c.args.rank c.position-position.result c.in_ok-choice.choice.now read.0 read.1 c.position-position.ensures in
    school-at_place m (choices_of m (student_at m c.args.student)) (map (λ c'. c'.position) choices) c.args.rank c.position-position.result places here c.in_default.ensures

pub returns-clause-school : goal.returns-clause-school
returns-clause-school c =
    let m = c.args.self.now in
    let choices = c.choices.result.now in
    let places = ap (map Some) (ap (map (λ c'. c'.position)) c.choices.ensures) ∙ c.row_at-row.ensures.positions in
    let read = c.in_ok-choice.ensures.lookup in
    let here = place-read choices c.args.rank c.position-position.result c.in_ok-choice.choice.now read.0 read.1 c.position-position.ensures in
    c.in-Some.ensures ∙ sym (ap (λ (o : Option ℕ). option_and_then (slice_get (schools_of m)) o) here)
    ∙ choice-there m (choices_of m (student_at m c.args.student)) (map (λ c'. c'.position) choices) c.args.rank places

pub returns-clause-position : goal.returns-clause-position
returns-clause-position c =
    let m = c.args.self.now in
    let choices = c.choices.result.now in
    let places = ap (map Some) (ap (map (λ c'. c'.position)) c.choices.ensures) ∙ c.row_at-row.ensures.positions in
    let read = c.in_ok-choice.ensures.lookup in
    let here = place-read choices c.args.rank c.position-position.result c.in_ok-choice.choice.now read.0 read.1 c.position-position.ensures in
    choice-place m (choices_of m (student_at m c.args.student)) (map (λ c'. c'.position) choices) c.args.rank c.position-position.result c.in-Some.school places here (sym c.in-Some.ensures)

pub returns-clause-key : goal.returns-clause-key
unfolding key_of
returns-clause-key c =
    let m = c.args.self.now in
    let i = student_at m c.args.student in
    let choices = c.choices.result.now in
    let read = c.in_ok-choice.ensures.lookup in
    let there : slice_get (choices_of m i) c.args.rank ≡ Some c.in-Some.school = sym (returns-clause-school c) in
    let own = c.class.ensures ∙ class-there m i (choices_of m i) choices c.args.rank c.in-Some.school c.in_ok-choice.choice.now
    (ap (map (λ c'. c'.class)) c.choices.ensures ∙ c.row_at-row.ensures.classes)
    (choice-read choices c.args.rank c.in_ok-choice.choice.now read.0 read.1) there in
    λ t. record {
      class = own t;
      student = (c.number.ensures ∙ c.row_at-row.ensures.number) t;
      draw = (c.draw.ensures ∙ c.row_at-row.ensures.draw) t;
    }
