use Rattle.std.proofs.Common.{◌≡◌, Some, rules}
use Rattle.sc_decimal.specs.Number.{number_at_front}
use Rattle.sc_intake.proofs.TidyFields.{front-short, takes-front}
use Rattle.sc_intake.proofs.Words.{slice_range-rest}
use Rattle.sc_intake.proofs.tidy_rows.take_number.Goals as goal

pub slice_bounds-result-count : goal.slice_bounds-result-count
slice_bounds-result-count c =
    let front : number_at_front c.args.text.now ≡ Some (c.in_ok-number.number, c.in_ok-number.digits) = search rules in
    front-short c.args.text.now c.in_ok-number.number c.in_ok-number.digits front

pub slice_bounds-result-start : goal.slice_bounds-result-start
slice_bounds-result-start c =
    let front : number_at_front c.args.text.now ≡ Some (c.in_ok-number.number, c.in_ok-number.digits) = search rules in
    front-short c.args.text.now c.in_ok-number.number c.in_ok-number.digits front

pub returns : goal.returns
returns c =
    let front : number_at_front c.args.text.now ≡ Some (c.in_ok-number.number, c.in_ok-number.digits) = search rules in
    rw (slice_range-rest c.args.text.now c.in_ok-number.digits) (takes-front c.args.text.now c.in_ok-number.number c.in_ok-number.digits front)
