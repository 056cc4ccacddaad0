use Rattle.std.proofs.Common.{◌≡◌, ◌+◌, ◌∙◌, ap, arith, not, refl, sym, rules}
use Rattle.sc_journal.proofs.Replays.{at-line, at-line-more, at-line-none, at-line-start, first-fault, going-count, going-more, none-behind}
use Rattle.sc_journal.proofs.journal.apply_before_last.Goals as goal

pub lines-init : goal.lines-init
lines-init c = at-line-start c.args.amended.now c.args.bytes.now c.line_end-line.result c.requires.unamended c.line_end-line.ensures

pub overflow_add-number : goal.overflow_add-number
overflow_add-number c =
    let going = (at-line c.args.amended.now c.lines.amended c.args.bytes.now c.lines.start c.lines.number c.in-Some.end c.lines.line c.lines.invariant c.in-Some.is).0 in
    let low = going-count _ _ _ _ _ going in
    omega (arith, low)

pub line_end-line-requires-in-Some : goal.line_end-line-requires-in-Some
line_end-line-requires-in-Some c =
    let line = (at-line c.args.amended.now c.lines.amended c.args.bytes.now c.lines.start c.lines.number c.in-Some.end c.lines.line c.lines.invariant c.in-Some.is).1 in
    let inside = line.inside in
    omega (arith, inside)

pub returns-then-is_none : goal.returns-then-is_none
returns-then-is_none c =
    let at = at-line c.args.amended.now c.lines.amended c.args.bytes.now c.lines.start c.lines.number c.in-Some.end c.lines.line c.lines.invariant c.in-Some.is in
    record {
      taken = c.lines.number;
      number = refl;
      going = at.0;
      line = at.1;
      unbroken = none-behind c.args.bytes.now (c.in-Some.end + 1) c.line_end-line-in-Some.result (c.is_none.ensures ∙ ap not c.if-is_none.true) c.line_end-line-in-Some.ensures;
    }

pub slice_bounds-apply_line-count : goal.slice_bounds-apply_line-count
slice_bounds-apply_line-count c =
    (at-line c.args.amended.now c.lines.amended c.args.bytes.now c.lines.start c.lines.number c.in-Some.end c.lines.line c.lines.invariant c.in-Some.is).1.least

pub slice_bounds-apply_line-start : goal.slice_bounds-apply_line-start
slice_bounds-apply_line-start c =
    let line = (at-line c.args.amended.now c.lines.amended c.args.bytes.now c.lines.start c.lines.number c.in-Some.end c.lines.line c.lines.invariant c.in-Some.is).1 in
    let least = line.least in
    let inside = line.inside in
    search

pub apply_line-requires : goal.apply_line-requires
apply_line-requires c =
    let going = (at-line c.args.amended.now c.lines.amended c.args.bytes.now c.lines.start c.lines.number c.in-Some.end c.lines.line c.lines.invariant c.in-Some.is).0 in
    record { next = ap (λ n. n + 1) (sym going.accepted) }

pub returns-in-Err : goal.returns-in-Err
returns-in-Err c =
    let at = at-line c.args.amended.now c.lines.amended c.args.bytes.now c.lines.start c.lines.number c.in-Some.end c.lines.line c.lines.invariant c.in-Some.is in
    rw c.at.ensures (first-fault c.args.amended.now c.lines.amended c.args.bytes.now c.lines.start c.lines.number c.in-Some.end c.in-Err.cause at.0 at.1 c.in-Err.ensures)

pub lines-smaller : goal.lines-smaller
lines-smaller c =
    let line = (at-line c.args.amended.now c.lines.amended c.args.bytes.now c.lines.start c.lines.number c.in-Some.end c.lines.line c.lines.invariant c.in-Some.is).1 in
    let least = line.least in
    let inside = line.inside in
    omega (arith, least, inside)

pub lines-preserved : goal.lines-preserved
lines-preserved c =
    let at = at-line c.args.amended.now c.lines.amended c.args.bytes.now c.lines.start c.lines.number c.in-Some.end c.lines.line c.lines.invariant c.in-Some.is in
    at-line-more c.args.amended.now c.apply_line.new.amended c.args.bytes.now (c.in-Some.end + 1) (c.lines.number + 1) c.line_end-line-in-Some.result (c.is_none.ensures ∙ ap not c.if-is_none.false) c.line_end-line-in-Some.ensures
    (going-more c.args.amended.now c.lines.amended c.apply_line.new.amended c.args.bytes.now c.lines.start c.lines.number c.in-Some.end at.0 at.1 c.in_default-apply_line.ensures)

pub returns : goal.returns
returns c = at-line-none c.args.amended.now c.lines.amended c.args.bytes.now c.lines.start c.lines.number c.lines.line c.lines.invariant c.in_default.not-Some
