use Rattle.std.proofs.Common.{◌≡◌, ◌∙◌, ap, subst, sym, ℕ, ◌+◌, ◌<◌, List, [], ◌++◌, length, get_or, take, drop, Err, arith, rules}
use Rattle.std.proofs.lemmas.List.{take_all}
use Rattle.sc_notices.specs.Telling.{header_of, joined}
use Rattle.sc_report.specs.Watched.{device_of, has_failed}
use Rattle.sc_report.specs.Whole.{AppendsPrefix}
use Rattle.sc_steps.specs.Steps.{WritesExactly}
use Rattle.sc_runs.specs.Pieces.{IsWrittenTo, WritesInPieces, WritesTo}
use Rattle.sc_runs.proofs.Checks.{unfailed-still}
use Rattle.sc_runs.proofs.InPieces.{joined-cut, joined-more, IsWrittenTo-failed, IsWrittenTo-last, IsWrittenTo-more, IsWrittenTo-prefix}
use Rattle.sc_runs.proofs.pieces.write_parts.Goals as goal

pub returns-in-Err-push_part : goal.returns-in-Err-push_part
returns-in-Err-push_part g c =
    let header = header_of c.args.told.now in
    let at = c.loop-at.at in
    let old = g.W.Write.contents (device_of c.args.out.now) in
    let now = g.W.Write.contents (device_of c.loop-at.out) in record {
      bytes = λ parts are.
          subst (AppendsPrefix old now) (joined-cut header parts at)
          (IsWrittenTo-prefix (header ++ joined (take at parts)) c.loop-at.text.items (joined (drop at parts)) old now (c.loop-at.invariant.written parts are));
      failed = search rules;
    }

pub returns-in-Err-write_piece : goal.returns-in-Err-write_piece
returns-in-Err-write_piece g c =
    let header = header_of c.args.told.now in
    let at = c.loop-at.at in
    let old = g.W.Write.contents (device_of c.args.out.now) in
    let now = g.W.Write.contents (device_of c.loop-at.out) in
    let after = g.W.Write.contents (device_of c.write_piece.new.out) in
    let left = c.write_piece.new.text.items in
    let fault = c.in-Err-write_piece.fault in record {
      bytes = λ parts are.
          let part = get_or parts at [] in
          let low : at < length parts = omega (arith, c.loop-at-test.true, c.count-at-end.ensures parts are) in
          subst (λ whole. WritesInPieces whole old after (Err fault)) (ap (λ t. t ++ joined (drop (at + 1) parts)) (joined-more header parts at low) ∙ joined-cut header parts (at + 1))
          (IsWrittenTo-failed (header ++ joined (take at parts)) c.loop-at.text.items part left (joined (drop (at + 1) parts)) old now after fault (c.loop-at.invariant.written parts are)
          (subst (λ text. WritesTo text left now after (Err fault)) (c.in_default-push_part.ensures parts are) c.in-Err-write_piece.ensures.bytes));
      failed = search rules;
    }

pub loop-at-preserved : goal.loop-at-preserved
loop-at-preserved g c =
    let header = header_of c.args.told.now in
    let at = c.loop-at.at in
    let old = g.W.Write.contents (device_of c.args.out.now) in
    let now = g.W.Write.contents (device_of c.loop-at.out) in
    let after = g.W.Write.contents (device_of c.write_piece.new.out) in
    let left = c.write_piece.new.text.items in record {
      written = λ parts are.
          let low : at < length parts = omega (arith, c.loop-at-test.true, c.count-at-end.ensures parts are) in
          subst (λ whole. IsWrittenTo whole left old after) (joined-more header parts at low)
          (IsWrittenTo-more (header ++ joined (take at parts)) c.loop-at.text.items (get_or parts at []) left old now after (c.loop-at.invariant.written parts are)
          (subst (λ text. IsWrittenTo text left now after) (c.in_default-push_part.ensures parts are) c.in_default-write_piece.ensures.bytes));
      unfailed = unfailed-still (has_failed c.args.out.now) (has_failed c.loop-at.out) (has_failed c.write_piece.new.out) c.in_default-write_piece.ensures.failed c.loop-at.invariant.unfailed;
    }

pub returns : goal.returns
returns g c =
    let header = header_of c.args.told.now in
    let at = c.loop-at.at in
    let old = g.W.Write.contents (device_of c.args.out.now) in
    let now = g.W.Write.contents (device_of c.loop-at.out) in
    let after = g.W.Write.contents (device_of c.write_text.new.out) in
    let text = c.loop-at.text.items in record {
      bytes = λ parts are.
          let all = take_all at parts (omega (arith, c.loop-at-test.false, c.count-at-end.ensures parts are)) in
          IsWrittenTo-last (header ++ joined parts) text old now after c.write_text.result
          (subst (λ whole. IsWrittenTo whole text old now) (ap (λ ps. header ++ joined ps) all) (c.loop-at.invariant.written parts are))
          (subst (λ t. WritesExactly t now after c.write_text.result) c.as_slice.ensures.value c.write_text.ensures.bytes);
      failed = search rules;
    }
