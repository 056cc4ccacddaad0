use Rattle.std.proofs.Common.{sym, arith}
use Rattle.std.proofs.lemmas.List.{length-take-le, take_all}
use Rattle.sc_checks.proofs.quoting.told_of.Goals as goal

pub returns : goal.returns
returns c = sym (take_all 40 c.args.value.now (omega arith))

pub slice_bounds-result-end : goal.slice_bounds-result-end
slice_bounds-result-end c = sym (length-take-le 40 c.args.value.now (omega arith))
