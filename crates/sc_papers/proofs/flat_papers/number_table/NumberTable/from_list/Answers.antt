use Rattle.std.proofs.Common.{◌≡◌, ◌<◌, ◌+◌, get_or, length, nat_eq, take, ap, subst, ◌∙◌, arith}
use Rattle.std.specs.List.{IsDistinct, list_any}
use Rattle.std.proofs.lemmas.Cmp.{nat_eq_equiv}
use Rattle.indexmap.proofs.MapLemmas.{distinct-take}
use Rattle.sc_papers.proofs.Filling.{take-more}
use Rattle.sc_papers.proofs.NumberTable.{new-last}
use Rattle.sc_papers.proofs.flat_papers.number_table.NumberTable.from_list.Goals as goal

pub push-requires : goal.push-requires
push-requires c =
    let numbers = c.args.numbers.now.items in
    let at = c.loop-number.number-index in
    let number = c.number-item.result in
    let value = c.deref-number-items.ensures.value in
    let low : at < length numbers = omega (arith, c.loop-number-test.true, ap length value) in
    let there : number ≡ get_or numbers at number = c.number-item.is ∙ ap (λ xs. get_or xs at number) value in
    ap (list_any (nat_eq number)) c.loop-number.invariant
    ∙ new-last (take at numbers) number (subst (IsDistinct nat_eq) (take-more numbers at number low there) (distinct-take nat_eq_equiv (at + 1) numbers c.requires))
