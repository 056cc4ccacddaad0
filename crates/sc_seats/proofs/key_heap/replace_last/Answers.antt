use Rattle.std.proofs.Common.{◌∷◌, ◌∙◌, rules, subst, sym}
use Rattle.std.specs.BinaryHeap.{heap_items}
use Rattle.std.specs.BinaryHeap.PeekMut.{peek_mut_rest}
use Rattle.std.specs.List.Sorted.{IsPermutation}
use Rattle.sc_papers.specs.declared.key.Key.{Key}
use Rattle.sc_seats.proofs.Heaps.{replaced-heap}
use Rattle.sc_seats.proofs.key_heap.replace_last.Goals as goal

pub returns-clause-together : goal.returns-clause-together
returns-clause-together c =
    let rest = peek_mut_rest c.in-Some.top in
    let taken : IsPermutation (heap_items c.args.keys.now) (c.replace-last.result ∷ rest) =
    subst (λ (last : Key). IsPermutation (heap_items c.args.keys.now) (last ∷ rest)) (sym (c.replace-last.ensures.value ∙ c.deref_mut.ensures.value)) c.in-Some.ensures.permutation in
    let put = subst (λ (top : Key). IsPermutation (top ∷ rest) (heap_items c.drop.new.self.0)) c.replace-last.ensures.after (c.drop.ensures.permutation (search rules)) in
    let together = replaced-heap (heap_items c.args.keys.now) rest _ c.args.key c.replace-last.result taken put in
    search rules
