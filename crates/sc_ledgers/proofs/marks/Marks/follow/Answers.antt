use Rattle.std.proofs.Common.{◌≡◌, sym, subst, ◌∙◌, get_or, true, false, IfSome}
use Rattle.std.proofs.lemmas.Bool.{false≢true}
use Rattle.sc_ledgers.proofs.Flagging.{if-some-still, on-ok-three}
use Rattle.sc_ledgers.proofs.marks.Marks.follow.Goals as goal

pub returns : goal.returns
returns c =
    let clear = c.clear.ensures in
    let first = c.in_ok-mark_always.ensures in
    record {
      follows = on-ok-three c.mark_all.result
          (λ more marked passes. record {
            named = marked;
            one = if-some-still c.args.self.now.always c.mark_always.new.self c.mark_all.new.self more (subst (λ o. IfSome o (λ p. get_or c.mark_always.new.self.flags p false ≡ true)) clear.always first.marked);
            one_each = more.one_each ∙ first.more.one_each ∙ clear.one_each;
            always = more.always ∙ first.more.always ∙ clear.always;
            passes = λ test at named. passes test named (first.passes test (subst (λ o. IfSome o (λ p. test p ≡ true)) (sym clear.always) at) (λ p is. absurd (false≢true (sym (clear.none p) ∙ is))));
          }) c.mark_all.ensures.more c.mark_all.ensures.marked c.mark_all.ensures.passes;
    }
