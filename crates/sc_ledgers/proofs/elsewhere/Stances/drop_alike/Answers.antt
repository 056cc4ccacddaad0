use Rattle.std.proofs.Common.{sym, subst, rules}
use Rattle.std.proofs.lemmas.Fn.{filter_same}
use Rattle.sc_ledgers.specs.Elsewhere.{is_kept, AreApart, HasDropped}
use Rattle.sc_ledgers.proofs.Stancing.{apart-left, dropped}
use Rattle.sc_ledgers.proofs.elsewhere.Stances.drop_alike.Goals as goal

pub invariant_of-self : goal.invariant_of-self
invariant_of-self c =
    subst AreApart (sym (filter_same _ (is_kept c.args.but) _ (λ x b f' k. search rules) _ _ c.retain.ensures.filtered)) (apart-left c.args.but c.self.inside.list.items c.self.invariant)

pub returns : goal.returns
returns c =
    subst (λ l. HasDropped l c.retain.new.self.items c.args.but) c.self.view_is
    (subst (λ l. HasDropped c.self.inside.list.items l c.args.but) (sym (filter_same _ (is_kept c.args.but) _ (λ x b f' k. search rules) _ _ c.retain.ensures.filtered)) (dropped c.args.but c.self.inside.list.items))
