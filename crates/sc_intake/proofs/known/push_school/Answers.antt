use Rattle.std.proofs.Common.{◌≡◌, ◌++◌, ◌∷◌, [], false, nat_eq, sym, ◌∙◌, arith, rules}
use Rattle.std.specs.List.{list_any}
use Rattle.sc_papers.specs.declared.limits.TheConstants.{MOST_SCHOOLS}
use Rattle.sc_intake.specs.Schools.{school_number}
use Rattle.sc_intake.proofs.RowLemmas.{AreRows-push}
use Rattle.sc_intake.proofs.known.push_school.Goals as goal

pub returns-clause-rows : goal.returns-clause-rows
returns-clause-rows c =
    let known = c.args.known.now.items in
    let school = c.args.school in
    let pushed : c.push.new.self.items ≡ known ++ school ∷ [] = search rules in
    let unseen : list_any (nat_eq school.number) c.args.seen.now ≡ false = search rules in
    let new = sym (c.requires.seen school.number) ∙ unseen in
    rw pushed (AreRows-push school_number MOST_SCHOOLS known school c.requires.rows new (omega arith))
