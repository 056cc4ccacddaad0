use Rattle.std.proofs.Common.{◌≡◌, ◌++◌, ◌∷◌, [], false, nat_eq, sym, ◌∙◌, arith, rules}
use Rattle.std.specs.List.{list_any}
use Rattle.sc_intake.proofs.RowLemmas.{AreRows-push}
use Rattle.sc_intake.proofs.rows.add_row.Goals as goal

pub returns-clause-rows : goal.returns-clause-rows
returns-clause-rows g c =
    let rows = c.args.rows.now.items in
    let row = c.in_ok-found.found in
    let pushed : c.push.new.self.items ≡ rows ++ row ∷ [] = search rules in
    let fresh : list_any (nat_eq (g.R.Numbered.number row)) c.args.seen.now ≡ false = search rules in
    let new = sym (c.requires.seen (g.R.Numbered.number row)) ∙ fresh in
    rw pushed (AreRows-push g.R.Numbered.number g.R.Numbered.MOST rows row c.requires.rows new (omega arith))
