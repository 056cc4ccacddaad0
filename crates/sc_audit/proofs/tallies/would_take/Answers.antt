use Rattle.std.proofs.Common.{◌≡◌, ◌∙◌, true, false, ◌||◌, rules}
use Rattle.std.specs.Prelude.{nat_lt}
use Rattle.std.specs.Option.{option_map_or}
use Rattle.sc_papers.specs.Key.{is_before}
use Rattle.sc_papers.specs.Market.{student_at}
use Rattle.sc_tallies.specs.declared.tally.Tally.{Tally}
use Rattle.sc_tallies.proofs.Tallying.{tally-read}
use Rattle.sc_audit.proofs.Tallying.{takes-by}
use Rattle.sc_audit.proofs.tallies.would_take.Goals as goal

pub returns-then-tally-get : goal.returns-then-tally-get
returns-then-tally-get c = λ a are.
    let m = c.args.papers.now in
    let t : Tally = c.index-tallies-at.result in
    let key = c.position_and_key-at.result.1 in
    let read = tally-read m a c.args.tallies.now c.args.school c.position_and_key-at.result.0 t are c.position_and_key-at.ensures.position c.index-tallies-at.is in
    let now : true ≡ (nat_lt t.held c.get.result || option_map_or (is_before key) t.last false) = search rules in
    now ∙ takes-by m a (student_at m c.args.student) c.args.school c.get.result t key read (c.get.ensures.value ∙ c.seats_of.ensures) c.position_and_key-at.ensures.key

pub returns-in-Some : goal.returns-in-Some
returns-in-Some c = λ a are.
    let m = c.args.papers.now in
    let t : Tally = c.index-tallies-at.result in
    let key = c.position_and_key-at.result.1 in
    let read = tally-read m a c.args.tallies.now c.args.school c.position_and_key-at.result.0 t are c.position_and_key-at.ensures.position c.index-tallies-at.is in
    let now : _ ≡ (nat_lt t.held c.get.result || option_map_or (is_before key) t.last false) = search rules in
    now ∙ takes-by m a (student_at m c.args.student) c.args.school c.get.result t key read (c.get.ensures.value ∙ c.seats_of.ensures) c.position_and_key-at.ensures.key

pub returns-in-None : goal.returns-in-None
returns-in-None c = λ a are.
    let m = c.args.papers.now in
    let t : Tally = c.index-tallies-at.result in
    let key = c.position_and_key-at.result.1 in
    let read = tally-read m a c.args.tallies.now c.args.school c.position_and_key-at.result.0 t are c.position_and_key-at.ensures.position c.index-tallies-at.is in
    let now : false ≡ (nat_lt t.held c.get.result || option_map_or (is_before key) t.last false) = search rules in
    now ∙ takes-by m a (student_at m c.args.student) c.args.school c.get.result t key read (c.get.ensures.value ∙ c.seats_of.ensures) c.position_and_key-at.ensures.key
