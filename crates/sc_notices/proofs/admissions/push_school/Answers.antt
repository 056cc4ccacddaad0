use Rattle.std.proofs.Common.{◌∙◌, ap, sym}
use Rattle.std.proofs.lemmas.Result.{on_ok_weaker}
use Rattle.sc_papers.proofs.Hands.{school-has_position}
use Rattle.sc_seats.specs.Roll.{in_order}
use Rattle.sc_notices.proofs.AdmissionLemmas.{school-joined}
use Rattle.sc_notices.proofs.admissions.push_school.Goals as goal

pub unreachable-requires : goal.unreachable-requires
unreachable-requires c = school-has_position c.args.papers.now c.args.school c.requires.known c.in_default.ensures

pub returns : goal.returns
returns c = on_ok_weaker c.push_list-2.result
    (λ second a are.
    let s = c.args.school in
    let p = c.in-Some.position in
    let found = sym c.in-Some.ensures in
    let admitted = c.as_slice.ensures.value ∙ c.in_ok-admitted.ensures ∙ ap in_order (c.at.ensures ∙ are.holders.keys s p found) in
    let waiting = c.as_slice-2.ensures.value ∙ c.in_ok-waiting.ensures ∙ ap in_order (c.at-2.ensures ∙ are.waiters.keys s p found) in
    school-joined c.args.papers.now a s c.as_slice.result.now c.as_slice-2.result.now c.args.text.now.items c.push_list.new.text.items c.push_list-2.new.text.items
    admitted waiting c.in_ok-push_list.ensures second)
    c.push_list-2.ensures
