use Rattle.std.specs.List.{list_any}
use Rattle.std.specs.Map.{lookup}
use Rattle.std.proofs.Common.{arith, length, map, nat_eq, List, ◌++◌, ◌∷◌, [], refl, ◌∙◌, ap, subst, sym}
use Rattle.std.proofs.lemmas.List.{length_push}
use Rattle.sc_papers.specs.Entry.{with_choices_at, MayEnterAt}
use Rattle.sc_papers.specs.Representation.{market_of}
use Rattle.sc_papers.specs.Market.{Market}
use Rattle.sc_papers.specs.Classed.{Classed}
use Rattle.sc_papers.specs.StudentRow.{Row, classed_at, row_at}
use Rattle.sc_papers.specs.Verdict.{with_student}
use Rattle.sc_papers.proofs.Entering.{MayEnter-allowed, list_any-keys}
use Rattle.sc_papers.proofs.EnteringRepresentation.{holds-entered, row-made}
use Rattle.sc_papers.proofs.Representation.{Holds, kept-few}
use Rattle.sc_papers.proofs.flat_papers.FlatPapers.put_last.Goals as goal

entered : (c : goal.After-keep_siblings) → Holds (record c.self.inside { lottery = c.draw-draw.new.self; numbers = c.push.new.self; rows = c.push_reserved.new.self; siblings = c.keep_siblings.new.kept })
    (with_student (market_of c.self.inside) c.args.number (with_choices_at (market_of c.self.inside) c.args.choices.now c.args.student.now))
entered c =
    let i = c.args.number in
    let may = subst (λ (m : Market). MayEnterAt m i c.args.student.now c.args.choices.now) (sym c.self.view_is) c.requires in
    let student = with_choices_at (market_of c.self.inside) c.args.choices.now c.args.student.now in
    let made = c.new-row.ensures
    ∙ ap (λ (cs : List Classed). row_at cs i c.draw-draw.result c.args.student.now)
    (c.classed_list-choices.ensures ∙ ap (λ (m : Market). map (classed_at m c.args.student.now) c.args.choices.now) (sym c.self.view_is)) in
    let row = row-made c.self.inside i c.args.student.now c.args.choices.now c.self.invariant may.within c.draw-draw.result c.new-row.result c.draw-draw.ensures.draw made in
    holds-entered c.self.inside _ i student c.self.invariant (MayEnter-allowed (market_of c.self.inside) i student may.allowed) c.draw-draw.ensures.seed refl refl c.in_ok-push.ensures
    (c.push_reserved.ensures ∙ ap (λ (rows : List Row). rows ++ c.new-row.result ∷ []) c.in_ok-reserve.ensures.items ∙ ap (λ (r : Row). c.self.inside.rows.items ++ r ∷ []) row)
    (λ q apart. c.keep_siblings.ensures.others q apart ∙ ap (lookup (nat_eq q)) c.in_ok-reserve-2.ensures.entries) c.keep_siblings.ensures.own
    (omega (arith, c.keep_siblings.ensures.room, c.in_ok-reserve-2.ensures.ok, c.saturating_sub-room.ensures, c.len.ensures, c.len-2.ensures.len, ap length c.in_ok-reserve-2.ensures.entries, ap length c.push_reserved.ensures, length_push c.reserve.new.self.items c.new-row.result))

pub invariant_of-self-2 : goal.invariant_of-self-2
invariant_of-self-2 c = (entered c).0

pub returns : goal.returns
returns c = (entered c).1 ∙ ap (λ (m : Market). with_student m c.args.number (with_choices_at m c.args.choices.now c.args.student.now)) c.self.view_is

pub push-requires : goal.push-requires
push-requires c =
    let i = c.args.number in
    let may = subst (λ (m : Market). MayEnterAt m i c.args.student.now c.args.choices.now) (sym c.self.view_is) c.requires in
    let student = with_choices_at (market_of c.self.inside) c.args.choices.now c.args.student.now in
    ap (list_any (nat_eq i)) c.self.invariant.numbers
    ∙ list_any-keys i (market_of c.self.inside).students (MayEnter-allowed (market_of c.self.inside) i student may.allowed).new

pub keep_siblings-requires-clause-room : goal.keep_siblings-requires-clause-room
keep_siblings-requires-clause-room c = λ none.
    let few = kept-few c.self.inside c.self.invariant c.len-2.ensures.unique in
    omega (arith, few, c.in_ok-reserve-2.ensures.ok, c.saturating_sub-room.ensures, c.len.ensures, c.len-2.ensures.len, ap length c.in_ok-reserve.ensures.items)
