use Rattle.std.proofs.Common.{◌≡◌, ℕ, List, Option, Some, None, ap, refl, slice_get, sym, ◌∙◌}
use Rattle.std.specs.Option.{option_map}
use Rattle.std.proofs.lemmas.Option.{slice_get-map}
use Rattle.sc_lottery.specs.Draw.{draw}
use Rattle.sc_papers.specs.Market.{Market, students_of, zone_at}
use Rattle.sc_papers.specs.Representation.{market_of, rows_of}
use Rattle.sc_papers.specs.StudentRow.{Row, row_of}
use Rattle.sc_papers.specs.declared.records.Student.{Student}
use Rattle.sc_papers.proofs.flat_papers.FlatPapers.draw_at.Goals as goal

-- the draws of the rows are those of the students, in their order
draw-there : (m : Market) (table : List (Option ℕ)) (rows : List Row) (place : ℕ) → rows ≡ rows_of m.seed (zone_at m) table m.students
    → option_map (λ (r : Row). r.draw) (slice_get rows place) ≡ option_map (draw m.seed) (slice_get (students_of m) place)
draw-there m table rows place are =
    ap (λ rs. option_map (λ (r : Row). r.draw) (slice_get rs place)) are
    ∙ ap (option_map (λ (r : Row). r.draw)) (slice_get-map (λ e. row_of (zone_at m) table e.0 (draw m.seed e.0) e.1) m.students place)
    ∙ go (slice_get m.students place)
    ∙ sym (ap (option_map (draw m.seed)) (slice_get-map (λ e. e.0) m.students place))
  where
    go : (o : Option (ℕ × Student)) → option_map (λ (r : Row). r.draw) (option_map (λ e. row_of (zone_at m) table e.0 (draw m.seed e.0) e.1) o) ≡ option_map (draw m.seed) (option_map (λ e. e.0) o)
    go None = refl
    go (Some e) = refl

pub returns : goal.returns
returns c =
    ap Some c.draw.ensures ∙ sym (ap (option_map (λ (r : Row). r.draw)) (sym c.in_ok-row.ensures))
    ∙ draw-there (market_of c.self.inside) c.self.inside.positions c.self.inside.rows.items c.args.position c.self.invariant.rows
    ∙ ap (λ (m : Market). option_map (draw m.seed) (slice_get (students_of m) c.args.position)) c.self.view_is
