use Rattle.std.proofs.Common.{◌≡◌, refl, ap, ◌<◌, inl, sym, ◌∙◌, ℕ, true, get_or, length, Some, arith}
use Rattle.std.proofs.lemmas.Bool.{eqb-true}
use Rattle.std.proofs.lemmas.List.{length-map}
use Rattle.std.proofs.lemmas.Option.{slice_get-get_or}
use Rattle.sc_papers.specs.Market.{Market, choices_of, students_of}
use Rattle.sc_papers.specs.declared.amendment.Amendment.{Amendment}
use Rattle.sc_stamps.specs.Record.{record_of}
use Rattle.sc_papers.specs.declared.amendment.Amendment.TheVariants.{Add}
use Rattle.sc_region.specs.Region.{amended_school, concerned, InRegion}
use Rattle.sc_repair.specs.Anew.{school_in}
use Rattle.sc_repair.specs.Rewinding.{lists}
use Rattle.std.proofs.lemmas.Map.Views.{Contains-from_any}
use Rattle.sc_engine.proofs.InOrder.{any-turned}
use Rattle.sc_repair.proofs.rewind.point_in.Goals as goal

-- the school that an amendment amends is that of its record
amended-in : (a : Amendment) → school_in (record_of a) ≡ amended_school a
amended-in (Add s count) = refl
amended-in _ = refl

-- whoever lists the amended school is in the region
in-region : (m : Market) (a : Amendment) (s p : ℕ) → amended_school a ≡ Some s → p < length m.students → lists m s (get_or (students_of m) p 0) ≡ true
    → InRegion m a (get_or (students_of m) p 0)
in-region m a s p is low listed = concerned (get_or (students_of m) p 0) s is (inl (Contains-from_any eqb-true s (choices_of m (get_or (students_of m) p 0)) (any-turned (choices_of m (get_or (students_of m) p 0)) s ∙ listed)))

pub first_marked-requires-clause-marked : goal.first_marked-requires-clause-marked
first_marked-requires-clause-marked c p low listed =
    let m = c.args.papers.now in
    let count : length (students_of m) ≡ length m.students = length-map m.students (λ e. e.0) in
    (c.requires.region p (get_or (students_of m) p 0) (slice_get-get_or (students_of m) p 0 (omega (arith, low, count)))).1
    (in-region m c.args.amendment.now c.in-OfSchool.school p (sym (amended-in c.args.amendment.now) ∙ ap school_in (sym c.record_of.ensures ∙ c.in-OfSchool.is)) low listed)
