-- A school that may be added leaves the papers well-formed and within their limits.
use Rattle.std.proofs.Common.{◌≡◌, Option, ℕ, ◌<◌, ◌≤◌, nat_eq, false, List, [], ◌∷◌, ◌++◌, length, map, None, Some, cond, position, refl, sym, ap, ◌∙◌, arith, length-append}
use Rattle.std.proofs.lemmas.Map.Entries.{length-keys_of}
use Rattle.std.specs.Prelude.{nat_lt, nat_le, slice_index_or}
use Rattle.std.specs.Map.{lookup}
use Rattle.indexmap.specs.IndexMap.{insert_entry}
use Rattle.indexmap.proofs.CallerLemmas.{insert_entry-new}
use Rattle.std.proofs.lemmas.Bool.Decides.{nat_tests}
use Rattle.std.proofs.lemmas.Cmp.{nat_eq_equiv}
use Rattle.std.proofs.lemmas.List.Elements.{All-push}
use Rattle.std.proofs.lemmas.Map.Keys.{IsDistinct-push}
use Rattle.sc_lottery.specs.Draw.{draw}
use Rattle.sc_papers.specs.Representation.{IsSound, AreKept, market_of}
use Rattle.sc_papers.specs.StudentRow.{row_of}
use Rattle.sc_papers.specs.Market.{Market, is_school, schools_of, zone_at}
use Rattle.sc_papers.specs.Verdict.{refuse_if, school_verdict, with_school}
use Rattle.sc_papers.specs.WellFormed.{WellFormed, WithinLimits}
use Rattle.sc_papers.specs.declared.flat_papers.FlatPapers.TheInside.{Inside}
use Rattle.sc_papers.specs.declared.records.School.{School}
use Rattle.sc_papers.specs.declared.records.Student.{Student}
use Rattle.sc_papers.specs.declared.school_refusal.SchoolRefusal.TheVariants.{SchoolExists, TooManySchools, SchoolsClosed}
use Rattle.sc_papers.proofs.Objections.{first_of-none, refuse_if-none}
use Rattle.sc_papers.proofs.Entering.{is_some-false, keys_of-push, list_any-keys}
use Rattle.sc_papers.proofs.Positions.{position-push}
use Rattle.sc_papers.proofs.Representation.{holds-shown, Shows, Holds}
use Rattle.sc_papers.specs.declared.limits.TheConstants.{MOST_SCHOOLS}
use Rattle.sc_papers.specs.declared.seats.TheConstants.Seats.{GREATEST}

-- what it takes to be added
pub record MayOpen (m : Market) (s : ℕ) : Type 0 where
  pub new : lookup (nat_eq s) m.schools ≡ None
  pub room : length m.schools < MOST_SCHOOLS
  pub early : length m.students ≡ 0

-- nothing said against it, the school may
pub MayOpen-allowed : (m : Market) (s : ℕ) → school_verdict m s ≡ None → MayOpen m s
MayOpen-allowed m s allowed =
    let objections =
    refuse_if (is_school m s) SchoolExists
    ∷ refuse_if (nat_le MOST_SCHOOLS (length m.schools)) TooManySchools
    ∷ refuse_if (nat_lt 0 (length m.students)) SchoolsClosed
    ∷ []
    in
    let none = first_of-none objections allowed in
    let room : nat_le MOST_SCHOOLS (length m.schools) ≡ false = refuse_if-none (nat_le MOST_SCHOOLS (length m.schools)) TooManySchools none.1.0 in
    let early : nat_lt 0 (length m.students) ≡ false = refuse_if-none (nat_lt 0 (length m.students)) SchoolsClosed none.1.1.0 in
    record {
      new = is_some-false (lookup (nat_eq s) m.schools) (refuse_if-none (is_school m s) SchoolExists none.0);
      room = grind (arith, nat_tests);
      early = grind (arith, nat_tests);
    }

-- the papers stay well-formed
pub WellFormed-with_school : (m : Market) (s : ℕ) (school : School) → WellFormed m → MayOpen m s → WellFormed (with_school m s school)
WellFormed-with_school m s school formed may = record {
  schools_differ = rw (keys_of-push m.schools (s, school)) (IsDistinct-push nat_eq_equiv (schools_of m) s formed.schools_differ (list_any-keys s m.schools may.new));
  students_differ = formed.students_differ;
  students_proper = λ k d here. let early = may.early in absurd (omega arith);
}

-- and within the limits
pub WithinLimits-with_school : (m : Market) (s : ℕ) (school : School) → WithinLimits m → MayOpen m s → school.seats ≤ GREATEST → WithinLimits (with_school m s school)
WithinLimits-with_school m s school within may seats = record {
  schools = let room = may.room in omega (arith, length-append m.schools ((s, school) ∷ []));
  seats = All-push (λ (entry : ℕ × School). entry.1.seats ≤ GREATEST) m.schools (s, school) within.seats seats;
  students = within.students;
  lists = within.lists;
}

-- where there are no students nothing stands for any
none-listed : {X : Type 0} (before after : ℕ × Student → X) (es : List (ℕ × Student)) → length es ≡ 0 → map before es ≡ map after es
none-listed before after [] none = refl
none-listed before after (e ∷ es) none = absurd (omega (arith, none))

nothing-kept : (kept : List (ℕ × List ℕ)) (table : List (Option ℕ)) (es : List (ℕ × Student)) → length es ≡ 0 → AreKept table kept es
nothing-kept kept table es none = λ k d low. absurd (omega (arith, none, low))

module _ (old new : Inside) (s : ℕ) (school : School) (sound : IsSound old) (may : MayOpen (market_of old) s) (seats : school.seats ≤ GREATEST)
    (seed : new.lottery ≡ old.lottery) (inserted : new.schools.entries ≡ insert_entry nat_eq old.schools.entries s school)
    (put : (k : ℕ) → slice_index_or new.positions k None ≡ cond (nat_eq k s) (Some (length old.schools.entries)) (slice_index_or old.positions k None))
    (numbers : new.numbers ≡ old.numbers) (rows : new.rows ≡ old.rows) (siblings : new.siblings ≡ old.siblings)
  where
    Shows-opened : Shows new (with_school (market_of old) s school)
    Shows-opened =
        let m = market_of old in
        let keys : schools_of (with_school m s school) ≡ schools_of m ++ s ∷ [] = keys_of-push old.schools.entries (s, school) in
        record {
          seed = seed;
          schools = inserted ∙ insert_entry-new nat_eq old.schools s school may.new;
          positions = λ k.
              put k ∙ ap (λ (n : ℕ). cond (nat_eq k s) (Some n) (slice_index_or old.positions k None)) (sym (length-keys_of old.schools.entries))
              ∙ ap (cond (nat_eq k s) (Some (length (schools_of m)))) (sound.positions k)
              ∙ sym (ap (position (nat_eq k)) keys ∙ position-push (schools_of m) s k (list_any-keys s old.schools.entries may.new));
          numbers = rw numbers sound.numbers;
          rows =
              ap (λ rs. rs.items) rows ∙ sound.rows
              ∙ none-listed (λ e. row_of (zone_at m) old.positions e.0 (draw old.lottery e.0) e.1)
              (λ e. row_of (zone_at (with_school m s school)) new.positions e.0 (draw old.lottery e.0) e.1) m.students may.early;
          siblings = rw siblings (nothing-kept old.siblings.entries new.positions m.students may.early);
          of_students = rw siblings sound.of_students;
          room = rw (rows, siblings) sound.room;
        }

    pub holds-opened : Holds new (with_school (market_of old) s school)
    holds-opened =
        holds-shown new (with_school (market_of old) s school) Shows-opened
        (WellFormed-with_school (market_of old) s school sound.well_formed may)
        (WithinLimits-with_school (market_of old) s school sound.within_limits may seats)
