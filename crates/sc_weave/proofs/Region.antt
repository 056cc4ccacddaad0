-- Segments of the rest outlast a change within a set.
use Rattle.std.proofs.Common.{◌≡◌, ap, sym, ◌∙◌, ℕ, Bool, List, length, take}
use Rattle.std.specs.Map.{keys_of}
use Rattle.std.proofs.lemmas.Bool.{not-true}
use Rattle.sc_papers.specs.Market.{Market, students_of, seats_of}
use Rattle.sc_papers.specs.WellFormed.{WellFormed}
use Rattle.sc_papers.specs.Restriction.{restricted, joined, outside, AreApart, AlikeUpTo, AlikeOutside, IsSegmented}
use Rattle.sc_papers.specs.declared.rejection.Rejection.{Rejection}
use Rattle.sc_papers.proofs.Rewinding.{settled-rewound}
use Rattle.sc_papers.proofs.Subsets.{well-restricted}
use Rattle.sc_weave.specs.Weaving.{part_of, woven}
use Rattle.sc_weave.proofs.Counts.{listed-restricted, listed-cut, apart-outside}
use Rattle.sc_weave.proofs.Part.{part-segmented}
use Rattle.sc_weave.proofs.Woven.{woven-segmented}

-- the rest of the papers is alike up to every k
rest-alike : (m n : Market) (test : ℕ → Bool) (k : ℕ) → WellFormed m → AlikeOutside test m n → AlikeUpTo k (restricted m (outside test)) (restricted n (outside test))
unfolding restricted seats_of
rest-alike m n test k well alike = record {
  seed = alike.seed;
  students = ap (take k) alike.students;
  zones = alike.zones;
  seats = λ i s listed.
      let (out, in_list) = listed-restricted m (outside test) i s (listed-cut (restricted m (outside test)) k i s (well-restricted m (outside test) well) listed) in
      alike.seats i s (not-true (test i) out) in_list;
}

students-same : (m n : Market) (test : ℕ → Bool) → AlikeOutside test m n → students_of (restricted n (outside test)) ≡ students_of (restricted m (outside test))
unfolding restricted
students-same m n test alike = ap keys_of alike.students

pub rest-segmented : (m n : Market) (test : ℕ → Bool) (rest : List (List Rejection)) → WellFormed m → AlikeOutside test m n → IsSegmented (restricted m (outside test)) rest → IsSegmented (restricted n (outside test)) rest
rest-segmented m n test rest well alike segmented = record {
  one_each = segmented.one_each ∙ ap length (sym (students-same m n test alike));
  settled = λ k low. settled-rewound (restricted m (outside test)) (restricted n (outside test)) k (joined (take k rest)) (rest-alike m n test k well alike) (segmented.settled k low);
}

pub region-segmented : (m n : Market) (test : ℕ → Bool) (segments inside : List (List Rejection)) → WellFormed m → WellFormed n → AreApart m test → AreApart n test → AlikeOutside test m n → IsSegmented m segments → IsSegmented (restricted n test) inside → IsSegmented n (woven (students_of n) test inside (part_of (students_of m) (outside test) segments))
region-segmented m n test segments inside well_m well_n apart_m apart_n alike segmented new =
    woven-segmented n test inside (part_of (students_of m) (outside test) segments) well_n apart_n new
    (rest-segmented m n test (part_of (students_of m) (outside test) segments) well_m alike
    (part-segmented m (outside test) segments well_m (apart-outside m test apart_m) segmented))
