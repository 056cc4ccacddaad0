use Rattle.std.proofs.Common.{◌≡◌, ◌∙◌, ap, length, sym, subst, ℕ, List}
use Rattle.std.proofs.lemmas.List.{length-map}
use Rattle.sc_region.specs.Groups.{first_choice, group_of}
use Rattle.sc_region.proofs.Firsts.{names}
use Rattle.sc_region.proofs.Joining.{grouped-together}
use Rattle.sc_region.proofs.districts.Districts.of.Goals as goal

pub returns : goal.returns
returns c =
    let m = c.args.papers.now in
    record {
      one_each = ap length c.into_numbers-groups.ensures ∙ c.in_ok-groups_of.ensures.one_each;
      closed = λ i s listed.
          subst (λ (gs : List ℕ). group_of m gs s ≡ group_of m gs (first_choice m i)) (sym (c.into_numbers-groups.ensures ∙ c.in_ok-groups_of.ensures.joined)) (grouped-together m c.students_len.ensures.well_formed i s listed);
      firsts_each = length-map c.in_ok-firsts.firsts.items names ∙ c.in_ok-firsts.ensures.one_each;
      listed = c.in_ok-firsts.ensures.listed;
    }
