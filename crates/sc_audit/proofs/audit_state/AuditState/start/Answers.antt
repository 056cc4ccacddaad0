use Rattle.std.proofs.Common.{◌≡◌, ◌∙◌, sym, subst, ap, refl, rules, ℕ, List, [], None, Option, All, length}
use Rattle.std.specs.Prelude.{replicate}
use Rattle.std.proofs.lemmas.List.{length-map, length-replicate}
use Rattle.std.proofs.lemmas.Map.Entries.{length-keys_of}
use Rattle.std.proofs.lemmas.List.Elements.{All-map, All-replicate}
use Rattle.sc_papers.specs.Market.{schools_of, seats_of}
use Rattle.sc_papers.specs.declared.key.Key.{Key}
use Rattle.sc_audit.specs.AuditState.{view_of}
use Rattle.sc_audit.specs.BestKeys.{BestView}
use Rattle.sc_audit.proofs.Openings.{nobody-stands, no-next, best-empty}
use Rattle.sc_audit.proofs.audit_state.AuditState.start.Goals as goal

pub start_all-requires-clause-nowhere : goal.start_all-requires-clause-nowhere
start_all-requires-clause-nowhere c =
    let m = c.args.papers.now in
    let stands = c.in_ok-from_elem.field-0 in
    let nobody : stands.items ≡ replicate c.students_len.result None = c.in_ok-from_elem.ensures.items_if_clones_equal (search rules) in
    let all : All (λ (stand : Option ℕ). stand ≡ None) stands.items =
    subst (All (λ (stand : Option ℕ). stand ≡ None)) (sym nobody) (All-replicate (λ (stand : Option ℕ). stand ≡ None) c.students_len.result None refl) in
    no-next m stands.items (nobody-stands m stands.items (ap length nobody ∙ length-replicate c.students_len.result None ∙ c.students_len.ensures.count) all)

pub start_all-requires-clause-keeps_best : goal.start_all-requires-clause-keeps_best
start_all-requires-clause-keeps_best c =
    let m = c.args.papers.now in
    let stands = c.in_ok-from_elem.field-0 in
    let schools = c.in_ok-no_keys.field-0 in
    let nobody : stands.items ≡ replicate c.students_len.result None = c.in_ok-from_elem.ensures.items_if_clones_equal (search rules) in
    best-empty m (view_of (record { stands = stands; schools = schools; hints = c.in_ok-hints_of.field-0 })) c.students_len.ensures.well_formed c.students_len.ensures.within_limits
    (ap length nobody ∙ length-replicate c.students_len.result None ∙ c.students_len.ensures.count)
    (length-map schools.items (λ (b : BestView). b.keys) ∙ sym (length-map schools.items (λ (b : BestView). b.seats)) ∙ ap length c.in_ok-no_keys.ensures.seats ∙ length-map (schools_of m) (seats_of m) ∙ length-keys_of m.schools)
    c.in_ok-no_keys.ensures.seats
    (start_all-requires-clause-nowhere c)
    (All-map (λ (keys : List Key). keys ≡ []) (λ (b : BestView). b.keys) schools.items c.in_ok-no_keys.ensures.empty)
