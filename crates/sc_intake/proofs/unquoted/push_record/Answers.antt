use Rattle.std.proofs.Common.{◌≡◌, ◌+◌, ◌-◌, ◌<◌, ◌≤◌, ◌++◌, ◌∷◌, [], false, Some, length, take, arith, rules, ◌∙◌, sym}
use Rattle.std.specs.List.{list_any}
use Rattle.std.proofs.lemmas.List.{length-take-le, take_all}
use Rattle.csv.specs.Records.{field_at}
use Rattle.sc_intake.specs.Plain.{ends_field}
use Rattle.sc_intake.proofs.Unquoting.{AddsFields-more, AddsLine-last, fields-taken}
use Rattle.sc_intake.proofs.unquoted.push_record.Goals as goal

pub fields-preserved : goal.fields-preserved
fields-preserved c =
    let fields = c.args.records.now.current in
    let field = c.in_ok-field.field.now in
    let at : field_at fields c.fields.index ≡ Some field = search rules in
    let within : c.fields.index < length fields = omega (arith, c.len-width.ensures) in
    let added : c.push_field.new.text.items ≡ c.fields.text.items ++ (field ++ 44 ∷ []) = search rules in
    let clean : list_any ends_field field ≡ false = search rules in
    rw (fields-taken fields c.fields.index field within at)
    (AddsFields-more c.args.text.now.items c.fields.text.items c.push_field.new.text.items field (take c.fields.index fields) c.fields.invariant clean added)

pub returns : goal.returns
returns c =
    let fields = c.args.records.now.current in
    let index = c.fields.index in
    let field = c.in_ok-last.last.now in
    let last : index ≡ length fields - 1 = omega (arith, c.len-width.ensures) in
    let within : index < length fields = omega (arith, c.len-width.ensures) in
    let at : field_at fields (length fields - 1) ≡ Some field = search rules in
    let added : c.push_field-2.new.text.items ≡ c.fields.text.items ++ (field ++ 10 ∷ []) = search rules in
    let clean : list_any ends_field field ≡ false = search rules in
    let some : 1 ≤ length (take index fields) = omega (arith, length-take-le index fields (omega arith), c.len-width.ensures) in
    let all : take index fields ++ field ∷ [] ≡ fields = sym (fields-taken fields index field within (rw last at)) ∙ take_all (index + 1) fields (omega arith) in
    rw all at (AddsLine-last c.args.text.now.items c.fields.text.items c.push_field-2.new.text.items field (take index fields) c.fields.invariant clean added some)
