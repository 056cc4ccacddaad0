-- How the type `Fields` keeps the fields of a line. Contracts see the list of the fields alone.
use Rattle.std.specs.Prelude.{ℕ, List, map}
use Rattle.sc_decimal.specs.declared.fields.Fields.TheInside.{Inside}

-- the fields, in order
abbrev pub fields_of : Inside → List (List ℕ)
fields_of i = map (λ field. field.now) i.fields.items
