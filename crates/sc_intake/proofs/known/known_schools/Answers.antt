use Rattle.sc_intake.specs.Schools.{is_school_header}
use Rattle.sc_intake.specs.declared.fault.Source.TheVariants.{Schools}
use Rattle.sc_intake.proofs.Bounded.{length-below_header, length-records_in}
use Rattle.sc_intake.proofs.known.known_schools.Goals as goal

pub add_named-requires-clause-few : goal.add_named-requires-clause-few
add_named-requires-clause-few c =
    length-below_header Schools is_school_header c.in-Ok.records.left c.in-Ok-take_header._width c.take_header.new.records.left 67108865
    (length-records_in Schools c.args.bytes.now c.in-Ok.records.left c.in-Ok.ensures) c.in-Ok-take_header.ensures
