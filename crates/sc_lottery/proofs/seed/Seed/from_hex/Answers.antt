use Rattle.std.proofs.Common.{sym, ◌∙◌}
use Rattle.sc_lottery.proofs.Digits.{seed_of-decoded, seed_of-refused}
use Rattle.sc_lottery.proofs.seed.Seed.from_hex.Goals as goal

pub returns-in-Ok : goal.returns-in-Ok
returns-in-Ok c = sym (seed_of-decoded c.args.text.now c.in-Ok.bytes (sym c.from_hex.ensures ∙ c.in-Ok.is))

pub returns-in-Err-OddLength : goal.returns-in-Err-OddLength
returns-in-Err-OddLength c =
    let refused = seed_of-refused c.args.text.now c.in-Err-OddLength.field-0 (sym c.from_hex.ensures ∙ c.in-Err-OddLength.is) in
    sym (rw c.in-Err-OddLength.field-0-is at refused)

pub returns-in-Err-InvalidStringLength : goal.returns-in-Err-InvalidStringLength
returns-in-Err-InvalidStringLength c =
    let refused = seed_of-refused c.args.text.now c.in-Err-InvalidStringLength.field-0 (sym c.from_hex.ensures ∙ c.in-Err-InvalidStringLength.is) in
    sym (rw c.in-Err-InvalidStringLength.field-0-is at refused)

pub returns-in-Err-InvalidHexCharacter : goal.returns-in-Err-InvalidHexCharacter
returns-in-Err-InvalidHexCharacter c =
    let refused = seed_of-refused c.args.text.now c.in-Err-InvalidHexCharacter.field-0 (sym c.from_hex.ensures ∙ c.in-Err-InvalidHexCharacter.is) in
    sym (rw c.in-Err-InvalidHexCharacter.field-0-is at refused)

pub unreachable-requires : goal.unreachable-requires
unreachable-requires c =
    let refused = seed_of-refused c.args.text.now c.in-Err-OutOfMemory.field-0 (sym c.from_hex.ensures ∙ c.in-Err-OutOfMemory.is) in
    rw c.in-Err-OutOfMemory.field-0-is at refused
