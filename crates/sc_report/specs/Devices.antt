-- What a contract reads of the devices of the tests.
use Rattle.std.specs.Prelude.{ℕ, ◌-◌, ◌<◌, ◌≤◌, ◌==◌, Bool, List, true, false}
use Rattle.sc_report.specs.declared.devices.FailingReader.{FailingReader}
use Rattle.sc_report.specs.declared.devices.FailingWriter.{FailingWriter}
use Rattle.sc_report.specs.declared.devices.Ending.{Ending}
use Rattle.sc_report.specs.declared.devices.Ending.TheVariants.{Fails, FailsOnce, TakesNone}
use Rattle.sc_report.specs.declared.devices.Passes.{Passes}
use Rattle.sc_report.specs.declared.devices.Passes.TheVariants.{All, Bytes, Calls}

-- whether a device passes nothing more
abbrev pub is_spent : Passes → Bool
is_spent (Bytes left) = left == 0
is_spent (Calls left) = left == 0
is_spent All = false

-- a call may move so many bytes
abbrev pub moves : Passes → ℕ → Type 0
moves (Bytes left) count = count ≤ left
moves (Calls left) count = 0 < left
moves All count = 0 ≤ count

-- what a device passes after a call that moved so many bytes
abbrev pub passes_after : ℕ → Passes → Passes
passes_after count (Bytes left) = Bytes (left - count)
passes_after count (Calls left) = Calls (left - 1)
passes_after count All = All

-- what a device passes after a call that failed: all, where it fails only once
abbrev pub after_fault : Bool → Passes → Passes
after_fault true left = All
after_fault false left = left

-- the bytes that stand before a failing reader, also those that it will not give
abbrev pub bytes_left : FailingReader → List ℕ
bytes_left reader = reader.bytes.now

-- what it gives before it fails
abbrev pub gives_left : FailingReader → Passes
gives_left reader = reader.passes

-- how many bytes a reader gives at most in one call, one where this is 0
abbrev pub reader_piece : FailingReader → ℕ
reader_piece reader = reader.piece

-- whether one call of a reader fails and the later ones do not
abbrev pub reader_fails_once : FailingReader → Bool
reader_fails_once reader = reader.once

-- the bytes that a failing writer took
abbrev pub bytes_taken : FailingWriter → List ℕ
bytes_taken writer = writer.taken.items

-- what it takes before its calls end as said
abbrev pub takes_left : FailingWriter → Passes
takes_left writer = writer.passes

-- how many bytes a writer takes at most in one call, one where this is 0
abbrev pub writer_piece : FailingWriter → ℕ
writer_piece writer = writer.piece

-- how its calls end after that
abbrev pub ending_of : FailingWriter → Ending
ending_of writer = writer.ending

-- whether one call fails by this ending and the later ones do not
abbrev pub is_once : Ending → Bool
is_once Fails = false
is_once TakesNone = false
is_once (FailsOnce kind) = true
