-- What a contract reads of a watched device.
use Rattle.std.specs.Prelude.{Bool}
use Rattle.sc_report.specs.declared.watched.Watched.{Watched}

-- whether a call on the device has failed
abbrev pub has_failed : {T : Type 0} → Watched T → Bool
has_failed watched = watched.failed

-- the device that is watched
abbrev pub device_of : {T : Type 0} → Watched T → T
device_of watched = watched.device
