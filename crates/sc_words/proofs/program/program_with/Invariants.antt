use Rattle.std.proofs.Common.{◌≡◌, take}
use Rattle.clap.specs.Words.{app_of}
use Rattle.sc_words.specs.Table.{line_told}
use Rattle.sc_words.proofs.program.program_with.Given as goal

abbrev pub invariant-loop-known : goal.invariant-loop-known
invariant-loop-known l = app_of l.program ≡ line_told (take l.known-index l.subcommands)
