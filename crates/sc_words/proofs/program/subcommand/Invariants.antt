use Rattle.std.proofs.Common.{map, take}
use Rattle.sc_words.specs.CommandLine.{IsCommand, subcommand}
use Rattle.sc_words.specs.Table.{rule_told}
use Rattle.sc_words.proofs.program.subcommand.Given as goal

abbrev pub invariant-loop-option : goal.invariant-loop-option
invariant-loop-option l = IsCommand l.command (subcommand l.known.name.now (map rule_told (take l.option-index l.option-items)))
