-- What `clap` is told by the tables of options and subcommands.
use Rattle.std.specs.Prelude.{List, [], map, fold}
use Rattle.clap.specs.Words.{App, Rule, Shape, Text, with_subcommand}
use Rattle.sc_words.specs.CommandLine.{required_option, optional_option, flag, program_alone, subcommand}
use Rattle.sc_words.specs.declared.table.KnownOption.{KnownOption}
use Rattle.sc_words.specs.declared.table.KnownSubcommand.{KnownSubcommand}
use Rattle.sc_words.specs.declared.table.OptionKind.{OptionKind}
use Rattle.sc_words.specs.declared.table.OptionKind.TheVariants.{Required, Optional, Flag}

-- the option of this kind and name
abbrev pub option_of : OptionKind → Text → Rule
option_of (Required _) name = required_option name
option_of (Optional _) name = optional_option name
option_of Flag name = flag name

-- what `clap` is told of an option, of a subcommand, and of the program with these subcommands
abbrev pub rule_told : KnownOption → Rule
rule_told option = option_of option.kind option.name.now

abbrev pub shape_told : KnownSubcommand → Shape
shape_told known = subcommand known.name.now (map rule_told known.options.now)

abbrev pub line_told : List KnownSubcommand → App
line_told subcommands = fold with_subcommand (record { top = program_alone; subs = [] }) (map shape_told subcommands)
