-- The command line of the program, in the words of `clap`'s specs.
use Rattle.std.specs.Prelude.{◌≡◌, true, false, List, [], ◌∷◌, ◌++◌, map, Some, codes}
use Rattle.clap.specs.Words.{App, Rule, Shape, Text, app_of, new_rule, rule_of}
use Rattle.clap.specs.Simple.{new_shape}
use Rattle.clap.specs.declared.builder.command.Command.TheViews.{out-Command as fields_of}
use Rattle.clap.specs.declared.builder.ArgAction.TheVariants.{Set, SetTrue}
use Rattle.clap.specs.declared.builder.arg.Arg.{Arg}
use Rattle.clap.specs.declared.builder.command.Command.{Command}

-- `--NAME VALUE`, which must be given
abbrev pub required_option : Text → Rule
required_option name = record (new_rule name) {
  long = Some name;
  action = Some Set;
  value_names = 1;
  required = true;
}

-- `--NAME VALUE`, which may be given
abbrev pub optional_option : Text → Rule
optional_option name = record (required_option name) { required = false }

-- `--NAME`, which may be given
abbrev pub flag : Text → Rule
flag name = record (new_rule name) { long = Some name; action = Some SetTrue }

-- the names of the options that must be given
abbrev pub file_names : List Text
file_names = codes "schools" ∷ codes "roster" ∷ codes "lists" ∷ []

abbrev pub opening_names : List Text
opening_names = codes "seed" ∷ file_names

abbrev pub check_names : List Text
check_names = file_names

abbrev pub run_names : List Text
run_names = opening_names ++ codes "script" ∷ codes "journal" ∷ []

abbrev pub audit_names : List Text
audit_names = opening_names ++ codes "log" ∷ []

abbrev pub replay_names : List Text
replay_names = opening_names ++ codes "journal" ∷ []

abbrev pub export_names : List Text
export_names = opening_names ++ codes "to" ∷ []

abbrev pub summary_names : List Text
summary_names = opening_names

abbrev pub explain_names : List Text
explain_names = opening_names

abbrev pub admissions_names : List Text
admissions_names = opening_names

abbrev pub changes_names : List Text
changes_names = opening_names ++ codes "journal" ∷ []

-- a subcommand with these options
abbrev pub subcommand : Text → List Rule → Shape
subcommand name options = record (new_shape name) { rules = options }

-- the program without its subcommands; the words that it reads do not begin with its name
abbrev pub program_alone : Shape
program_alone = record (new_shape (codes "clearinghouse")) {
  has_version = true;
  no_binary_name = true;
  subcommand_required = true;
}

-- one of the subcommands with its options, and nothing else
abbrev pub command_line : App
command_line = record {
  top = record program_alone { is_leaf = false };
  subs = subcommand (codes "check") (map required_option check_names ++ optional_option (codes "script") ∷ [])
      ∷ subcommand (codes "match") (map required_option opening_names ++ flag (codes "print-log") ∷ optional_option (codes "table") ∷ [])
      ∷ subcommand (codes "run") (map required_option run_names ++ flag (codes "no-clobber") ∷ flag (codes "settle-each") ∷ flag (codes "settle-at-end") ∷ [])
      ∷ subcommand (codes "audit") (map required_option audit_names ++ optional_option (codes "report") ∷ [])
      ∷ subcommand (codes "replay") (map required_option replay_names ++ optional_option (codes "table") ∷ [])
      ∷ subcommand (codes "export") (map required_option export_names ++ optional_option (codes "journal") ∷ [])
      ∷ subcommand (codes "summary") (map required_option summary_names ++ optional_option (codes "journal") ∷ [])
      ∷ subcommand (codes "explain") (map required_option explain_names ++ optional_option (codes "student") ∷ optional_option (codes "journal") ∷ [])
      ∷ subcommand (codes "admissions") (map required_option admissions_names ++ optional_option (codes "school") ∷ optional_option (codes "journal") ∷ [])
      ∷ subcommand (codes "changes") (map required_option changes_names ++ optional_option (codes "since") ∷ [])
      ∷ [];
}

-- `clap` has been told of this option, for its own command alone
pub record IsOption (option : Arg) (told : Rule) : Type 0 where
  pub rule : rule_of option ≡ told
  pub local : option.global ≡ false

-- `clap` has been told of this command, without subcommands
abbrev pub IsCommand : Command → Shape → Type 0
IsCommand c s =
    (app_of c ≡ record { top = s; subs = [] }) × ((fields_of c).has_globals ≡ false)
