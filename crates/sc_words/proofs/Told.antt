-- What `clap` knows of a command after one more step of its building.
use Rattle.std.proofs.Common.{◌≡◌, ◌∙◌, ◌+◌, ◌<◌, ◌||◌, ◌++◌, ℕ, List, [], ◌∷◌, length, map, take, get_or, ap, ap₂}
use Rattle.std.proofs.lemmas.List.{map-append, take_more}
use Rattle.std.proofs.lemmas.List.Sums.{fold_push}
use Rattle.clap.specs.Words.{AddsArg, AddsSubcommand, App, Text, app_of, with_rule, with_subcommand}
use Rattle.clap.specs.declared.builder.arg.Arg.{Arg}
use Rattle.clap.specs.declared.builder.command.Command.{Command}
use Rattle.sc_words.specs.CommandLine.{IsCommand, IsOption, subcommand}
use Rattle.sc_words.specs.Table.{line_told, rule_told, shape_told}
use Rattle.sc_words.specs.declared.table.KnownOption.{KnownOption}
use Rattle.sc_words.specs.declared.table.KnownSubcommand.{KnownSubcommand}

-- one element more of a list that is mapped
map_more : {X Y : Type 0} (f : X → Y) (xs : List X) (i : ℕ) (d : X) → i < length xs → map f (take (i + 1) xs) ≡ map f (take i xs) ++ f (get_or xs i d) ∷ []
map_more f xs i d h = ap (map f) (take_more xs i d h) ∙ map-append f (take i xs) (get_or xs i d ∷ [])

pub one_more_option : (old new : Command) (a : Arg) (name : Text) (options : List KnownOption) (i : ℕ) (d : KnownOption) → i < length options → AddsArg old a new
    → IsOption a (rule_told (get_or options i d)) → IsCommand old (subcommand name (map rule_told (take i options))) → IsCommand new (subcommand name (map rule_told (take (i + 1) options)))
one_more_option old new a name options i d h adds is before =
    rw (map_more rule_told options i d h) (adds.shape is.local ∙ ap₂ with_rule before.0 is.rule, adds.globals ∙ ap₂ (λ x y. x || y) before.1 is.local)

pub one_more_subcommand : (old sub new : Command) (all : List KnownSubcommand) (i : ℕ) (d : KnownSubcommand) → i < length all → AddsSubcommand old sub new
    → IsCommand sub (shape_told (get_or all i d)) → app_of old ≡ line_told (take i all) → app_of new ≡ line_told (take (i + 1) all)
one_more_subcommand old sub new all i d h adds is before =
    rw (map_more shape_told all i d h, fold_push) (adds.shape is.1 ∙ ap₂ with_subcommand before (ap (λ (x : App). x.top) is.0))
