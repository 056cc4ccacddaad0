-- The order that words give, by what `clap` reads in them.
use Rattle.std.specs.Prelude.{◌≡◌, ◌↔◌, true, List, [], ◌∷◌, Option, Some, IsSomeAnd, option_map, codes}
use Rattle.std.specs.Borrow.{Bor}
use Rattle.clap.specs.Words.{Row, Text, Kinds, fault_of, first_of, one_of, subcommand_of}
use Rattle.sc_words.specs.CommandLine.{command_line}
use Rattle.sc_words.specs.declared.order.FileWords.{FileWords}
use Rattle.sc_words.specs.declared.order.OpeningWords.{OpeningWords}
use Rattle.sc_words.specs.declared.order.Order.{Order}
use Rattle.sc_words.specs.declared.order.Order.TheVariants.{Bundle, Check, Opening}
use Rattle.sc_words.specs.declared.order.Subcommand.{Subcommand}
use Rattle.sc_words.specs.declared.order.Subcommand.TheVariants.{Match, Run, Audit, Replay, Export, Summary, Explain, Admissions, Changes}

-- the text given for the option of this name
abbrev pub IsGiven : List Row → Text → Bor Text → Type 0
IsGiven rows name text = first_of name rows ≡ Some text.now

-- the text given for the option of this name, if there is one
abbrev pub IsGivenOrNot : List Row → Text → Option (Bor Text) → Type 0
IsGivenOrNot rows name text = first_of name rows ≡ option_map (λ t. t.now) text

-- the flag of this name
abbrev pub IsSet : List Row → Text → Type 0
IsSet rows name = one_of name rows ≡ Some (codes "true")

-- the options of the three files
abbrev pub AreFilesIn : List Row → FileWords → Type 0
AreFilesIn rows files = IsGiven rows (codes "schools") files.schools × IsGiven rows (codes "roster") files.roster
    × IsGiven rows (codes "lists") files.lists

-- the four options of an opening
abbrev pub IsOpeningIn : List Row → OpeningWords → Type 0
IsOpeningIn rows o = IsGiven rows (codes "seed") o.seed × AreFilesIn rows o.files

-- what the subcommand of this name asks for, by what its options are
abbrev pub IsSubcommandIn : Text → List Row → Subcommand → Type 0
IsSubcommandIn name rows (Match show_log table) = (name ≡ codes "match") × ((show_log ≡ true) ↔ IsSet rows (codes "print-log"))
    × IsGivenOrNot rows (codes "table") table
IsSubcommandIn name rows (Run script journal no_clobber settle_each) = (name ≡ codes "run") × IsGiven rows (codes "script") script
    × IsGiven rows (codes "journal") journal × ((no_clobber ≡ true) ↔ IsSet rows (codes "no-clobber")) × ((settle_each ≡ true) ↔ IsSet rows (codes "settle-each"))
IsSubcommandIn name rows (Audit log report) =
    (name ≡ codes "audit") × IsGiven rows (codes "log") log × IsGivenOrNot rows (codes "report") report
IsSubcommandIn name rows (Replay journal table) =
    (name ≡ codes "replay") × IsGiven rows (codes "journal") journal × IsGivenOrNot rows (codes "table") table
IsSubcommandIn name rows (Export to journal) =
    (name ≡ codes "export") × IsGiven rows (codes "to") to × IsGivenOrNot rows (codes "journal") journal
IsSubcommandIn name rows (Summary journal) = (name ≡ codes "summary") × IsGivenOrNot rows (codes "journal") journal
IsSubcommandIn name rows (Explain student journal) =
    (name ≡ codes "explain") × IsGivenOrNot rows (codes "student") student × IsGivenOrNot rows (codes "journal") journal
IsSubcommandIn name rows (Admissions school journal) =
    (name ≡ codes "admissions") × IsGivenOrNot rows (codes "school") school × IsGivenOrNot rows (codes "journal") journal
IsSubcommandIn name rows (Changes journal since) =
    (name ≡ codes "changes") × IsGiven rows (codes "journal") journal × IsGivenOrNot rows (codes "since") since

-- the order of the subcommand of this name: the opening that its options name, and what is to be done with it; or the
-- files that are to be checked, and the script if there is one
abbrev pub IsOrderIn : Text → List Row → Order → Type 0
IsOrderIn name rows Bundle = ⊥
IsOrderIn name rows (Check files script) = (name ≡ codes "check") × AreFilesIn rows files × IsGivenOrNot rows (codes "script") script
IsOrderIn name rows (Opening opening subcommand) = IsOpeningIn rows opening × IsSubcommandIn name rows subcommand

-- no words, or the order of the subcommand that `clap` reads in them
abbrev pub IsOrderOf : List Text → Order → Type 0
IsOrderOf [] order = order ≡ Bundle
IsOrderOf (word ∷ rest) order =
    IsSomeAnd (subcommand_of command_line (word ∷ rest)) (λ found. IsOrderIn found.0 found.1 order)

-- the kinds of error that `clap` finds in the words; no words are no error
abbrev pub faults_of : List Text → Kinds
faults_of [] = []
faults_of (word ∷ rest) = fault_of command_line (word ∷ rest)
