-- The program's command, as `clap` reads it: `replay FILE`, `cost FILE` and `make SEED ROUNDS`.
use Rattle.std.specs.Prelude.{true, codes}
use Rattle.clap.specs.Words.{App, Rule, Text, new_app, new_rule, with_rule, with_subcommand}

-- a word that is required
abbrev pub needed : Text → Rule
needed id = record (new_rule id) { required = true }

-- no name of the program among the words, no help, and a subcommand
abbrev pub quiet : App → App
quiet a = record a { top = record a.top { no_binary_name = true; disable_help_flag = true; disable_help_subcommand = true; subcommand_required = true } }

abbrev pub named : Text → App
named name = with_rule (new_app name) (needed (codes "file"))

abbrev pub make : App
make = with_rule (with_rule (new_app (codes "make")) (needed (codes "seed"))) (needed (codes "rounds"))

abbrev pub genie : App
genie = with_subcommand (with_subcommand (with_subcommand (quiet (new_app (codes "genie"))) (named (codes "replay")).top) (named (codes "cost")).top) make.top
