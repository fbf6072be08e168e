use Rattle.std.proofs.Common.{rules, ap₂, codes, ◌≡◌, ◌∙◌}
use Rattle.clap.specs.Words.{rule_of, with_rule}
use Rattle.genie_words.specs.Command.{needed}
use Rattle.genie_words.proofs.command.with_file.Goals as goal

pub returns-clause-app : goal.returns-clause-app
returns-clause-app c =
    let file_is : rule_of c.required-file.result ≡ needed (codes "file") = search rules in
    c.in_ok-command.ensures.shape (search rules) ∙ ap₂ with_rule c.new-2.ensures.app file_is
