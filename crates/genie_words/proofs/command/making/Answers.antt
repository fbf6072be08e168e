use Rattle.std.proofs.Common.{rules, ap₂, codes, ◌≡◌, ◌∙◌}
use Rattle.clap.specs.Words.{rule_of, with_rule}
use Rattle.genie_words.specs.Command.{needed}
use Rattle.genie_words.proofs.command.making.Goals as goal

pub returns-clause-app : goal.returns-clause-app
returns-clause-app c =
    let seed_is : rule_of c.required-seed.result ≡ needed (codes "seed") = search rules in
    let rounds_is : rule_of c.required-rounds.result ≡ needed (codes "rounds") = search rules in
    c.in_ok-command.ensures.shape (search rules) ∙ ap₂ with_rule (c.in_ok-seeded.ensures.shape (search rules) ∙ ap₂ with_rule c.new-3.ensures.app seed_is) rounds_is
