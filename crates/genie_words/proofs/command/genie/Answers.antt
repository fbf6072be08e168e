use Rattle.std.proofs.Common.{ap, ap₂, ◌∙◌}
use Rattle.clap.specs.Words.{App, with_subcommand}
use Rattle.genie_words.proofs.command.genie.Goals as goal

pub returns : goal.returns
returns c =
    let replay_is = ap (λ (a : App). a.top) c.in_ok-replay.ensures.app in
    let cost_is = ap (λ (a : App). a.top) c.in_ok-cost.ensures.app in
    let make_is = ap (λ (a : App). a.top) c.in_ok-make.ensures.app in
    c.in_ok-command.ensures.shape c.in_ok-make.ensures.local ∙ ap₂ with_subcommand (c.in_ok-second.ensures.shape c.in_ok-cost.ensures.local ∙ ap₂ with_subcommand (c.in_ok-first.ensures.shape c.in_ok-replay.ensures.local ∙ ap₂ with_subcommand c.bare.ensures replay_is) cost_is) make_is
