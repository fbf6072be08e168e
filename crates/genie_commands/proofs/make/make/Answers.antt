use Rattle.std.proofs.Common.{◌≢◌, rules}
use Rattle.genie_replay.specs.declared.status.Status.TheVariants.{Done}
use Rattle.genie_commands.proofs.Making.{unmade}
use Rattle.genie_commands.proofs.make.make.Goals as goal

pub returns-then-ne-clause-made : goal.returns-then-ne-clause-made
returns-then-ne-clause-made g c =
    let apart : c.replay-ended.result.status ≢ Done = search rules in
    unmade c.args.seed c.args.rounds c.replay-ended.new.host c.replay-ended.result.kernel _ _ _ c.replay-ended.result.status apart
    (c.made_scripts_are_whole.ensures c.args.seed c.args.rounds c.requires.most)
    c.replay-ended.ensures.kernel
    (rw c.new-made.ensures at c.replay-ended.ensures.fault)
    (rw c.new-made.ensures at c.replay-ended.ensures.outcome)
