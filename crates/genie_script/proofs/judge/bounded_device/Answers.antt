use Rattle.std.proofs.Common.{sym, ◌∙◌}
use Rattle.genie_script.proofs.Bounds.{bounded_limits}
use Rattle.genie_script.proofs.judge.bounded_device.Goals as goal

pub returns-then-allows-clause-limits : goal.returns-then-allows-clause-limits
returns-then-allows-clause-limits c = bounded_limits c.args.script.now c.args.part.now c.args.device (sym c.allows.ensures ∙ c.if-allows.true)
