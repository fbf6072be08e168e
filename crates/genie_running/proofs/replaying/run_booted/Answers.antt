use Rattle.genie_running.proofs.Running.{ready}
use Rattle.genie_running.proofs.replaying.run_booted.Goals as goal

pub run_started-status-requires-clause-ready : goal.run_started-status-requires-clause-ready
run_started-status-requires-clause-ready g c = ready c.args.part.now c.wired-config.result c.in-Ok.kernel _ _ _ c.requires.placed c.wired-config.ensures.wired c.in-Ok.ensures c.requires.inputs c.requires.outputs
