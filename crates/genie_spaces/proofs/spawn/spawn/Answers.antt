use Rattle.std.proofs.Common.{ap}
use Rattle.genie_kernel.specs.declared.kernel.Kernel.{Kernel}
use Rattle.genie_spaces.proofs.Spawning.{spawns, may_spawn}
use Rattle.genie_spaces.proofs.spawn.spawn.Goals as goal

pub add_process-requires : goal.add_process-requires
add_process-requires c = let may = may_spawn c.args.kernel.now c.args.pid c.requires.accepted in record { number = may.number; new = may.new }

pub returns-clause-served : goal.returns-clause-served
returns-clause-served c = spawns c.accepted_events_step.ensures.orderly c.args.kernel.now _ c.args.pid c.add_process.ensures c.requires.good c.requires.accepted

pub returns-clause-numbers : goal.returns-clause-numbers
returns-clause-numbers c = ap (λ (k : Kernel). k.next) c.add_process.ensures
