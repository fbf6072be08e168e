use Rattle.genie_base.specs.declared.event.Event.TheVariants.{Spawn}
use Rattle.genie_calls.proofs.Serving.{alone_served}
use Rattle.genie_calls.proofs.spaces.spawn.Goals as goal

pub returns : goal.returns
returns c = let served = c.spawn.ensures.served in alone_served c.args.kernel.now c.spawn.new.kernel (Spawn c.args.pid) c.spawn.result c.requires.good c.requires.accepted served.good served.kept served.config c.spawn.ensures.numbers served.meters served.landed served.unfailed served.step tt
