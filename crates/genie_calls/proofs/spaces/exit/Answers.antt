use Rattle.genie_base.specs.declared.event.Event.TheVariants.{Exit}
use Rattle.genie_calls.proofs.Serving.{paged_served}
use Rattle.genie_calls.proofs.spaces.exit.Goals as goal

pub returns : goal.returns
returns c = let served = c.exit.ensures.served in paged_served c.paged_events_are_told.ensures c.args.kernel.now c.exit.new.kernel (Exit c.args.pid) c.exit.result c.requires.good c.requires.accepted served.good served.kept served.config c.exit.ensures.numbers served.meters served.landed served.unfailed served.step tt
