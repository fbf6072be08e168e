use Rattle.genie_base.specs.declared.event.Event.TheVariants.{Unmap}
use Rattle.genie_calls.proofs.Serving.{paged_served}
use Rattle.genie_calls.proofs.spaces.unmap.Goals as goal

pub returns : goal.returns
returns c = let served = c.unmap.ensures.served in paged_served c.paged_events_are_told.ensures c.args.kernel.now c.unmap.new.kernel (Unmap c.args.pid c.args.page) c.unmap.result c.requires.good c.requires.accepted served.good served.kept served.config c.unmap.ensures.numbers served.meters served.landed served.unfailed served.step tt
