use Rattle.genie_base.specs.declared.event.Event.TheVariants.{Alloc}
use Rattle.genie_calls.proofs.Serving.{alone_served}
use Rattle.genie_calls.proofs.spaces.alloc.Goals as goal

pub returns : goal.returns
returns c = let served = c.alloc.ensures.served in alone_served c.args.kernel.now c.alloc.new.kernel (Alloc c.args.pid c.args.pages) c.alloc.result c.requires.good c.requires.accepted served.good served.kept served.config c.alloc.ensures.numbers served.meters served.landed served.unfailed served.step tt
