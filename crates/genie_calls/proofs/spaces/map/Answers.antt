use Rattle.genie_base.specs.declared.event.Event.TheVariants.{Map}
use Rattle.genie_calls.proofs.Serving.{alone_served}
use Rattle.genie_calls.proofs.spaces.map.Goals as goal

pub returns : goal.returns
returns c = let served = c.map.ensures.served in alone_served c.args.kernel.now c.map.new.kernel (Map c.args.pid c.args.page c.args.pages) c.map.result c.requires.good c.requires.accepted served.good served.kept served.config c.map.ensures.numbers served.meters served.landed served.unfailed served.step tt
