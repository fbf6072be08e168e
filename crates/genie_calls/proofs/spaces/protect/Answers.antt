use Rattle.genie_base.specs.declared.event.Event.TheVariants.{Protect}
use Rattle.genie_calls.proofs.Serving.{alone_served}
use Rattle.genie_calls.proofs.spaces.protect.Goals as goal

pub returns : goal.returns
returns c = let served = c.protect.ensures.served in alone_served c.args.kernel.now c.protect.new.kernel (Protect c.args.pid c.args.page c.args.writable) c.protect.result c.requires.good c.requires.accepted served.good served.kept served.config c.protect.ensures.numbers served.meters served.landed served.unfailed served.step tt
