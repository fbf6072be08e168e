use Rattle.genie_base.specs.declared.event.Event.TheVariants.{Cancel}
use Rattle.genie_calls.proofs.Serving.{alone_served}
use Rattle.genie_calls.proofs.endings.cancel.Goals as goal

pub returns : goal.returns
returns c = let served = c.cancel.ensures in alone_served c.args.kernel.now c.cancel.new.kernel (Cancel c.args.id) c.cancel.result c.requires.good c.requires.accepted served.good served.kept served.config served.numbers served.meters served.landed served.unfailed served.step tt
