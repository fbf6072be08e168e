use Rattle.genie_base.specs.declared.event.Event.TheVariants.{Finish}
use Rattle.genie_calls.proofs.Serving.{alone_by_store}
use Rattle.genie_calls.proofs.endings.finish_output.Goals as goal

pub returns : goal.returns
returns g c = let served = c.finish_output.ensures in alone_by_store c.args.kernel.now c.finish_output.new.kernel (Finish c.args.id) c.finish_output.result (g.S.Store.view c.args.store.now) c.requires.good c.requires.accepted c.requires.sized served.good served.kept served.config served.numbers served.meters served.landed served.unfailed served.step tt
