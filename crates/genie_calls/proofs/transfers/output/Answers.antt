use Rattle.std.proofs.Common.{refl}
use Rattle.genie_base.specs.declared.event.Event.TheVariants.{Output}
use Rattle.genie_calls.proofs.Serving.{store_served}
use Rattle.genie_calls.proofs.transfers.output.Goals as goal

pub returns : goal.returns
returns g c = let served = c.out.ensures in store_served c.args.kernel.now c.out.new.kernel (Output c.args.pid c.args.sem c.args.dev c.args.port c.args.flow c.args.addr c.args.len) (g.S.Store.view c.args.store.now) (g.S.Store.view c.out.new.store) c.out.result refl served.good served.sized served.kept served.config served.numbers served.rises served.step served.cause (λ tabled. served.copying) served.lends served.landed served.gets
