use Rattle.std.proofs.Common.{ap, refl}
use Rattle.genie_base.specs.declared.event.Event.TheVariants.{Read}
use Rattle.genie_kernel.specs.declared.kernel.Kernel.{Kernel}
use Rattle.genie_calls.proofs.Serving.{none_given, store_served}
use Rattle.genie_calls.proofs.access.read.Goals as goal

pub returns : goal.returns
returns g c = let served = c.read.ensures in store_served c.args.kernel.now c.read.new.kernel (Read c.args.pid c.args.addr c.args.len) (g.S.Store.view c.args.store.now) (g.S.Store.view c.read.new.store) c.read.result refl served.good served.sized served.kept (ap (λ (k : Kernel). k.config) served.only) (none_given c.args.kernel.now c.read.new.kernel served.numbers) served.rises served.step served.cause (λ tabled. served.copying) tt served.landed served.gets
