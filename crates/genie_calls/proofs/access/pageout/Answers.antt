use Rattle.std.proofs.Common.{ap, refl}
use Rattle.genie_base.specs.declared.event.Event.TheVariants.{Pageout}
use Rattle.genie_kernel.specs.declared.kernel.Kernel.{Kernel}
use Rattle.genie_calls.proofs.Serving.{none_given, store_served}
use Rattle.genie_calls.proofs.access.pageout.Goals as goal
use Rattle.std.proofs.Common.{arith}

pub returns : goal.returns
returns g c = let served = c.pageout.ensures in store_served c.args.kernel.now c.pageout.new.kernel (Pageout c.args.pages) (g.S.Store.view c.args.store.now) (g.S.Store.view c.pageout.new.store) c.pageout.result refl served.good served.sized served.kept (ap (λ (k : Kernel). k.config) served.only) (none_given c.args.kernel.now c.pageout.new.kernel served.numbers) served.rises served.step served.cause (λ tabled. served.copying) served.puts served.landed (let gets = served.gets in omega (arith, gets))
