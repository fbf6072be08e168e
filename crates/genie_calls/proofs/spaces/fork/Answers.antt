use Rattle.std.proofs.Common.{refl}
use Rattle.genie_base.specs.declared.event.Event.TheVariants.{Fork}
use Rattle.genie_calls.proofs.Serving.{none_given, store_served}
use Rattle.genie_calls.proofs.spaces.fork.Goals as goal
use Rattle.std.proofs.Common.{arith}

pub returns : goal.returns
returns g c = let served = c.fork.ensures in store_served c.args.kernel.now c.fork.new.kernel (Fork c.args.parent c.args.child) (g.S.Store.view c.args.store.now) (g.S.Store.view c.fork.new.store) c.fork.result refl served.good served.sized served.kept served.config (none_given c.args.kernel.now c.fork.new.kernel served.numbers) served.rises served.step served.cause (λ tabled. served.copying) served.shared served.landed (let gets = served.meters.most_gets in omega (arith, gets))
