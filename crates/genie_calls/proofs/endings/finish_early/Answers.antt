use Rattle.std.proofs.Common.{refl}
use Rattle.genie_base.specs.declared.event.Event.TheVariants.{Finish}
use Rattle.genie_calls.proofs.Serving.{none_given, store_served}
use Rattle.genie_calls.proofs.endings.finish_early.Goals as goal

pub returns : goal.returns
returns g c = let served = c.finish_input_early.ensures in store_served c.args.kernel.now c.finish_input_early.new.kernel (Finish c.args.id) (g.S.Store.view c.args.store.now) (g.S.Store.view c.finish_input_early.new.store) c.finish_input_early.result refl served.good served.sized served.kept served.config (none_given c.args.kernel.now c.finish_input_early.new.kernel served.numbers) served.rises served.step served.cause (λ tabled. served.copying) tt tt tt
