use Rattle.std.proofs.Common.{ap, refl}
use Rattle.genie_base.specs.declared.event.Event.TheVariants.{Send}
use Rattle.genie_object.specs.declared.memory.Memory.{Memory}
use Rattle.genie_sending.specs.Served.{output_of}
use Rattle.genie_calls.proofs.Handles.{output_named}
use Rattle.genie_calls.proofs.Rising.{stays_rise}
use Rattle.genie_calls.proofs.Serving.{host_served}
use Rattle.genie_calls.proofs.devices.send.Goals as goal

pub returns : goal.returns
returns g c =
    let k = c.args.kernel.now in
    let served = c.send.ensures in
    host_served k c.send.new.kernel (Send c.args.dev c.args.len) (output_of k.config c.args.dev) (g.H.Host.view c.args.host.now) (g.H.Host.view c.send.new.host) c.send.result refl (output_named k c.args.dev c.args.len c.requires.accepted) c.requires.good served.good served.kept served.config served.numbers (stays_rise k.memory c.send.new.kernel.memory served.memory) (ap (λ (m : Memory). m.frames.meters) served.memory) served.only served.handles served.step served.cause tt served.filled (ap (λ (m : Memory). m.frames.landed) served.memory)
