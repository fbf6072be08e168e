use Rattle.std.proofs.Common.{ap, arith, refl}
use Rattle.genie_base.specs.declared.event.Event.TheVariants.{Recv}
use Rattle.genie_device.specs.Device.{handle_of}
use Rattle.genie_object.specs.declared.memory.Memory.{Memory}
use Rattle.genie_model.specs.Tables.{entry}
use Rattle.genie_kernel.specs.Told.{input_at}
use Rattle.genie_calls.proofs.Handles.{input_named}
use Rattle.genie_calls.proofs.Rising.{received_rises}
use Rattle.genie_calls.proofs.Serving.{host_served}
use Rattle.genie_calls.proofs.devices.recv_pooled.Goals as goal

pub returns : goal.returns
returns g c =
    let k = c.args.kernel.now in
    let served = c.recv_pooled.ensures in
    host_served k c.recv_pooled.new.kernel (Recv c.args.dev c.args.len) (handle_of (input_at (entry k.config.devices c.args.dev))) (g.H.Host.view c.args.host.now) (g.H.Host.view c.recv_pooled.new.host) c.recv_pooled.result refl (input_named k c.args.dev c.args.len c.requires.accepted) c.requires.good served.good served.kept served.config served.numbers (received_rises k.memory c.recv_pooled.new.kernel.memory c.args.len (omega (arith, c.ranges.len)) served.memory served.landed) (ap (λ (m : Memory). m.frames.meters) served.memory) served.only served.handles served.step served.cause tt served.filled served.landed
