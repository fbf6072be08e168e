use Rattle.std.proofs.Common.{ap, refl}
use Rattle.genie_base.specs.declared.event.Event.TheVariants.{Recv}
use Rattle.genie_device.specs.Device.{handle_of}
use Rattle.genie_object.specs.declared.memory.Memory.{Memory}
use Rattle.genie_model.specs.Tables.{entry}
use Rattle.genie_kernel.specs.Told.{input_at}
use Rattle.genie_calls.proofs.Handles.{input_named}
use Rattle.genie_calls.proofs.Rising.{stays_rise}
use Rattle.genie_calls.proofs.Serving.{host_served}
use Rattle.genie_calls.proofs.devices.recv_outboard.Goals as goal
use Rattle.std.proofs.Common.{arith}

pub returns : goal.returns
returns g c =
    let k = c.args.kernel.now in
    let served = c.recv_outboard.ensures in
    host_served k c.recv_outboard.new.kernel (Recv c.args.dev c.args.len) (handle_of (input_at (entry k.config.devices c.args.dev))) (g.H.Host.view c.args.host.now) (g.H.Host.view c.recv_outboard.new.host) c.recv_outboard.result refl (input_named k c.args.dev c.args.len c.requires.accepted) c.requires.good served.good served.kept served.config served.numbers (stays_rise k.memory c.recv_outboard.new.kernel.memory served.memory) (ap (λ (m : Memory). m.frames.meters) served.memory) served.only served.handles (λ v sized paged. served.step v) served.cause tt (λ v sized paged. served.filled v) (let landed = ap (λ (m : Memory). m.frames.landed) served.memory in omega (arith, landed))
