use Rattle.genie_device.specs.Device.{IsReading}
use Rattle.genie_device.proofs.device.tests.receive_all.Given as goal

abbrev pub invariant-steps : goal.invariant-steps
invariant-steps g l = IsReading l.device.config.input (g.H.Host.view l.host)
