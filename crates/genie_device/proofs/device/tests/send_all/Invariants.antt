use Rattle.std.proofs.Common.{◌≤◌}
use Rattle.genie_device.specs.Device.{IsWriting}
use Rattle.genie_device.proofs.device.tests.send_all.Given as goal

abbrev pub invariant-steps : goal.invariant-steps
invariant-steps g l = record {
  room : 5 ≤ l.device.limit;
  writing : IsWriting l.device.config.output (g.H.Host.view l.host);
}
