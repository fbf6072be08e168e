use Rattle.genie_device.proofs.Keeping.{filled_kept}
use Rattle.genie_device.proofs.device.Device.recv_body.Goals as goal

pub invariant_of-self : goal.invariant_of-self
invariant_of-self g c =
    let step = c.move_payload-step.ensures.step in
    filled_kept _ _ _ _ _ _ _ _ _ _ _ _ _ _ _ (rw c.in-Some.is at c.self.invariant) step.takes.size step.takes.fits step.buffers c.move_payload-step.ensures.buffer
