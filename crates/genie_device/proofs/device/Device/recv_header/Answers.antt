use Rattle.std.proofs.Common.{◌++◌, sym}
use Rattle.genie_device.proofs.Keeping.{begun_kept, allowed_len}
use Rattle.genie_device.proofs.device.Device.recv_header.Goals as goal

pub invariant_of-self-in-Whole : goal.invariant_of-self-in-Whole
invariant_of-self-in-Whole g c =
    let absent = rw (sym c.self.view_is) at c.requires.absent in
    let few = rw (sym c.self.view_is) at c.requires.free in
    let ends = rw c.in-Whole.is at c.gather-step.ensures.takes.ends in
    begun_kept _ _ _ _ _ _ _ _ _ _ _ _ _ c.self.invariant absent c.clear.ensures (allowed_len c.self.inside.limit c.in-Whole.header (c.self.inside.gathered.items ++ c.gather-step.ensures.taken) ends.1) few c.begin_first-buffer.ensures.place c.begin_first-buffer.ensures.buffers
