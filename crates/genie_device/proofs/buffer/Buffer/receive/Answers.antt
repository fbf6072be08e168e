use Rattle.std.proofs.Common.{refl, sym}
use Rattle.genie_device.proofs.Filling.{filled_from, still_within, room_at}
use Rattle.genie_device.proofs.buffer.Buffer.receive.Goals as goal

pub invariant_of-self : goal.invariant_of-self
invariant_of-self g c =
    let filling = rw (sym c.self.view_is) at c.requires.filling in
    let room = rw (sym c.self.view_is) at c.requires.room in
    still_within _ _ _ _ _ _ _ _ _ _ _ c.receive-step.ensures.step refl (room_at _ _ _ _ filling c.self.invariant.0 room) c.self.invariant.1

pub returns-clause-fills : goal.returns-clause-fills
returns-clause-fills g c =
    let filling = rw (sym c.self.view_is) at c.requires.filling in
    let room = rw (sym c.self.view_is) at c.requires.room in
    rw (sym c.self.view_is) (filled_from _ _ _ _ _ _ _ _ _ _ _ c.receive-step.ensures.step filling (room_at _ _ _ _ filling c.self.invariant.0 room))
