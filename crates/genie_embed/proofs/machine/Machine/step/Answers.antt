use Rattle.genie_embed.proofs.Rooms.{room_less}
use Rattle.genie_embed.proofs.machine.Machine.step.Goals as goal

pub returns-clause-room : goal.returns-clause-room
returns-clause-room g c = rw (← c.self.view_is) (λ n room. room_less n c.self.inside.kernel c.step.new.kernel c.step.ensures.rises c.step.ensures.numbers room)
