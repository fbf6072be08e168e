use Rattle.genie_embed.proofs.Rooms.{room_booted}
use Rattle.genie_embed.proofs.machine.Machine.boot.Goals as goal

pub returns-in-Ok-size-clause-room : goal.returns-in-Ok-size-clause-room
returns-in-Ok-size-clause-room g c = room_booted c.args.config.now c.in-Ok.kernel c.requires.fits c.in-Ok.ensures.state c.in-Ok.ensures.meters c.in-Ok.ensures.landed
