use Rattle.std.proofs.Common.{refl}
use Rattle.genie_embed.specs.Packets.{host_of}
use Rattle.genie_embed.proofs.Handles.{has_handles}
use Rattle.genie_embed.proofs.guide.send_two.Goals as goal

pub step-requires-clause-over : goal.step-requires-clause-over
step-requires-clause-over c = record {
  sized = c.in_ok-machine.ensures.sized;
  handles_open = rw (c.in_ok-machine.ensures.config, c.config.ensures.is) (has_handles (host_of c.in_ok-host.host) refl refl);
}
